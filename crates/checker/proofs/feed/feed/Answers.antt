-- `checker::feed::feed` meets its contract.
use mathlib.Core.Path.{◌≡◌, sym, ap, ◌∙◌}
use lib.ListN.{length}
use Rattle.rows.specs.Limits.{unknowns}
use Rattle.ledger.specs.Limits.{most_levels}
use Rattle.ledger.specs.Apply.{pass}
use Rattle.session.specs.Answers.{finding_of}
use Rattle.session.specs.Cells.{Tables, tables}
use Rattle.session.specs.Calls.{entry}
use Rattle.order.proofs.Entry.{entry_long}
use Rattle.checker.proofs.Feeding.{entry_held, feed_refused, feed_stepped}
use Rattle.checker.proofs.feed.feed.Goals as goal
use Rattle.checker.proofs.feed.feed.Goals.{In_default, Start}

abbrev cells : Start → Tables
cells b = tables b.args.forms.now b.args.pool.now b.args.lines.now

pub returns-in-Err : goal.returns-in-Err
returns-in-Err c =
    c.refuse.ensures (cells (goal.at.returns-in-Err c).Start)
    ∙ feed_refused unknowns c.args.s (cells (goal.at.returns-in-Err c).Start) c.args.bytes.now _
    (sym c.entered.ensures ∙ ap finding_of c.in-Err.is)

passes : (c : In_default) → entry unknowns c.args.s (cells (goal.at.In_default c).Start) ≡ pass
passes c = sym c.entered.ensures ∙ ap finding_of c.in_default.is

pub slice_bounds-step-end : goal.slice_bounds-step-end
slice_bounds-step-end c = (entry_long unknowns c.args.s (cells (goal.at.slice_bounds-step-end c).Start) (passes (c))).form_room

pub slice_bounds-step-end-2 : goal.slice_bounds-step-end-2
slice_bounds-step-end-2 c = (entry_long unknowns c.args.s (cells (goal.at.slice_bounds-step-end-2 c).Start) (passes (goal.at.slice_bounds-step-end-2 c).In_default)).pool_room

pub slice_bounds-step-end-3 : goal.slice_bounds-step-end-3
slice_bounds-step-end-3 c = (entry_long unknowns c.args.s (cells (goal.at.slice_bounds-step-end-3 c).Start) (passes (goal.at.slice_bounds-step-end-3 c).In_default)).line_room

marks_length : (b : Start) → length b.args.s.marks ≡ most_levels
marks_length b = b.well_formed.0.1.1.1.1.1.1.0.1.0.1

pub step-requires : goal.step-requires
step-requires c = entry_held unknowns c.args.s (cells (goal.at.step-requires c).Start) (passes (goal.at.step-requires c).In_default) (marks_length (goal.at.step-requires c).Start)

pub returns : goal.returns
returns c =
    let r = c.step.result in
    feed_stepped unknowns c.args.s (cells (goal.at.returns c).Start) c.args.bytes.now (passes (goal.at.returns c).In_default) r _ c.step.ensures
