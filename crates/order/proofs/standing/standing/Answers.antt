-- `order::standing::standing` meets its contract: in a session in order, the lowest line that ends where it begins is the lowest empty one.
use mathlib.Core.Path.{sym, ap, ◌∙◌}
use native.Mathlib.Omega.{arith}
use Rattle.std.proofs.lemmas.Result.{err_from_is_err_and}
use Rattle.rows.specs.Limits.{unknowns}
use Rattle.session.specs.Calls.{stands}
use Rattle.session.specs.Cells.{Tables, tables}
use Rattle.order.proofs.Entry.{entry_long, entry_clauses}
use Rattle.order.proofs.EmptyLines.{standing_refused, lowest_empty_lem}
use Rattle.order.proofs.standing.standing.Goals as goal
use Rattle.order.proofs.standing.standing.Goals.{Start}

abbrev cells : Start → Tables
cells b = tables b.args.forms.now b.args.pool.now b.args.lines.now

pub returns-in_err-entered : goal.returns-in_err-entered
returns-in_err-entered c =
    let p = err_from_is_err_and c.from_residual.result c.from_residual.ensures.1 in
    rw (p.1, p.2) (sym (standing_refused unknowns c.args.s (cells (goal.at.returns-in_err-entered c).Start) _ (sym c.in_err-entered.ensures)))

pub lowest_empty-requires : goal.lowest_empty-requires
lowest_empty-requires c =
    let k = (entry_clauses unknowns c.args.s (cells (goal.at.lowest_empty-requires c).Start) (sym c.in_ok-entered.ensures)).few_lines in
    let l = entry_long unknowns c.args.s (cells (goal.at.lowest_empty-requires c).Start) (sym c.in_ok-entered.ensures) in
    omega arith

pub returns : goal.returns
returns c = ap stands c.lowest_empty.ensures ∙ lowest_empty_lem unknowns c.args.s (cells (goal.at.returns c).Start) (sym c.in_ok-entered.ensures)
