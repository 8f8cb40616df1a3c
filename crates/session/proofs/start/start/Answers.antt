-- `session::start::start` meets its contract. Where the sizes pass, the tables have their named cells, which come back as zeros.
use Rattle.rows.specs.Limits.{unknowns}
use Rattle.session.specs.Cells.{Tables, tables}
use Rattle.session.specs.Parts.{Long}
use Rattle.session.proofs.Starting.{passed→long, start_refused, start_passed}
use Rattle.session.proofs.start.start.Goals as goal
use Rattle.session.proofs.start.start.Goals.{In_default, Start}

-- the tables at the call
abbrev lent : Start → Tables
lent c = tables c.args.forms.now c.args.pool.now c.args.lines.now

pub returns-in-Err : goal.returns-in-Err
returns-in-Err c =
    start_refused unknowns (lent (goal.at.returns-in-Err c).Start) _ c.sized.ensures
    _ c.fresh-session.ensures c.in-Err.why c.in-Err.is

-- so the parts that are cleared exist
long_then : (c : In_default) → Long unknowns (lent (goal.at.In_default c).Start)
long_then c = passed→long unknowns _ _ c.sized.ensures c.in_default.is

pub slice_bounds-clear-end : goal.slice_bounds-clear-end
slice_bounds-clear-end c = (long_then c).form_room

pub slice_bounds-clear_at_once-end : goal.slice_bounds-clear_at_once-end
slice_bounds-clear_at_once-end c = (long_then (goal.at.slice_bounds-clear_at_once-end c).In_default).pool_room

pub slice_bounds-clear_at_once-end-2 : goal.slice_bounds-clear_at_once-end-2
slice_bounds-clear_at_once-end-2 c = (long_then (goal.at.slice_bounds-clear_at_once-end-2 c).In_default).line_room

pub returns : goal.returns
returns c =
    start_passed unknowns (lent (goal.at.returns c).Start) _ c.sized.ensures
    _ c.fresh-session.ensures _ _ _ c.in_default.is
    c.clear.ensures
    c.clear_at_once.ensures
    c.clear_at_once-2.ensures
