-- `checker::feed::change` meets its contract.
use mathlib.Core.Path.{sym}
use native.Mathlib.Omega.{arith}
use Rattle.std.proofs.lemmas.Result.{err_from_is_err_and}
use Rattle.rows.specs.Limits.{unknowns}
use Rattle.session.specs.Cells.{tables}
use Rattle.laid.proofs.HeldLaws.{held_clauses}
use Rattle.checker.proofs.Settled.{stepped_wrong}
use Rattle.checker.proofs.feed.change.Goals as goal
use Rattle.checker.proofs.feed.change.Goals.{After-counts}

pub returns-in_err-m : goal.returns-in_err-m
returns-in_err-m c =
    let a = c.args in
    let p = err_from_is_err_and c.from_residual.result c.from_residual.ensures.1 in
    rw (p.1, p.2)
    (record { result = sym (stepped_wrong unknowns a.s (tables a.forms.now a.pool.now a.lines.now) a.bytes.now c.in_err-m.ensures); place = tt })

pub bounds-s-at : goal.bounds-s-at
bounds-s-at c = omega (arith, c.last_place-at.ensures, (held_clauses c.requires).few_levels)
