-- `order::entered` meets its contract.
use mathlib.Core.Path.{sym, ◌∙◌}
use Rattle.std.proofs.lemmas.Result.{err_from_is_err_and}
use Rattle.rows.specs.Limits.{unknowns}
use Rattle.ledger.proofs.Findings.{pass→passed, fail_append}
use Rattle.session.specs.Cells.{Tables, tables, named}
use Rattle.session.specs.InOrder.{sizes, order}
use Rattle.session.proofs.Starting.{sizes_long}
use Rattle.order.proofs.Entry.{entry_answer}
use Rattle.order.proofs.entered.Goals as goal
use Rattle.order.proofs.entered.Goals.{Start}

abbrev cells : Start → Tables
cells b = tables b.args.forms.now b.args.pool.now b.args.lines.now

pub returns-in_err-sized : goal.returns-in_err-sized
returns-in_err-sized c =
    let p = err_from_is_err_and c.from_residual.result c.from_residual.ensures.1 in
    let t = cells (goal.at.returns-in_err-sized c).Start in
    rw (p.1, p.2) (sym (fail_append (sizes unknowns t) (order unknowns c.args.s (named unknowns t)) _ (sym c.in_err-sized.ensures)))

pub in_order-requires : goal.in_order-requires
in_order-requires c = sizes_long unknowns (cells (goal.at.in_order-requires c).Start) (pass→passed (sizes unknowns (cells (goal.at.in_order-requires c).Start)) (sym c.in_ok-sized.ensures))

pub returns-then-in_order : goal.returns-then-in_order
returns-then-in_order c = entry_answer unknowns c.args.s (cells (goal.at.returns-then-in_order c).Start) (sym c.in_ok-sized.ensures) (sym c.if-in_order.true ∙ c.in_order.ensures)

pub returns : goal.returns
returns c = entry_answer unknowns c.args.s (cells (goal.at.returns c).Start) (sym c.in_ok-sized.ensures) (sym c.if-in_order.false ∙ c.in_order.ensures)
