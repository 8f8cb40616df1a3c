-- `pairs::weakening` meets its contract.
use mathlib.Core.Path.{refl}
use native.Mathlib.Omega.{arith}
use Rattle.rows.specs.Form.{is_zero, is_divided}
use Rattle.rows.specs.Conditions.{same_row}
use Rattle.ledger.specs.Record.{WK}
use Rattle.ledger.specs.Checks.{tests, makes}
use Rattle.rules.proofs.FieldLaws.{both_low, both_inside, pair_refused, pair_made}
use Rattle.pairs.proofs.weakening.Goals as goal

pub returns-in_err-both_are : goal.returns-in_err-both_are
unfolding tests
returns-in_err-both_are c = (
  rw (← c.u16_at-z.ensures, ← c.u16_at-g.ensures)
      (pair_refused c.args.forms is_zero is_divided _ _ (WK _ _) (λ x y. same_row x.row y.row) (λ ls. refl) _ c.from_residual.ensures.1 c.in_err-both_are.ensures),
  refl,
)

pub same_row-requires : goal.same_row-requires
same_row-requires c = both_inside c.args.forms.held is_zero is_divided c.u16_at-z.result c.u16_at-g.result c.in_ok-both_are.ensures

pub two-requires : goal.two-requires
two-requires c = (λ _. both_low c.args.forms.held is_zero is_divided c.u16_at-z.result c.u16_at-g.result c.in_ok-both_are.ensures, omega arith)

pub returns : goal.returns
unfolding tests makes
returns c = (
  rw (← c.u16_at-z.ensures, ← c.u16_at-g.ensures)
      (pair_made c.args.forms is_zero is_divided _ _ (WK _ _) (λ x y. same_row x.row y.row) (λ ls. refl) c.in_ok-both_are.ensures c.same_row.ensures
      c.holds-v.result c.holds-v.ensures (λ ls. refl) c.two.ensures.0),
  c.two.ensures.1,
)
