-- `pairs::equation` meets its contract.
use mathlib.Core.Path.{refl}
use native.Mathlib.Omega.{arith}
use Rattle.rows.specs.Form.{at_most, is_zero}
use Rattle.rows.specs.Conditions.{is_either}
use Rattle.ledger.specs.Record.{EQ}
use Rattle.ledger.specs.Checks.{tests, makes}
use Rattle.rules.proofs.FieldLaws.{both_low, both_inside, pair_refused, pair_made}
use Rattle.pairs.proofs.equation.Goals as goal

pub returns-in_err-both_are : goal.returns-in_err-both_are
unfolding tests
returns-in_err-both_are c = (
  rw (← c.u16_at-z.ensures, ← c.u16_at-a.ensures)
      (pair_refused c.args.forms is_zero at_most _ _ (EQ _ _) (λ x y. is_either y.row x.row) (λ ls. refl) _ c.from_residual.ensures.1 c.in_err-both_are.ensures),
  refl,
)

pub is_either-requires : goal.is_either-requires
is_either-requires c = let i = both_inside c.args.forms.held is_zero at_most c.u16_at-z.result c.u16_at-a.result c.in_ok-both_are.ensures in (i.1, i.0)

pub two-requires : goal.two-requires
two-requires c = (λ _. both_low c.args.forms.held is_zero at_most c.u16_at-z.result c.u16_at-a.result c.in_ok-both_are.ensures, omega arith)

pub returns : goal.returns
unfolding tests makes
returns c = (
  rw (← c.u16_at-z.ensures, ← c.u16_at-a.ensures)
      (pair_made c.args.forms is_zero at_most _ _ (EQ _ _) (λ x y. is_either y.row x.row) (λ ls. refl) c.in_ok-both_are.ensures c.is_either.ensures
      c.holds-v.result c.holds-v.ensures (λ ls. refl) c.two.ensures.0),
  c.two.ensures.1,
)
