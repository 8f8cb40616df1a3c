-- `pairs::totality` meets its contract.
use mathlib.Core.Path.{refl, ap}
use mathlib.Core.List.{[], ◌∷◌}
use Prim.Native.Nat.{ℕ, ◌*◌}
use native.Mathlib.Nat.{add-zero}
use native.Mathlib.Omega.{arith}
use Rattle.rows.specs.Form.{at_most}
use Rattle.rows.specs.Conditions.{is_one_minus}
use Rattle.ledger.specs.Record.{TO}
use Rattle.ledger.specs.Literals.{unnegated, line_of}
use Rattle.ledger.specs.Checks.{derived_line, tests, makes}
use Rattle.rules.proofs.FieldLaws.{both_low, both_inside, pair_refused, pair_made}
use Rattle.pairs.proofs.totality.Goals as goal

pub returns-in_err-both_are : goal.returns-in_err-both_are
unfolding tests
returns-in_err-both_are c = (
  rw (← c.u16_at-a.ensures, ← c.u16_at-b.ensures)
      (pair_refused c.args.forms at_most at_most _ _ (TO _ _) (λ x y. is_one_minus y.row x.row) (λ ls. refl) _ c.from_residual.ensures.1 c.in_err-both_are.ensures),
  refl,
)

pub is_one_minus-requires : goal.is_one_minus-requires
is_one_minus-requires c = let i = both_inside c.args.forms.held at_most at_most c.u16_at-a.result c.u16_at-b.result c.in_ok-both_are.ensures in (i.1, i.0)

pub two-requires : goal.two-requires
two-requires c = (λ _. both_low c.args.forms.held at_most at_most c.u16_at-a.result c.u16_at-b.result c.in_ok-both_are.ensures, omega arith)

pub returns : goal.returns
unfolding tests makes
returns c = (
  rw (← c.u16_at-a.ensures, ← c.u16_at-b.ensures)
      (pair_made c.args.forms at_most at_most _ _ (TO _ _) (λ x y. is_one_minus y.row x.row) (λ ls. refl) c.in_ok-both_are.ensures c.is_one_minus.ensures
      c.holds-v.result c.holds-v.ensures (λ ls. ap (λ (x : ℕ). derived_line (line_of (x ∷ unnegated c.u16_at-b.result ∷ []))) (add-zero (2 * c.u16_at-a.result))) c.two.ensures.0),
  c.two.ensures.1,
)
