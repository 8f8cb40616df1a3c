-- `pairs::tightening` meets its contract.
use mathlib.Core.Path.{◌≡◌, refl, sym, ◌∙◌}
use native.Mathlib.Omega.{arith}
use borrow.Author.Rules.{sfits_of}
use mir.Syntax.{w32}
use mir.Val.{to_z, of_z}
use mir.ValLaws.{to_z-of_z}
use Rattle.rows.specs.Limits.{unknowns}
use Rattle.rows.specs.Form.{at_most}
use Rattle.rows.specs.Conditions.{tightens}
use Rattle.ledger.specs.Record.{TI}
use Rattle.ledger.specs.Bytes.{i32_at}
use Rattle.ledger.specs.Checks.{both_are, tests, makes}
use Rattle.proposals.proofs.Making.{refusing, proposing}
use Rattle.rules.specs.Read.{forms_read}
use Rattle.rules.proofs.FindingWalk.{whole, past, fails, goes_on}
use Rattle.rules.proofs.FieldLaws.{fails_first, others_decide, refused, both_low, both_inside, then_rows}
use Rattle.pairs.proofs.tightening.Goals as goal
use Rattle.pairs.proofs.tightening.Goals.{After-i32_at-c}

-- the factor, from its bits
factor : (c : After-i32_at-c) → to_z w32 (of_z w32 c.i32_at-c.result) ≡ i32_at c.args.bytes.now 6
factor c = to_z-of_z w32 c.i32_at-c.result (sfits_of c.i32_at-c.type_inv) ∙ c.i32_at-c.ensures

pub returns-in_err-both_are : goal.returns-in_err-both_are
unfolding tests
returns-in_err-both_are c = (
  rw (← c.u16_at-a.ensures, ← c.u16_at-b.ensures, ← factor (goal.at.returns-in_err-both_are c).After-i32_at-c)
      (refused c.args.forms (TI _ _ _) _ c.from_residual.ensures.1
      (λ ls. fails_first (both_are (forms_read c.args.forms) at_most c.u16_at-a.result at_most c.u16_at-b.result) _ c.in_err-both_are.ensures)),
  refl,
)

pub returns-then-not-legal_factor : goal.returns-then-not-legal_factor
unfolding tests
returns-then-not-legal_factor c = (
  rw (← c.u16_at-a.ensures, ← c.u16_at-b.ensures, ← factor (goal.at.returns-then-not-legal_factor c).After-i32_at-c)
      (λ ls. refusing unknowns (forms_read c.args.forms) ls (TI _ _ _)
      (others_decide (both_are (forms_read c.args.forms) at_most c.u16_at-a.result at_most c.u16_at-b.result) _ c.in_ok-both_are.ensures
      (fails whole (sym c.legal_factor.ensures ∙ c.if-not-legal_factor.true)))),
  refl,
)

pub tightens-requires : goal.tightens-requires
tightens-requires c = both_inside c.args.forms.held at_most at_most c.u16_at-a.result c.u16_at-b.result c.in_ok-both_are.ensures

pub two-requires : goal.two-requires
two-requires c = (λ _. both_low c.args.forms.held at_most at_most c.u16_at-a.result c.u16_at-b.result c.in_ok-both_are.ensures, omega arith)

pub returns : goal.returns
unfolding tests makes
returns c = (
  rw (← c.u16_at-a.ensures, ← c.u16_at-b.ensures, ← factor (goal.at.returns c).After-i32_at-c)
      (λ ls. proposing unknowns (forms_read c.args.forms) ls (TI _ _ _)
      (others_decide (both_are (forms_read c.args.forms) at_most c.u16_at-a.result at_most c.u16_at-b.result) _ c.in_ok-both_are.ensures
      (goes_on (past whole (sym c.legal_factor.ensures ∙ c.if-not-legal_factor.false))
      (then_rows c.args.forms.held at_most at_most c.u16_at-a.result c.u16_at-b.result c.in_ok-both_are.ensures (tightens (to_z w32 (of_z w32 c.i32_at-c.result)))
      c.tightens.ensures c.holds-v.ensures))) refl c.two.ensures.0),
  c.two.ensures.1,
)
