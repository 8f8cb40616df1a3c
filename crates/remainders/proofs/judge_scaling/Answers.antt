-- `remainders::judge_scaling` meets its contract.
use mathlib.Core.Path.{ap, ◌∙◌}
use native.Mathlib.Omega.{arith}
use borrow.Author.Rules.{sfits_of}
use borrow.Author.Tests.{le-leb, lt-leb}
use lib.IntN.{ℤ, pos}
use mir.Syntax.{w32}
use mir.Val.{SFits}
use mir.ValLaws.{to_z-of_z}
use Rattle.rows.specs.Limits.{unknowns}
use Rattle.rows.specs.Form.{is_divided, form_at}
use Rattle.rows.specs.Conditions.{scales}
use Rattle.ledger.specs.Checks.{both_are}
use Rattle.rules.specs.Read.{forms_read}
use Rattle.rules.proofs.FindingWalk.{whole, past, fails, goes_on}
use Rattle.rules.proofs.FieldLaws.{fails_first, others_decide, passed_on, both_inside, then_forms}
use Rattle.remainders.proofs.judge_scaling.Goals as goal

pub returns-in_err-both_are : goal.returns-in_err-both_are
returns-in_err-both_are c =
    let a = c.args in
    passed_on c.from_residual.result _ c.from_residual.ensures.1
    (fails_first (both_are (forms_read a.forms) is_divided a.g is_divided a.h) _ c.in_err-both_are.ensures)

pub returns-then-k-lt1 : goal.returns-then-k-lt1
returns-then-k-lt1 c =
    let a = c.args in
    others_decide (both_are (forms_read a.forms) is_divided a.g is_divided a.h) _ c.in_ok-both_are.ensures (fails whole (lt-leb 1 a.k c.if-k-lt1.true))

pub scales-requires : goal.scales-requires
scales-requires c = both_inside c.args.forms.held is_divided is_divided c.args.g c.args.h c.in_ok-both_are.ensures

pub returns : goal.returns
returns c =
    let a = c.args in
    let fit : SFits w32 (pos a.k) = sfits_of (omega (arith, c.ranges.k)) in
    let forms = a.forms.cells.now in
    let gave = c.scales.ensures ∙ ap (λ (k : ℤ). scales k (form_at unknowns forms a.g) (form_at unknowns forms a.h)) (to_z-of_z w32 (pos a.k) fit) in
    others_decide (both_are (forms_read a.forms) is_divided a.g is_divided a.h) _ c.in_ok-both_are.ensures
    (goes_on (past whole (le-leb 1 a.k c.if-k-lt1.false))
    (then_forms a.forms.held is_divided is_divided a.g a.h c.in_ok-both_are.ensures (scales (pos a.k)) gave c.holds.ensures))
