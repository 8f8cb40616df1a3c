-- `terms::judge_farkas` meets its contract: the shared tests pass or fail, and what the sum reaches decides.
use mathlib.Core.Path.{sym, ◌∙◌}
use borrow.Author.Rules.{rules}
use mir.Syntax.{w64}
use mir.ValLaws.{to_z-of_z}
use Rattle.rows.specs.Form.{at_most, is_zero}
use Rattle.rows.proofs.Reaching.{farkas_reached, farkas_stray}
use Rattle.rules.proofs.FieldLaws.{passed_on}
use Rattle.rules.proofs.FindingWalk.{whole, fails}
use Rattle.terms.proofs.TermTests.{pass_summable, farkas_fails, farkas_decides}
use Rattle.terms.proofs.judge_farkas.Goals as goal

pub returns-in_err-judge_terms : goal.returns-in_err-judge_terms
returns-in_err-judge_terms c =
    passed_on _ _ c.from_residual.ensures.1 (farkas_fails c.args.forms.held c.args.t.paired c.in_err-judge_terms.ensures)

pub combine-requires : goal.combine-requires
combine-requires c = pass_summable c.args.forms.held c.args.t.paired at_most is_zero c.in_ok-judge_terms.ensures

pub returns-in-Coefficient : goal.returns-in-Coefficient
returns-in-Coefficient c =
    farkas_decides c.args.forms.held c.args.t.paired c.in_ok-judge_terms.ensures
    (fails whole (farkas_stray _ _ _ (sym c.combine.ensures ∙ c.in-Coefficient.is)))

pub returns-in-Constant : goal.returns-in-Constant
returns-in-Constant c =
    farkas_decides c.args.forms.held c.args.t.paired c.in_ok-judge_terms.ensures
    (rw (farkas_reached _ c.in-Constant.k (sym c.combine.ensures ∙ c.in-Constant.is)) (rw (to_z-of_z w64 c.in-Constant.k (search rules)) at c.holds.ensures))
