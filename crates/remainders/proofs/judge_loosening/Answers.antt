-- `remainders::judge_loosening` meets its contract.
use Rattle.rows.specs.Form.{is_divided}
use Rattle.rows.specs.Conditions.{loosens}
use Rattle.ledger.specs.Checks.{both_are, tests}
use Rattle.rules.specs.Read.{forms_read}
use Rattle.rules.proofs.FieldLaws.{fails_first, others_decide, passed_on, both_inside, then_forms}
use Rattle.remainders.proofs.judge_loosening.Goals as goal

pub returns-in_err-both_are : goal.returns-in_err-both_are
unfolding tests
returns-in_err-both_are c =
    let a = c.args in
    passed_on c.from_residual.result _ c.from_residual.ensures.1
    (fails_first (both_are (forms_read a.forms) is_divided a.g is_divided a.h) _ c.in_err-both_are.ensures)

pub loosens-requires : goal.loosens-requires
loosens-requires c = both_inside c.args.forms.held is_divided is_divided c.args.g c.args.h c.in_ok-both_are.ensures

pub returns : goal.returns
unfolding tests
returns c =
    let a = c.args in
    others_decide (both_are (forms_read a.forms) is_divided a.g is_divided a.h) _ c.in_ok-both_are.ensures
    (then_forms a.forms.held is_divided is_divided a.g a.h c.in_ok-both_are.ensures loosens c.loosens.ensures c.holds.ensures)
