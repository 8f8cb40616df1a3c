-- `terms::judge_clash` meets its contract: the shared tests pass or fail, and then the divisors and what the sum reaches decide.
use mathlib.Core.Path.{◌≡◌, sym, ◌∙◌}
use borrow.Author.Rules.{rules, sfits_of}
use lib.IntN.{ℤ}
use mir.Syntax.{w32, w64}
use mir.Val.{to_z, of_z}
use mir.ValLaws.{to_z-of_z}
use Rattle.rows.specs.Limits.{unknowns}
use Rattle.rows.specs.Row.{Row}
use Rattle.rows.specs.Form.{is_divided}
use Rattle.rows.specs.Summable.{row_at, terms}
use Rattle.rows.specs.Sum.{summed}
use Rattle.rows.proofs.Reaching.{reached_constant, clash_reached, clash_stray}
use Rattle.rows.proofs.SumLaws.{small_sums}
use Rattle.rules.proofs.FieldLaws.{passed_on}
use Rattle.rules.proofs.FindingWalk.{whole, past, fails, goes_on}
use Rattle.terms.proofs.TermTests.{modulus, pass_picked, pass_summable, clash_fails, clash_decides}
use Rattle.terms.proofs.judge_clash.Goals as goal
use Rattle.terms.proofs.judge_clash.Goals.{After-divisor-d, In-Constant, Start}

pub returns-in_err-judge_terms : goal.returns-in_err-judge_terms
returns-in_err-judge_terms c =
    passed_on _ _ c.from_residual.ensures.1 (clash_fails c.args.forms.held c.args.t.paired c.in_err-judge_terms.ensures)

pub divisor-d-requires : goal.divisor-d-requires
divisor-d-requires c = (pass_picked c.args.forms.held c.args.t.paired is_divided is_divided c.in_ok-judge_terms.ensures).inside 0 c.args.t.paired.some

pub divisors_are-requires : goal.divisors_are-requires
divisors_are-requires c = pass_picked c.args.forms.held c.args.t.paired is_divided is_divided c.in_ok-judge_terms.ensures

pub combine-requires : goal.combine-requires
combine-requires c = pass_summable c.args.forms.held c.args.t.paired is_divided is_divided c.in_ok-judge_terms.ensures

-- the divisor, from its bits, is that of the first form
abbrev divisor : After-divisor-d → ℤ
divisor c = to_z w32 (of_z w32 c.divisor-d.result)

modulus_is : (c : After-divisor-d) → divisor c ≡ modulus unknowns c.args.forms.cells.now c.args.t.picks.now
modulus_is c = to_z-of_z w32 c.divisor-d.result (sfits_of c.divisor-d.type_inv) ∙ c.divisor-d.ensures

-- the sum
abbrev total : Start → Row
total s = let a = s.args in summed unknowns (row_at unknowns a.forms.cells.now) (terms a.t.picks.now a.t.multipliers.now)

-- the constant, from its bits
constant_is : (c : In-Constant) → to_z w64 (of_z w64 c.in-Constant.k) ≡ c.in-Constant.k
constant_is c = to_z-of_z w64 c.in-Constant.k (search rules)

pub is_multiple-requires : goal.is_multiple-requires
is_multiple-requires c =
    let a = c.args in
    let sums = pass_summable a.forms.held a.t.paired is_divided is_divided c.in_ok-judge_terms.ensures in
    let constant = (reached_constant _ (total (goal.at.is_multiple-requires c).Start) _ (sym c.combine.ensures ∙ c.in-Constant.is)).1 in
    rw (constant_is c, ← constant)
    ((small_sums unknowns a.forms.cells.now a.t.picks.now a.t.multipliers.now sums).small 0)

pub returns-then-not-divisors_are : goal.returns-then-not-divisors_are
returns-then-not-divisors_are c =
    clash_decides c.args.forms.held c.args.t.paired c.in_ok-judge_terms.ensures (modulus_is (goal.at.returns-then-not-divisors_are c).After-divisor-d)
    (fails whole (sym c.divisors_are.ensures ∙ c.if-not-divisors_are.true))

pub returns-in-Coefficient : goal.returns-in-Coefficient
returns-in-Coefficient c =
    clash_decides c.args.forms.held c.args.t.paired c.in_ok-judge_terms.ensures (modulus_is (goal.at.returns-in-Coefficient c).After-divisor-d)
    (fails (past whole (sym c.divisors_are.ensures ∙ c.if-not-divisors_are.false)) (clash_stray _ _ _ _ (sym c.combine.ensures ∙ c.in-Coefficient.is)))

pub returns-in-Constant : goal.returns-in-Constant
returns-in-Constant c =
    let constant = constant_is (goal.at.returns-in-Constant c).In-Constant in
    let sum = clash_reached (divisor (goal.at.returns-in-Constant c).After-divisor-d) (total (goal.at.returns-in-Constant c).Start) c.in-Constant.k (sym c.combine.ensures ∙ c.in-Constant.is) in
    clash_decides c.args.forms.held c.args.t.paired c.in_ok-judge_terms.ensures (modulus_is (goal.at.returns-in-Constant c).After-divisor-d)
    (goes_on (past whole (sym c.divisors_are.ensures ∙ c.if-not-divisors_are.false)) (rw sum (rw (c.is_multiple.ensures, constant) at c.holds.ensures)))
