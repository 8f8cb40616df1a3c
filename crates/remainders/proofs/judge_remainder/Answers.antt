-- `remainders::judge_remainder` meets its contract: it makes the tests by the cells, which find what the tests on the ledger find.
use mathlib.Core.Path.{◌≡◌, sym, ap, ◌∙◌}
use mathlib.Core.Bool.{true}
use mathlib.Core.List.{map}
use Prim.Native.Nat.{ℕ}
use native.Mathlib.Omega.{arith}
use borrow.Author.Rules.{sfits_of}
use borrow.Author.Tests.{not-true, not-false}
use lib.IntN.{ℤ, pos}
use lib.ListN.{length}
use mir.Syntax.{w32}
use mir.Val.{SFits}
use mir.ValLaws.{to_z-of_z}
use Rattle.ints.specs.Tests.{eq_z, all}
use Rattle.ints.proofs.Bools.{true→T}
use Rattle.rows.specs.Limits.{unknowns}
use Rattle.rows.specs.Form.{form_at}
use Rattle.rows.specs.Conditions.{divided_by, neighbours}
use Rattle.ledger.specs.Ledger.{nth_form, nth_row}
use Rattle.ledger.specs.Record.{AR}
use Rattle.ledger.specs.Checks.{tests}
use Rattle.rules.specs.Read.{forms_in}
use Rattle.rules.proofs.HeldLaws.{in_force}
use Rattle.rules.proofs.FindingWalk.{whole, past, fails, passes, LeftFrom}
use Rattle.remainders.proofs.Picks.{forms_read, divided_read, rows_read}
use Rattle.remainders.proofs.judge_remainder.Goals as goal
use Rattle.remainders.proofs.judge_remainder.Goals.{After-are_neighbours, After-divisors_are, Else-not-all_below, Else-not-divisors_are, Start}

pub returns-then-not-all_below : goal.returns-then-not-all_below
unfolding tests
returns-then-not-all_below c = fails whole (forms_read c.args.forms.held c.args.picks.now ∙ sym c.all_below.ensures ∙ not-true _ c.if-not-all_below.true-raw)

-- every form is in force
forms_in_lem : (c : Else-not-all_below) → let a = c.args in in_force a.forms.count a.picks.now ≡ true
forms_in_lem c = sym c.all_below.ensures ∙ not-false _ c.if-not-all_below.false-raw

-- of the tests, those from the k-th on are left
abbrev From : ℕ → Start → Type 0
From k s = let a = s.args in LeftFrom k unknowns a.forms.count a.forms.cells.now (AR a.picks.now)

past1 : (c : Else-not-all_below) → From 1 (goal.at.Else-not-all_below c).Start
unfolding tests
past1 c = past whole (forms_read c.args.forms.held c.args.picks.now ∙ forms_in_lem c)

-- there are as many forms as each divisor says
divisors_tested : (c : After-divisors_are) →
    let a = c.args in
    all (λ g. divided_by (pos (length a.picks.now)) (nth_form (forms_in unknowns a.forms.count a.forms.cells.now) g)) a.picks.now ≡ c.divisors_are.result
divisors_tested c =
    let a = c.args in
    let many = length a.picks.now in
    let fit : SFits w32 (pos many) = sfits_of (omega (arith, c.requires.1)) in
    divided_read c.args.forms.held a.picks.now (true→T (forms_in_lem (goal.at.After-divisors_are c).Else-not-all_below)) many c.requires.0
    ∙ sym (c.divisors_are.ensures ∙ ap (λ (d : ℤ). all (λ f. eq_z (form_at unknowns a.forms.cells.now f).divisor d) a.picks.now) (to_z-of_z w32 (pos many) fit))

pub returns-then-not-divisors_are : goal.returns-then-not-divisors_are
unfolding tests
returns-then-not-divisors_are c = fails (past1 (goal.at.returns-then-not-divisors_are c).Else-not-all_below) (divisors_tested (goal.at.returns-then-not-divisors_are c).After-divisors_are ∙ not-true _ c.if-not-divisors_are.true-raw)

past2 : (c : Else-not-divisors_are) → From 2 (goal.at.Else-not-divisors_are c).Start
unfolding tests
past2 c = past (past1 (goal.at.Else-not-divisors_are c).Else-not-all_below) (divisors_tested (goal.at.Else-not-divisors_are c).After-divisors_are ∙ not-false _ c.if-not-divisors_are.false-raw)

rows_tested : (c : After-are_neighbours) →
    let a = c.args in
    neighbours (map (nth_row (forms_in unknowns a.forms.count a.forms.cells.now)) a.picks.now) ≡ c.are_neighbours.result
rows_tested c =
    ap neighbours (rows_read c.args.forms.held c.args.picks.now (true→T (forms_in_lem (goal.at.After-are_neighbours c).Else-not-all_below))) ∙ sym c.are_neighbours.ensures

pub returns-then-not-are_neighbours : goal.returns-then-not-are_neighbours
unfolding tests
returns-then-not-are_neighbours c = fails (past2 (goal.at.returns-then-not-are_neighbours c).Else-not-divisors_are) (rows_tested (goal.at.returns-then-not-are_neighbours c).After-are_neighbours ∙ not-true _ c.if-not-are_neighbours.true-raw)

pub returns : goal.returns
unfolding tests
returns c = passes (past (past2 (goal.at.returns c).Else-not-divisors_are) (rows_tested (goal.at.returns c).After-are_neighbours ∙ not-false _ c.if-not-are_neighbours.false-raw))
