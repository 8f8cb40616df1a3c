-- `rules::entries::judge_premise` meets its contract: the code makes the tests in order.
use mathlib.Core.Path.{◌≡◌, sym, ◌∙◌}
use mathlib.Core.List.{List, []}
use Prim.Native.Nat.{ℕ}
use borrow.Author.Tests.{not-true, not-false}
use lib.ListN.{length, drop}
use Rattle.rows.specs.Limits.{unknowns}
use Rattle.rows.specs.Form.{Form}
use Rattle.ledger.specs.Record.{PM}
use Rattle.ledger.specs.Checks.{tests}
use Rattle.rules.proofs.FindingWalk.{Left, whole, past, fails, passes}
use Rattle.rules.proofs.FormTests.{literals_in}
use Rattle.rules.proofs.entries.judge_premise.Goals as goal
use Rattle.rules.proofs.entries.judge_premise.Goals.{Else-not-all_name_below, Start}

-- of the tests, those from the k-th on are left
abbrev From : ℕ → Start → Type 0
From k s = let a = s.args in (fs : List Form) → length fs ≡ a.count → let cs = tests unknowns fs [] (PM a.literals.now) in Left cs (drop k cs)

pub returns-then-not-all_name_below : goal.returns-then-not-all_name_below
unfolding tests
returns-then-not-all_name_below c fs e = fails whole (literals_in fs e c.args.literals.now c.all_name_below.ensures ∙ not-true _ c.if-not-all_name_below.true-raw)

past1 : (c : Else-not-all_name_below) → From 1 (goal.at.Else-not-all_name_below c).Start
unfolding tests
past1 c fs e =
    past whole (literals_in fs e c.args.literals.now c.all_name_below.ensures ∙ not-false _ c.if-not-all_name_below.false-raw)

pub returns-then-not-ascend : goal.returns-then-not-ascend
unfolding tests
returns-then-not-ascend c fs e = fails (past1 (goal.at.returns-then-not-ascend c).Else-not-all_name_below fs e) (sym c.ascend.ensures ∙ not-true _ c.if-not-ascend.true-raw)

pub returns : goal.returns
unfolding tests
returns c fs e = passes (past (past1 (goal.at.returns c).Else-not-all_name_below fs e) (sym c.ascend.ensures ∙ not-false _ c.if-not-ascend.false-raw))
