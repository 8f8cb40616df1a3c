-- `pairs::judge_trichotomy` meets its contract: the code makes the rule's tests in the order of the ledger.
use mathlib.Core.Path.{◌∙◌}
use Prim.Native.Nat.{ℕ}
use native.Mathlib.Omega.{arith}
use borrow.Author.Rules.{rules, sfits_of}
use borrow.Author.Tests.{not-true, not-false}
use Rattle.rows.specs.Limits.{unknowns}
use Rattle.rows.specs.Form.{at_most, is_zero}
use Rattle.rows.specs.Conditions.{is_one_minus, is_one_more}
use Rattle.ledger.specs.Record.{TR}
use Rattle.ledger.specs.Checks.{tests}
use Rattle.rules.proofs.FindingWalk.{whole, past, fails, passes, LeftFrom}
use Rattle.rules.proofs.FormTests.{KindRead, RowsRead, in_force_lem, not_in_force, kind_is_lem, kind_not, rows_tested}
use Rattle.pairs.proofs.judge_trichotomy.Goals as goal
use Rattle.pairs.proofs.judge_trichotomy.Goals.{After-is_one_minus, After-is_one_more, After-kind, After-kind-2, After-kind-3, Else-forms-u, Else-forms-v, Else-kind-ne-AT_MOST, Else-kind-ne-AT_MOST-2, Else-kind-ne-IS_ZERO, Else-not-is_one_more, Start}

-- of the tests, those from the k-th on are left
abbrev From : ℕ → Start → Type 0
From k s = let a = s.args in LeftFrom k unknowns a.forms.count a.forms.cells.now (TR a.z a.u a.v)

pub returns-then-forms-z : goal.returns-then-forms-z
unfolding tests
returns-then-forms-z c = fails whole (not_in_force c.args.forms.held c.args.z c.if-forms-z.true)

pub returns-then-forms-u : goal.returns-then-forms-u
unfolding tests
returns-then-forms-u c = fails (past whole (in_force_lem c.args.forms.held c.args.z (omega arith))) (not_in_force c.args.forms.held c.args.u c.if-forms-u.true)

past2 : (c : Else-forms-u) → From 2 (goal.at.Else-forms-u c).Start
unfolding tests
past2 c =
    past (past whole (in_force_lem c.args.forms.held c.args.z (omega arith))) (in_force_lem c.args.forms.held c.args.u (omega arith))

pub returns-then-forms-v : goal.returns-then-forms-v
unfolding tests
returns-then-forms-v c = fails (past2 (goal.at.returns-then-forms-v c).Else-forms-u) (not_in_force c.args.forms.held c.args.v c.if-forms-v.true)

past3 : (d : Else-forms-v) → From 3 (goal.at.Else-forms-v d).Start
unfolding tests
past3 d = past (past2 (goal.at.Else-forms-v d).Else-forms-u) (in_force_lem d.args.forms.held d.args.v (omega arith))

kind_z : (c : After-kind) → KindRead c.args.forms.held c.args.z c.kind.result is_zero
kind_z c = record { within = omega arith; read = c.kind.ensures; fits = sfits_of c.kind.type_inv; other = search rules }

pub returns-then-kind-ne-IS_ZERO : goal.returns-then-kind-ne-IS_ZERO
unfolding tests
returns-then-kind-ne-IS_ZERO c = fails (past3 (goal.at.returns-then-kind-ne-IS_ZERO c).Else-forms-v) (kind_not (kind_z (goal.at.returns-then-kind-ne-IS_ZERO c).After-kind) c.if-kind-ne-IS_ZERO.true)

past4 : (c : Else-kind-ne-IS_ZERO) → From 4 (goal.at.Else-kind-ne-IS_ZERO c).Start
unfolding tests
past4 c = past (past3 (goal.at.Else-kind-ne-IS_ZERO c).Else-forms-v) (kind_is_lem (kind_z (goal.at.Else-kind-ne-IS_ZERO c).After-kind) c.if-kind-ne-IS_ZERO.false)

kind_u : (c : After-kind-2) → KindRead c.args.forms.held c.args.u c.kind-2.result at_most
kind_u c = record { within = omega arith; read = c.kind-2.ensures; fits = sfits_of c.kind-2.type_inv; other = search rules }

pub returns-then-kind-ne-AT_MOST : goal.returns-then-kind-ne-AT_MOST
unfolding tests
returns-then-kind-ne-AT_MOST c = fails (past4 (goal.at.returns-then-kind-ne-AT_MOST c).Else-kind-ne-IS_ZERO) (kind_not (kind_u (goal.at.returns-then-kind-ne-AT_MOST c).After-kind-2) c.if-kind-ne-AT_MOST.true)

past5 : (c : Else-kind-ne-AT_MOST) → From 5 (goal.at.Else-kind-ne-AT_MOST c).Start
unfolding tests
past5 c = past (past4 (goal.at.Else-kind-ne-AT_MOST c).Else-kind-ne-IS_ZERO) (kind_is_lem (kind_u (goal.at.Else-kind-ne-AT_MOST c).After-kind-2) c.if-kind-ne-AT_MOST.false)

kind_v : (c : After-kind-3) → KindRead c.args.forms.held c.args.v c.kind-3.result at_most
kind_v c = record { within = omega arith; read = c.kind-3.ensures; fits = sfits_of c.kind-3.type_inv; other = search rules }

pub returns-then-kind-ne-AT_MOST-2 : goal.returns-then-kind-ne-AT_MOST-2
unfolding tests
returns-then-kind-ne-AT_MOST-2 c = fails (past5 (goal.at.returns-then-kind-ne-AT_MOST-2 c).Else-kind-ne-AT_MOST) (kind_not (kind_v (goal.at.returns-then-kind-ne-AT_MOST-2 c).After-kind-3) c.if-kind-ne-AT_MOST-2.true)

past6 : (c : Else-kind-ne-AT_MOST-2) → From 6 (goal.at.Else-kind-ne-AT_MOST-2 c).Start
unfolding tests
past6 c = past (past5 (goal.at.Else-kind-ne-AT_MOST-2 c).Else-kind-ne-AT_MOST) (kind_is_lem (kind_v (goal.at.Else-kind-ne-AT_MOST-2 c).After-kind-3) c.if-kind-ne-AT_MOST-2.false)

rows_of_u : (c : After-is_one_more)
    → RowsRead c.args.forms.held c.args.u c.args.z is_one_more c.is_one_more.result
rows_of_u c =
    record {
      first = (kind_u (goal.at.After-is_one_more c).After-kind-2).within;
      second = (kind_z (goal.at.After-is_one_more c).After-kind).within;
      gave = c.is_one_more.ensures;
    }

pub returns-then-not-is_one_more : goal.returns-then-not-is_one_more
unfolding tests
returns-then-not-is_one_more c = fails (past6 (goal.at.returns-then-not-is_one_more c).Else-kind-ne-AT_MOST-2) (rows_tested (rows_of_u (goal.at.returns-then-not-is_one_more c).After-is_one_more) ∙ not-true _ c.if-not-is_one_more.true-raw)

past7 : (c : Else-not-is_one_more) → From 7 (goal.at.Else-not-is_one_more c).Start
unfolding tests
past7 c = past (past6 (goal.at.Else-not-is_one_more c).Else-kind-ne-AT_MOST-2) (rows_tested (rows_of_u (goal.at.Else-not-is_one_more c).After-is_one_more) ∙ not-false _ c.if-not-is_one_more.false-raw)

rows_of_v : (c : After-is_one_minus)
    → RowsRead c.args.forms.held c.args.v c.args.z is_one_minus c.is_one_minus.result
rows_of_v c =
    record {
      first = (kind_v (goal.at.After-is_one_minus c).After-kind-3).within;
      second = (kind_z (goal.at.After-is_one_minus c).After-kind).within;
      gave = c.is_one_minus.ensures;
    }

pub returns-then-not-is_one_minus : goal.returns-then-not-is_one_minus
unfolding tests
returns-then-not-is_one_minus c = fails (past7 (goal.at.returns-then-not-is_one_minus c).Else-not-is_one_more) (rows_tested (rows_of_v (goal.at.returns-then-not-is_one_minus c).After-is_one_minus) ∙ not-true _ c.if-not-is_one_minus.true-raw)

pub returns : goal.returns
unfolding tests
returns c = passes (past (past7 (goal.at.returns c).Else-not-is_one_more) (rows_tested (rows_of_v (goal.at.returns c).After-is_one_minus) ∙ not-false _ c.if-not-is_one_minus.false-raw))
