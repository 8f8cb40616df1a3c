-- `rules::forms::both_are` meets its contract.
use native.Mathlib.Omega.{arith}
use borrow.Author.Rules.{sfits_of}
use Rattle.rules.proofs.FindingWalk.{whole, past, fails, passes}
use Rattle.rules.proofs.FormTests.{KindRead, in_force_lem, not_in_force, kind_is_lem, kind_not}
use Rattle.rules.proofs.forms.both_are.Goals as goal

pub returns-then-forms-a : goal.returns-then-forms-a
returns-then-forms-a c = fails whole (not_in_force c.args.forms.held c.args.a c.if-forms-a.true)

pub returns-then-forms-b : goal.returns-then-forms-b
returns-then-forms-b c = fails (past whole (in_force_lem c.args.forms.held c.args.a (omega arith))) (not_in_force c.args.forms.held c.args.b c.if-forms-b.true)

pub returns-then-kind-j : goal.returns-then-kind-j
returns-then-kind-j c = let q : KindRead c.args.forms.held c.args.a c.kind.result c.args.j = record { within = omega arith; read = c.kind.ensures; fits = sfits_of c.kind.type_inv; other = c.ranges.j } in fails (past (past whole (in_force_lem c.args.forms.held c.args.a (omega arith))) (in_force_lem c.args.forms.held c.args.b (omega arith))) (kind_not q c.if-kind-j.true)

pub returns-then-kind-k : goal.returns-then-kind-k
returns-then-kind-k c = let q : KindRead c.args.forms.held c.args.a c.kind.result c.args.j = record { within = omega arith; read = c.kind.ensures; fits = sfits_of c.kind.type_inv; other = c.ranges.j } in let r : KindRead c.args.forms.held c.args.b c.kind-2.result c.args.k = record { within = omega arith; read = c.kind-2.ensures; fits = sfits_of c.kind-2.type_inv; other = c.ranges.k } in fails (past (past (past whole (in_force_lem c.args.forms.held c.args.a (omega arith))) (in_force_lem c.args.forms.held c.args.b (omega arith))) (kind_is_lem q c.if-kind-j.false)) (kind_not r c.if-kind-k.true)

pub returns : goal.returns
returns c = let q : KindRead c.args.forms.held c.args.a c.kind.result c.args.j = record { within = omega arith; read = c.kind.ensures; fits = sfits_of c.kind.type_inv; other = c.ranges.j } in let r : KindRead c.args.forms.held c.args.b c.kind-2.result c.args.k = record { within = omega arith; read = c.kind-2.ensures; fits = sfits_of c.kind-2.type_inv; other = c.ranges.k } in passes (past (past (past (past whole (in_force_lem c.args.forms.held c.args.a (omega arith))) (in_force_lem c.args.forms.held c.args.b (omega arith))) (kind_is_lem q c.if-kind-j.false)) (kind_is_lem r c.if-kind-k.false))
