-- `resolution::resolve` meets its contract.
use native.Mathlib.Omega.{arith}
use mathlib.Core.Path.{refl, sym, ◌∙◌}
use borrow.Author.Rules.{rules}
use borrow.Author.Tests.{ltb-true, ltb-false}
use Rattle.ledger.specs.Literals.{unnegated, negated}
use Rattle.resolution.proofs.Resolving.{Left, InForce, no_pivot, no_first, no_second, first_lacks, second_lacks, too_long, resolved}
use Rattle.resolution.proofs.resolve.Goals as goal
use Rattle.resolution.proofs.resolve.Goals.{then-forms-pivot-via-then-forms-pivot, then-forms-pivot-via-else-forms-pivot+then-lines-i, then-forms-pivot-via-else-forms-pivot+else-lines-i+then-lines-j}
use Rattle.resolution.proofs.resolve.Goals.{After-gather-n, After-gather-m, After-literals_of-b}

pub returns-then-forms-pivot : goal.returns-then-forms-pivot
returns-then-forms-pivot c = (
  let a = c.args in
      elim c.then-forms-pivot.branch [
        | then-forms-pivot-via-then-forms-pivot w ↦ no_pivot a.forms a.lines a.pivot a.i a.j (omega (arith, w.if-forms-pivot.true))
        | then-forms-pivot-via-else-forms-pivot+then-lines-i w ↦ no_first a.forms a.lines a.pivot a.i a.j (omega (arith, w.if-forms-pivot.false)) (omega (arith, w.if-lines-i.true))
        | then-forms-pivot-via-else-forms-pivot+else-lines-i+then-lines-j w ↦ no_second a.forms a.lines a.pivot a.i a.j (omega (arith, w.if-forms-pivot.false)) (omega (arith, w.if-lines-i.false)) (omega (arith, w.if-lines-j.true))
      ],
  refl,
)

in_force_lem : (c : After-literals_of-b) → let a = c.args in InForce a.forms a.lines a.pivot a.i a.j
in_force_lem c = record { pivot = omega arith; first = omega arith; second = omega arith }

first_left : (c : After-gather-n) → let a = c.args in Left a.lines a.i c.literals_of-a.result.now (unnegated a.pivot) c.gather-n.result c.gather-n.new.out
first_left c = record { same = c.literals_of-a.ensures; got = c.gather-n.ensures; full = search rules }

second_left : (c : After-gather-m) → let a = c.args in Left a.lines a.j c.literals_of-b.result.now (negated a.pivot) c.gather-m.result c.gather-m.new.out
second_left c = record { same = c.literals_of-b.ensures; got = c.gather-m.ensures; full = search rules }

pub returns-then-n-a : goal.returns-then-n-a
returns-then-n-a c = (
  let a = c.args in
      let here = goal.at.returns-then-n-a c in
      first_lacks a.forms a.lines a.pivot a.i a.j (in_force_lem here.After-literals_of-b) (first_left here.After-gather-n) c.if-n-a.true,
  refl,
)

pub returns-then-m-b : goal.returns-then-m-b
returns-then-m-b c = (
  let a = c.args in
      let here = goal.at.returns-then-m-b c in
      second_lacks a.forms a.lines a.pivot a.i a.j (in_force_lem here.After-literals_of-b) (first_left here.After-gather-n) c.if-n-a.false
      (second_left here.After-gather-m) c.if-m-b.true,
  refl,
)

pub returns-then-longer_than : goal.returns-then-longer_than
returns-then-longer_than c = (
  let a = c.args in
      let here = goal.at.returns-then-longer_than c in
      too_long a.forms a.lines a.pivot a.i a.j (in_force_lem here.After-literals_of-b) (first_left here.After-gather-n) c.if-n-a.false
      (second_left here.After-gather-m) c.if-m-b.false (ltb-true _ _ (sym c.longer_than.ensures ∙ c.if-longer_than.true)),
  refl,
)

pub returns : goal.returns
returns c = (
  let a = c.args in
      let here = goal.at.returns c in
      rw c.derived.ensures
      (resolved a.forms a.lines a.pivot a.i a.j (in_force_lem here.After-literals_of-b) (first_left here.After-gather-n) c.if-n-a.false
      (second_left here.After-gather-m) c.if-m-b.false (ltb-false _ _ (sym c.longer_than.ensures ∙ c.if-longer_than.false))),
  refl,
)
