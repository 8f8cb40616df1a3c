-- `walk::lines_hold`. The outer loop's invariant: every line passed is right, over the n forms with 2 n = `bound`, and `from` is where line k begins.
-- The inner one's: the test of the literals that are left, each at least `least`, is the test of the line's. As long as they go on, all is right.
use mathlib.Core.Path.{◌≡◌}
use mathlib.Core.Bool.{true}
use Prim.Native.Nat.{ℕ, ◌≤◌, ◌<◌}
use lib.ListN.{drop}
use Rattle.session.specs.Cells.{end_before}
use Rattle.walk.specs.Walk.{LineGood}
use Rattle.walk.proofs.LineWalk.{literals_hold}
use Rattle.walk.proofs.lines_hold.Given as goal

abbrev pub invariant-loop-x : goal.invariant-loop-x
invariant-loop-x l = (l.ok ≡ true) × (literals_hold l.bound 0 l.x-items ≡ literals_hold l.bound l.least (drop l.x-index l.x-items))

abbrev pub invariant-lines : goal.invariant-lines
invariant-lines l = record {
  holds : l.ok ≡ true;
  room : l.from ≤ l.stop;
  begins : l.from ≡ end_before l.lines l.k;
  good : (i : ℕ) → l.fn.low.lines ≤ i → i < l.k → LineGood l.pool l.lines l.fn.m.forms i;
}
