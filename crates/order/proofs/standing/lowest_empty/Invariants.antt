-- The invariant of `order::standing::lowest_empty`: the lowest empty line from i on is the lowest of all.
use mathlib.Core.Path.{◌≡◌}
use Prim.Native.Nat.{◌-◌}
use Rattle.session.specs.Cells.{end_before}
use Rattle.order.specs.Empty.{lowest_empty}
use Rattle.order.proofs.standing.lowest_empty.Given as goal

abbrev pub invariant-loop-i : goal.invariant-loop-i
invariant-loop-i l = record {
  begins : l.from ≡ end_before l.lines l.i;
  same : lowest_empty l.lines l.i (l.count - l.i) ≡ lowest_empty l.lines 0 l.count;
}
