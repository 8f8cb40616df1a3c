-- The invariant of `order::levels::levels_hold`: every level below i is right, and `low` is the edge before i.
use mathlib.Core.Path.{◌≡◌}
use Prim.Native.Nat.{ℕ, ◌<◌}
use Rattle.session.specs.Cells.{counts_of, end_before}
use Rattle.session.specs.Parts.{edge}
use Rattle.order.specs.Levels.{LevelGood, lower}
use Rattle.order.proofs.levels.levels_hold.Given as goal

abbrev pub invariant-loop-i : goal.invariant-loop-i
invariant-loop-i l = record {
  low_is : l.low ≡ lower l.s l.i;
  first : end_before l.lines l.low.lines ≡ l.low.literals;
  each : (k : ℕ) → k < l.i → LevelGood l.pool l.lines (counts_of l.s) (lower l.s k) (edge l.s k);
}
