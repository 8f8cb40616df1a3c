-- The invariant of `sums::sum_rows`: the terms from i on, added to the sums so far, give the whole sum.
use mathlib.Core.Path.{◌≡◌}
use Prim.Native.Nat.{◌+◌, ◌*◌}
use lib.ListN.{length, drop}
use Rattle.rows.specs.Limits.{unknowns}
use Rattle.rows.specs.Summable.{row_at, terms}
use Rattle.rows.specs.Sum.{summed_onto, summed}
use Rattle.rows.proofs.SumLaws.{Within, largest_term}
use Rattle.sums.proofs.sum_rows.Given as goal

abbrev pub invariant-loop-i : goal.invariant-loop-i
invariant-loop-i l =
    (length l.sums ≡ unknowns + 1) × Within (l.i * largest_term) l.sums
    × (summed_onto (row_at unknowns l.table) l.sums (terms (drop l.i l.picks) (drop l.i l.multipliers)) ≡ summed unknowns (row_at unknowns l.table) (terms l.picks l.multipliers))
