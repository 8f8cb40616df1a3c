-- The invariant of `conditions::picked::are_neighbours`: the test of the rows from place i on is the test of all.
use mathlib.Core.Path.{◌≡◌}
use mathlib.Core.List.{map}
use lib.ListN.{drop}
use Rattle.rows.specs.Limits.{unknowns}
use Rattle.rows.specs.Summable.{row_at}
use Rattle.rows.specs.Conditions.{neighbours_from, neighbours}
use Rattle.conditions.proofs.picked.are_neighbours.Given as goal

abbrev pub invariant-loop-i : goal.invariant-loop-i
invariant-loop-i l =
    let row = row_at unknowns l.table in
    neighbours_from l.i (row l.first) (map row (drop l.i l.picks)) ≡ neighbours (map row l.picks)
