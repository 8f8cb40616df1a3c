-- The invariant of `sums::add_scaled`: the cells before j hold their sums, those from j on are as they were.
use mathlib.Core.List.{◌++◌}
use lib.ListN.{take, drop}
use mathlib.Core.Path.{◌≡◌}
use Rattle.rows.specs.Row.{plus, scaled}
use Rattle.sums.proofs.add_scaled.Given as goal

abbrev pub invariant-loop-j : goal.invariant-loop-j
invariant-loop-j l = (drop l.j l.sums ≡ drop l.j l.initial.sums) × (take l.j l.sums ++ plus (drop l.j l.initial.sums) (scaled l.m (drop l.j l.row)) ≡ plus l.initial.sums (scaled l.m l.row))
