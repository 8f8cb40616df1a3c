-- The invariant of `literals::write::write_literals`: the literals of the forms passed are written.
use mathlib.Core.Path.{◌≡◌}
use mathlib.Core.List.{map}
use Prim.Native.Nat.{◌+◌, ◌*◌}
use lib.ListN.{take}
use Rattle.literals.proofs.write.write_literals.Given as goal

abbrev pub invariant-loop-i : goal.invariant-loop-i
invariant-loop-i l = take l.i l.out ≡ map (λ f. 2 * f + l.sign) (take l.i l.picks)
