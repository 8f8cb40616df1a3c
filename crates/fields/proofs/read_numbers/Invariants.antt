-- The invariant of `fields::read_numbers`: the first i numbers are read.
use mathlib.Core.Path.{◌≡◌}
use Prim.Native.Nat.{◌+◌, ◌*◌}
use lib.ListN.{take}
use Rattle.ints.specs.Tests.{up_to}
use Rattle.ledger.specs.Bytes.{u16_at}
use Rattle.fields.proofs.read_numbers.Given as goal

abbrev pub invariant-loop-i : goal.invariant-loop-i
invariant-loop-i l = take l.i l.cells ≡ up_to l.i (λ k. u16_at l.bytes (l.from + 2 * k))
