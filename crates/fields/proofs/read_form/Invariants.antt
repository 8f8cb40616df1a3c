-- The invariant of `fields::read_form`: the kind and the divisor are read, and the first i cells of the row.
use mathlib.Core.Path.{◌≡◌}
use mathlib.Core.List.{◌∷◌}
use Prim.Native.Nat.{◌+◌, ◌*◌}
use lib.IntN.{pos}
use lib.ListN.{take}
use Rattle.ints.specs.Tests.{up_to}
use Rattle.ledger.specs.Bytes.{byte_at, u16_at, i32_at}
use Rattle.fields.proofs.read_form.Given as goal

abbrev pub invariant-loop-i : goal.invariant-loop-i
invariant-loop-i l =
    take (2 + l.i) l.cells ≡ pos (byte_at l.bytes 2) ∷ pos (u16_at l.bytes 3) ∷ up_to l.i (λ k. i32_at l.bytes (5 + 4 * k))
