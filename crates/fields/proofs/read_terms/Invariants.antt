-- The invariant of `fields::read_terms`: the forms and multipliers of the first i terms are read.
use mathlib.Core.Path.{◌≡◌}
use Prim.Native.Nat.{◌+◌, ◌*◌}
use lib.ListN.{take}
use Rattle.ints.specs.Tests.{up_to}
use Rattle.ledger.specs.Bytes.{u16_at, i32_at}
use Rattle.fields.proofs.read_terms.Given as goal

abbrev pub invariant-loop-i : goal.invariant-loop-i
invariant-loop-i l =
    (take l.i l.forms ≡ up_to l.i (λ k. u16_at l.bytes (l.first + 6 * k)))
    × (take l.i l.multipliers ≡ up_to l.i (λ k. i32_at l.bytes (l.second + 6 * k)))
