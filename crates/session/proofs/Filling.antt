-- A list that is filled with one value, at any element type: half by half, and from its front.
use mathlib.Core.Path.{◌≡◌, sym}
use mathlib.Core.List.{[], ◌∷◌, ◌++◌}
use Prim.Native.Nat.{ℕ, ◌+◌}
use lib.ListN.{replicate, replicate-append-replicate}
use Rattle.std.proofs.lemmas.List.{take_more_set}

pub replicate_more : {A : Type 0} (n : ℕ) (z : A) → replicate (n + 1) z ≡ replicate n z ++ (z ∷ [])
replicate_more n z = sym (replicate-append-replicate n 1 z)

pub ruleset filling = (take_more_set, replicate_more, replicate-append-replicate)
