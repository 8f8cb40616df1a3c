-- The records of a stream of bytes, split from its front.
use Rattle.std.specs.Prelude.{cond, List, [], ◌∷◌, ℕ, zero, suc, length, take, drop}
use Rattle.ledger.specs.Record.{layout}
use Rattle.ledger.specs.Checks.{count_in, Passed}
use Rattle.ledger.specs.Bytes.{Bearing, unknown, bears, mark_of, bytes_for, count_from, shape}

-- how many bytes the front record has: what its mark and count require; all that is left where that cannot be told
abbrev pub front_bytes : List ℕ → Bearing → ℕ
front_bytes b unknown = length b
front_bytes b (bears m) =
    cond (layout m).counted
    (cond (count_in m (count_from m b)) (bytes_for m (count_from m b)) (length b))
    (bytes_for m 0)

unfoldable pub front : List ℕ → ℕ
unfolding mark_of
front b = front_bytes b (mark_of b)

-- as many as the first number, at most
unfoldable pub split : ℕ → List ℕ → List (List ℕ)
unfolding front
split zero b = []
split (suc k) [] = []
split (suc k) (x ∷ b) = take (front (x ∷ b)) (x ∷ b) ∷ split k (drop (front (x ∷ b)) (x ∷ b))

-- each record has a byte at least
abbrev pub records_of : List ℕ → List (List ℕ)
records_of b = split (length b) b

-- each record has a good shape
unfoldable pub AllShaped : List (List ℕ) → Type 0
AllShaped [] = Unit {0}
AllShaped (b ∷ bs) = Passed (shape b) × AllShaped bs
