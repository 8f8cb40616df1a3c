-- The records in force, worked out record by record, and a level from its OP to its WD: what the proofs about histories are made with.
use Rattle.std.specs.Prelude.{◌≡◌, List, [], ◌∷◌, ◌++◌, ℕ, ◌+◌, ◌<◌, length}
use Rattle.ledger.specs.Record.{make, OP, WD, Answer, accepted, refused}
use Rattle.ledger.specs.Bytes.{decode, apply_bytes}
use Rattle.ledger.specs.History.{after_bytes, AcceptedAfter}

-- ---- in force

-- without the last OP and every record after it
abbrev pub strike : List (List ℕ) → List (List ℕ)
strike [] = []
strike (b ∷ bs) = elim (decode b) [ make r ↦ strike bs | OP ↦ bs | WD ↦ strike bs ]

-- an accepted WD strikes out itself, the last OP in force and what lies between them
abbrev pub entered : List ℕ → List (List ℕ) → List (List ℕ)
entered b bs = elim (decode b) [ make r ↦ b ∷ bs | OP ↦ b ∷ bs | WD ↦ strike bs ]

-- a refused record is struck out
abbrev pub kept : Answer → List ℕ → List (List ℕ) → List (List ℕ)
kept (accepted m) b bs = entered b bs
kept (refused k) b bs = bs

-- the records of a history that are still in force
unfoldable pub bytes_in_force : ℕ → List (List ℕ) → List (List ℕ)
bytes_in_force n [] = []
bytes_in_force n (b ∷ h) = kept (apply_bytes n (after_bytes n h) b).answer b (bytes_in_force n h)

-- every record of a history was accepted
unfoldable pub AcceptedBytes : ℕ → List (List ℕ) → Type 0
AcceptedBytes n [] = Unit {0}
AcceptedBytes n (b ∷ h) = AcceptedAfter n h b × AcceptedBytes n h

-- ---- a level from its OP to its WD

-- more than k levels are open after each of bs, the latest first, fed after h
unfoldable pub StaysOpen : (n k : ℕ) → List (List ℕ) → List (List ℕ) → Type 0
StaysOpen n k h [] = Unit {0}
StaysOpen n k h (b ∷ bs) = (k < length (after_bytes n (b ∷ (bs ++ h))).marks) × StaysOpen n k h bs

-- o opens a level after h, it stays open through bs and is then the last, and w closes it
pub record ClosedLevel (n : ℕ) (h : List (List ℕ)) (o : List ℕ) (bs : List (List ℕ)) (w : List ℕ) : Type 0 where
  pub opens : decode o ≡ OP
  pub opening : AcceptedAfter n h o
  pub stays : StaysOpen n (length (after_bytes n h).marks) (o ∷ h) bs
  pub last : length (after_bytes n (bs ++ (o ∷ h))).marks ≡ length (after_bytes n h).marks + 1
  pub closes : decode w ≡ WD
  pub closing : AcceptedAfter n (bs ++ (o ∷ h)) w
