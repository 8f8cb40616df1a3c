-- What was fed since the start, as bytes, and which of it is still in force: an accepted WD strikes out itself, the last OP not yet struck
-- out and every record between them; a refused record is struck out; what remains, open OPs included, is in force.
-- A history has the latest first. A record's position is the number of records that were fed before it.
use Rattle.std.specs.Prelude.{◌≡◌, ◌⊎◌, List, [], ◌∷◌, ℕ, suc, ◌≤◌, ◌<◌, length}
use Rattle.ledger.specs.Ledger.{Ledger, fresh}
use Rattle.ledger.specs.Record.{make, OP, WD, is_accepted}
use Rattle.ledger.specs.Bytes.{decode, apply_bytes}

-- the ledger that a history leaves, over n unknowns
unfoldable pub after_bytes : ℕ → List (List ℕ) → Ledger
after_bytes n [] = fresh
after_bytes n (b ∷ h) = (apply_bytes n (after_bytes n h) b).ledger

-- b, fed after h, is accepted
abbrev pub AcceptedAfter : ℕ → List (List ℕ) → List ℕ → Type 0
AcceptedAfter n h b = is_accepted (apply_bytes n (after_bytes n h) b).answer

-- ---- struck out

-- the record at position k is an OP (bytes that bear no mark would read as one, but they are refused)
unfoldable pub OpAt : List (List ℕ) → ℕ → Type 0
OpAt [] k = ⊥
OpAt (b ∷ h) k = ((k ≡ length h) × (decode b ≡ OP)) ⊎ OpAt h k

-- at position o is the last OP not yet struck out
pub record LastOp (Struck : ℕ → Type 0) (h : List (List ℕ)) (o : ℕ) : Type 0 where
  pub opens : OpAt h o
  pub stands : Struck o → ⊥
  pub last : (p : ℕ) → o < p → OpAt h p → Struck p

-- position k is struck out as b is fed after h, of which these are struck out already
pub data StrikesOut (n : ℕ) (Struck : ℕ → Type 0) (h : List (List ℕ)) (b : List ℕ) (k : ℕ) : Type 0 where
  -- a refused record is struck out
  refusal : (AcceptedAfter n h b → ⊥) → k ≡ length h → StrikesOut n Struck h b k
  -- an accepted WD strikes out itself, the last OP not yet struck out and every record between them
  withdrawal : AcceptedAfter n h b → decode b ≡ WD → (o : ℕ) → LastOp Struck h o → o ≤ k → k ≤ length h → StrikesOut n Struck h b k

-- position k is struck out: before the latest record was fed, or as it was
unfoldable pub StruckOut : ℕ → List (List ℕ) → ℕ → Type 0
StruckOut n [] k = ⊥
StruckOut n (b ∷ h) k = StruckOut n h k ⊎ StrikesOut n (StruckOut n h) h b k

-- ---- in force

-- ks is what remains of h, in its order, without the struck positions
pub data Remains (Struck : ℕ → Type 0) : List (List ℕ) → List (List ℕ) → Type 0 where
  none : Remains Struck [] []
  goes : {x : List ℕ} {h ks : List (List ℕ)} → Struck (length h) → Remains Struck h ks → Remains Struck (x ∷ h) ks
  stays : {x : List ℕ} {h ks : List (List ℕ)} → (Struck (length h) → ⊥) → Remains Struck h ks → Remains Struck (x ∷ h) (x ∷ ks)

abbrev pub InForce : ℕ → List (List ℕ) → List (List ℕ) → Type 0
InForce n h ks = Remains (StruckOut n h) h ks

-- ---- what is in force, looked at

-- how many OPs there are
unfoldable pub op_count : List (List ℕ) → ℕ
op_count [] = 0
op_count (b ∷ bs) = elim (decode b) [ make r ↦ op_count bs | OP ↦ suc (op_count bs) | WD ↦ op_count bs ]

-- none is a WD
unfoldable pub NoWD : List (List ℕ) → Type 0
NoWD [] = Unit {0}
NoWD (b ∷ bs) = (decode b ≡ WD → ⊥) × NoWD bs
