-- A run over a stream on the ledger, and what the proofs say of the record at a stream's front.
use Rattle.std.specs.Prelude.{◌≡◌, ◌⊎◌, ℕ, ◌+◌, ◌≤◌, ◌<◌, length, take, get_or}
use mathlib.Core.List.{List, [], ◌∷◌, flatten}
use Rattle.ledger.specs.Ledger.{Ledger}
use Rattle.ledger.specs.Record.{accepted, refused, is_accepted, RecordMark}
use Rattle.ledger.specs.Bytes.{apply_bytes, bears, mark_of, shape}
use Rattle.ledger.specs.Split.{records_of, front}
use Rattle.ledger.specs.Apply.{fail, finding, pass}

-- ---- the run

-- records and bytes accepted, the stopping number (0 at the end), and the ledger then
pub record Run : Type 0 where
  pub records : ℕ
  pub bytes : ℕ
  pub stop : ℕ
  pub ledger : Ledger

unfoldable pub run_from : ℕ → ℕ → ℕ → Ledger → List (List ℕ) → Run
unfolding apply_bytes
run_from n records bytes l [] = record { records = records; bytes = bytes; stop = 0; ledger = l }
run_from n records bytes l (b ∷ bs) =
    elim (apply_bytes n l b).answer [
      | accepted m ↦ run_from n (records + 1) (bytes + length b) (apply_bytes n l b).ledger bs
      | refused k ↦ record { records = records; bytes = bytes; stop = k; ledger = l }
    ]

abbrev pub run : ℕ → Ledger → List ℕ → Run
run n l b = run_from n 0 0 l (records_of b)

-- ---- what a run should do

-- records fed one after the other: the ledger then
unfoldable pub fed_all : ℕ → Ledger → List (List ℕ) → Ledger
fed_all n l [] = l
fed_all n l (b ∷ bs) = fed_all n (apply_bytes n l b).ledger bs

-- and that each of them is accepted
unfoldable pub AllAccepted : ℕ → Ledger → List (List ℕ) → Type 0
AllAccepted n l [] = Unit {0}
AllAccepted n l (b ∷ bs) = is_accepted (apply_bytes n l b).answer × AllAccepted n (apply_bytes n l b).ledger bs

-- of the run r over bs, from l on: the records that it counts are accepted, and it ends with them or stops at the next one, which is bad
pub record Stops (n : ℕ) (l : Ledger) (bs : List (List ℕ)) (r : Run) : Type 0 where
  pub good : AllAccepted n l (take r.records bs)
  pub ledger : r.ledger ≡ fed_all n l (take r.records bs)
  pub bytes : r.bytes ≡ length (flatten (take r.records bs))
  pub end : ((r.stop ≡ 0) × (r.records ≡ length bs))
      ⊎ ((r.records < length bs) × ((apply_bytes n r.ledger (get_or bs r.records [])).answer ≡ refused r.stop))

-- ---- the record at the front of a stream

-- the front record of the bytes b is all of them, and its shape fails by the number k
pub record Misshapen (b : List ℕ) (k : ℕ) : Type 0 where
  pub all : length b ≤ front b
  pub failed : finding (shape b) ≡ fail k

-- so many bytes are required of a front record with this mark, which has the right shape where they are there
pub record Requires (b : List ℕ) (m : RecordMark) (required : ℕ) : Type 0 where
  pub known : mark_of b ≡ bears m
  pub two : 2 ≤ required
  pub front_is : front b ≡ required
  pub short : length b < required → finding (shape b) ≡ fail 3
  pub right : required ≤ length b → finding (shape (take required b)) ≡ pass
