-- The pieces of a proof file, each handed over behind what the step before it left.
use Rattle.std.specs.Prelude.{◌≡◌, ℕ, ◌+◌, ◌≤◌, Bool, true, false, List, [], ◌∷◌, ◌++◌, length, take, drop}
use Rattle.session.specs.declared.state.Session.{Session}
use Rattle.session.specs.Cells.{Tables}
use Rattle.stream.specs.Run.{Totals}
use Rattle.pieces.specs.Step.{goes_on, decided, Step, total, step}

-- before the first piece
abbrev pub begun : Session → Tables → List ℕ → Step
begun s t buffer = record { records = 0; bytes = 0; session = s; tables = t; buffer = buffer; next = goes_on 0 }

-- a piece is read into the buffer behind the first so many bytes
abbrev pub behind : ℕ → List ℕ → List ℕ → List ℕ
behind kept p buffer = take kept buffer ++ (p ++ drop (kept + length p) buffer)

-- a step on what r left and the piece p; where the file is decided, nothing more is read
abbrev pub onward : ℕ → Step → List ℕ → Bool → Step
onward n r p last =
    elim r.next [
      | goes_on kept ↦ step n r.records r.bytes r.session r.tables (behind kept p r.buffer) (kept + length p) last
      | decided stop ↦ r
    ]

-- a piece is the last where none follows
abbrev pub is_last : List (List ℕ) → Bool
is_last [] = true
is_last (p ∷ ps) = false

-- one piece after the other; the file ends with the last of them
unfoldable pub handed : ℕ → Step → List (List ℕ) → Step
handed n r [] = r
handed n r (p ∷ ps) = handed n (onward n r p (is_last ps)) ps

-- r has decided the file as one run decides it, and its buffer holds anything
abbrev pub DecidedBy : Totals → Step → Type 0
DecidedBy whole r =
    r
    ≡ record {
      records = total whole.records;
      bytes = total whole.bytes;
      session = whole.session;
      tables = whole.tables;
      buffer = r.buffer;
      next = decided whole.stop;
    }

-- the piece has room in the buffer behind what r left
abbrev pub Room : Step → List ℕ → Type 0
Room r p = elim r.next [ goes_on kept ↦ kept + length p ≤ length r.buffer | decided stop ↦ Unit {0} ]

-- and so has each of the pieces that follow
unfoldable pub AllRoom : ℕ → Step → List (List ℕ) → Type 0
AllRoom n r [] = Unit {0}
AllRoom n r (p ∷ ps) = Room r p × AllRoom n (onward n r p (is_last ps)) ps
