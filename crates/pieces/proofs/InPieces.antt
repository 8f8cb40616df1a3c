-- However a proof file is cut into pieces, its steps decide it as one run over all its bytes does: the totals, the stopping number, the session and
-- every cell.
use Rattle.std.proofs.Common.{◌≡◌, ℕ, ◌+◌, ◌^◌, ◌<◌, ◌≤◌, Bool, true, false, List, [], ◌∷◌, ◌++◌, length, take, drop, sym, refl, ap, ◌∙◌, append_assoc, append-nil, add_assoc, mod-eq_of_lt, zero-add, arith, length-append, length-take-le, take_at}
use mathlib.Core.List.{flatten}
use native.Mathlib.Nat.{mod-add-mod}
use lib.Seq.{take-append_seam}
use Rattle.ledger.specs.Limits.{most_levels}
use Rattle.session.specs.declared.state.Session.{Session}
use Rattle.session.specs.Cells.{Tables}
use Rattle.stream.specs.Run.{Totals, run}
use Rattle.pieces.specs.Step.{goes_on, decided, Step, total, may_go_on, moved, step_by, step}
use Rattle.pieces.specs.Pieces.{begun, behind, onward, is_last, handed, DecidedBy}
use Rattle.pieces.proofs.CellPieces.{counting, cells_add, cells_final, marks_again, cells_within}

-- a step that goes on behind so many bytes
abbrev going : ℕ → ℕ → Session → Tables → List ℕ → ℕ → Step
going k c s t buffer kept = record { records = k; bytes = c; session = s; tables = t; buffer = buffer; next = goes_on kept }

-- the bytes that are held are those that stayed, and the piece
take_behind : (kept : ℕ) (p buffer : List ℕ) → kept ≤ length buffer → take (kept + length p) (behind kept p buffer) ≡ take kept buffer ++ p
take_behind kept p buffer h =
    ap (λ (x : List ℕ). take (kept + length p) x) (sym (append_assoc (take kept buffer) p (drop (kept + length p) buffer)))
    ∙ take_at (take kept buffer ++ p) (drop (kept + length p) buffer) (kept + length p) (rw (length-append, length-take-le kept buffer h))

-- a file that is decided stays so
stays : (n : ℕ) (r : Step) {stop : ℕ} → r.next ≡ decided stop → (ps : List (List ℕ)) → handed n r ps ≡ r
unfolding handed
stays n r e [] = refl
stays n r e (p ∷ ps) = let same : onward n r p (is_last ps) ≡ r = rw e in rw same (stays n r e ps)

-- totals that were counted twice before
total_twice : (k i j : ℕ) → total (total (k + i) + j) ≡ total (k + (i + j))
total_twice k i j = mod-add-mod (k + i) (2 ^ 64) j ∙ ap total (add_assoc k i j)

counted_twice : (k c i d : ℕ) (r : Totals) (e : Step) → DecidedBy (counting (total (k + i)) (total (c + d)) r) e → DecidedBy (counting k c (counting i d r)) e
counted_twice k c i d r e h = rw (total_twice k i r.records, total_twice c d r.bytes) at h

module _ (n k c : ℕ) (s : Session) (t : Tables) (buffer : List ℕ) (kept : ℕ) (p : List ℕ) (fits : kept ≤ length buffer) where
  abbrev held : List ℕ
  held = take kept buffer ++ p

  abbrev ran : Totals
  ran = run n s t held

  abbrev rest : List ℕ
  rest = drop ran.bytes held

  step_behind : (last : Bool) → step n k c s t (behind kept p buffer) (kept + length p) last ≡ step_by ran k c (behind kept p buffer) rest last
  unfolding step
  step_behind last = rw (take_behind kept p buffer fits)

  -- the step over a piece that is not the last, where the pieces that follow it are decided by one run
  module _ (marks : length s.marks ≡ most_levels) (q : List ℕ) (ps : List (List ℕ)) where
    abbrev after : List ℕ
    after = flatten (q ∷ ps)

    abbrev went : Step
    went = going (total (k + ran.records)) (total (c + ran.bytes)) ran.session ran.tables (moved rest (behind kept p buffer)) (length rest)

    joined : DecidedBy (counting went.records went.bytes (run n ran.session ran.tables (take (length rest) went.buffer ++ after))) (handed n went (q ∷ ps))
        → DecidedBy (counting k c (run n s t (held ++ after))) (handed n (step n k c s t (behind kept p buffer) (kept + length p) false) (q ∷ ps))
    joined h = rw (step_behind false) (by (may_go_on ran.stop) refl)
      where
        by : (b : Bool) → may_go_on ran.stop ≡ b
            → DecidedBy (counting k c (run n s t (held ++ after))) (handed n (step_by ran k c (behind kept p buffer) rest false) (q ∷ ps))
        by true e =
            let goes : step_by ran k c (behind kept p buffer) rest false ≡ went = rw e in
            let there = rw (take-append_seam rest (drop (length rest) (behind kept p buffer))) at h in
            rw (goes, cells_add n s t marks held after)
            (counted_twice k c ran.records ran.bytes (run n ran.session ran.tables (rest ++ after)) (handed n went (q ∷ ps)) there)
        by false e =
            let over : (step_by ran k c (behind kept p buffer) rest false).next ≡ decided ran.stop = rw e in
            rw (stays n (step_by ran k c (behind kept p buffer) rest false) over (q ∷ ps), cells_final n s t marks held after e, e)

from : (n : ℕ) (s : Session) (t : Tables) → length s.marks ≡ most_levels → (k c : ℕ) (buffer : List ℕ) (kept : ℕ) → kept ≤ length buffer
    → (p : List ℕ) (ps : List (List ℕ))
    → DecidedBy (counting k c (run n s t (take kept buffer ++ flatten (p ∷ ps)))) (handed n (going k c s t buffer kept) (p ∷ ps))
unfolding handed flatten
from n s t marks k c buffer kept fits p [] = rw (append-nil p, step_behind n k c s t buffer kept p fits true)
from n s t marks k c buffer kept fits p (q ∷ ps) =
    let x = behind kept p buffer in
    let r = run n s t (take kept buffer ++ p) in
    let d = drop r.bytes (take kept buffer ++ p) in
    rw (← append_assoc (take kept buffer) p (flatten (q ∷ ps)))
    (joined n k c s t buffer kept p fits marks q ps
    (from n r.session r.tables (marks_again n s t marks (take kept buffer ++ p)) (total (k + r.records)) (total (c + r.bytes)) (moved d x) (length d)
    (rw length-append (omega arith)) q ps))

-- a session has eight marks, as the code's always does
module _ (n : ℕ) (s : Session) (t : Tables) (marks : length s.marks ≡ most_levels) where
  module _ (buffer p : List ℕ) (ps : List (List ℕ)) where
    abbrev whole : Totals
    whole = run n s t (flatten (p ∷ ps))

    pub in_pieces : DecidedBy (run n s t (flatten (p ∷ ps))) (handed n (begun s t buffer) (p ∷ ps))
    in_pieces = rw (zero-add whole.records, zero-add whole.bytes) at (from n s t marks 0 0 buffer 0 (omega arith) p ps)

    -- no file is so long that its totals begin again at 0
    pub exact_totals : length (flatten (p ∷ ps)) < 2 ^ 64
        → ((handed n (begun s t buffer) (p ∷ ps)).records ≡ (run n s t (flatten (p ∷ ps))).records)
        × ((handed n (begun s t buffer) (p ∷ ps)).bytes ≡ (run n s t (flatten (p ∷ ps))).bytes)
    exact_totals h =
        let (few, within) = cells_within n s t marks (flatten (p ∷ ps)) in (
          ap (λ (r : Step). r.records) in_pieces ∙ mod-eq_of_lt (omega arith),
          ap (λ (r : Step). r.bytes) in_pieces ∙ mod-eq_of_lt (omega arith),
        )
