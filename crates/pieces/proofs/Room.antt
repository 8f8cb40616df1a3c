-- What stays in a buffer is always shorter than the longest record, so that pieces which leave room for that record always fit behind it.
use Rattle.std.proofs.Common.{◌≡◌, ℕ, ◌+◌, ◌<◌, ◌≤◌, Bool, true, false, cond, not, ◌&&◌, T, leb, List, [], ◌∷◌, length, take, drop, sym, refl, ◌∙◌, arith, leb→le, length-append, length-drop, length-take, length-take-le}
use lib.Seq.{length_front}
use Rattle.ints.specs.Tests.{all}
use Rattle.ints.proofs.Bools.{never, true→T, T_and}
use Rattle.ledger.specs.Limits.{most_levels}
use Rattle.session.specs.declared.state.Session.{Session}
use Rattle.session.specs.Cells.{Tables}
use Rattle.stream.specs.Run.{run}
use Rattle.pieces.specs.Step.{Next, goes_on, decided, Step, may_go_on, step}
use Rattle.pieces.specs.Pieces.{begun, behind, onward, is_last, Room, AllRoom}
use Rattle.pieces.specs.Longest.{longest}
use Rattle.pieces.proofs.CellPieces.{marks_again, little_left}

-- ---- one step

module _ (n k c : ℕ) (s : Session) (t : Tables) (marks : length s.marks ≡ most_levels) (buffer : List ℕ) (count : ℕ) where
  abbrev held : List ℕ
  held = take count buffer

  abbrev rest : List ℕ
  rest = drop (run n s t held).bytes held

  -- what stays is less than the longest record
  pub kept_short : (last : Bool) {kept : ℕ} → (step n k c s t buffer count last).next ≡ goes_on kept → kept < longest
  unfolding step
  kept_short last {kept} e = by last (may_go_on (run n s t held).stop) refl e
    where
      by : (last may : Bool) → may_go_on (run n s t held).stop ≡ may
          → cond (not last && may) (goes_on (length rest)) (decided (run n s t held).stop) ≡ goes_on kept → kept < longest
      by true may m e = never (cc)
      by false false m e = never (cc)
      by false true m e =
          let same : length rest ≡ kept = cc in
          let h = little_left n s t marks held (true→T m) in
          omega (arith, length-drop (run n s t held).bytes held)

  -- and the buffer keeps its length
  pub same_size : (last : Bool) → length (step n k c s t buffer count last).buffer ≡ length buffer
  unfolding step
  same_size last =
      length_front buffer rest (length rest)
      (sym (length-take-le (length rest) buffer (simp (length-drop, length-take) (omega arith))))

-- ---- all pieces

-- r may be handed a piece: its buffer has so many bytes, of which few are kept
record Ready (size : ℕ) (r : Step) : Type 0 where
  marks : length r.session.marks ≡ most_levels
  whole : length r.buffer ≡ size
  short : {kept : ℕ} → r.next ≡ goes_on kept → kept < longest

behind_size : (kept : ℕ) (p buffer : List ℕ) → kept + length p ≤ length buffer → length (behind kept p buffer) ≡ length buffer
behind_size kept p buffer h = let e = length-take-le kept buffer (omega arith) in simp (length-append, length-drop) (omega arith)

module _ (n size : ℕ) (r : Step) (ready : Ready size r) (p : List ℕ) (fits : longest + length p ≤ size) where
  one_ready : (last : Bool) → Room r p × Ready size (onward n r p last)
  unfolding step
  one_ready last = by r.next refl
    where
      by : (v : Next) → r.next ≡ v → Room r p × Ready size (onward n r p last)
      by (decided stop) e = let same : onward n r p last ≡ r = rw e in (rw e tt, rw same ready)
      by (goes_on kept) e =
          let room : kept + length p ≤ length r.buffer = omega (arith, ready.short e, ready.whole) in
          let x = behind kept p r.buffer in
          let count = kept + length p in
          rw e (
            room,
            record {
              marks = marks_again n r.session r.tables ready.marks (take count x);
              whole = same_size n r.records r.bytes r.session r.tables ready.marks x count last ∙ behind_size kept p r.buffer room ∙ ready.whole;
              short = kept_short n r.records r.bytes r.session r.tables ready.marks x count last;
            },
          )

all_ready : (n size : ℕ) (r : Step) → Ready size r → (ps : List (List ℕ)) → T (all (λ p. leb (longest + length p) size) ps) → AllRoom n r ps
unfolding AllRoom
all_ready n size r ready [] h = tt
all_ready n size r ready (p ∷ ps) h =
    let (first, others) = T_and (leb (longest + length p) size) (all (λ p. leb (longest + length p) size) ps) h in
    let (room, again) = one_ready n size r ready p (leb→le (longest + length p) size first) (is_last ps) in
    (room, all_ready n size (onward n r p (is_last ps)) again ps others)

starts : {kept : ℕ} → goes_on 0 ≡ goes_on kept → kept ≡ 0
starts e = cc

-- pieces that leave room for the longest record all fit
pub all_fit : (n : ℕ) (s : Session) (t : Tables) → length s.marks ≡ most_levels → (buffer : List ℕ) (ps : List (List ℕ))
    → T (all (λ p. leb (longest + length p) (length buffer)) ps) → AllRoom n (begun s t buffer) ps
all_fit n s t marks buffer ps h =
    all_ready n (length buffer) (begun s t buffer) (record { marks = marks; whole = refl; short = λ e. let none = starts e in omega arith }) ps h
