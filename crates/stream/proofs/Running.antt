-- A run over held tables: record by record, as long as records are accepted, what is still to come decides the whole; and beside an excess the
-- run is the same.
use mathlib.Core.Path.{◌≡◌, refl, sym, ap, subst, ◌∙◌}
use mathlib.Core.List.{List, [], ◌∷◌}
use Prim.Native.Nat.{ℕ, zero, suc, ◌+◌, ◌-◌, ◌≤◌, ◌<◌}
use native.Mathlib.Nat.{sub-zero}
use native.Mathlib.Omega.{arith}
use lib.ListN.{length, take, drop, length-drop, drop_of_length-le}
use lib.Seq.{length-take-le, take_all, take-length, drop-drop}
use Rattle.std.specs.Prelude.{Result, Err}
use Rattle.ints.proofs.Bools.{never}
use Rattle.ledger.specs.Limits.{most_levels}
use Rattle.ledger.specs.Ledger.{Ledger}
use Rattle.ledger.specs.Bytes.{apply_bytes}
use Rattle.ledger.specs.Record.{RecordMark, Made, Answer, accepted, refused}
use Rattle.ledger.specs.Apply.{pass, fail}
use Rattle.ledger.specs.Split.{front, split, records_of}
use Rattle.ledger.specs.Run.{Misshapen}
use Rattle.ledger.proofs.RunLaws.{front_positive, records_step}
use Rattle.session.specs.declared.state.Mark.{Mark}
use Rattle.session.specs.declared.state.Session.{Session}
use Rattle.session.specs.Cells.{Tables, named, excess, with_excess, counts_of, ledger_of}
use Rattle.session.specs.declared.answers.Refusal.{Refusal}
use Rattle.session.specs.Answers.{number_of}
use Rattle.session.specs.Calls.{entry}
use Rattle.laid.specs.Held.{Held}
use Rattle.records.specs.Marks.{Whole}
use Rattle.settle.specs.declared.Change.{Change}
use Rattle.settle.specs.declared.Top.{Top}
use Rattle.laid.specs.Result as laid
use Rattle.laid.specs.Result.{unchanged, settled}
use Rattle.settle.specs.Settling.{after, answer_by, InPlace, result_by, top_of}
use Rattle.checker.specs.Feed.{stepped, feed}
use Rattle.checker.specs.Changes.{Changes}
use Rattle.stream.specs.Run.{Totals, totals, each_by, run}
use Rattle.stream.specs.Walk.{session_with, FrontStep}
use Rattle.settle.proofs.OnLedger.{changed}
use Rattle.checker.proofs.Beside.{restored, feed_beside, held_again}
use Rattle.checker.proofs.Feeding.{entry_held}
use Rattle.checker.proofs.Settled.{stepped_wrong}

-- ---- one record more

module _ (call : Session → Tables → List ℕ → laid.Result) (k c : ℕ) (s : Session) (t : Tables) (b : List ℕ) (bs : List (List ℕ)) where
  -- the run from b on, by what b gives
  next : laid.Result → Totals
  next r =
      elim r.answer [
        | accepted m ↦ each_by call (k + 1) (c + length b) r.session r.tables bs
        | refused j ↦ totals k c j s t
      ]

  pub each_on : {m : Made} {s' : Session} {t' : Tables} → call s t b ≡ changed m s' t'
      → each_by call k c s t (b ∷ bs) ≡ each_by call (k + 1) (c + length b) s' t' bs
  unfolding each_by next
  each_on e = ap next e

  pub each_stops : {j : ℕ} → call s t b ≡ unchanged j s t → each_by call k c s t (b ∷ bs) ≡ totals k c j s t
  unfolding each_by next
  each_stops e = ap next e

-- a record that is refused changes nothing, also on held tables
pub step_refused : (n : ℕ) (s : Session) (t : Tables) (b : List ℕ) {j : ℕ} → (stepped n s t b).answer ≡ refused j → stepped n s t b ≡ unchanged j s t
unfolding stepped
step_refused n s t b {j} e = let o = apply_bytes n (ledger_of n s t) b in of o.answer o.ledger e
  where
    of : (a : Answer) (l : Ledger) → (settled n s t (record { answer = a; ledger = l })).answer ≡ refused j
        → settled n s t (record { answer = a; ledger = l }) ≡ unchanged j s t
    of (accepted m) l f = never (cc)
    of (refused k) l f = λ i. record { answer = f i; session = s; tables = t }

-- ---- beside an excess

abbrev pub beside_totals : Tables → Totals → Totals
beside_totals x r = totals r.records r.bytes r.stop r.session (with_excess r.tables x)

pub each_beside : (n k c : ℕ) (s : Session) (t x : Tables) (bs : List (List ℕ)) → Held n s t
    → each_by (feed n) k c s (with_excess t x) bs ≡ beside_totals x (each_by (stepped n) k c s t bs)
unfolding each_by next
each_beside n k c s t x [] h = refl
each_beside n k c s t x (b ∷ bs) h =
    let r = stepped n s t b in
    ap (next (feed n) k c s (with_excess t x) b bs) (feed_beside h x b) ∙ (go r.answer (each_beside n (k + 1) (c + length b) r.session r.tables x bs (held_again h b)))
  where
    r : laid.Result
    r = stepped n s t b

    go : (a : Answer)
        → each_by (feed n) (k + 1) (c + length b) r.session (with_excess r.tables x) bs
        ≡ beside_totals x (each_by (stepped n) (k + 1) (c + length b) r.session r.tables bs)
        → elim a [
          | accepted m ↦ each_by (feed n) (k + 1) (c + length b) r.session (with_excess r.tables x) bs
          | refused j ↦ totals k c j s (with_excess t x)
        ]
        ≡ beside_totals x (elim a [
          | accepted m ↦ each_by (stepped n) (k + 1) (c + length b) r.session r.tables bs
          | refused j ↦ totals k c j s t
        ])
    go (accepted m) rest = rest
    go (refused j) rest = refl

-- ---- the front of what is left

module _ {n : ℕ} {top : Top} {t : Tables} {b : List ℕ} where
  pub wrong_front : {why : Refusal} → Misshapen b (number_of why) → FrontStep n top t b (Err why) (length b) t
  wrong_front {why} w =
      record {
        within = omega arith;
        taken = take-length b ∙ sym (take_all (front b) b w.all);
        changes = λ s e h. record { result = rw (take-length b) (sym (stepped_wrong n s t b w.failed)); place = tt };
      }

  pub whole_front : {m : RecordMark} {c : Result Change Refusal} {size : ℕ} {t' : Tables} → Whole b m size → Changes n top t (take (size - 0) b) c t'
      → FrontStep n top t b c size t'
  whole_front {m} {c} {size} {t'} w f =
      record { within = w.within; taken = w.taken; changes = subst (λ (k : ℕ). Changes n top t (take k b) c t') (sub-zero size) f }

-- ---- the loop

-- of a run over the stream b from s and t on: so many records and bytes are accepted, and what is left of the stream decides the whole
pub record Underway (n : ℕ) (s : Session) (t : Tables) (b : List ℕ) (records bytes : ℕ) (s' : Session) (t' : Tables) : Type 0 where
  pub held : Held n s' t'
  pub few : records ≤ bytes
  pub within : bytes ≤ length b
  pub same : each_by (stepped n) records bytes s' t' (records_of (drop bytes b)) ≡ each_by (stepped n) 0 0 s t (records_of b)

-- it sets out from the parts of a session
module _ (n : ℕ) (s : Session) (t : Tables) {m : Mark} (e : m ≡ counts_of s) where
  pub sets_out : (b : List ℕ) → Held n s t
      → Underway n (session_with m s.«open» s.marks) t b 0 0 (session_with m s.«open» s.marks) t
  sets_out b h = record { held = rw e h; few = omega arith; within = omega arith; same = refl }

  pub set_out : {x : Totals} (bs : List (List ℕ)) → x ≡ each_by (stepped n) 0 0 (session_with m s.«open» s.marks) t bs
      → x ≡ each_by (stepped n) 0 0 s t bs
  set_out bs f = rw e at f

drop_taken : (j : ℕ) (xs : List ℕ) → drop (length (take j xs)) xs ≡ drop j xs
drop_taken zero xs = refl
drop_taken (suc j) [] = refl
drop_taken (suc j) (x ∷ xs) = drop_taken j xs

-- what is left of a stream, as the part from there to its end
pub rest_is : (c : ℕ) (b : List ℕ) → take (length b - c) (drop c b) ≡ drop c b
rest_is c b = take_all (length b - c) (drop c b) (omega (arith, length-drop c b))

-- the records of what is left, where the front one has so many bytes
records_left : (b : List ℕ) (size : ℕ) → 0 < length b → size ≤ length b → take size b ≡ take (front b) b
    → (records_of b ≡ take size b ∷ records_of (drop size b)) × (0 < size)
records_left [] size some fits same = absurd (omega arith)
records_left (x ∷ b) size some fits same =
    let whole = x ∷ b in
    let long : length (take size whole) ≡ size = length-take-le size whole fits in
    let left : drop size whole ≡ drop (front whole) whole =
    ap (λ (k : ℕ). drop k whole) (sym long ∙ ap length same) ∙ drop_taken (front whole) whole in
    (rw (same, left) (records_step x b), positive (front whole) (front_positive x b) (sym long ∙ ap length same))
  where
    positive : (k : ℕ) → 1 ≤ k → size ≡ length (take k (x ∷ b)) → 0 < size
    positive zero h e = absurd (omega arith)
    positive (suc k) h e = omega arith

module _ {n : ℕ} {s : Session} {t : Tables} {b : List ℕ} {k c : ℕ} {s' : Session} {t' : Tables} (u : Underway n s t b k c s' t') where
  pub arrives : length b ≤ c → totals k c 0 s' t' ≡ each_by (stepped n) 0 0 s t (records_of b)
  unfolding each_by split
  arrives h = ap (λ (d : List ℕ). each_by (stepped n) k c s' t' (records_of d)) (sym (drop_of_length-le b h)) ∙ u.same

-- what a turn of the loop does, by the change that the front record of what is left makes
pub record Turn (n : ℕ) (s : Session) (t : Tables) (b : List ℕ) (k c : ℕ) (s' : Session) (x : Result Change Refusal) (size : ℕ) (t'' : Tables) : Type 0 where
  pub forward : 0 < size
  pub within : c + size ≤ length b
  pub place : InPlace x
  pub held : Held n (after s' x) t''
  pub stops : {why : Refusal} → x ≡ Err why → totals k c (number_of why) s' t'' ≡ each_by (stepped n) 0 0 s t (records_of b)
  pub goes : {y : Result Change Refusal} {m : Made} {s'' : Session} → x ≡ y → result_by s' y t'' ≡ changed m s'' t'' → Underway n s t b (k + 1) (c + size) s'' t''

pub turns : {n : ℕ} {s : Session} {t : Tables} {b : List ℕ} {k c : ℕ} {s' : Session} {t' : Tables} {top : Top} {x : Result Change Refusal} {size : ℕ} {t'' : Tables}
    → Underway n s t b k c s' t' → c < length b → FrontStep n top t' (take (length b - c) (drop c b)) x size t'' → top_of s' ≡ top
    → Turn n s t b k c s' x size t''
turns {n} {s} {t} {b} {k} {c} {s'} {t'} {top} {x} {size} {t''} u more f e =
    let d = drop c b in
    let left = subst (λ (l : List ℕ). FrontStep n top t' l x size t'') (rest_is c b) f in
    let does = left.changes s' e u.held in
    let (first, forward) = records_left d size (rw (length-drop c b) (omega arith)) left.within left.taken in
    let rest : each_by (stepped n) k c s' t' (take size d ∷ records_of (drop size d)) ≡ each_by (stepped n) 0 0 s t (records_of b) = rw first at u.same in
    let within : c + size ≤ length b = omega (arith, left.within, length-drop c b, u.within) in
    let held = subst (λ (r : laid.Result). Held n r.session r.tables) (sym does.result) (held_again u.held (take size d)) in
    record {
      forward = forward;
      within = within;
      place = does.place;
      held = held;
      stops =
          λ e.
          let refusal = step_refused n s' t' (take size d) (sym (ap (λ (r : laid.Result). r.answer) does.result) ∙ ap answer_by e) in
          rw (ap (λ (r : laid.Result). r.tables) (does.result ∙ refusal))
          (sym (each_stops (stepped n) k c s' t' (take size d) (records_of (drop size d)) refusal) ∙ rest);
      goes =
          λ is makes.
          let e = ap (λ (y : Result Change Refusal). result_by s' y t'') is ∙ makes in
          let long : length (take size d) ≡ size = length-take-le size d left.within in
          let on = rw long at (sym (each_on (stepped n) k c s' t' (take size d) (records_of (drop size d)) (sym does.result ∙ e)) ∙ rest) in
          record {
            held = subst (λ (r : laid.Result). Held n r.session r.tables) e held;
            few = omega (arith, u.few, forward);
            within = within;
            same = rw (drop-drop size c b) at on;
          };
    }

-- ---- the call

module _ (n : ℕ) (s : Session) (t : Tables) (b : List ℕ) where
  pub run_refused : (k : ℕ) → entry n s t ≡ fail k → totals 0 0 k s t ≡ run n s t b
  unfolding run
  run_refused k e = rw e

  pub run_stepped : entry n s t ≡ pass → length s.marks ≡ most_levels → (r : Totals)
      → r ≡ each_by (stepped n) 0 0 s (named n t) (records_of b) → beside_totals (excess n t) r ≡ run n s t b
  unfolding run
  run_stepped e m r f =
      let whole = each_beside n 0 0 s (named n t) (excess n t) (records_of b) (entry_held n s t e m) in
      ap (beside_totals (excess n t)) f ∙ sym whole ∙ rw (restored n t, e)
