-- On cells, not only on the ledger: an accepted WD gives back the session and every cell that stood before its OP; the standing tells the lowest
-- line that is empty; and every line in force is true wherever the premises up to it are.
use mathlib.Core.Path.{◌≡◌, refl, sym, ap, subst, ◌∙◌}
use mathlib.Core.List.{List, [], ◌∷◌, ◌++◌, map, reverse, reverse_aux, append_assoc, reverse_aux-eq, reverse-cons, reverse_aux-append}
use Prim.Native.Nat.{ℕ, suc, ◌+◌, ◌≤◌, ◌<◌}
use native.Mathlib.Omega.{arith}
use lib.Dec.{T, eqb, eqb→eq}
use lib.ListN.{length}
use Rattle.ints.specs.Tests.{up_to}
use Rattle.ints.proofs.Bools.{never, implies}
use Rattle.ints.proofs.Lists.{length_up_to}
use Rattle.rows.specs.Truth.{Integers}
use Rattle.ledger.specs.Ledger.{Line, premise, no_line, nth_line}
use Rattle.ledger.specs.Record.{is_accepted}
use Rattle.ledger.specs.Apply.{Finding, pass, fail}
use Rattle.ledger.specs.Bytes.{apply_bytes}
use Rattle.ledger.specs.Standing.{refuted, not_refuted}
use Rattle.ledger.specs.Run.{fed_all}
use Rattle.ledger.specs.Standing as ledger
use Rattle.ledger.specs.Truth.{line_true}
use Rattle.ledger.specs.Premises.{as_premise}
use Rattle.ledger.specs.History.{after_bytes}
use Rattle.ledger.specs.Kept.{bytes_in_force}
use Rattle.ledger.specs.Kept as history
use Rattle.ledger.proofs.LegalLaws.{legal_after_bytes}
use Rattle.ledger.proofs.LinesTrue.{Good, good_after_bytes, good_line_true}
use Rattle.ledger.proofs.Restored.{withdrawal_restores as ledger-restores}
use Rattle.ledger.proofs.RunLaws.{fed_after}
use Rattle.ledger.proofs.StandingLaws.{standing_lowest, standing_none}
use Rattle.session.specs.declared.state.Session.{Session}
use Rattle.session.specs.Cells.{Tables, named, excess, origin_at, line_at, ledger_of}
use Rattle.session.specs.Calls.{entry, started, start, stands, stands_by, standing}
use Rattle.laid.specs.Laid.{session_of}
use Rattle.laid.proofs.ByIndex.{get_or_up_to, take_up_to, all_up_to}
use Rattle.laid.specs.Result.{Result}
use Rattle.checker.specs.Feed.{feed}
use Rattle.pieces.proofs.RunLaid.{feed_laid}
use Rattle.demands.specs.History.{Call, fed, State, begun, called, called_all, history, now}
use Rattle.demands.specs.Level.{StaysOpen, ClosedLevel}
use Rattle.demands.proofs.OnLedger.{laid, fed_laid}
use Rattle.demands.proofs.WithdrawalExact.{history_laid, read_in_force}

-- ---- withdrawal gives back what stood before

module _ (n : ℕ) where
  -- one record more at the beginning
  stays_before : (k : ℕ) (h : List (List ℕ)) (x : List ℕ) (ys : List (List ℕ)) → k < length (after_bytes n (x ∷ h)).marks
      → history.StaysOpen n k (x ∷ h) ys → history.StaysOpen n k h (ys ++ (x ∷ []))
  unfolding history.StaysOpen
  stays_before k h x [] more s = (more, tt)
  stays_before k h x (y ∷ ys) more s = (rw (append_assoc ys (x ∷ []) h) s.0, stays_before k h x ys more s.1)

  module _ (x : Tables) where
    -- the ledger of a history, laid out
    abbrev at : List (List ℕ) → State
    at h = laid n x (after_bytes n h)

    one : (h : List (List ℕ)) (b : List ℕ) → called n (at h) (fed b) ≡ at (b ∷ h)
    unfolding called_all fed_all after_bytes
    one h b = fed_laid n x (after_bytes n h) (legal_after_bytes n h) (b ∷ [])

    many : (h bs : List (List ℕ)) → called_all n (at h) (map fed bs) ≡ at (reverse_aux bs h)
    many h bs = fed_laid n x (after_bytes n h) (legal_after_bytes n h) bs ∙ ap (laid n x) (fed_after n h bs)

    answers : (h : List (List ℕ)) (b : List ℕ) → is_accepted (feed n (at h).session (at h).tables b).answer
        → is_accepted (apply_bytes n (after_bytes n h) b).answer
    answers h b = subst (λ (r : Result). is_accepted r.answer) (feed_laid n x (after_bytes n h) (legal_after_bytes n h) b)

    stays_back : (k : ℕ) (h xs : List (List ℕ)) → StaysOpen n k (at h) xs → history.StaysOpen n k h (reverse xs)
    unfolding StaysOpen session_of
    stays_back k h [] s = unfold history.StaysOpen in tt
    stays_back k h (b ∷ xs) s =
        let more : k < length (after_bytes n (b ∷ h)).marks = subst (λ (q : State). k < q.session.«open») (one h b) s.0 in
        let rest = stays_back k (b ∷ h) xs (subst (λ (q : State). StaysOpen n k q xs) (one h b) s.1) in
        subst (history.StaysOpen n k h) (sym (reverse-cons b xs)) (stays_before k h b (reverse xs) more rest)

    closed_back : (h : List (List ℕ)) (o : List ℕ) (xs : List (List ℕ)) (w : List ℕ) → ClosedLevel n (at h) o xs w
        → history.ClosedLevel n h o (reverse xs) w
    unfolding session_of
    closed_back h o xs w c =
        let to : called_all n (at h) (map fed (o ∷ xs)) ≡ at (reverse xs ++ (o ∷ h)) = many h (o ∷ xs) ∙ ap at (reverse_aux-eq xs (o ∷ h)) in
        record {
          opens = c.opens;
          opening = answers h o c.opening;
          stays = stays_back (length (after_bytes n h).marks) (o ∷ h) xs (subst (λ (q : State). StaysOpen n (at h).session.«open» q xs) (one h o) c.stays);
          last = subst (λ (q : State). q.session.«open» ≡ (at h).session.«open» + 1) to c.last;
          closes = c.closes;
          closing =
              answers (reverse xs ++ (o ∷ h)) w
              (subst (λ (q : State). is_accepted (feed n q.session q.tables w).answer) to c.closing);
        }

    restored_laid : (h : List (List ℕ)) (o : List ℕ) (xs : List (List ℕ)) (w : List ℕ) → ClosedLevel n (at h) o xs w
        → called_all n (at h) (map fed (o ∷ (xs ++ (w ∷ [])))) ≡ at h
    restored_laid h o xs w c =
        many h (o ∷ (xs ++ (w ∷ [])))
        ∙ ap at (reverse_aux-append xs (w ∷ []) (o ∷ h) ∙ ap (λ (r : List (List ℕ)). w ∷ r) (reverse_aux-eq xs (o ∷ h)))
        ∙ ap (laid n x) (ledger-restores n h o (reverse xs) w (closed_back h o xs w c))

-- after any calls since a start that was accepted
pub withdrawal_restores : (n : ℕ) (t : Tables) → (start n t).answer ≡ started → (calls : List Call) (o : List ℕ) (xs : List (List ℕ)) (w : List ℕ) →
    let before = called_all n (begun n t) calls in
    ClosedLevel n before o xs w → called_all n before (map fed (o ∷ (xs ++ (w ∷ [])))) ≡ before
withdrawal_restores n t ok calls o xs w =
    subst (λ (q : State). ClosedLevel n q o xs w → called_all n q (map fed (o ∷ (xs ++ (w ∷ [])))) ≡ q) (sym (history_laid n t ok calls))
    (restored_laid n (excess n t) (history n t calls) o xs w)

-- ---- the lines, as they are read

lines_read : (n : ℕ) (s : Session) (c : Tables) → (ledger_of n s c).lines ≡ up_to s.lines (line_at c)
unfolding ledger_of
lines_read n s c = refl

-- ---- the standing, of any session and any tables

module _ (n : ℕ) (s : Session) (t : Tables) where
  abbrev literals : ℕ → List ℕ
  literals i = (line_at (named n t) i).literals

  stood : (q : ledger.Standing) → standing n s t ≡ stands q → ledger.standing (ledger_of n s (named n t)) ≡ q
  unfolding standing
  stood q e = by (entry n s t) e
    where
      by : (f : Finding) → stands_by f n s t ≡ stands q → ledger.standing (ledger_of n s (named n t)) ≡ q
      by pass e = cc
      by (fail k) e = never (cc)

  read : (i : ℕ) → i < s.lines → nth_line (ledger_of n s (named n t)).lines i ≡ literals i
  read i h = rw (lines_read n s (named n t)) (ap (λ (x : Line). x.literals) (get_or_up_to s.lines (line_at (named n t)) i no_line h))

  count : length (ledger_of n s (named n t)).lines ≡ s.lines
  count = rw (lines_read n s (named n t)) (length_up_to s.lines (line_at (named n t)))

  filled : (i : ℕ) → i < s.lines → 0 < length (nth_line (ledger_of n s (named n t)).lines i) → literals i ≡ [] → ⊥
  filled i h some e = absurd (omega (arith, some, ap length (read i h ∙ e)))

  -- refuted by line i: it is empty, and none below it
  pub lowest_empty_lem : (i : ℕ) → standing n s t ≡ stands (refuted i)
      → (i < s.lines) × ((line_at (named n t) i).literals ≡ []) × ((j : ℕ) → j < i → (line_at (named n t) j).literals ≡ [] → ⊥)
  lowest_empty_lem i e =
      let (inside, empty, below) = standing_lowest (ledger_of n s (named n t)) i (stood (refuted i) e) in
      let h : i < s.lines = omega (arith, inside, count) in
      (h, sym (read i h) ∙ empty, λ j l. filled j (omega arith) (below j l))

  -- not refuted: no line is empty
  pub none_empty : standing n s t ≡ stands not_refuted → (j : ℕ) → j < s.lines → (line_at (named n t) j).literals ≡ [] → ⊥
  none_empty e j h = filled j h (standing_none (ledger_of n s (named n t)) (stood not_refuted e) j (omega (arith, count)))

-- ---- every line in force is true wherever the premises up to it are

pub line_true_lem : (n : ℕ) (t : Tables) → (start n t).answer ≡ started → (calls : List Call) →
    let q = called_all n (begun n t) calls in
    let c = named n q.tables in
    let forms = (ledger_of n q.session c).forms in
    (ρ : Integers) (i : ℕ) → i < q.session.lines
    → ((j : ℕ) → j ≤ i → origin_at c.lines j ≡ premise → T (line_true ρ forms (line_at c j)))
    → T (line_true ρ forms (line_at c i))
line_true_lem n t ok calls ρ i h premises =
    let q = now n t calls in
    let c = named n q.tables in
    let l = ledger_of n q.session c in
    let m = q.session.lines in
    let good : Good n l = subst (Good n) (sym (read_in_force n t ok calls)) (good_after_bytes n (bytes_in_force n (history n t calls))) in
    let same = lines_read n q.session c in
    let given =
    all_up_to (as_premise ρ l.forms) (suc i) (line_at c)
    (λ j k. implies (eqb (origin_at c.lines j) premise) _ (λ e. premises j (omega arith) (eqb→eq (origin_at c.lines j) premise e))) in
    rw (get_or_up_to m (line_at c) i no_line h) at
    (rw same at
    (good_line_true n l good i ρ (rw same (omega (arith, length_up_to m (line_at c)))) (rw (same, take_up_to (suc i) m (line_at c) (omega arith)) given)))
