-- Each call's contract allows one outcome only: any two that meet it have the same answer, session and lent cells. The predicates are those that
-- the functions promise.
use mathlib.Core.Path.{◌≡◌, refl, sym, ap, ◌∙◌}
use mathlib.Core.Bool.{Bool}
use mathlib.Core.List.{List, [], ◌∷◌}
use Prim.Native.Nat.{ℕ}
use lib.ListN.{get_or}
use Rattle.std.specs.Prelude.{Result, Ok, Err, Option, Some, None}
use Rattle.ledger.specs.Record as ledger
use Rattle.ledger.specs.Standing.{refuted, not_refuted}
use Rattle.session.specs.declared.state.Session.{Session}
use Rattle.session.specs.declared.answers.Refusal.{Refusal}
use Rattle.session.specs.declared.answers.Refusal.TheVariants.{ShortTable, NotInOrder, WrongLength, UnknownMark, CountOutside, IllegalContent, NoRoom, NotInForce, NotAscending, NotAllowed, ConditionFails, LineTooLong, NoLevelOpen}
use Rattle.session.specs.declared.answers.Made.{Made}
use Rattle.session.specs.declared.answers.Made.TheVariants as Mades
use Rattle.session.specs.declared.start.Begun.{Begun}
use Rattle.session.specs.Cells.{Tables}
use Rattle.session.specs.Answers.{number_of, made_of, answer_of, finding_of}
use Rattle.session.specs.Calls.{Started, started, not_started, Beginning, start_of, beginning_of, Starts, Stands, stands, no_standing, stands_of, Tells}
use Rattle.checker.specs.declared.keep.Fed.{Fed}
use Rattle.stream.specs.declared.Ran.{Ran}
use Rattle.laid.specs.Result as laid
use Rattle.checker.specs.Feed.{result_of, Feeds}
use Rattle.stream.specs.Run.{Totals, stop_number, totals_of, Runs}
use Rattle.pieces.specs.declared.Next.{Next}
use Rattle.pieces.specs.declared.Next.TheVariants.{GoesOn, Decided}
use Rattle.pieces.specs.declared.Progress.{Progress}
use Rattle.pieces.specs.declared.Judged.{Judged}
use Rattle.pieces.specs.Step as pieces
use Rattle.pieces.specs.Step.{goes_on, decided, next_of, step_of, Judges}
use Rattle.zarnowiej.specs.declared.plain.Session.{Session as PlainSession}
use Rattle.zarnowiej.specs.declared.plain.Begun.{Begun as PlainBegun}
use Rattle.zarnowiej.specs.declared.plain.Fed.{Fed as PlainFed}
use Rattle.zarnowiej.specs.declared.plain.Ran.{Ran as PlainRan}
use Rattle.zarnowiej.specs.declared.plain.Stands.{Stands as PlainStands}
use Rattle.zarnowiej.specs.Crossing.{Left, left, StartCrosses, FeedCrosses, RunCrosses, StandingCrosses}

-- ---- from the numbers and values of the specification back to the code's answers

-- what has a way back tells its arguments apart
apart : {A B : Type 0} (to : A → B) (back : B → A) → ((x : A) → back (to x) ≡ x) → {x y : A} → to x ≡ to y → x ≡ y
apart to back known {x} {y} e = sym (known x) ∙ ap back e ∙ known y

verdicts : List (Result (Unit {0}) Refusal)
verdicts =
    Ok tt
    ∷ Err ShortTable
    ∷ Err NotInOrder
    ∷ Err WrongLength
    ∷ Err UnknownMark
    ∷ Err CountOutside
    ∷ Err IllegalContent
    ∷ Err NoRoom
    ∷ Err NotInForce
    ∷ Err NotAscending
    ∷ Err NotAllowed
    ∷ Err ConditionFails
    ∷ Err LineTooLong
    ∷ Err NoLevelOpen
    ∷ []

-- of the number that stops a run, where 0 is no refusal's
abbrev verdict : ℕ → Result (Unit {0}) Refusal
verdict k = get_or verdicts k (Ok tt)

verdict_known : (v : Result (Unit {0}) Refusal) → verdict (stop_number (finding_of v)) ≡ v
unfolding verdicts
verdict_known (Ok tt) = refl
verdict_known (Err ShortTable) = refl
verdict_known (Err NotInOrder) = refl
verdict_known (Err WrongLength) = refl
verdict_known (Err UnknownMark) = refl
verdict_known (Err CountOutside) = refl
verdict_known (Err IllegalContent) = refl
verdict_known (Err NoRoom) = refl
verdict_known (Err NotInForce) = refl
verdict_known (Err NotAscending) = refl
verdict_known (Err NotAllowed) = refl
verdict_known (Err ConditionFails) = refl
verdict_known (Err LineTooLong) = refl
verdict_known (Err NoLevelOpen) = refl

abbrev failure : Result (Unit {0}) Refusal → Refusal
failure (Ok u) = ShortTable
failure (Err r) = r

abbrev refusal : ℕ → Refusal
refusal k = failure (verdict k)

refusal_known : (r : Refusal) → refusal (number_of r) ≡ r
refusal_known r = ap failure (verdict_known (Err r))

abbrev made : ledger.Made → Made
made (ledger.form f) = Mades.Form f
made (ledger.line i) = Mades.Line i
made (ledger.level k) = Mades.Level k

made_known : (m : Made) → made (made_of m) ≡ m
made_known (Mades.Form f) = refl
made_known (Mades.Line i) = refl
made_known (Mades.Level k) = refl

abbrev answer : ledger.Answer → Result Made Refusal
answer (ledger.accepted m) = Ok (made m)
answer (ledger.refused k) = Err (refusal k)

answer_known : (a : Result Made Refusal) → answer (answer_of a) ≡ a
answer_known (Ok m) = ap (λ (x : Made). Ok x) (made_known m)
answer_known (Err r) = ap (λ (x : Refusal). Err x) (refusal_known r)

abbrev beginning : Started → Result (Unit {0}) Refusal
beginning started = Ok tt
beginning (not_started k) = Err (refusal k)

beginning_known : (b : Result (Unit {0}) Refusal) → beginning (start_of b) ≡ b
beginning_known (Ok tt) = refl
beginning_known (Err r) = ap (λ (x : Refusal). Err x) (refusal_known r)

abbrev standing_by : Stands → Result (Option ℕ) Refusal
standing_by (stands (refuted i)) = Ok (Some i)
standing_by (stands not_refuted) = Ok None
standing_by (no_standing k) = Err (refusal k)

standing_known : (r : Result (Option ℕ) Refusal) → standing_by (stands_of r) ≡ r
standing_known (Ok (Some i)) = refl
standing_known (Ok None) = refl
standing_known (Err r) = ap (λ (x : Refusal). Err x) (refusal_known r)

abbrev next : pieces.Next → Next
next (goes_on kept) = GoesOn kept
next (decided stop) = Decided (verdict stop)

next_known : (r : Next) → next (next_of r) ≡ r
next_known (GoesOn kept) = refl
next_known (Decided stop) = ap (λ (v : Result (Unit {0}) Refusal). Decided v) (verdict_known stop)

-- ---- the calls

pub start_determined : (u : Tables) (b b' : Begun) (t t' : Tables) → Starts u b t → Starts u b' t' → (b ≡ b') × (t ≡ t')
start_determined u b b' t t' e e' =
    let same : beginning_of b t ≡ beginning_of b' t' = e ∙ sym e' in
    let answers = apart start_of beginning beginning_known (ap (λ (r : Beginning). r.answer) same) in
    (λ i. record { session = (same i).session; start = answers i }, ap (λ (r : Beginning). r.tables) same)

module _ (s : Session) (u : Tables) where
  -- feed, and feed by lending, which promises the same
  pub feed_determined : (b : List ℕ) (r r' : Fed) (t t' : Tables) → Feeds s u b r t → Feeds s u b r' t' → (r ≡ r') × (t ≡ t')
  feed_determined b r r' t t' e e' =
      let same : result_of r t ≡ result_of r' t' = e ∙ sym e' in
      let answers = apart answer_of answer answer_known (ap (λ (x : laid.Result). x.answer) same) in
      (λ i. record { session = (same i).session; answer = answers i }, ap (λ (x : laid.Result). x.tables) same)

  -- the lent call, whose session is the one that it altered
  pub lent_determined : (b : List ℕ) (a a' : Result Made Refusal) (q q' : Session) (t t' : Tables)
      → Feeds s u b (record { session = q; answer = a }) t
      → Feeds s u b (record { session = q'; answer = a' }) t'
      → (a ≡ a') × (q ≡ q') × (t ≡ t')
  lent_determined b a a' q q' t t' e e' =
      let (same, cells) = feed_determined b (record { session = q; answer = a }) (record { session = q'; answer = a' }) t t' e e' in
      (ap (λ (r : Fed). r.answer) same, ap (λ (r : Fed). r.session) same, cells)

  pub run_determined : (b : List ℕ) (r r' : Ran) (t t' : Tables) → Runs s u b r t → Runs s u b r' t' → (r ≡ r') × (t ≡ t')
  run_determined b r r' t t' e e' =
      let same : totals_of r t ≡ totals_of r' t' = e ∙ sym e' in
      let stops = apart (λ (v : Result (Unit {0}) Refusal). stop_number (finding_of v)) verdict verdict_known (ap (λ (x : Totals). x.stop) same) in
      (λ i. record { session = (same i).session; records = (same i).records; bytes = (same i).bytes; stop = stops i }, ap (λ (x : Totals). x.tables) same)

  pub standing_determined : (r r' : Result (Option ℕ) Refusal) → Tells s u r → Tells s u r' → r ≡ r'
  standing_determined r r' e e' = apart stands_of standing_by standing_known (e ∙ sym e')

pub piece_determined : (p : Progress) (u : Tables) (buffer : List ℕ) (count : ℕ) (last : Bool) (r r' : Judged) (t t' : Tables) (x x' : List ℕ)
    → Judges p u buffer count last r t x
    → Judges p u buffer count last r' t' x'
    → (r ≡ r') × (t ≡ t') × (x ≡ x')
piece_determined p u buffer count last r r' t t' x x' e e' =
    let same : step_of r t x ≡ step_of r' t' x' = e ∙ sym e' in
    let nexts = apart next_of next next_known (ap (λ (q : pieces.Step). q.next) same) in (
      λ i. record { progress = record { session = (same i).session; records = (same i).records; bytes = (same i).bytes }; next = nexts i },
      ap (λ (q : pieces.Step). q.tables) same,
      ap (λ (q : pieces.Step). q.buffer) same,
    )

-- ---- the exported calls

left_same : {A : Type 0} (x : Left A) (r r' : A) (t t' : Tables) → left r t ≡ x → left r' t' ≡ x → (r ≡ r') × (t ≡ t')
left_same {A} x r r' t t' e e' = (ap (λ (q : Left A). q.given) (e ∙ sym e'), ap (λ (q : Left A). q.tables) (e ∙ sym e'))

pub exported_start_determined : (u : Tables) (r r' : PlainBegun) (t t' : Tables) → StartCrosses u r t → StartCrosses u r' t' → (r ≡ r') × (t ≡ t')
exported_start_determined u r r' t t' = left_same _ r r' t t'

module _ (s : PlainSession) (u : Tables) where
  pub exported_feed_determined : (b : List ℕ) (r r' : PlainFed) (t t' : Tables) → FeedCrosses s u b r t → FeedCrosses s u b r' t'
      → (r ≡ r') × (t ≡ t')
  exported_feed_determined b r r' t t' = left_same _ r r' t t'

  pub exported_run_determined : (b : List ℕ) (r r' : PlainRan) (t t' : Tables) → RunCrosses s u b r t → RunCrosses s u b r' t'
      → (r ≡ r') × (t ≡ t')
  exported_run_determined b r r' t t' = left_same _ r r' t t'

  pub exported_standing_determined : (r r' : PlainStands) → StandingCrosses s u r → StandingCrosses s u r' → r ≡ r'
  exported_standing_determined r r' e e' = e ∙ sym e'
