-- Every call, not feed alone: refused, it leaves session and tables as they stood; what was in order is in order again; and the excess of the
-- tables stays. The predicates are those that the functions promise. Standing and its exported call are lent their tables to read.
use mathlib.Core.Path.{◌≡◌, refl, sym, ap, subst, ◌∙◌}
use mathlib.Core.Bool.{Bool, true, false}
use mathlib.Core.List.{List, [], ◌∷◌}
use Prim.Native.Nat.{ℕ, suc, ◌+◌, ◌≤◌, ◌<◌}
use native.Mathlib.Nat.{sub-zero}
use native.Mathlib.Omega.{arith}
use lib.Dec.{leb}
use lib.ListN.{length, take, length-map}
use Rattle.std.specs.Prelude.{Result, Ok, Err}
use Rattle.ints.proofs.Bools.{never}
use Rattle.rows.specs.Limits.{unknowns}
use Rattle.ledger.specs.Limits.{most_levels}
use Rattle.ledger.specs.Ledger.{fresh}
use Rattle.ledger.specs.Record.{form, line, level, Answer, accepted, refused}
use Rattle.ledger.specs.Checks.{◌else◌}
use Rattle.ledger.specs.Apply.{Finding, pass, fail, finding}
use Rattle.ledger.specs.Split.{records_of}
use Rattle.ledger.proofs.LegalLaws.{legal_fresh}
use Rattle.session.specs.declared.state.Session.{Session}
use Rattle.session.specs.declared.answers.Refusal.{Refusal}
use Rattle.session.specs.declared.answers.Made.{Made}
use Rattle.session.specs.declared.start.Begun.{Begun}
use Rattle.session.specs.Limits.{form_table, pool_table, line_table}
use Rattle.session.specs.Cells.{Tables, named, excess, fresh_session}
use Rattle.session.specs.InOrder.{sizes}
use Rattle.session.specs.Answers.{number_of, answer_of, finding_of}
use Rattle.session.specs.Calls.{entry, Started, started, not_started, Beginning, zero_tables, begun_by, start, start_of, Starts}
use Rattle.laid.specs.Laid.{padded, forms_laid, pool_laid, lines_laid, tables_of, session_of}
use Rattle.laid.specs.Held.{Held}
use Rattle.laid.specs.Result as laid
use Rattle.checker.specs.declared.keep.Fed.{Fed}
use Rattle.checker.specs.Feed.{stepped, feed, Feeds}
use Rattle.checker.proofs.Beside.{laid_held, named_beside, excess_beside, entry_beside, held_again}
use Rattle.checker.proofs.Feeding.{entry_held}
use Rattle.checker.proofs.FeedLaws.{refused_unchanged, ordered_again, excess_stays}
use Rattle.stream.specs.declared.Ran.{Ran}
use Rattle.stream.specs.Run.{Totals, totals, each_by, run, stop_number, Runs}
use Rattle.stream.proofs.Running.{beside_totals, run_refused, run_stepped}
use Rattle.pieces.specs.declared.Progress.{Progress}
use Rattle.pieces.specs.declared.Judged.{Judged}
use Rattle.pieces.specs.Step.{Step, step, Judges}
use Rattle.zarnowiej.specs.declared.plain.Session.{Session as PlainSession}
use Rattle.zarnowiej.specs.declared.plain.Begun.{Begun as PlainBegun}
use Rattle.zarnowiej.specs.declared.plain.Fed.{Fed as PlainFed}
use Rattle.zarnowiej.specs.declared.plain.Ran.{Ran as PlainRan}
use Rattle.zarnowiej.specs.Crossing.{mark_in, session_in, session_out, Left, fed_by, begun_by as plain_begun, run_out, StartCrosses, FeedCrosses, RunCrosses}
use Rattle.zarnowiej.proofs.RoundTrip.{out_in, in_out}
use Rattle.demands.specs.History.{State}
use Rattle.demands.specs.Keeping.{RefusedBy, Keeps, Begins}
use Rattle.demands.proofs.OnLedger.{start_laid}

-- the same of a refusal that is told otherwise
told : {n : ℕ} {R R' : Type 0} {s s' : Session} {t t' : Tables} → (R' → R) → Keeps n R s t s' t' → Keeps n R' s t s' t'
told f k = record { unchanged = λ r. k.unchanged (f r); ordered = k.ordered; beyond = k.beyond }

-- ---- feed

module _ (n : ℕ) (s : Session) (t : Tables) (b : List ℕ) (marks : length s.marks ≡ most_levels) where
  feed_by : Keeps n ((k : ℕ) × ((feed n s t b).answer ≡ refused k)) s t (feed n s t b).session (feed n s t b).tables
  feed_by =
      record {
        unchanged =
            λ r.
            let e = refused_unchanged n s t b r.0 r.1 in
            (ap (λ (x : laid.Result). x.session) e, ap (λ (x : laid.Result). x.tables) e);
        ordered = ordered_again n s t b marks;
        beyond = excess_stays n s t b marks;
      }

-- ---- run

module _ (call : Session → Tables → List ℕ → laid.Result) (k c : ℕ) (s : Session) (t : Tables) where
  -- it goes on behind a record, or stops at it
  on_or_stops : (P : Totals → Type 0) (b : List ℕ) (bs : List (List ℕ))
      → P (each_by call (k + 1) (c + length b) (call s t b).session (call s t b).tables bs)
      → ((j : ℕ) → P (totals k c j s t))
      → P (each_by call k c s t (b ∷ bs))
  unfolding each_by
  on_or_stops P b bs on stops = go (call s t b).answer
    where
      go : (a : Answer)
          → P (elim a [
            | accepted m ↦ each_by call (k + 1) (c + length b) (call s t b).session (call s t b).tables bs
            | refused j ↦ totals k c j s t
          ])
      go (accepted m) = on
      go (refused j) = stops j

-- records are counted on
each_counts : (call : Session → Tables → List ℕ → laid.Result) (k c : ℕ) (s : Session) (t : Tables) (bs : List (List ℕ))
    → k ≤ (each_by call k c s t bs).records
each_counts call k c s t [] = unfold each_by in omega arith
each_counts call k c s t (b ∷ bs) =
    on_or_stops call k c s t (λ r. k ≤ r.records) b bs
    (omega (arith, each_counts call (k + 1) (c + length b) (call s t b).session (call s t b).tables bs))
    (λ j. omega arith)

-- where none is counted, none was accepted
none_accepted : (call : Session → Tables → List ℕ → laid.Result) (c : ℕ) (s : Session) (t : Tables) (bs : List (List ℕ))
    → (each_by call 0 c s t bs).records ≡ 0 → ((each_by call 0 c s t bs).session ≡ s) × ((each_by call 0 c s t bs).tables ≡ t)
none_accepted call c s t [] = λ e. unfold each_by in (refl, refl)
none_accepted call c s t (b ∷ bs) =
    on_or_stops call 0 c s t (λ r. r.records ≡ 0 → (r.session ≡ s) × (r.tables ≡ t)) b bs
    (λ e. absurd (omega (arith, each_counts call 1 (c + length b) (call s t b).session (call s t b).tables bs)))
    (λ j e. (refl, refl))

each_held : {n : ℕ} (k c : ℕ) {s : Session} {t : Tables} → Held n s t → (bs : List (List ℕ)) →
    let r = each_by (stepped n) k c s t bs in Held n r.session r.tables
each_held k c h [] = unfold each_by in h
each_held {n} k c {s} {t} h (b ∷ bs) =
    on_or_stops (stepped n) k c s t (λ r. Held n r.session r.tables) b bs (each_held (k + 1) (c + length b) (held_again h b) bs) (λ j. h)

module _ (n : ℕ) (s : Session) (t : Tables) (b : List ℕ) (marks : length s.marks ≡ most_levels) where
  -- the run over the named cells
  inner : Totals
  inner = each_by (stepped n) 0 0 s (named n t) (records_of b)

  inner_held : entry n s t ≡ pass → Held n inner.session inner.tables
  unfolding inner
  inner_held e = each_held 0 0 (entry_held n s t e marks) (records_of b)

  inner_beside : entry n s t ≡ pass → beside_totals (excess n t) inner ≡ run n s t b
  unfolding inner
  inner_beside e = run_stepped n s t b e marks inner refl

  run_by : Keeps n ((run n s t b).records ≡ 0) s t (run n s t b).session (run n s t b).tables
  run_by =
      record {
        unchanged = none (entry n s t) refl;
        ordered =
            λ e.
            subst (λ (r : Totals). entry n r.session r.tables ≡ pass) (inner_beside e) (entry_beside (inner_held e) (excess n t));
        beyond = stays (entry n s t) refl;
      }
    where
      each : entry n s t ≡ pass → run n s t b ≡ each_by (feed n) 0 0 s t (records_of b)
      each e = unfold run in rw e

      none : (f : Finding) → entry n s t ≡ f → (run n s t b).records ≡ 0 → ((run n s t b).session ≡ s) × ((run n s t b).tables ≡ t)
      none pass e h = rw (each e) (none_accepted (feed n) 0 s t (records_of b) (rw (each e) at h))
      none (fail k) e h =
          let same = sym (run_refused n s t b k e) in
          (ap (λ (r : Totals). r.session) same, ap (λ (r : Totals). r.tables) same)

      stays : (f : Finding) → entry n s t ≡ f → excess n (run n s t b).tables ≡ excess n t
      stays pass e = subst (λ (r : Totals). excess n r.tables ≡ excess n t) (inner_beside e) (excess_beside (inner_held e) (excess n t))
      stays (fail k) e = ap (λ (r : Totals). excess n r.tables) (sym (run_refused n s t b k e))

-- ---- the calls on sessions by value, which have eight marks

module _ (s : Session) (t : Tables) (marks : length s.marks ≡ most_levels) where
  -- feed, and feed by lending, which promises the same
  pub feed_keeps : (b : List ℕ) (r : Fed) (t' : Tables) → Feeds s t b r t' → Keeps unknowns (RefusedBy r.answer) s t r.session t'
  feed_keeps b r t' meets =
      told (λ q. (number_of q.0, ap answer_of q.1))
      (subst (λ (x : laid.Result). Keeps unknowns ((k : ℕ) × (x.answer ≡ refused k)) s t x.session x.tables) (sym meets) (feed_by unknowns s t b marks))

  -- the lent call, whose session is the one that it altered
  pub lent_keeps : (b : List ℕ) (a : Result Made Refusal) (s' : Session) (t' : Tables) → Feeds s t b (record { session = s'; answer = a }) t'
      → Keeps unknowns (RefusedBy a) s t s' t'
  lent_keeps b a s' t' = feed_keeps b (record { session = s'; answer = a }) t'

  -- a run is refused as a whole where it accepts nothing
  pub run_keeps : (b : List ℕ) (r : Ran) (t' : Tables) → Runs s t b r t' → Keeps unknowns (r.records ≡ 0) s t r.session t'
  run_keeps b r t' meets =
      subst (λ (x : Totals). Keeps unknowns (x.records ≡ 0) s t x.session x.tables) (sym meets) (run_by unknowns s t b marks)

-- it does so where 1 or 2 refuses it
pub run_first : (s : Session) (t : Tables) (b : List ℕ) (r : Ran) (t' : Tables) → Runs s t b r t' → (k : ℕ) → entry unknowns s t ≡ fail k
    → (r.records ≡ 0) × (r.bytes ≡ 0) × (stop_number (finding_of r.stop) ≡ k)
run_first s t b r t' meets k e =
    let same = meets ∙ sym (run_refused unknowns s t b k e) in
    (ap (λ (x : Totals). x.records) same, ap (λ (x : Totals). x.bytes) same, ap (λ (x : Totals). x.stop) same)

-- a piece, which is a run over what the buffer holds
pub piece_keeps : (p : Progress) (t : Tables) (buffer : List ℕ) (count : ℕ) (last : Bool) (r : Judged) (t' : Tables) (x : List ℕ)
    → length p.session.marks ≡ most_levels → Judges p t buffer count last r t' x
    → Keeps unknowns ((run unknowns p.session t (take count buffer)).records ≡ 0) p.session t r.progress.session t'
unfolding step
piece_keeps p t buffer count last r t' x marks meets =
    let held = take count buffer in
    subst (λ (q : Step). Keeps unknowns ((run unknowns p.session t held).records ≡ 0) p.session t q.session q.tables) (sym meets)
    (run_by unknowns p.session t held marks)

-- ---- start

module _ (n : ℕ) (t : Tables) where
  held_fresh : Held n (session_of fresh) (tables_of n fresh)
  held_fresh = laid_held n fresh (legal_fresh n)

  zero_laid : tables_of n fresh ≡ zero_tables n
  unfolding tables_of padded forms_laid pool_laid lines_laid
  zero_laid = rw sub-zero

  -- the number is that of the sizes, and not 0
  short_number : (a b c : Bool) (k : ℕ) → finding ((a else 1) ∷ (b else 1) ∷ (c else 1) ∷ []) ≡ fail k → 0 < k
  unfolding finding
  short_number true true true k e = never (cc)
  short_number true true false k e = let z : 1 ≡ k = cc in omega arith
  short_number true false c k e = let z : 1 ≡ k = cc in omega arith
  short_number false b c k e = let z : 1 ≡ k = cc in omega arith

  refused_start : (k : ℕ) → (start n t).answer ≡ not_started k → (start n t).tables ≡ t
  unfolding start
  refused_start k e = by (finding (sizes n t)) e
    where
      by : (f : Finding) → (begun_by f n t).answer ≡ not_started k → (begun_by f n t).tables ≡ t
      by pass e = never (cc)
      by (fail j) e = refl

  start_by : Begins n ((k : ℕ) × ((start n t).answer ≡ not_started k)) ((start n t).answer ≡ started) t (start n t).session (start n t).tables
  start_by =
      record {
        fresh = unfold start in first (finding (sizes n t));
        unchanged = λ r. refused_start r.0 r.1;
        zeros = zeros;
        ordered = λ e. subst (λ (q : State). entry n q.session q.tables ≡ pass) (sym (start_laid n t e)) (entry_beside held_fresh (excess n t));
        beyond = stays (finding (sizes n t)) refl;
      }
    where
      first : (f : Finding) → (begun_by f n t).session ≡ fresh_session
      first pass = refl
      first (fail k) = refl

      zeros : (start n t).answer ≡ started → named n (start n t).tables ≡ zero_tables n
      zeros e =
          subst (λ (q : State). named n q.tables ≡ zero_tables n) (sym (start_laid n t e)) (named_beside held_fresh (excess n t) ∙ zero_laid)

      stays : (f : Finding) → finding (sizes n t) ≡ f → excess n (start n t).tables ≡ excess n t
      stays pass e =
          let ok : (start n t).answer ≡ started = unfold start in rw e in
          subst (λ (q : State). excess n q.tables ≡ excess n t) (sym (start_laid n t ok)) (excess_beside held_fresh (excess n t))
      stays (fail k) e = unfold start in rw e

  start_number : (k : ℕ) → (start n t).answer ≡ not_started k → 0 < k
  unfolding start sizes
  start_number k e = short_number (leb (form_table n) (length t.forms)) (leb pool_table (length t.pool)) (leb line_table (length t.lines)) k (by (finding (sizes n t)) e)
    where
      by : (f : Finding) → (begun_by f n t).answer ≡ not_started k → f ≡ fail k
      by pass e = never (cc)
      by (fail j) e = let z : j ≡ k = cc in ap fail z

pub start_keeps : (t : Tables) (b : Begun) (t' : Tables) → Starts t b t'
    → Begins unknowns ((why : Refusal) × (b.start ≡ Err why)) (b.start ≡ Ok tt) t b.session t'
start_keeps t b t' meets =
    let k =
    subst (λ (x : Beginning). Begins unknowns ((k : ℕ) × (x.answer ≡ not_started k)) (x.answer ≡ started) t x.session x.tables) (sym meets)
    (start_by unknowns t) in
    record {
      fresh = k.fresh;
      unchanged = λ r. k.unchanged (number_of r.0, ap start_of r.1);
      zeros = λ e. k.zeros (ap start_of e);
      ordered = λ e. k.ordered (ap start_of e);
      beyond = k.beyond;
    }

-- ---- the exported calls

marks_in : (s : PlainSession) → length s.marks ≡ most_levels → length (session_in s).marks ≡ most_levels
marks_in s marks = length-map s.marks mark_in ∙ marks

-- what comes in unchanged was unchanged before it crossed
pub unchanged_across : (s s' : PlainSession) → session_in s' ≡ session_in s → s' ≡ s
unchanged_across s s' e = sym (in_out s') ∙ ap session_out e ∙ in_out s

-- the session that crosses out, taken in again
crossed : {n : ℕ} {R : Type 0} {s : Session} {t t' : Tables} (s' : Session) → Keeps n R s t s' t' → Keeps n R s t (session_in (session_out s')) t'
crossed {n} {R} {s} {t} {t'} s' = subst (λ (x : Session). Keeps n R s t x t') (sym (out_in s'))

module _ (s : PlainSession) (t : Tables) (marks : length s.marks ≡ most_levels) where
  -- `what` is 0 for a refusal
  pub exported_feed_keeps : (b : List ℕ) (r : PlainFed) (t' : Tables) → FeedCrosses s t b r t'
      → Keeps unknowns (r.what ≡ 0) (session_in s) t (session_in r.session) t'
  exported_feed_keeps b r t' meets =
      let f = feed unknowns (session_in s) t b in
      subst (λ (x : Left PlainFed). Keeps unknowns (x.given.what ≡ 0) (session_in s) t (session_in x.given.session) x.tables) (sym meets)
      (of f.answer f.session f.tables (feed_by unknowns (session_in s) t b (marks_in s marks)))
    where
      of : (a : Answer) (s' : Session) (t' : Tables) → Keeps unknowns ((k : ℕ) × (a ≡ refused k)) (session_in s) t s' t'
          → Keeps unknowns ((fed_by a (session_out s')).what ≡ 0) (session_in s) t (session_in (fed_by a (session_out s')).session) t'
      of (accepted (form f)) s' t' k = crossed s' (told (λ e. absurd (omega arith)) k)
      of (accepted (line i)) s' t' k = crossed s' (told (λ e. absurd (omega arith)) k)
      of (accepted (level j)) s' t' k = crossed s' (told (λ e. absurd (omega arith)) k)
      of (refused j) s' t' k = crossed s' (told (λ e. (j, refl)) k)

  pub exported_run_keeps : (b : List ℕ) (r : PlainRan) (t' : Tables) → RunCrosses s t b r t'
      → Keeps unknowns (r.records ≡ 0) (session_in s) t (session_in r.session) t'
  exported_run_keeps b r t' meets =
      let f = run unknowns (session_in s) t b in
      subst (λ (x : Left PlainRan). Keeps unknowns (x.given.records ≡ 0) (session_in s) t (session_in x.given.session) x.tables) (sym meets)
      (crossed f.session (run_by unknowns (session_in s) t b (marks_in s marks)))

pub exported_run_first : (s : PlainSession) (t : Tables) (b : List ℕ) (r : PlainRan) (t' : Tables) → RunCrosses s t b r t'
    → (k : ℕ) → entry unknowns (session_in s) t ≡ fail k → (r.records ≡ 0) × (r.bytes ≡ 0) × (r.stop ≡ k)
exported_run_first s t b r t' meets k e =
    let same = meets ∙ sym (ap run_out (run_refused unknowns (session_in s) t b k e)) in (
      ap (λ (x : Left PlainRan). x.given.records) same,
      ap (λ (x : Left PlainRan). x.given.bytes) same,
      ap (λ (x : Left PlainRan). x.given.stop) same,
    )

-- `refusal` is 0 where there is none
pub exported_start_keeps : (t : Tables) (r : PlainBegun) (t' : Tables) → StartCrosses t r t'
    → Begins unknowns ((k : ℕ) × (r.refusal ≡ suc k)) (r.refusal ≡ 0) t (session_in r.session) t'
exported_start_keeps t r t' meets =
    let b = start unknowns t in
    subst (λ (x : Left PlainBegun). Begins unknowns ((k : ℕ) × (x.given.refusal ≡ suc k)) (x.given.refusal ≡ 0) t (session_in x.given.session) x.tables)
    (sym meets) (of b.answer b.session b.tables (start_number unknowns t) (start_by unknowns t))
  where
    of : (a : Started) (s' : Session) (t' : Tables) → ((k : ℕ) → a ≡ not_started k → 0 < k)
        → Begins unknowns ((k : ℕ) × (a ≡ not_started k)) (a ≡ started) t s' t' →
        let x = plain_begun a (session_out s') in
        Begins unknowns ((k : ℕ) × (x.refusal ≡ suc k)) (x.refusal ≡ 0) t (session_in x.session) t'
    of started s' t' some k =
        record {
          fresh = out_in s' ∙ k.fresh;
          unchanged = λ r. absurd (omega (arith, r.1));
          zeros = λ e. k.zeros refl;
          ordered = λ e. rw (out_in s') (k.ordered refl);
          beyond = k.beyond;
        }
    of (not_started j) s' t' some k =
        record {
          fresh = out_in s' ∙ k.fresh;
          unchanged = λ r. k.unchanged (j, refl);
          zeros = λ e. absurd (omega (arith, some j refl));
          ordered = λ e. absurd (omega (arith, some j refl));
          beyond = k.beyond;
        }
