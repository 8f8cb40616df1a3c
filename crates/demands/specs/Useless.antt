-- Useless checkers: what a checker is, when it meets the contract of feed or of run, and five classes of which no member does.
use Rattle.std.specs.Prelude.{◌≡◌, cond, ℕ, ◌≤◌, T, eqb, length, take}
use mathlib.Core.List.{List, [], ◌∷◌, ◌++◌, map, flatten}
use Rattle.ints.specs.Tests.{any}
use Rattle.rows.specs.Truth.{Integers}
use Rattle.ledger.specs.Ledger.{Ledger}
use Rattle.ledger.specs.Record.{Answer, accepted, refused, is_accepted}
use Rattle.ledger.specs.Checks.{Check, checks}
use Rattle.ledger.specs.Apply.{pass, finding, Outcome, judged, done, made}
use Rattle.ledger.specs.Bytes.{shape, decode}
use Rattle.ledger.specs.Split.{records_of}
use Rattle.ledger.specs.Standing.{refuted}
use Rattle.ledger.specs.Carried.{forms_carried, lists_carried, satisfied}
use Rattle.session.specs.declared.state.Session.{Session}
use Rattle.session.specs.Cells.{Tables, named, excess, ledger_of}
use Rattle.session.specs.Calls.{entry, started, start, stands, standing}
use Rattle.laid.specs.Laid.{session_of, tables_of}
use Rattle.laid.specs.Result.{Result, settled}
use Rattle.checker.specs.Feed.{beside, feed}
use Rattle.stream.specs.Run.{Totals, totals, each_by, run}
use Rattle.demands.specs.History.{fed, state, begun, called_all}

-- of a session, tables and a record
abbrev pub FeedChecker : Type 0
FeedChecker = Session → Tables → List ℕ → Result

-- of a session, tables and a stream
abbrev pub RunChecker : Type 0
RunChecker = Session → Tables → List ℕ → Totals

-- over n unknowns, for every input

abbrev pub MeetsFeed : ℕ → FeedChecker → Type 0
MeetsFeed n f = (s : Session) (t : Tables) (b : List ℕ) → f s t b ≡ feed n s t b

abbrev pub MeetsRun : ℕ → RunChecker → Type 0
MeetsRun n f = (s : Session) (t : Tables) (b : List ℕ) → f s t b ≡ run n s t b

-- ---- those that refuse everything, have a constant answer, write nothing

abbrev pub RefusesEverything : FeedChecker → Type 0
RefusesEverything f = (s : Session) (t : Tables) (b : List ℕ) → is_accepted (f s t b).answer → ⊥

abbrev pub HasConstantAnswer : FeedChecker → Type 0
HasConstantAnswer f = (a : Answer) × ((s : Session) (t : Tables) (b : List ℕ) → (f s t b).answer ≡ a)

-- no lent cell changes, whatever it answers and whatever session it gives back
abbrev pub WritesNothing : FeedChecker → Type 0
WritesNothing f = (s : Session) (t : Tables) (b : List ℕ) → (f s t b).tables ≡ t

-- ---- those that check the first record and wave the rest through

-- the tests that are left: numbers in force, a level to withdraw, room
abbrev pub not_waved : List Check → List Check
not_waved [] = []
not_waved (c ∷ cs) = cond (any (eqb c.number) (8 ∷ 13 ∷ 7 ∷ [])) (c ∷ not_waved cs) (not_waved cs)

-- a record of good shape whose numbers are in force is done without its rule's tests
unfoldable pub waved : ℕ → Ledger → List ℕ → Outcome
unfolding finding shape decode checks made done
waved n l b =
    judged (finding (shape b ++ not_waved (checks n l (decode b)))) l (record { answer = accepted (made l (decode b)); ledger = done l (decode b) })

unfoldable pub wave : ℕ → Session → Tables → List ℕ → Result
unfolding waved ledger_of session_of tables_of
wave n s t b = beside (excess n t) (settled n s (named n t) (waved n (ledger_of n s (named n t)) b))

unfoldable pub waving : ℕ → Session → Tables → List (List ℕ) → Totals
unfolding feed wave each_by
waving n s t [] = totals 0 0 0 s t
waving n s t (b ∷ bs) =
    elim (feed n s t b).answer [
      | accepted m ↦ each_by (wave n) 1 (length b) (feed n s t b).session (feed n s t b).tables bs
      | refused k ↦ totals 0 0 k s t
    ]

abbrev pub WavesTheRest : ℕ → RunChecker → Type 0
WavesTheRest n f = (s : Session) (t : Tables) (b : List ℕ) → entry n s t ≡ pass → f s t b ≡ waving n s t (records_of b)

-- on a started session and some stream it says refuted, though whole numbers satisfy all the premises that it accepted
pub record Unsound (n : ℕ) (f : RunChecker) : Type 0 where
  pub tables : Tables
  pub begins : (start n tables).answer ≡ started
  pub stream : List ℕ
  pub line : ℕ
  pub refutes :
      let r = f (begun n tables).session (begun n tables).tables stream in standing n r.session r.tables ≡ stands (refuted line)
  pub numbers : Integers
  pub satisfy :
      let bs = take (f (begun n tables).session (begun n tables).tables stream).records (records_of stream) in
      T (satisfied numbers (forms_carried bs) (lists_carried bs))

-- ---- those that invent totals

-- at some input no front of the stream's records, fed one after the other, leaves what it leaves and has the totals that it gives
abbrev pub InventsTotals : ℕ → RunChecker → Type 0
InventsTotals n f =
    (s : Session) × (t : Tables) × (b : List ℕ) ×
    ((k : ℕ) → k ≤ length (records_of b)
    → called_all n (state s t) (map fed (take k (records_of b))) ≡ state (f s t b).session (f s t b).tables
    → (f s t b).records ≡ k → (f s t b).bytes ≡ length (flatten (take k (records_of b))) → ⊥)
