-- What calls since a start leave, each on the session and tables that the call before it returned, and the records that they fed.
use Rattle.std.specs.Prelude.{◌≡◌, ◌⊎◌, ℕ, ◌≤◌, ◌<◌, length, take, get_or}
use mathlib.Core.List.{List, [], ◌∷◌, ◌++◌, map, flatten, reverse}
use Rattle.ledger.specs.Ledger.{Ledger}
use Rattle.ledger.specs.Record.{refused, is_accepted}
use Rattle.ledger.specs.Split.{records_of}
use Rattle.ledger.specs.History.{InForce}
use Rattle.session.specs.declared.state.Session.{Session}
use Rattle.session.specs.Cells.{Tables, named, ledger_of}
use Rattle.session.specs.Calls.{start}
use Rattle.checker.specs.Feed.{feed}
use Rattle.stream.specs.Run.{Totals, run}

-- a record fed, or a run over a stream; the standing changes nothing
pub data Call : Type 0 where
  fed : List ℕ → Call
  ran : List ℕ → Call

pub record State : Type 0 where
  pub session : Session
  pub tables : Tables

abbrev pub state : Session → Tables → State
state s t = record { session = s; tables = t }

-- ---- what calls leave

abbrev pub begun : ℕ → Tables → State
begun n t = state (start n t).session (start n t).tables

abbrev pub called : ℕ → State → Call → State
called n s (fed b) = state (feed n s.session s.tables b).session (feed n s.session s.tables b).tables
called n s (ran b) = state (run n s.session s.tables b).session (run n s.session s.tables b).tables

-- the first call first, and each gets what the call before it returned
unfoldable pub called_all : ℕ → State → List Call → State
called_all n s [] = s
called_all n s (c ∷ cs) = called_all n (called n s c) cs

-- what calls leave since the start
abbrev pub now : ℕ → Tables → List Call → State
now n t cs = called_all n (begun n t) cs

-- the ledger that is read from what they leave
abbrev pub read : ℕ → State → Ledger
read n s = ledger_of n s.session (named n s.tables)

-- ---- the records that calls fed

-- of a stream those that the run accepted: the one that stops it changes nothing, and none after it is fed
abbrev pub records_by : ℕ → State → Call → List (List ℕ)
records_by n s (fed b) = b ∷ []
records_by n s (ran b) = take (run n s.session s.tables b).records (records_of b)

unfoldable pub records_fed : ℕ → State → List Call → List (List ℕ)
records_fed n s [] = []
records_fed n s (c ∷ cs) = records_by n s c ++ records_fed n (called n s c) cs

-- since the start, the latest first
abbrev pub history : ℕ → Tables → List Call → List (List ℕ)
history n t cs = reverse (records_fed n (begun n t) cs)

-- bs are those still in force, the first first
abbrev pub StillInForce : ℕ → Tables → List Call → List (List ℕ) → Type 0
StillInForce n t cs bs = InForce n (history n t cs) (reverse bs)

-- records fed one after the other, each of which is accepted
unfoldable pub EachAccepted : ℕ → State → List (List ℕ) → Type 0
EachAccepted n s [] = Unit {0}
EachAccepted n s (b ∷ bs) = is_accepted (feed n s.session s.tables b).answer × EachAccepted n (called n s (fed b)) bs

-- ---- what a run should do

-- of the run r over the records bs from s on: the records that it counts are accepted, it leaves what they leave, and it ends with them or stops
-- at the next one, which is bad
pub record Stops (n : ℕ) (s : State) (bs : List (List ℕ)) (r : Totals) : Type 0 where
  pub good : EachAccepted n s (take r.records bs)
  pub leaves : called_all n s (map fed (take r.records bs)) ≡ state r.session r.tables
  pub bytes : r.bytes ≡ length (flatten (take r.records bs))
  pub end : ((r.stop ≡ 0) × (r.records ≡ length bs))
      ⊎ ((r.records < length bs) × ((feed n r.session r.tables (get_or bs r.records [])).answer ≡ refused r.stop))

-- whatever stops it: the records that it counts leave what it leaves, and have the bytes that it counts
pub record Leaves (n : ℕ) (s : State) (bs : List (List ℕ)) (r : Totals) : Type 0 where
  pub some : r.records ≤ length bs
  pub leaves : called_all n s (map fed (take r.records bs)) ≡ state r.session r.tables
  pub bytes : r.bytes ≡ length (flatten (take r.records bs))

-- it stops with 3 behind the records bs
pub record StopsInside (n : ℕ) (s : State) (bs : List (List ℕ)) (r : Totals) : Type 0 where
  pub stop : r.stop ≡ 3
  pub records : r.records ≡ length bs
  pub bytes : r.bytes ≡ length (flatten bs)
  pub leaves : called_all n s (map fed bs) ≡ state r.session r.tables
