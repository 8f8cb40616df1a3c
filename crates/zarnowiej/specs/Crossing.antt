-- What the plain structs say that cross to C and Rust: a session goes in and out field by field, and each call's outcome, as its definition
-- gives it, has one struct of numbers.
use Rattle.std.specs.Prelude.{◌≡◌, List, map, ℕ}
use Rattle.rows.specs.Limits.{unknowns}
use Rattle.ledger.specs.Record.{Made, form, line, level, Answer, accepted, refused}
use Rattle.ledger.specs.Standing.{refuted, not_refuted}
use Rattle.session.specs.declared.state.Mark.{Mark as InnerMark}
use Rattle.session.specs.declared.state.Session.{Session as InnerSession}
use Rattle.session.specs.Cells.{Tables}
use Rattle.session.specs.Calls.{Started, started, not_started, Beginning, start, Stands as Stood, stands, no_standing, standing}
use Rattle.laid.specs.Result.{Result}
use Rattle.checker.specs.Feed.{feed}
use Rattle.stream.specs.Run.{Totals, run}
use Rattle.zarnowiej.specs.declared.plain.Mark.{Mark}
use Rattle.zarnowiej.specs.declared.plain.Session.{Session}
use Rattle.zarnowiej.specs.declared.plain.Begun.{Begun}
use Rattle.zarnowiej.specs.declared.plain.Fed.{Fed}
use Rattle.zarnowiej.specs.declared.plain.Ran.{Ran}
use Rattle.zarnowiej.specs.declared.plain.Stands.{Stands}

-- ---- the session

abbrev pub mark_in : Mark → InnerMark
mark_in m = record { forms = m.forms; lines = m.lines; literals = m.literals }

abbrev pub mark_out : InnerMark → Mark
mark_out m = record { forms = m.forms; lines = m.lines; literals = m.literals }

abbrev pub session_in : Session → InnerSession
session_in s = record { forms = s.forms; lines = s.lines; literals = s.literals; «open» = s.«open»; marks = map mark_in s.marks }

abbrev pub session_out : InnerSession → Session
session_out s = record { forms = s.forms; lines = s.lines; literals = s.literals; «open» = s.«open»; marks = map mark_out s.marks }

-- ---- what a call gives, and the tables that it leaves

pub record Left (A : Type 0) : Type 0 where
  pub given : A
  pub tables : Tables

abbrev pub left : {A : Type 0} → A → Tables → Left A
left r t = record { given = r; tables = t }

-- ---- start: 0, or the number of the refusal

abbrev pub begun : Session → ℕ → Begun
begun s refusal = record { session = s; refusal = refusal }

abbrev pub begun_by : Started → Session → Begun
begun_by started s = begun s 0
begun_by (not_started k) s = begun s k

abbrev pub start_out : Beginning → Left Begun
start_out b = left (begun_by b.answer (session_out b.session)) b.tables

-- the call, lent t, gives r and leaves t'
abbrev pub StartCrosses : Tables → Begun → Tables → Type 0
StartCrosses t r t' = left r t' ≡ start_out (start unknowns t)

-- ---- feed: 0 and the number of the refusal; 1 and the form; 2 and the line; 3 and the count of open levels

abbrev pub fed : Session → ℕ → ℕ → Fed
fed s what number = record { session = s; what = what; number = number }

abbrev pub made_by : Made → Session → Fed
made_by (form f) s = fed s 1 f
made_by (line i) s = fed s 2 i
made_by (level k) s = fed s 3 k

abbrev pub fed_by : Answer → Session → Fed
fed_by (accepted m) s = made_by m s
fed_by (refused k) s = fed s 0 k

abbrev pub feed_out : Result → Left Fed
feed_out r = left (fed_by r.answer (session_out r.session)) r.tables

-- the call, given s and b and lent t, gives r and leaves t'
abbrev pub FeedCrosses : Session → Tables → List ℕ → Fed → Tables → Type 0
FeedCrosses s t b r t' = left r t' ≡ feed_out (feed unknowns (session_in s) t b)

-- ---- run: the totals as they are

abbrev pub ran : Session → ℕ → ℕ → ℕ → Ran
ran s records bytes stop = record { session = s; stop = stop; records = records; bytes = bytes }

abbrev pub run_out : Totals → Left Ran
run_out r = left (ran (session_out r.session) r.records r.bytes r.stop) r.tables

-- the call, given s and the stream b and lent t, gives r and leaves t'
abbrev pub RunCrosses : Session → Tables → List ℕ → Ran → Tables → Type 0
RunCrosses s t b r t' = left r t' ≡ run_out (run unknowns (session_in s) t b)

-- ---- standing: the refusal or 0; then 1 and the lowest empty line, or 0 and 0

abbrev pub standing_out : Stood → Stands
standing_out (stands (refuted i)) = record { refusal = 0; refuted = 1; line = i }
standing_out (stands not_refuted) = record { refusal = 0; refuted = 0; line = 0 }
standing_out (no_standing k) = record { refusal = k; refuted = 0; line = 0 }

-- the call, given s and lent t to read, answers r
abbrev pub StandingCrosses : Session → Tables → Stands → Type 0
StandingCrosses s t r = r ≡ standing_out (standing unknowns (session_in s) t)
