-- What the calls start and standing do: the answer, the session and every lent cell afterwards, for every input.
use Rattle.std.specs.Prelude.{◌≡◌, ◌++◌, ℕ, pos, replicate, Result, Ok, Err, Option, Some, None}
use Rattle.rows.specs.Limits.{unknowns}
use Rattle.ledger.specs.Apply.{Finding, pass, fail, finding}
use Rattle.ledger.specs.Standing as ledger
use Rattle.session.specs.declared.state.Session.{Session}
use Rattle.session.specs.declared.answers.Refusal.{Refusal}
use Rattle.session.specs.declared.start.Begun.{Begun}
use Rattle.session.specs.Limits.{form_table, pool_table, line_table}
use Rattle.session.specs.Cells.{Tables, tables, named, excess, with_excess, fresh_session, ledger_of}
use Rattle.session.specs.InOrder.{sizes, order}
use Rattle.session.specs.Answers.{number_of}

-- every call tests the sizes, and then the order of the named cells
abbrev pub entry : ℕ → Session → Tables → Finding
entry n s t = finding (sizes n t ++ order n s (named n t))

-- ---- start

pub data Started : Type 0 where
  started : Started
  not_started : ℕ → Started

pub record Beginning : Type 0 where
  pub answer : Started
  pub session : Session
  pub tables : Tables

abbrev pub zero_tables : ℕ → Tables
zero_tables n = tables (replicate (form_table n) (pos 0)) (replicate pool_table 0) (replicate line_table 0)

-- a refused start gives the fresh session too, and writes nothing
abbrev pub begun_by : Finding → ℕ → Tables → Beginning
begun_by pass n t = record { answer = started; session = fresh_session; tables = with_excess (zero_tables n) (excess n t) }
begun_by (fail k) n t = record { answer = not_started k; session = fresh_session; tables = t }

unfoldable pub start : ℕ → Tables → Beginning
unfolding sizes finding
start n t = begun_by (finding (sizes n t)) n t

-- what the code gives, in these terms
abbrev pub start_of : Result (Unit {0}) Refusal → Started
start_of (Ok _) = started
start_of (Err r) = not_started (number_of r)

abbrev pub beginning_of : Begun → Tables → Beginning
beginning_of b t = record { answer = start_of b.start; session = b.session; tables = t }

-- start, lent t, gives b and leaves t'
abbrev pub Starts : Tables → Begun → Tables → Type 0
Starts t b t' = beginning_of b t' ≡ start unknowns t

-- ---- standing, which writes nothing

pub data Stands : Type 0 where
  stands : ledger.Standing → Stands
  no_standing : ℕ → Stands

abbrev pub stands_by : Finding → ℕ → Session → Tables → Stands
stands_by pass n s t = stands (ledger.standing (ledger_of n s (named n t)))
stands_by (fail k) n s t = no_standing k

unfoldable pub standing : ℕ → Session → Tables → Stands
unfolding sizes order finding ledger_of
standing n s t = stands_by (entry n s t) n s t

abbrev pub standing_of : Option ℕ → ledger.Standing
standing_of (Some i) = ledger.refuted i
standing_of None = ledger.not_refuted

abbrev pub stands_of : Result (Option ℕ) Refusal → Stands
stands_of (Ok found) = stands (standing_of found)
stands_of (Err r) = no_standing (number_of r)

-- standing, given s and lent t to read, answers r
abbrev pub Tells : Session → Tables → Result (Option ℕ) Refusal → Type 0
Tells s t r = stands_of r ≡ standing unknowns s t
