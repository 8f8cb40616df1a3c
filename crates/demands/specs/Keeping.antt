-- What every call keeps, whatever session and tables it got, and what a start leaves.
use Rattle.std.specs.Prelude.{◌≡◌, ℕ, Result, Err}
use Rattle.ledger.specs.Apply.{pass}
use Rattle.session.specs.declared.state.Session.{Session}
use Rattle.session.specs.declared.answers.Refusal.{Refusal}
use Rattle.session.specs.declared.answers.Made.{Made}
use Rattle.session.specs.Cells.{Tables, named, excess, fresh_session}
use Rattle.session.specs.Calls.{entry, zero_tables}

-- an answer that is a refusal
abbrev pub RefusedBy : Result Made Refusal → Type 0
RefusedBy a = (why : Refusal) × (a ≡ Err why)

-- over n unknowns, of a call that got s and t and left s' and t'
pub record Keeps (n : ℕ) (Refused : Type 0) (s : Session) (t : Tables) (s' : Session) (t' : Tables) : Type 0 where
  -- a refusal leaves session and tables as they stood
  pub unchanged : Refused → (s' ≡ s) × (t' ≡ t)
  -- what was in order is in order again
  pub ordered : entry n s t ≡ pass → entry n s' t' ≡ pass
  -- the excess is not written
  pub beyond : excess n t' ≡ excess n t

-- over n unknowns, of a start that got t and left s' and t'
pub record Begins (n : ℕ) (Refused Accepted : Type 0) (t : Tables) (s' : Session) (t' : Tables) : Type 0 where
  -- the session is the fresh one, refused or accepted
  pub fresh : s' ≡ fresh_session
  -- a refusal writes nothing
  pub unchanged : Refused → t' ≡ t
  -- an acceptance sets all named cells to 0
  pub zeros : Accepted → named n t' ≡ zero_tables n
  -- and then session and tables are in order
  pub ordered : Accepted → entry n s' t' ≡ pass
  -- the excess is not written
  pub beyond : excess n t' ≡ excess n t
