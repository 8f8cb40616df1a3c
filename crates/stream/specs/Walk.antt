-- The parts of the walk over a stream.
use Rattle.std.specs.Prelude.{◌≡◌, List, ℕ, ◌≤◌, length, take, Result}
use Rattle.ledger.specs.Split.{front}
use Rattle.session.specs.declared.state.Mark.{Mark}
use Rattle.session.specs.declared.state.Session.{Session}
use Rattle.session.specs.declared.answers.Refusal.{Refusal}
use Rattle.session.specs.Cells.{Tables}
use Rattle.settle.specs.declared.Change.{Change}
use Rattle.settle.specs.declared.Top.{Top}
use Rattle.checker.specs.Changes.{Changes}

-- the session of these counts and levels
abbrev pub session_with : Mark → ℕ → List Mark → Session
session_with m k marks = record { forms = m.forms; lines = m.lines; literals = m.literals; «open» = k; marks = marks }

-- the front record of b has so many bytes, and the change, with the cells t', is what it does
pub record FrontStep (n : ℕ) (top : Top) (t : Tables) (b : List ℕ) (c : Result Change Refusal) (size : ℕ) (t' : Tables) : Type 0 where
  pub within : size ≤ length b
  pub taken : take size b ≡ take (front b) b
  pub changes : Changes n top t (take size b) c t'
