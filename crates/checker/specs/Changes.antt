-- The change that a record makes, by what is seen of a session: what the parts of feed and run say to each other.
use Rattle.std.specs.Prelude.{◌≡◌, List, ℕ, Result}
use Rattle.session.specs.declared.answers.Refusal.{Refusal}
use Rattle.session.specs.declared.state.Session.{Session}
use Rattle.session.specs.Cells.{Tables}
use Rattle.laid.specs.Held.{Held}
use Rattle.settle.specs.declared.Change.{Change}
use Rattle.settle.specs.declared.Top.{Top}
use Rattle.settle.specs.Settling.{InPlace, result_by, top_of}
use Rattle.checker.specs.Feed.{stepped}

-- the change, with the cells t', is what the record does
pub record Steps (n : ℕ) (s : Session) (t : Tables) (b : List ℕ) (c : Result Change Refusal) (t' : Tables) : Type 0 where
  pub result : result_by s c t' ≡ stepped n s t b
  pub place : InPlace c

-- and is so on whichever session has this top
abbrev pub Changes : ℕ → Top → Tables → List ℕ → Result Change Refusal → Tables → Type 0
Changes n top t b c t' = (s : Session) → top_of s ≡ top → Held n s t → Steps n s t b c t'
