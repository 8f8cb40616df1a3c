-- Tables that are cut to their named cells, and in order with their session.
use Rattle.std.specs.Prelude.{◌≡◌, ℕ, length}
use Rattle.ledger.specs.Limits.{most_levels}
use Rattle.ledger.specs.Checks.{Passed}
use Rattle.session.specs.declared.state.Session.{Session}
use Rattle.session.specs.Cells.{Tables}
use Rattle.session.specs.Parts.{Sized}
use Rattle.session.specs.InOrder.{order}

-- tables of their named cells and no more, and a mark for each level
pub record Exact (n : ℕ) (s : Session) (t : Tables) : Type 0 where
  pub sized : Sized n t
  pub mark_size : length s.marks ≡ most_levels

pub record Held (n : ℕ) (s : Session) (t : Tables) : Type 0 where
  pub exact : Exact n s t
  pub ordered : Passed (order n s t)
