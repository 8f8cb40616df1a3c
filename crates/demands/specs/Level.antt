-- A level from its OP to its WD, said of the records fed from a state on and of the counts of open levels in the sessions that they leave.
use Rattle.std.specs.Prelude.{◌≡◌, List, [], ◌∷◌, map, ℕ, ◌+◌, ◌<◌}
use Rattle.ledger.specs.Record.{OP, WD, is_accepted}
use Rattle.ledger.specs.Bytes.{decode}
use Rattle.checker.specs.Feed.{feed}
use Rattle.demands.specs.History.{fed, State, called, called_all}

-- more than k levels are open after each of the records
unfoldable pub StaysOpen : ℕ → ℕ → State → List (List ℕ) → Type 0
StaysOpen n k s [] = Unit {0}
StaysOpen n k s (b ∷ bs) = (k < (called n s (fed b)).session.«open») × StaysOpen n k (called n s (fed b)) bs

-- o opens a level, it stays open through xs and is then the last, and w closes it
pub record ClosedLevel (n : ℕ) (s : State) (o : List ℕ) (xs : List (List ℕ)) (w : List ℕ) : Type 0 where
  pub opens : decode o ≡ OP
  pub opening : is_accepted (feed n s.session s.tables o).answer
  pub stays : StaysOpen n s.session.«open» (called n s (fed o)) xs
  pub last : (called_all n s (map fed (o ∷ xs))).session.«open» ≡ s.session.«open» + 1
  pub closes : decode w ≡ WD
  pub closing : let before = called_all n s (map fed (o ∷ xs)) in is_accepted (feed n before.session before.tables w).answer
