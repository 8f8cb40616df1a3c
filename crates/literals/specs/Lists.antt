-- Lists of forms and of literals in slices: what their functions take for granted, and what they give.
use Rattle.std.specs.Prelude.{◌≡◌, List, ℕ, ◌≤◌, ◌<◌, length, get_or, take}
use Rattle.ledger.specs.Limits.{most_forms}
use Rattle.ledger.specs.Literals.{without}

-- forms that are low enough for their literals
pub record Low (picks : List ℕ) : Type 0 where
  pub all : (i : ℕ) → i < length picks → get_or picks i 0 < most_forms

-- what a line leaves when it loses a literal, gathered in front
pub record Gathered (line : List ℕ) (less : ℕ) (count : ℕ) (cells : List ℕ) : Type 0 where
  pub few : count ≤ length line
  pub left : take count cells ≡ without less line
