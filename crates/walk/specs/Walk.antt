-- What the way through the lines from one mark to the next finds out.
use Rattle.std.specs.Prelude.{◌≡◌, Bool, true, List, [], ℕ, suc, ◌+◌, ◌*◌, ◌≤◌, ◌<◌, length}
use Rattle.ledger.specs.Limits.{most_forms, most_lines, most_literals, longest_line}
use Rattle.ledger.specs.Legal.{LegalLine}
use Rattle.session.specs.declared.state.Mark.{Mark}
use Rattle.session.specs.Limits.{line_cells}
use Rattle.session.specs.Cells.{tables, end_before, line_at}

-- the answer is true exactly where P holds
pub record Exactly (r : Bool) (P : Type 0) : Type 0 where
  pub yes : r ≡ true → P
  pub only : P → r ≡ true

-- line i ends where a line may, and is legal where there are n forms
pub record LineGood (pool lines : List ℕ) (n i : ℕ) : Type 0 where
  pub rise : end_before lines i ≤ end_before lines (suc i)
  pub short : end_before lines (suc i) ≤ end_before lines i + longest_line
  pub legal : LegalLine n (line_at (tables [] pool lines) i)

-- the lines from one mark up to the next name only the next one's forms
abbrev pub LinesGood : List ℕ → List ℕ → Mark → Mark → Type 0
LinesGood pool lines low m = (i : ℕ) → low.lines ≤ i → i < m.lines → LineGood pool lines m.forms i

-- what the walk from one mark to the next takes for granted
pub record Stretch (pool lines : List ℕ) (low m : Mark) : Type 0 where
  pub forms : m.forms ≤ most_forms
  pub line_room : line_cells * m.lines ≤ length lines
  pub few : m.lines ≤ most_lines
  pub pool_room : m.literals ≤ length pool
  pub little : m.literals ≤ most_literals
  pub order : low.lines ≤ m.lines
  pub first : end_before lines low.lines ≡ low.literals
  pub last : end_before lines m.lines ≡ m.literals
  pub rise : low.literals ≤ m.literals
