-- What the order test finds out on its one way through the cells, level by level.
use Rattle.std.specs.Prelude.{◌≡◌, List, ℕ, zero, suc, ◌*◌, ◌≤◌, ◌<◌, T, ℤ, length}
use Rattle.rows.specs.Form.{form_at, legal}
use Rattle.ledger.specs.Limits.{most_forms, most_lines, most_literals, most_levels}
use Rattle.session.specs.declared.state.Mark.{Mark}
use Rattle.session.specs.declared.state.Session.{Session}
use Rattle.session.specs.Limits.{line_cells, pool_table, line_table}
use Rattle.session.specs.Cells.{no_mark, counts_of, end_before}
use Rattle.session.specs.Parts.{edge}
use Rattle.session.specs.InOrder.{not_above}
use Rattle.walk.specs.Walk.{LinesGood}

pub record Counted (s : Session) : Type 0 where
  pub forms : s.forms ≤ most_forms
  pub lines : s.lines ≤ most_lines
  pub literals : s.literals ≤ most_literals
  pub levels : s.«open» ≤ most_levels

abbrev pub FormsGood : ℕ → List ℤ → ℕ → Type 0
FormsGood n forms count = (f : ℕ) → f < count → T (legal n (form_at n forms f))

-- what the test of a level takes for granted
pub record Below (pool lines : List ℕ) (here low : Mark) : Type 0 where
  pub forms : here.forms ≤ most_forms
  pub line_room : line_cells * here.lines ≤ length lines
  pub few : here.lines ≤ most_lines
  pub pool_room : here.literals ≤ length pool
  pub little : here.literals ≤ most_literals
  pub first : end_before lines low.lines ≡ low.literals

-- one mark after another
pub record LevelGood (pool lines : List ℕ) (here low m : Mark) : Type 0 where
  pub rises : T (not_above low m)
  pub held : T (not_above m here)
  pub ends : end_before lines m.lines ≡ m.literals
  pub each : LinesGood pool lines low m

-- what stands before edge i
abbrev pub lower : Session → ℕ → Mark
lower s zero = no_mark
lower s (suc i) = edge s i

abbrev pub LevelsGood : List ℕ → List ℕ → Session → Type 0
LevelsGood pool lines s = (i : ℕ) → i ≤ s.«open» → LevelGood pool lines (counts_of s) (lower s i) (edge s i)

-- what the walk through all levels takes for granted
pub record Passable (pool lines : List ℕ) (s : Session) : Type 0 where
  pub counted : Counted s
  pub pool_size : length pool ≡ pool_table
  pub line_size : length lines ≡ line_table
