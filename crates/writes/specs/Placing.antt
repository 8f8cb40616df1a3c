-- Where a form or a line is written, and the room that this needs.
use Rattle.std.specs.Prelude.{◌≡◌, List, ℕ, ◌+◌, ◌≤◌, ◌<◌, ℤ, length}
use Rattle.ledger.specs.Limits.{most_forms, most_lines, most_literals}
use Rattle.ledger.specs.Ledger.{Line}
use Rattle.session.specs.Limits.{form_cells, form_table, pool_table, line_table}
use Rattle.session.specs.Effects.{literals_written, line_written}

pub record FormPlace (n k : ℕ) (fs cells : List ℤ) : Type 0 where
  pub count : k < most_forms
  pub table : length fs ≡ form_table n
  pub whole : length cells ≡ form_cells n

-- x are the literals
pub record LinePlace (k e : ℕ) (ps ls xs : List ℕ) : Type 0 where
  pub count : k < most_lines
  pub literals : e + length xs ≤ most_literals
  pub pool : length ps ≡ pool_table
  pub table : length ls ≡ line_table

-- the line is written, and ends there
pub record LinePlaced (k e : ℕ) (ps ls : List ℕ) (x : Line) (end : ℕ) (ps' ls' : List ℕ) : Type 0 where
  pub ends : end ≡ e + length x.literals
  pub pool : ps' ≡ literals_written e x ps
  pub lines : ls' ≡ line_written k e x ls
