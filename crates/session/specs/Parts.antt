-- What only the parts of the code say: of a session and its tables sizes, limits by their names and edges between levels, and of a refusal its number.
use Rattle.std.specs.Prelude.{◌≡◌, cond, Bool, true, ◌&&◌, List, [], ◌∷◌, ℕ, ◌≤◌, ltb, pos, length}
use Rattle.rows.specs.Limits.{unknowns, largest_number, largest_divisor, largest_multiplier, most_terms}
use Rattle.ledger.specs.Limits.{most_forms, most_lines, most_literals, most_levels, longest_line}
use Rattle.ledger.specs.Checks.{Check}
use Rattle.session.specs.declared.state.Mark.{Mark}
use Rattle.session.specs.declared.state.Session.{Session}
use Rattle.session.specs.declared.state.Limits.{Limits}
use Rattle.session.specs.declared.answers.Refusal.{Refusal}
use Rattle.session.specs.Answers.{number_of}
use Rattle.session.specs.Limits.{form_table, pool_table, line_table}
use Rattle.session.specs.Cells.{Tables, counts_of, mark_at}

-- the tables have their named cells at least
pub record Long (n : ℕ) (t : Tables) : Type 0 where
  pub form_room : form_table n ≤ length t.forms
  pub pool_room : pool_table ≤ length t.pool
  pub line_room : line_table ≤ length t.lines

-- the tables are cut to their named cells
pub record Sized (n : ℕ) (t : Tables) : Type 0 where
  pub form_size : length t.forms ≡ form_table n
  pub pool_size : length t.pool ≡ pool_table
  pub line_size : length t.lines ≡ line_table

abbrev pub all_limits : Limits
all_limits =
    record {
      unknowns = unknowns;
      number = pos largest_number;
      divisor = pos largest_divisor;
      multiplier = pos largest_multiplier;
      terms = most_terms;
      forms = most_forms;
      lines = most_lines;
      literals = most_literals;
      levels = most_levels;
      line = longest_line;
    }

-- the marks of the open levels, and then the present counts
abbrev pub edge : Session → ℕ → Mark
edge s i = cond (ltb i s.«open») (mark_at s i) (counts_of s)

-- whether every test passes
unfoldable pub all_pass : List Check → Bool
all_pass [] = true
all_pass (c ∷ cs) = c.passes && all_pass cs

-- what the number of a refusal is
abbrev pub HasNumber : Refusal → ℕ → Type 0
HasNumber r k = k ≡ number_of r
