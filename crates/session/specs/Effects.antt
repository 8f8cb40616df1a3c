-- The ways in which the session and its cells ever change.
use Rattle.std.specs.Prelude.{List, ◌++◌, ℕ, ◌+◌, ◌*◌, ◌-◌, ◌≤◌, ℤ, pos, length, take, drop, set, replicate}
use Rattle.ledger.specs.Ledger.{Line}
use Rattle.session.specs.declared.state.Mark.{Mark}
use Rattle.session.specs.declared.state.Session.{Session}
use Rattle.session.specs.Limits.{line_cells, form_cells}
use Rattle.session.specs.Cells.{Tables, tables, no_mark, counts_of, mark_at, cells_of_line}

module _ {A : Type 0} where
  -- vs in the cells from `at` on
  abbrev pub written : ℕ → List A → List A → List A
  written at vs xs = take at xs ++ (vs ++ drop (at + length vs) xs)

  -- z in the cells from `from` up to `to`
  abbrev pub cleared : A → ℕ → ℕ → List A → List A
  cleared z from to xs = take from xs ++ (replicate (to - from) z ++ drop to xs)

-- ---- one form more

abbrev pub with_form : Session → Session
with_form s = record { forms = s.forms + 1; lines = s.lines; literals = s.literals; «open» = s.«open»; marks = s.marks }

-- behind k forms
abbrev pub form_written : ℕ → ℕ → List ℤ → List ℤ → List ℤ
form_written n k cells forms = written (form_cells n * k) cells forms

-- ---- one line more

abbrev pub with_line : Session → ℕ → Session
with_line s k = record { forms = s.forms; lines = s.lines + 1; literals = s.literals + k; «open» = s.«open»; marks = s.marks }

-- behind e literals
abbrev pub literals_written : ℕ → Line → List ℕ → List ℕ
literals_written e x pool = written e x.literals pool

-- behind k lines of e literals
abbrev pub line_written : ℕ → ℕ → Line → List ℕ → List ℕ
line_written k e x lines = written (line_cells * k) (cells_of_line (e + length x.literals) x) lines

-- ---- one level more

abbrev pub with_level : Session → Session
with_level s =
    record {
      forms = s.forms;
      lines = s.lines;
      literals = s.literals;
      «open» = s.«open» + 1;
      marks = set s.marks s.«open» (counts_of s);
    }

-- ---- one level less

abbrev pub last_mark : Session → Mark
last_mark s = mark_at s (s.«open» - 1)

abbrev pub less_level : Session → Session
less_level s =
    record {
      forms = (last_mark s).forms;
      lines = (last_mark s).lines;
      literals = (last_mark s).literals;
      «open» = s.«open» - 1;
      marks = set s.marks (s.«open» - 1) no_mark;
    }

-- every cell between two marks is 0: the one that the counts return to, and the one that they come from
abbrev pub freed : ℕ → Mark → Mark → Tables → Tables
freed n from to t =
    tables
    (cleared (pos 0) (form_cells n * from.forms) (form_cells n * to.forms) t.forms)
    (cleared 0 from.literals to.literals t.pool)
    (cleared 0 (line_cells * from.lines) (line_cells * to.lines) t.lines)

-- and what that needs
pub record Between (n : ℕ) (from to : Mark) (t : Tables) : Type 0 where
  pub forms : from.forms ≤ to.forms
  pub lines : from.lines ≤ to.lines
  pub literals : from.literals ≤ to.literals
  pub in_form_table : form_cells n * to.forms ≤ length t.forms
  pub in_pool_table : to.literals ≤ length t.pool
  pub in_line_table : line_cells * to.lines ≤ length t.lines
