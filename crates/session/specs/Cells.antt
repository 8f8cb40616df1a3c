-- What a session and its tables hold, cell by cell, and the ledger that is read from them.
use Rattle.std.specs.Prelude.{List, [], ◌∷◌, ◌++◌, ℕ, zero, suc, ◌+◌, ◌*◌, ◌-◌, ℤ, get_or, take, drop, replicate}
use Rattle.ints.specs.Tests.{up_to}
use Rattle.rows.specs.Form.{form_at}
use Rattle.ledger.specs.Limits.{most_levels}
use Rattle.ledger.specs.Ledger.{Line, Ledger, Mark as LedgerMark}
use Rattle.session.specs.declared.state.Mark.{Mark}
use Rattle.session.specs.declared.state.Session.{Session}
use Rattle.session.specs.Limits.{line_cells, form_table, pool_table, line_table}

pub record Tables : Type 0 where
  pub forms : List ℤ
  pub pool : List ℕ
  pub lines : List ℕ

abbrev pub tables : List ℤ → List ℕ → List ℕ → Tables
tables f p l = record { forms = f; pool = p; lines = l }

-- the cells that have a name
abbrev pub named : ℕ → Tables → Tables
named n t = tables (take (form_table n) t.forms) (take pool_table t.pool) (take line_table t.lines)

-- what is longer, which is neither read nor written
abbrev pub excess : ℕ → Tables → Tables
excess n t = tables (drop (form_table n) t.forms) (drop pool_table t.pool) (drop line_table t.lines)

abbrev pub with_excess : Tables → Tables → Tables
with_excess t x = tables (t.forms ++ x.forms) (t.pool ++ x.pool) (t.lines ++ x.lines)

-- ---- the session

abbrev pub no_mark : Mark
no_mark = record { forms = 0; lines = 0; literals = 0 }

abbrev pub fresh_session : Session
fresh_session = record { forms = 0; lines = 0; literals = 0; «open» = 0; marks = replicate most_levels no_mark }

abbrev pub counts_of : Session → Mark
counts_of s = record { forms = s.forms; lines = s.lines; literals = s.literals }

abbrev pub mark_at : Session → ℕ → Mark
mark_at s k = get_or s.marks k no_mark

-- ---- the tables

-- the cells of a line that ends there: they are `line_cells` many
abbrev pub cells_of_line : ℕ → Line → List ℕ
cells_of_line end x = end ∷ x.origin ∷ []

-- the end of the line before line i, or 0
abbrev pub end_before : List ℕ → ℕ → ℕ
end_before lines zero = 0
end_before lines (suc i) = get_or lines (line_cells * i) 0

abbrev pub origin_at : List ℕ → ℕ → ℕ
origin_at lines i = get_or lines (line_cells * i + 1) 0

-- the literals of line i
abbrev pub literals_at : List ℕ → List ℕ → ℕ → List ℕ
literals_at pool lines i = take (end_before lines (suc i) - end_before lines i) (drop (end_before lines i) pool)

-- ---- the ledger read back

module _ {A : Type 0} where
  -- f (n − 1), down to f 0
  unfoldable pub down_from : ℕ → (ℕ → A) → List A
  down_from zero f = []
  down_from (suc n) f = f n ∷ down_from n f

abbrev pub line_at : Tables → ℕ → Line
line_at t i = record { origin = origin_at t.lines i; literals = literals_at t.pool t.lines i }

abbrev pub level_at : Session → ℕ → LedgerMark
level_at s k = record { forms = (mark_at s k).forms; lines = (mark_at s k).lines }

unfoldable pub ledger_of : ℕ → Session → Tables → Ledger
unfolding up_to down_from
ledger_of n s t =
    record {
      forms = up_to s.forms (form_at n t.forms);
      lines = up_to s.lines (line_at t);
      marks = down_from s.«open» (level_at s);
    }
