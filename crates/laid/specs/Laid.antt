-- A ledger laid out in a session and its tables, over n unknowns: zeros above the counts.
use Rattle.std.specs.Prelude.{List, [], ◌∷◌, ◌++◌, ℕ, ◌+◌, ◌-◌, ℤ, pos, length, take, replicate}
use Rattle.rows.specs.Form.{Form, cells_of}
use Rattle.ledger.specs.Limits.{most_levels}
use Rattle.ledger.specs.Ledger.{Line, Ledger, literal_count, Mark as LedgerMark}
use Rattle.session.specs.declared.state.Mark.{Mark}
use Rattle.session.specs.declared.state.Session.{Session}
use Rattle.session.specs.Limits.{form_table, pool_table, line_table}
use Rattle.session.specs.Cells.{Tables, tables, no_mark, cells_of_line}

-- xs, and then z up to n cells
unfoldable pub padded : {A : Type 0} → A → ℕ → List A → List A
padded z n xs = xs ++ replicate (n - length xs) z

-- ---- the tables

unfoldable pub forms_laid : List Form → List ℤ
forms_laid [] = []
forms_laid (f ∷ fs) = cells_of f ++ forms_laid fs

unfoldable pub pool_laid : List Line → List ℕ
pool_laid [] = []
pool_laid (x ∷ xs) = x.literals ++ pool_laid xs

-- behind lines that end at e
unfoldable pub lines_laid : ℕ → List Line → List ℕ
lines_laid e [] = []
lines_laid e (x ∷ xs) = cells_of_line (e + length x.literals) x ++ lines_laid (e + length x.literals) xs

unfoldable pub tables_of : ℕ → Ledger → Tables
unfolding padded forms_laid pool_laid lines_laid
tables_of n l =
    tables
    (padded (pos 0) (form_table n) (forms_laid l.forms))
    (padded 0 pool_table (pool_laid l.lines))
    (padded 0 line_table (lines_laid 0 l.lines))

-- ---- the session

-- a mark's literal count is that of the lines below it
abbrev pub mark_laid : List Line → LedgerMark → Mark
mark_laid ls m = record { forms = m.forms; lines = m.lines; literals = literal_count (take m.lines ls) }

-- a ledger has its last mark first, a session has it last
unfoldable pub marks_laid : List Line → List LedgerMark → List Mark
marks_laid ls [] = []
marks_laid ls (m ∷ ms) = marks_laid ls ms ++ (mark_laid ls m ∷ [])

unfoldable pub session_of : Ledger → Session
unfolding padded marks_laid
session_of l =
    record {
      forms = length l.forms;
      lines = length l.lines;
      literals = literal_count l.lines;
      «open» = length l.marks;
      marks = padded no_mark most_levels (marks_laid l.lines l.marks);
    }
