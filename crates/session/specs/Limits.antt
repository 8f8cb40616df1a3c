-- The sizes of the tables, for forms of n unknowns.
use Rattle.std.specs.Prelude.{ℕ, ◌+◌, ◌*◌}
use Rattle.ledger.specs.Limits.{most_forms, most_lines, most_literals}

-- the cells of a line: its end in the pool and its origin
abbrev pub line_cells : ℕ
line_cells = 2

-- the cells of a form: its kind, its divisor, its constant and a coefficient for each unknown
abbrev pub form_cells : ℕ → ℕ
form_cells n = n + 3

abbrev pub form_table : ℕ → ℕ
form_table n = most_forms * form_cells n

abbrev pub pool_table : ℕ
pool_table = most_literals

abbrev pub line_table : ℕ
line_table = most_lines * line_cells
