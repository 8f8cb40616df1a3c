-- The limits of a session, each with its one name. Those of rows and forms stand with the rows.
use Rattle.std.specs.Prelude.{ℕ}

abbrev pub most_forms : ℕ
most_forms = 256

abbrev pub most_lines : ℕ
most_lines = 512

-- literals of all lines together
abbrev pub most_literals : ℕ
most_literals = 4_096

abbrev pub most_levels : ℕ
most_levels = 8

-- literals of one line
abbrev pub longest_line : ℕ
longest_line = 32

-- the coefficients that an FM record carries
abbrev pub carried : ℕ
carried = 12
