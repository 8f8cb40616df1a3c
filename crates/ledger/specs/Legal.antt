-- When a ledger is legal: every ledger that records make from the fresh one is.
use Rattle.std.specs.Prelude.{Bool, List, [], ◌∷◌, ℕ, ◌≤◌, ◌<◌, T, length, take, get_or}
use Rattle.ints.specs.Tests.{all}
use Rattle.rows.specs.Form.{legal}
use Rattle.ledger.specs.Limits.{most_forms, most_lines, most_literals, most_levels, longest_line}
use Rattle.ledger.specs.Literals.{ascending, names_below}
use Rattle.ledger.specs.Ledger.{Line, no_line, Mark, Ledger, literal_count, is_origin}

abbrev pub line_below : ℕ → Line → Bool
line_below n x = names_below n x.literals

-- of n forms
pub record LegalLine (n : ℕ) (x : Line) : Type 0 where
  pub origin : T (is_origin x.origin)
  pub short : length x.literals ≤ longest_line
  pub ascends : T (ascending x.literals)
  pub names : T (line_below n x)

-- the last mark lies within the counts, and each mark within the one after it
abbrev pub MarksIn : ℕ → ℕ → List Mark → Type 0
MarksIn f n [] = Unit {0}
MarksIn f n (m ∷ ms) = (m.forms ≤ f) × (m.lines ≤ n) × MarksIn m.forms m.lines ms

abbrev pub Marked : Ledger → Type 0
Marked l = MarksIn (length l.forms) (length l.lines) l.marks

-- the lines name forms that there are, and those below a mark name forms below it
abbrev pub Named : ℕ → List Line → List Mark → Type 0
Named n ls [] = T (all (line_below n) ls)
Named n ls (m ∷ ms) = T (all (line_below n) ls) × Named m.forms (take m.lines ls) ms

-- over n unknowns
pub record Legal (n : ℕ) (l : Ledger) : Type 0 where
  pub few_forms : length l.forms ≤ most_forms
  pub few_lines : length l.lines ≤ most_lines
  pub few_literals : literal_count l.lines ≤ most_literals
  pub few_levels : length l.marks ≤ most_levels
  pub contents : T (all (legal n) l.forms)
  pub each : (i : ℕ) → i < length l.lines → LegalLine (length l.forms) (get_or l.lines i no_line)
  pub marked : Marked l
  pub named : Named (length l.forms) l.lines l.marks
