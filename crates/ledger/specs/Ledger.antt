-- A ledger: the forms, the lines and the marks of the open levels. And the four ways in which it changes.
use Rattle.std.specs.Prelude.{Bool, ◌&&◌, List, [], ◌∷◌, ◌++◌, ℕ, ◌+◌, leb, pos, length, take, get_or}
use Rattle.rows.specs.Row.{Row}
use Rattle.rows.specs.Form.{Form}

pub record Line : Type 0 where
  pub origin : ℕ
  pub literals : List ℕ

-- the origins of a line
abbrev pub premise : ℕ
premise = 1

abbrev pub derived : ℕ
derived = 2

abbrev pub is_origin : ℕ → Bool
is_origin o = leb premise o && leb o derived

-- the counts as a level opened; that of the literals is the total of the lines below
pub record Mark : Type 0 where
  pub forms : ℕ
  pub lines : ℕ

-- the last opened level's mark comes first
pub record Ledger : Type 0 where
  pub forms : List Form
  pub lines : List Line
  pub marks : List Mark

abbrev pub fresh : Ledger
fresh = record { forms = []; lines = []; marks = [] }

-- ---- reading

abbrev pub no_form : Form
no_form = record { kind = pos 0; divisor = pos 0; row = [] }

abbrev pub no_line : Line
no_line = record { origin = 0; literals = [] }

abbrev pub nth_form : List Form → ℕ → Form
nth_form fs f = get_or fs f no_form

abbrev pub nth_row : List Form → ℕ → Row
nth_row fs f = (nth_form fs f).row

abbrev pub nth_line : List Line → ℕ → List ℕ
nth_line ls i = (get_or ls i no_line).literals

abbrev pub literal_count : List Line → ℕ
literal_count [] = 0
literal_count (x ∷ xs) = length x.literals + literal_count xs

-- ---- changing

-- what a record makes
pub data New : Type 0 where
  new_form : Form → New
  new_line : Line → New

unfoldable pub add : Ledger → New → Ledger
add l (new_form f) = record { forms = l.forms ++ (f ∷ []); lines = l.lines; marks = l.marks }
add l (new_line x) = record { forms = l.forms; lines = l.lines ++ (x ∷ []); marks = l.marks }

unfoldable pub opened : Ledger → Ledger
opened l = record { forms = l.forms; lines = l.lines; marks = record { forms = length l.forms; lines = length l.lines } ∷ l.marks }

-- the counts return to the last mark, and its level closes
abbrev pub back_to : List Form → List Line → List Mark → Ledger
back_to fs ls [] = record { forms = fs; lines = ls; marks = [] }
back_to fs ls (m ∷ ms) = record { forms = take m.forms fs; lines = take m.lines ls; marks = ms }

unfoldable pub withdrawn : Ledger → Ledger
withdrawn l = back_to l.forms l.lines l.marks
