-- A form is a kind, a divisor and a row. How it lies in a table's cells, and which contents are legal.
use Rattle.std.specs.Prelude.{Bool, not, ◌&&◌, cond, List, ◌∷◌, ℕ, ◌+◌, ◌*◌, eqb, ℤ, pos, neg_ℤ, length, get_or, take, drop}
use Rattle.ints.specs.Tests.{eq_z, between, all}
use Rattle.rows.specs.Limits.{largest_number, largest_divisor, largest_multiplier}
use Rattle.rows.specs.Row.{Row}

pub record Form : Type 0 where
  pub kind : ℤ
  pub divisor : ℤ
  pub row : Row

-- the row's value is at most 0
abbrev pub at_most : ℤ
at_most = pos 1

-- the row's value is 0
abbrev pub is_zero : ℤ
is_zero = pos 2

-- the divisor divides the row's value
abbrev pub is_divided : ℤ
is_divided = pos 3

-- ---- cells: the kind, the divisor, and then the row's

abbrev pub form_of : List ℤ → Form
form_of cells = record { kind = get_or cells 0 (pos 0); divisor = get_or cells 1 (pos 0); row = drop 2 cells }

abbrev pub cells_of : Form → List ℤ
cells_of f = f.kind ∷ f.divisor ∷ f.row

-- the cells of form f in a table of forms of n unknowns
abbrev pub cells_at : ℕ → List ℤ → ℕ → List ℤ
cells_at n table f = take (n + 3) (drop ((n + 3) * f) table)

abbrev pub form_at : ℕ → List ℤ → ℕ → Form
form_at n table f = form_of (cells_at n table f)

-- ---- legal content

abbrev pub in_range : ℤ → Bool
in_range z = between (neg_ℤ (pos largest_number)) (pos largest_number) z

abbrev pub legal_divisor : ℤ → ℤ → Bool
legal_divisor kind d = cond (eq_z kind is_divided) (between (pos 1) (pos largest_divisor) d) (eq_z d (pos 0))

unfoldable pub legal : ℕ → Form → Bool
legal n f =
    between (pos 1) (pos 3) f.kind
    && legal_divisor f.kind f.divisor
    && eqb (length f.row) (n + 1)
    && all in_range f.row

-- what a form of this kind may be multiplied by in a sum: an at-most form by a positive number only
unfoldable pub legal_multiplier : ℤ → ℤ → Bool
legal_multiplier kind m =
    cond (eq_z kind at_most)
    (between (pos 1) (pos largest_multiplier) m)
    (between (neg_ℤ (pos largest_multiplier)) (pos largest_multiplier) m && not (eq_z m (pos 0)))
