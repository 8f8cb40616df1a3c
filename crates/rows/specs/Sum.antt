-- The sum of rows, each its multiplier times, and what that sum reaches.
use Rattle.std.specs.Prelude.{Bool, ◌&&◌, List, [], ◌∷◌, ℕ, ℤ, pos, neg_ℤ}
use Rattle.ints.specs.Tests.{between, all}
use Rattle.rows.specs.Row.{Row, zero_row, scaled, plus}
use Rattle.rows.specs.Form.{in_range}
use Rattle.rows.specs.Limits.{largest_multiplier}

-- a form's number, and how many times its row is taken
pub record Term : Type 0 where
  pub form : ℕ
  pub multiplier : ℤ

-- `row` gives each form's row: those of the terms, each its multiplier times, added to what is there
unfoldable pub summed_onto : (ℕ → Row) → Row → List Term → Row
summed_onto row r [] = r
summed_onto row r (t ∷ ts) = summed_onto row (plus r (scaled t.multiplier (row t.form))) ts

-- the sum, over n unknowns
abbrev pub summed : ℕ → (ℕ → Row) → List Term → Row
summed n row ts = summed_onto row (zero_row n) ts

-- the row of the term and its multiplier are in range
abbrev pub bounded : (ℕ → Row) → Term → Bool
bounded row t = all in_range (row t.form) && between (neg_ℤ (pos largest_multiplier)) (pos largest_multiplier) t.multiplier
