-- The sum as the code takes it: over picks and multipliers in step, what it reaches, and what may be summed without a wrap.
use Rattle.std.specs.Prelude.{Bool, ◌&&◌, cond, List, ◌∷◌, [], ℕ, ◌+◌, ◌*◌, ◌≤◌, suc, ◌^◌, ◌<◌, eqb, T, leb, ℤ, pos, nat_abs, length, get_or, ◌≡◌}
use Rattle.ints.specs.Tests.{all, divides}
use Rattle.rows.specs.Limits.{most_terms}
use Rattle.rows.specs.Row.{Row, constant, coefficients}
use Rattle.rows.specs.declared.Reached.{Reached}
use Rattle.rows.specs.declared.Reached.TheVariants.{Coefficient, Constant}
use Rattle.rows.specs.Form.{form_at}
use Rattle.rows.specs.Sum.{Term, bounded}

abbrev pub row_at : ℕ → List ℤ → ℕ → Row
row_at n table f = (form_at n table f).row

-- the table has form f
pub record Inside (n : ℕ) (table : List ℤ) (f : ℕ) : Type 0 where
  pub inside : (n + 3) * f + (n + 3) ≤ length table

-- it has every picked form
pub record Picked (n : ℕ) (table : List ℤ) (picks : List ℕ) : Type 0 where
  pub inside : (i : ℕ) → i < length picks → Inside n table (get_or picks i 0)

-- the first form with the first multiplier, and so on
abbrev pub terms : List ℕ → List ℤ → List Term
terms [] ms = []
terms (f ∷ fs) [] = []
terms (f ∷ fs) (m ∷ ms) = record { form = f; multiplier = m } ∷ terms fs ms

-- the lowest unknown, counted from k, whose coefficient is no multiple of d, or else the constant z
unfoldable pub lowest : ℤ → ℤ → ℕ → List ℤ → Reached
lowest d z k [] = Constant z
lowest d z k (s ∷ ss) = cond (divides d s) (lowest d z (suc k) ss) (Coefficient k s)

abbrev pub reached : ℤ → Row → Reached
reached d r = lowest d (constant r) 0 (coefficients r)

abbrev pub summand : ℕ → List ℤ → Term → Bool
summand n table t = leb ((n + 3) * t.form + (n + 3)) (length table) && bounded (row_at n table) t

abbrev pub summable : ℕ → List ℤ → List ℕ → List ℤ → Bool
summable n table picks multipliers =
    leb (length picks) most_terms
    && eqb (length picks) (length multipliers)
    && all (summand n table) (terms picks multipliers)

-- what the sum asks of its caller
pub record Summable (n : ℕ) (table : List ℤ) (picks : List ℕ) (multipliers : List ℤ) : Type 0 where
  pub few : length picks ≤ most_terms
  pub paired : length picks ≡ length multipliers
  pub summands : T (all (summand n table) (terms picks multipliers))

-- there is a sum for each cell of the row, and each has room for m times the cell
pub record Addable (m : ℤ) (sums row : List ℤ) : Type 0 where
  pub same : length sums ≡ length row
  pub room : (j : ℕ) → nat_abs (get_or sums j (pos 0)) + nat_abs m * nat_abs (get_or row j (pos 0)) < 2 ^ 63

-- no sum is the least number, whose size does not fit
pub record Small (sums : List ℤ) : Type 0 where
  pub small : (j : ℕ) → nat_abs (get_or sums j (pos 0)) < 2 ^ 63
