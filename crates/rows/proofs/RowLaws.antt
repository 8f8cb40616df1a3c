-- Comparing a row with a multiple of another, cell by cell, and what scaling by 1 and shifting by 0 leave as it is.
use mathlib.Core.Path.{◌≡◌, refl, ap, ap₂}
use mathlib.Core.Bool.{Bool, true, false, ◌&&◌, and-false}
use mathlib.Core.List.{List, [], ◌∷◌}
use Prim.Native.Nat.{ℕ, suc, ◌+◌, ◌-◌, ◌≤◌, ◌<◌}
use native.Mathlib.Numerals.{add-one}
use native.Mathlib.Omega.{arith}
use lib.IntN.{ℤ, pos, ◌+ℤ◌, ◌*ℤ◌, +ℤ_idl}
use lib.ListN.{length, get_or, take, drop, length-drop, drop_of_length-le}
use lib.Seq.{drop-cons, take_all}
use Rattle.ints.specs.Tests.{eq_z, eq_zs}
use Rattle.ints.proofs.Ring.{one_mul}
use Rattle.rows.specs.Row.{Row, scaled, shifted}
use Rattle.rows.specs.Summable.{row_at, Inside}
use Rattle.rows.proofs.FormCells.{length_row}

pub scaled_one : (r : Row) → scaled (pos 1) r ≡ r
scaled_one [] = refl
scaled_one (k ∷ r) = ap₂ ◌∷◌ (one_mul k) (scaled_one r)

pub unshifted : (m : ℤ) (r : Row) → 0 < length r → shifted (pos 0) (scaled m r) ≡ scaled m r
unshifted m [] h = absurd (omega arith)
unshifted m (k ∷ r) h = ap (λ (z : ℤ). z ∷ scaled m r) (+ℤ_idl (m *ℤ k))

-- a row in a table has a constant
pub filled : (n : ℕ) (table : List ℤ) (f : ℕ) → Inside n table f → 0 < length (row_at n table f)
filled n table f h = omega (arith, length_row n table f h)

-- what `&xs[1..]` lends
pub tail : (xs : List ℤ) → take (length xs - 1) (drop 1 xs) ≡ drop 1 xs
tail xs = take_all (length xs - 1) (drop 1 xs) (rw length-drop (omega arith))

-- ---- comparing with m times a row

pub unequal : (a : Row) (m : ℤ) (b : Row) → (length a ≡ length b → ⊥) → eq_zs a (scaled m b) ≡ false
unequal [] m [] h = absurd (h refl)
unequal [] m (y ∷ b) h = refl
unequal (x ∷ a) m [] h = refl
unequal (x ∷ a) m (y ∷ b) h = rw (unequal a m b (λ e. h (ap suc e))) (and-false (eq_z x (m *ℤ y)))

module _ (a : Row) (m : ℤ) (b : Row) where
  -- the cells from i on
  abbrev pub rest : ℕ → Bool
  rest i = eq_zs (drop i a) (scaled m (drop i b))

  -- the test of the cells at i gives t
  pub rest_step : (i : ℕ) {t : Bool} → i < length a → i < length b → eq_z (get_or a i (pos 0)) (pos 0 +ℤ (m *ℤ get_or b i (pos 0))) ≡ t
      → rest i ≡ t && rest (i + 1)
  rest_step i ha hb e = rw (add-one, drop-cons a i (pos 0) ha, drop-cons b i (pos 0) hb, ← +ℤ_idl (m *ℤ get_or b i (pos 0)), e)

  pub rest_over : (i : ℕ) → length a ≤ i → length b ≤ i → rest i ≡ true
  rest_over i ha hb = rw (drop_of_length-le a ha, drop_of_length-le b hb)

-- ---- comparing with n + m times a row

pub empty_image : (a : Row) (n : ℤ) (r : Row) → length a ≡ 0 → eq_zs a (shifted n r) ≡ false
empty_image [] n [] h = refl
empty_image [] n (k ∷ r) h = refl
empty_image (x ∷ a) n r h = absurd (omega arith)

-- the test of the constants gives t
pub image_step : (a : Row) (n m : ℤ) (b : Row) {t : Bool} → 0 < length a → 0 < length b
    → eq_z (get_or a 0 (pos 0)) (n +ℤ (m *ℤ get_or b 0 (pos 0))) ≡ t → eq_zs a (shifted n (scaled m b)) ≡ t && rest a m b 1
image_step [] n m b ha hb e = absurd (omega arith)
image_step (x ∷ a) n m [] ha hb e = absurd (omega arith)
image_step (x ∷ a) n m (y ∷ b) ha hb e = rw e
