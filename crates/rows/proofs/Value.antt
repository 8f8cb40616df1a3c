-- The value of a row that is made of others: scaled, added up, shifted. For any number of unknowns, and rows of any lengths.
use mathlib.Core.Path.{◌≡◌, refl, ap, sym, ◌∙◌}
use mathlib.Core.List.{List, [], ◌∷◌}
use Prim.Native.Nat.{ℕ, zero, suc, ◌<◌}
use native.Mathlib.Numerals.{add-one}
use native.Mathlib.Omega.{arith}
use lib.IntN.{ℤ, pos, negsuc, neg_ℤ, ◌+ℤ◌, ◌-ℤ◌, ◌*ℤ◌, +ℤ_assoc, +ℤ_idl, +ℤ_idr, *ℤ-zero, zero-*ℤ}
use lib.ListN.{length, replicate}
use Rattle.ints.proofs.Ring.{mul_add, neg_mul, one_mul, ring}
use Rattle.rows.specs.Row.{Row, constant, coefficients, zero_row, scaled, plus, shifted, minus, one_minus, one_more}
use Rattle.rows.specs.Sum.{Term, summed_onto, summed}
use Rattle.rows.specs.Truth.{Integers, weighed, value}

-- ---- coefficients

spread : (m k x w : ℤ) → (m *ℤ k) *ℤ x +ℤ m *ℤ w ≡ m *ℤ (k *ℤ x +ℤ w)
spread m k x w = simp ring

pub weighed_scaled : (m : ℤ) (ks : List ℤ) (ρ : Integers) → weighed (scaled m ks) ρ ≡ m *ℤ weighed ks ρ
unfolding weighed
weighed_scaled m [] ρ = sym (*ℤ-zero m)
weighed_scaled m (k ∷ ks) ρ = ap (λ (z : ℤ). (m *ℤ k) *ℤ ρ 0 +ℤ z) (weighed_scaled m ks (λ i. ρ (suc i))) ∙ spread m k (ρ 0) _

weighed_plus : (ks ls : List ℤ) (ρ : Integers) → weighed (plus ks ls) ρ ≡ weighed ks ρ +ℤ weighed ls ρ
unfolding weighed
weighed_plus [] ls ρ = sym (+ℤ_idl (weighed ls ρ))
weighed_plus (k ∷ ks) [] ρ = sym (+ℤ_idr (weighed (k ∷ ks) ρ))
weighed_plus (k ∷ ks) (l ∷ ls) ρ = rw (weighed_plus ks ls (λ i. ρ (suc i))) (simp ring)

weighed_zeros : (n : ℕ) (ρ : Integers) → weighed (replicate n (pos 0)) ρ ≡ pos 0
unfolding weighed
weighed_zeros zero ρ = refl
weighed_zeros (suc n) ρ = rw (zero-*ℤ (ρ 0), weighed_zeros n (λ i. ρ (suc i)))

-- ---- rows

pub value_scaled : (m : ℤ) (r : Row) (ρ : Integers) → value (scaled m r) ρ ≡ m *ℤ value r ρ
unfolding value
value_scaled m [] ρ = simp ring
value_scaled m (k ∷ r) ρ = rw (weighed_scaled m r ρ) (sym (mul_add m k (weighed r ρ)))

pub value_plus : (r s : Row) (ρ : Integers) → value (plus r s) ρ ≡ value r ρ +ℤ value s ρ
unfolding value
value_plus [] s ρ = simp ring
value_plus (k ∷ r) [] ρ = simp ring
value_plus (k ∷ r) (l ∷ s) ρ = rw (weighed_plus r s ρ) (simp ring)

pub value_shifted : (n : ℤ) (r : Row) (ρ : Integers) → value (shifted n r) ρ ≡ n +ℤ value r ρ
unfolding value
value_shifted n [] ρ = refl
value_shifted n (k ∷ r) ρ = +ℤ_assoc n k (weighed r ρ)

pub value_minus : (r : Row) (ρ : Integers) → value (minus r) ρ ≡ neg_ℤ (value r ρ)
value_minus r ρ = value_scaled (negsuc 0) r ρ ∙ neg_mul (pos 1) (value r ρ) ∙ ap neg_ℤ (one_mul (value r ρ))

pub value_one_minus : (r : Row) (ρ : Integers) → value (one_minus r) ρ ≡ pos 1 -ℤ value r ρ
value_one_minus r ρ = rw (value_shifted (pos 1) (minus r) ρ, value_minus r ρ)

pub value_one_more : (r : Row) (ρ : Integers) → value (one_more r) ρ ≡ pos 1 +ℤ value r ρ
value_one_more r ρ = value_shifted (pos 1) r ρ

pub value_zero_row : (n : ℕ) (ρ : Integers) → value (zero_row n) ρ ≡ pos 0
unfolding value
value_zero_row n ρ = rw (add-one n, weighed_zeros n ρ)

-- ---- sums

-- what the terms' rows come to, each its multiplier times
unfoldable pub weighed_sum : (ℕ → Row) → Integers → List Term → ℤ
weighed_sum row ρ [] = pos 0
weighed_sum row ρ (t ∷ ts) = t.multiplier *ℤ value (row t.form) ρ +ℤ weighed_sum row ρ ts

value_summed_onto : (row : ℕ → Row) (r : Row) (ts : List Term) (ρ : Integers) → value (summed_onto row r ts) ρ ≡ value r ρ +ℤ weighed_sum row ρ ts
unfolding summed_onto weighed_sum
value_summed_onto row r [] ρ = sym (+ℤ_idr (value r ρ))
value_summed_onto row r (t ∷ ts) ρ =
    value_summed_onto row (plus r (scaled t.multiplier (row t.form))) ts ρ
    ∙ rw (value_plus, value_scaled) (+ℤ_assoc (value r ρ) (t.multiplier *ℤ value (row t.form) ρ) (weighed_sum row ρ ts))

pub value_summed : (n : ℕ) (row : ℕ → Row) (ts : List Term) (ρ : Integers) → value (summed n row ts) ρ ≡ weighed_sum row ρ ts
value_summed n row ts ρ = value_summed_onto row (zero_row n) ts ρ ∙ rw value_zero_row (+ℤ_idl (weighed_sum row ρ ts))

-- ---- only the unknowns of the row matter

weighed_same : (ks : List ℤ) (ρ σ : Integers) → ((i : ℕ) → i < length ks → ρ i ≡ σ i) → weighed ks ρ ≡ weighed ks σ
unfolding weighed
weighed_same [] ρ σ h = refl
weighed_same (k ∷ ks) ρ σ h =
    rw (h 0 (omega arith), weighed_same ks (λ i. ρ (suc i)) (λ i. σ (suc i)) (λ i l. h (suc i) (omega arith)))

pub value_same : (r : Row) (ρ σ : Integers) → ((i : ℕ) → i < length (coefficients r) → ρ i ≡ σ i) → value r ρ ≡ value r σ
unfolding value
value_same r ρ σ h = ap (λ (w : ℤ). constant r +ℤ w) (weighed_same (coefficients r) ρ σ h)
