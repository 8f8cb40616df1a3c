-- Signed machine numbers. A signed local holds bits; what is read back from the bits of a number that fits is the number.
use mathlib.Core.Path.{◌≡◌, sym, subst, ap, ◌∙◌}
use mathlib.Core.Bool.{true, false}
use lib.Dec.{T, eqb, eqb→eq, eqb_refl}
use lib.IntN.{ℤ}
use borrow.Author.Tests.{eq-eqb, ne_eqb}
use mir.Syntax.{Width, w32, w64}
use mir.Val.{to_z, of_z, SFits}
use mir.ValLaws.{to_z-of_z}
use Rattle.ints.specs.Tests.{eq_z}
use Rattle.ints.proofs.Bools.{T-same}
use Rattle.ints.proofs.Order.{eq_z→eq, eq_z_refl}
use Rattle.ints.proofs.Size.{wider}

-- the bits of v, which is x and fits, are read back as x
pub read : (w : Width) {v x : ℤ} → v ≡ x → SFits w x → to_z w (of_z w v) ≡ x
read w {v} {x} e f = ap (λ (z : ℤ). to_z w (of_z w z)) e ∙ to_z-of_z w x f

-- what fits, of a value that is it
pub fit : {w : Width} {v x : ℤ} → v ≡ x → SFits w x → SFits w v
fit {w} e f = subst (SFits w) (sym e) f

-- `==` compares bits, which are the same exactly where the numbers are
module _ (w : Width) (x y : ℤ) (fx : SFits w x) (fy : SFits w y) where
  pub bits_eq_z : eqb (of_z w x) (of_z w y) ≡ eq_z x y
  bits_eq_z =
      T-same _ _
      (λ t. let e : x ≡ y = sym (to_z-of_z w x fx) ∙ ap (to_z w) (eqb→eq _ _ t) ∙ to_z-of_z w y fy in subst (λ (z : ℤ). T (eq_z x z)) e (eq_z_refl x))
      (λ t. subst (λ (z : ℤ). T (eqb (of_z w x) (of_z w z))) (eq_z→eq x y t) (eqb_refl (of_z w x)))

  pub bits_same : of_z w x ≡ of_z w y → eq_z x y ≡ true
  bits_same e = sym bits_eq_z ∙ eq-eqb (of_z w x) (of_z w y) e

  pub bits_differ : (of_z w x ≡ of_z w y → ⊥) → eq_z x y ≡ false
  bits_differ n = sym bits_eq_z ∙ ne_eqb (of_z w x) (of_z w y) n

-- ---- an i32 taken for an i64

pub widened : {x : ℤ} → SFits w32 x → to_z w64 (of_z w64 (to_z w32 (of_z w32 x))) ≡ x
widened {x} f = read w64 (to_z-of_z w32 x f) (wider f)

pub widened_fits : {x : ℤ} → SFits w32 x → SFits w64 (to_z w32 (of_z w32 x))
widened_fits {x} f = fit (to_z-of_z w32 x f) (wider f)
