-- Divisibility, by 0 too: a multiple of d is d times some whole number, what sums, products and negations of multiples are, and
-- that one of d neighbours is a multiple of d.
use mathlib.Core.Path.{◌≡◌, sym, ap, ap₂, ◌∙◌}
use Prim.Native.Nat.{ℕ, suc, ◌+◌, ◌*◌, ◌-◌, ◌/◌, ◌%◌, ◌≤◌, ◌<◌}
use native.Mathlib.Nat.{mod-zero, mod-lt, div-add-mod', mul-mod_right}
use native.Mathlib.Omega.{arith}
use lib.Dec.{T, eqb→eq, eqb-suc-zero}
use lib.IntN.{ℤ, pos, negsuc, neg_ℤ, nat_abs, ◌+ℤ◌, ◌*ℤ◌, *ℤ-zero}
use Rattle.ints.specs.Tests.{eq_z, divides}
use Rattle.ints.specs.Multiples.{Multiple}
use Rattle.ints.proofs.Ring.{mul_add, mul_assoc, mul_neg, neg_mul}
use Rattle.ints.proofs.Size.{nat_abs_mul}
use Rattle.ints.proofs.Parts.{add_parts, up_neg, down_neg, parts→eq}
use Rattle.ints.proofs.Order.{mul_cancel}
use lib.Signed.{◌≤ℤ◌}

exact : (d n : ℕ) → n % d ≡ 0 → n ≡ d * (n / d)
exact d n e = let f : n / d * d + n % d ≡ n = div-add-mod' n d in omega arith

by_natural : (d : ℕ) (z : ℤ) → nat_abs z % d ≡ 0 → (q : ℤ) × (z ≡ pos d *ℤ q)
by_natural d (pos n) e = (pos (n / d), ap pos (exact d n e))
by_natural d (negsuc n) e =
    (neg_ℤ (pos (suc n / d)), ap (λ (k : ℕ). neg_ℤ (pos k)) (exact d (suc n) e) ∙ sym (mul_neg (pos d) (pos (suc n / d))))

pub divides→multiple : (d z : ℤ) → T (divides d z) → Multiple d z
unfolding Multiple
divides→multiple (pos d) z t = by_natural d z (eqb→eq _ 0 t)
divides→multiple (negsuc d) z t =
    let (q, e) = by_natural (suc d) z (eqb→eq _ 0 t) in
    (neg_ℤ q, e ∙ sym (mul_neg (negsuc d) q ∙ sym (neg_mul (negsuc d) q)))

pub multiple→divides : (d z : ℤ) → Multiple d z → T (divides d z)
unfolding Multiple
multiple→divides d z (q, e) = rw (e, nat_abs_mul d q, mul-mod_right (nat_abs d) (nat_abs q)) tt

pub multiple_zero : (d : ℤ) → Multiple d (pos 0)
unfolding Multiple
multiple_zero d = (pos 0, sym (*ℤ-zero d))

pub multiple_add : (d a b : ℤ) → Multiple d a → Multiple d b → Multiple d (a +ℤ b)
unfolding Multiple
multiple_add d a b (q, e) (r, f) = (q +ℤ r, ap₂ ◌+ℤ◌ e f ∙ sym (mul_add d q r))

pub multiple_mul : (d a m : ℤ) → Multiple d a → Multiple d (a *ℤ m)
unfolding Multiple
multiple_mul d a m (q, e) = (q *ℤ m, ap (λ (z : ℤ). z *ℤ m) e ∙ mul_assoc d q m)

-- a multiple of e is one of what divides e
pub multiple_trans : (d e z : ℤ) → Multiple d e → Multiple e z → Multiple d z
unfolding Multiple
multiple_trans d e z m (r, f) = rw f (multiple_mul d e r m)

-- times a factor, both ways

pub multiple_scaled : (k d z : ℤ) → Multiple d z → Multiple (k *ℤ d) (k *ℤ z)
unfolding Multiple
multiple_scaled k d z (q, e) = (q, ap (λ (y : ℤ). k *ℤ y) e ∙ sym (mul_assoc k d q))

pub multiple_unscaled : (k d z : ℤ) → pos 1 ≤ℤ k → Multiple (k *ℤ d) (k *ℤ z) → Multiple d z
unfolding Multiple
multiple_unscaled k d z h (q, e) = (q, mul_cancel k z (d *ℤ q) h (e ∙ mul_assoc k d q))

-- of d neighbours one is a multiple of d
pub some_multiple : (d : ℕ) (z : ℤ) → 1 ≤ d → (i : ℕ) × (i < d) × Multiple (pos d) (pos i +ℤ z)
unfolding Multiple
some_multiple d (pos n) h =
    let m = n + (d - 1) in
    let r = mod-lt m h in
    let e = div-add-mod' m d in
    (d - 1 - m % d, omega arith, (pos (m / d), ap pos (omega arith)))
some_multiple d (negsuc n) h =
    let q = suc n / d in
    let e = div-add-mod' (suc n) d in (
      suc n % d,
      mod-lt (suc n) h,
      (neg_ℤ (pos q), parts→eq _ _ (omega (arith, add_parts (pos (suc n % d)) (negsuc n), up_neg (pos (d * q)), down_neg (pos (d * q)))) ∙ sym (mul_neg (pos d) (pos q))),
    )

pub multiple_neg : (d a : ℤ) → Multiple d a → Multiple d (neg_ℤ a)
unfolding Multiple
multiple_neg d a (q, e) = (neg_ℤ q, ap neg_ℤ e ∙ sym (mul_neg d q))

-- only 0 is a multiple of 0
pub divides_zero : (z : ℤ) → divides (pos 0) z ≡ eq_z z (pos 0)
divides_zero (pos n) = rw (mod-zero n)
divides_zero (negsuc n) = rw (mod-zero (suc n)) (eqb-suc-zero n)
