-- Sizes: of sums, products and negations, and when a number fits a signed machine number.
use mathlib.Core.Path.{◌≡◌}
use Prim.Native.Nat.{ℕ, suc, ◌+◌, ◌*◌, ◌≤◌, ◌<◌, ◌^◌}
use native.Mathlib.Nat.{mul-le-mul_left, mul-le-mul_right}
use native.Mathlib.Omega.{arith}
use lib.Dec.{T}
use lib.IntN.{ℤ, pos, negsuc, neg_ℤ, nat_abs, ◌+ℤ◌, ◌*ℤ◌}
use lib.Signed.{mag}
use mir.Syntax.{Width, w32, w64}
use mir.Val.{SFits, hbits}
use Rattle.ints.specs.Tests.{between}
use Rattle.ints.proofs.Order.{between→le}
use Rattle.ints.proofs.Parts.{up, down, add_parts, up_neg, down_neg, up_mul, down_mul, le→parts}

pub nat_abs_is : (a : ℤ) → nat_abs a ≡ up a + down a
nat_abs_is (pos n) = omega arith
nat_abs_is (negsuc n) = omega arith

pub nat_abs_add : (a b : ℤ) → nat_abs (a +ℤ b) ≤ nat_abs a + nat_abs b
nat_abs_add a b = within (a +ℤ b) (add_parts a b)
  where
    within : (z : ℤ) → up z + (down a + down b) ≡ down z + (up a + up b) → nat_abs z ≤ nat_abs a + nat_abs b
    within (pos n) h = omega (arith, nat_abs_is a, nat_abs_is b)
    within (negsuc n) h = omega (arith, nat_abs_is a, nat_abs_is b)

pub nat_abs_mul : (a b : ℤ) → nat_abs (a *ℤ b) ≡ nat_abs a * nat_abs b
nat_abs_mul a b = rw (nat_abs_is (a *ℤ b), nat_abs_is a, nat_abs_is b, up_mul, down_mul) (omega arith)

pub nat_abs_neg : (a : ℤ) → nat_abs (neg_ℤ a) ≡ nat_abs a
nat_abs_neg a = omega (arith, nat_abs_is (neg_ℤ a), nat_abs_is a, up_neg a, down_neg a)

-- a product of sizes within their limits
pub sizes : {a b m n : ℕ} → a ≤ m → b ≤ n → a * b ≤ m * n
sizes {a} {b} {m} {n} h k = omega (arith, mul-le-mul_left a k, mul-le-mul_right n h)

-- a number from −n to n
pub within : (n : ℕ) (z : ℤ) → T (between (neg_ℤ (pos n)) (pos n) z) → nat_abs z ≤ n
within n (pos z) t = let h = between→le (neg_ℤ (pos n)) (pos n) (pos z) t in omega (arith, le→parts h.1)
within n (negsuc z) t =
    let h = between→le (neg_ℤ (pos n)) (pos n) (negsuc z) t in omega (arith, le→parts h.0, up_neg (pos n), down_neg (pos n))

-- ---- what fits

mag_le : (a : ℤ) → mag a ≤ nat_abs a
mag_le (pos n) = omega arith
mag_le (negsuc n) = omega arith

nat_abs_le : (a : ℤ) → nat_abs a ≤ suc (mag a)
nat_abs_le (pos n) = omega arith
nat_abs_le (negsuc n) = omega arith

pub fits_by_size : (w : Width) (a : ℤ) → nat_abs a < 2 ^ hbits w → SFits w a
fits_by_size w a h = record { sfits = omega (arith, mag_le a) }

pub size_32 : {x : ℤ} → SFits w32 x → nat_abs x ≤ 2147483648
size_32 {x} f = omega (arith, nat_abs_le x, f.sfits)

pub wider : {x : ℤ} → SFits w32 x → SFits w64 x
wider f = record { sfits = omega (arith, f.sfits) }
