-- The order of the whole numbers, and the tests that compute it.
use mathlib.Core.Path.{◌≡◌, refl, ap}
use mathlib.Core.Bool.{true, false}
use mathlib.Core.List.{List, [], ◌∷◌}
use mathlib.Core.Logic.{◌⊎◌, inl, inr}
use Prim.Native.Nat.{◌+◌, ◌≤◌}
use native.Mathlib.Nat.{mul-le-mul_left, eq_of_mul-eq-mul_left}
use native.Mathlib.Decide.{dec_le}
use lib.Dec.{T, eqb→eq, eqb_refl}
use lib.IntN.{ℤ, pos, negsuc, ◌*ℤ◌}
use lib.Signed.{le_z, lt_z, ◌≤ℤ◌, ◌<ℤ◌, le_z_yes, lt_z_yes, lt_z_no}
use Rattle.ints.specs.Tests.{eq_z, eq_zs, between}
use Rattle.ints.proofs.Bools.{T_and, and_T, T→true, T→false, true→T, false→T}
use Rattle.ints.proofs.Parts.{up, down, up_mul, down_mul, parts→eq, le→parts, parts→le, ints}

pub total : (a b : ℤ) → (a ≤ℤ b) ⊎ (b <ℤ a)
total a b = go (dec_le (up a + down b) (up b + down a))
  where
    go : Dec (up a + down b ≤ up b + down a) → (a ≤ℤ b) ⊎ (b <ℤ a)
    go (yes h) = inl (parts→le h)
    go (no h) = inr (omega ints)

-- times a factor that is not negative
pub mul_mono : {a b : ℤ} (c : ℤ) → pos 0 ≤ℤ c → a ≤ℤ b → (c *ℤ a) ≤ℤ (c *ℤ b)
mul_mono {a} {b} (pos c) z h =
    omega (ints, up_mul (pos c) a, down_mul (pos c) a, up_mul (pos c) b, down_mul (pos c) b, mul-le-mul_left c (le→parts h))
mul_mono (negsuc c) z h = absurd z.le

-- a positive factor is cancelled
pub mul_cancel : (c x y : ℤ) → pos 1 ≤ℤ c → c *ℤ x ≡ c *ℤ y → x ≡ y
mul_cancel (pos c) x y h e =
    parts→eq x y
    (eq_of_mul-eq-mul_left c (omega ints) (up x + down y) (up y + down x)
    (omega (ints, up_mul (pos c) x, down_mul (pos c) x, up_mul (pos c) y, down_mul (pos c) y)))
mul_cancel (negsuc c) x y h e = absurd h.le

-- ---- the tests

pub eq_z→eq : (a b : ℤ) → T (eq_z a b) → a ≡ b
eq_z→eq (pos a) (pos b) t = ap pos (eqb→eq a b t)
eq_z→eq (pos a) (negsuc b) t = absurd t
eq_z→eq (negsuc a) (pos b) t = absurd t
eq_z→eq (negsuc a) (negsuc b) t = ap negsuc (eqb→eq a b t)

pub eq_z_refl : (a : ℤ) → T (eq_z a a)
eq_z_refl (pos a) = eqb_refl a
eq_z_refl (negsuc a) = eqb_refl a

pub eq_zs→eq : (xs ys : List ℤ) → T (eq_zs xs ys) → xs ≡ ys
eq_zs→eq [] [] t = refl
eq_zs→eq [] (y ∷ ys) t = absurd t
eq_zs→eq (x ∷ xs) [] t = absurd t
eq_zs→eq (x ∷ xs) (y ∷ ys) t =
    let h = T_and (eq_z x y) (eq_zs xs ys) t in rw (eq_z→eq x y h.0, eq_zs→eq xs ys h.1)

pub eq_zs_refl : (xs : List ℤ) → T (eq_zs xs xs)
eq_zs_refl [] = tt
eq_zs_refl (x ∷ xs) = and_T (eq_z x x) (eq_zs xs xs) (eq_z_refl x) (eq_zs_refl xs)

pub lt→not_le : (a b : ℤ) → lt_z a b ≡ true → le_z b a ≡ false
lt→not_le a b e =
    let l : a <ℤ b = lt_z_yes (true→T e) in
    T→false (le_z b a) (λ t. let m : b ≤ℤ a = le_z_yes t in omega ints)

pub not_lt→le : (a b : ℤ) → lt_z a b ≡ false → le_z b a ≡ true
not_lt→le a b e = let l : b ≤ℤ a = lt_z_no (false→T e) in T→true (le_z b a) l.le

pub between→le : (low high z : ℤ) → T (between low high z) → (low ≤ℤ z) × (z ≤ℤ high)
between→le low high z t = let h = T_and (le_z low z) (le_z z high) t in (le_z_yes h.0, le_z_yes h.1)
