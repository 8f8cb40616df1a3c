-- A whole number by two naturals: `up z` − `down z` is z, and one of the two is 0. Sums, products, equations and orders of whole
-- numbers are read off these naturals, where `omega` works: `omega (ints, add_parts a b)` proves an order that speaks of a + b.
use mathlib.Core.Path.{◌≡◌, refl, sym, ap, subst}
use mathlib.Core.Bool.{Bool, true, false, not, cond}
use Prim.Native.Nat.{ℕ, zero, suc, ◌+◌, ◌*◌, ◌-◌, ◌≤◌, ◌<◌}
use native.Mathlib.Omega.{arith}
use lib.Dec.{T, ltb, ltb→lt, nltb→le, lt→ltb, le→leb, leb→le}
use lib.IntN.{ℤ, pos, negsuc, neg_ℤ, sub_ℕ, ◌+ℤ◌, ◌-ℤ◌, ◌*ℤ◌}
use lib.Signed.{lt_z, le_z, ◌≤ℤ◌, ◌<ℤ◌}

abbrev pub up : ℤ → ℕ
up (pos n) = n
up (negsuc n) = 0

abbrev pub down : ℤ → ℕ
down (pos n) = 0
down (negsuc n) = suc n

-- ---- the operations

natural_parts : (x y : ℕ) → up (sub_ℕ x y) + y ≡ down (sub_ℕ x y) + x
natural_parts x y = go (ltb x y) refl
  where
    go : (t : Bool) → ltb x y ≡ t → up (cond t (negsuc (y - suc x)) (pos (x - y))) + y ≡ down (cond t (negsuc (y - suc x)) (pos (x - y))) + x
    go true h = let l : x < y = ltb→lt x y (subst T (sym h) tt) in omega arith
    go false h = let l : y ≤ x = nltb→le x y (subst (λ (b : Bool). T (not b)) (sym h) tt) in omega arith

pub add_parts : (a b : ℤ) → up (a +ℤ b) + (down a + down b) ≡ down (a +ℤ b) + (up a + up b)
add_parts (pos a) (pos b) = omega arith
add_parts (pos a) (negsuc b) = omega (arith, natural_parts a (suc b))
add_parts (negsuc a) (pos b) = omega (arith, natural_parts b (suc a))
add_parts (negsuc a) (negsuc b) = omega arith

pub up_neg : (a : ℤ) → up (neg_ℤ a) ≡ down a
up_neg (pos zero) = refl
up_neg (pos (suc n)) = refl
up_neg (negsuc n) = refl

pub down_neg : (a : ℤ) → down (neg_ℤ a) ≡ up a
down_neg (pos zero) = refl
down_neg (pos (suc n)) = refl
down_neg (negsuc n) = refl

pub sub_parts : (a b : ℤ) → up (a -ℤ b) + (down a + up b) ≡ down (a -ℤ b) + (up a + down b)
sub_parts a b = omega (arith, add_parts a (neg_ℤ b), up_neg b, down_neg b)

pub up_mul : (a b : ℤ) → up (a *ℤ b) ≡ up a * up b + down a * down b
up_mul (pos a) (pos b) = omega arith
up_mul (pos a) (negsuc b) = omega (arith, up_neg (pos (a * suc b)))
up_mul (negsuc a) (pos b) = omega (arith, up_neg (pos (suc a * b)))
up_mul (negsuc a) (negsuc b) = omega arith

pub down_mul : (a b : ℤ) → down (a *ℤ b) ≡ up a * down b + down a * up b
down_mul (pos a) (pos b) = omega arith
down_mul (pos a) (negsuc b) = omega (arith, down_neg (pos (a * suc b)))
down_mul (negsuc a) (pos b) = omega (arith, down_neg (pos (suc a * b)))
down_mul (negsuc a) (negsuc b) = omega arith

-- ---- the relations, each way

pub eq→parts : (a b : ℤ) → a ≡ b → up a + down b ≡ up b + down a
eq→parts a b e = let f : up a ≡ up b = ap up e in let g : down a ≡ down b = ap down e in omega arith

pub parts→eq : (a b : ℤ) → up a + down b ≡ up b + down a → a ≡ b
parts→eq (pos a) (pos b) h = ap pos (omega arith)
parts→eq (pos a) (negsuc b) h = absurd (omega arith)
parts→eq (negsuc a) (pos b) h = absurd (omega arith)
parts→eq (negsuc a) (negsuc b) h = ap negsuc (omega arith)

pub le_z→parts : (a b : ℤ) → T (le_z a b) → up a + down b ≤ up b + down a
le_z→parts (pos a) (pos b) t = omega (arith, leb→le a b t)
le_z→parts (pos a) (negsuc b) t = absurd t
le_z→parts (negsuc a) (pos b) t = omega arith
le_z→parts (negsuc a) (negsuc b) t = omega (arith, leb→le b a t)

pub parts→le_z : (a b : ℤ) → up a + down b ≤ up b + down a → T (le_z a b)
parts→le_z (pos a) (pos b) h = le→leb a b (omega arith)
parts→le_z (pos a) (negsuc b) h = absurd (omega arith)
parts→le_z (negsuc a) (pos b) h = tt
parts→le_z (negsuc a) (negsuc b) h = le→leb b a (omega arith)

pub lt_z→parts : (a b : ℤ) → T (lt_z a b) → up a + down b < up b + down a
lt_z→parts (pos a) (pos b) t = omega (arith, ltb→lt a b t)
lt_z→parts (pos a) (negsuc b) t = absurd t
lt_z→parts (negsuc a) (pos b) t = omega arith
lt_z→parts (negsuc a) (negsuc b) t = omega (arith, ltb→lt b a t)

pub parts→lt_z : (a b : ℤ) → up a + down b < up b + down a → T (lt_z a b)
parts→lt_z (pos a) (pos b) h = lt→ltb a b (omega arith)
parts→lt_z (pos a) (negsuc b) h = absurd (omega arith)
parts→lt_z (negsuc a) (pos b) h = tt
parts→lt_z (negsuc a) (negsuc b) h = lt→ltb b a (omega arith)

pub le→parts : {a b : ℤ} → a ≤ℤ b → up a + down b ≤ up b + down a
le→parts {a} {b} h = le_z→parts a b h.le

pub parts→le : {a b : ℤ} → up a + down b ≤ up b + down a → a ≤ℤ b
parts→le {a} {b} h = record { le = parts→le_z a b h }

pub lt→parts : {a b : ℤ} → a <ℤ b → up a + down b < up b + down a
lt→parts {a} {b} h = lt_z→parts a b h.lt

pub parts→lt : {a b : ℤ} → up a + down b < up b + down a → a <ℤ b
parts→lt {a} {b} h = record { lt = parts→lt_z a b h }

-- what `omega` reads of ℤ: hypotheses and goals that are equations or orders
pub ruleset ints = (eq→parts, parts→eq, le→parts, parts→le, lt→parts, parts→lt, arith)
