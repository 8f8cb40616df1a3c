-- Equations and orders of polynomials: write the two sides as an `Exp`, whose atoms are the whole numbers themselves, and `omega arith`
-- proves what is left, on naturals, with the products multiplied out.
use mathlib.Core.Path.{◌≡◌, ap}
use Prim.Native.Nat.{ℕ, ◌+◌, ◌*◌, ◌≤◌, ◌<◌}
use native.Mathlib.Omega.{arith}
use lib.IntN.{ℤ, neg_ℤ, ◌+ℤ◌, ◌-ℤ◌, ◌*ℤ◌}
use lib.Signed.{◌≤ℤ◌, ◌<ℤ◌}
use Rattle.ints.proofs.Parts.{up, down, add_parts, up_neg, down_neg, up_mul, down_mul, parts→eq, le→parts, lt→parts}

infixl 6 ◌⊕◌ ◌⊝◌
infixl 7 ◌⊗◌
pub data Exp : Type 0 where
  at : ℤ → Exp
  ◌⊕◌ : Exp → Exp → Exp
  ◌⊝◌ : Exp → Exp → Exp
  ◌⊗◌ : Exp → Exp → Exp

abbrev pub eval : Exp → ℤ
eval (at x) = x
eval (a ⊕ b) = eval a +ℤ eval b
eval (a ⊝ b) = eval a -ℤ eval b
eval (a ⊗ b) = eval a *ℤ eval b

-- two naturals whose difference is the value; a pair, so that each is computed once
abbrev pub parts : Exp → ℕ × ℕ
parts (at x) = (up x, down x)
parts (a ⊕ b) = ((parts a).0 + (parts b).0, (parts a).1 + (parts b).1)
parts (a ⊝ b) = ((parts a).0 + (parts b).1, (parts a).1 + (parts b).0)
parts (a ⊗ b) = ((parts a).0 * (parts b).0 + (parts a).1 * (parts b).1, (parts a).0 * (parts b).1 + (parts a).1 * (parts b).0)

product_parts : (u d p n u' d' p' n' : ℕ) → u + n ≡ d + p → u' + n' ≡ d' + p'
    → (u * u' + d * d') + (p * n' + n * p') ≡ (u * d' + d * u') + (p * p' + n * n')
product_parts u d p n u' d' p' n' e e' =
    omega
    (arith, ap (λ (t : ℕ). t * u') e, ap (λ (t : ℕ). t * d') e, ap (λ (t : ℕ). p * t) e', ap (λ (t : ℕ). n * t) e')

parts_are : (e : Exp) → up (eval e) + (parts e).1 ≡ down (eval e) + (parts e).0
parts_are (at x) = omega arith
parts_are (a ⊕ b) = omega (arith, add_parts (eval a) (eval b), parts_are a, parts_are b)
parts_are (a ⊝ b) = omega (arith, add_parts (eval a) (neg_ℤ (eval b)), up_neg (eval b), down_neg (eval b), parts_are a, parts_are b)
parts_are (a ⊗ b) =
    rw (up_mul (eval a) (eval b), down_mul (eval a) (eval b)) (product_parts _ _ _ _ _ _ _ _ (parts_are a) (parts_are b))

-- a goal on ℤ from one on naturals

pub eq_by : (e f : Exp) → (parts e).0 + (parts f).1 ≡ (parts f).0 + (parts e).1 → eval e ≡ eval f
eq_by e f h = parts→eq _ _ (omega (arith, parts_are e, parts_are f))

-- what a hypothesis on ℤ says of naturals

pub le_of : (e f : Exp) → eval e ≤ℤ eval f → (parts e).0 + (parts f).1 ≤ (parts f).0 + (parts e).1
le_of e f h = omega (arith, parts_are e, parts_are f, le→parts h)

pub lt_of : (e f : Exp) → eval e <ℤ eval f → (parts e).0 + (parts f).1 < (parts f).0 + (parts e).1
lt_of e f h = omega (arith, parts_are e, parts_are f, lt→parts h)
