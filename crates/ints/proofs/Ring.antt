-- The ring of the whole numbers. `simp ring` proves an equation of sums and products: both sides are multiplied out and sorted.
use mathlib.Core.Path.{◌≡◌, sym, ap, ap₂, ◌∙◌}
use Prim.Native.Nat.{ℕ, ◌*◌}
use native.Mathlib.Omega.{arith}
use lib.IntN.{ℤ, pos, neg_ℤ, ◌+ℤ◌, ◌*ℤ◌, +ℤ_assoc, +ℤ_comm, +ℤ_idl, +ℤ_idr, +ℤ_invl, +ℤ_invr, *ℤ_comm, *ℤ-zero, zero-*ℤ, neg_ℤ-+ℤ, neg_ℤ-neg_ℤ}
use Rattle.ints.proofs.Parts.{up, down, add_parts, up_neg, down_neg, up_mul, down_mul, parts→eq, ints}

pub mul_assoc : (a b c : ℤ) → (a *ℤ b) *ℤ c ≡ a *ℤ (b *ℤ c)
mul_assoc a b c = parts→eq _ _ (simp (up_mul, down_mul) (omega arith))

pub mul_add : (a b c : ℤ) → a *ℤ (b +ℤ c) ≡ a *ℤ b +ℤ a *ℤ c
mul_add a b c =
    omega (
      ints,
      up_mul a (b +ℤ c),
      down_mul a (b +ℤ c),
      add_parts (a *ℤ b) (a *ℤ c),
      up_mul a b,
      down_mul a b,
      up_mul a c,
      down_mul a c,
      ap (λ (t : ℕ). up a * t) (add_parts b c),
      ap (λ (t : ℕ). down a * t) (add_parts b c),
    )

pub add_mul : (a b c : ℤ) → (a +ℤ b) *ℤ c ≡ a *ℤ c +ℤ b *ℤ c
add_mul a b c = *ℤ_comm (a +ℤ b) c ∙ mul_add c a b ∙ ap₂ ◌+ℤ◌ (*ℤ_comm c a) (*ℤ_comm c b)

pub neg_mul : (a b : ℤ) → neg_ℤ a *ℤ b ≡ neg_ℤ (a *ℤ b)
neg_mul a b = parts→eq _ _ (simp (up_mul, down_mul, up_neg, down_neg) (omega arith))

pub mul_neg : (a b : ℤ) → a *ℤ neg_ℤ b ≡ neg_ℤ (a *ℤ b)
mul_neg a b = parts→eq _ _ (simp (up_mul, down_mul, up_neg, down_neg) (omega arith))

pub one_mul : (a : ℤ) → pos 1 *ℤ a ≡ a
one_mul a = omega (ints, up_mul (pos 1) a, down_mul (pos 1) a)

pub mul_one : (a : ℤ) → a *ℤ pos 1 ≡ a
mul_one a = *ℤ_comm a (pos 1) ∙ one_mul a

pub add_left : (a b c : ℤ) → a +ℤ (b +ℤ c) ≡ b +ℤ (a +ℤ c)
add_left a b c = sym (+ℤ_assoc a b c) ∙ ap (λ (z : ℤ). z +ℤ c) (+ℤ_comm a b) ∙ +ℤ_assoc b a c

pub mul_left : (a b c : ℤ) → a *ℤ (b *ℤ c) ≡ b *ℤ (a *ℤ c)
mul_left a b c = sym (mul_assoc a b c) ∙ ap (λ (z : ℤ). z *ℤ c) (*ℤ_comm a b) ∙ mul_assoc b a c

pub cancel_r : (a b : ℤ) → a +ℤ (neg_ℤ a +ℤ b) ≡ b
cancel_r a b = sym (+ℤ_assoc a (neg_ℤ a) b) ∙ ap (λ (z : ℤ). z +ℤ b) (+ℤ_invr a) ∙ +ℤ_idl b

pub cancel_l : (a b : ℤ) → neg_ℤ a +ℤ (a +ℤ b) ≡ b
cancel_l a b = sym (+ℤ_assoc (neg_ℤ a) a b) ∙ ap (λ (z : ℤ). z +ℤ b) (+ℤ_invl a) ∙ +ℤ_idl b

pub ruleset ring = (
  +ℤ_assoc,
  +ℤ_comm,
  add_left,
  mul_assoc,
  *ℤ_comm,
  mul_left,
  mul_add,
  add_mul,
  neg_mul,
  mul_neg,
  neg_ℤ-+ℤ,
  neg_ℤ-neg_ℤ,
  +ℤ_idl,
  +ℤ_idr,
  zero-*ℤ,
  *ℤ-zero,
  one_mul,
  mul_one,
  cancel_r,
  cancel_l,
  +ℤ_invr,
  +ℤ_invl,
)
