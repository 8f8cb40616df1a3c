-- Quotients rounded up: B with c (B − 1) < A ≤ c B. For a positive c there is just one, and what is at most −A / c is at most −B.
use mathlib.Core.Path.{◌≡◌}
use mathlib.Core.Logic.{◌⊎◌, inl, inr}
use native.Mathlib.Omega.{arith}
use lib.IntN.{ℤ, pos, ◌+ℤ◌, ◌-ℤ◌, ◌*ℤ◌}
use lib.Signed.{◌≤ℤ◌, ◌<ℤ◌}
use Rattle.ints.proofs.Parts.{sub_parts, ints}
use Rattle.ints.proofs.Order.{total, mul_mono}
use Rattle.ints.proofs.Polynomial.{at, ◌⊕◌, ◌⊝◌, ◌⊗◌, le_of, lt_of}

-- c X + A ≤ 0 gives X + B ≤ 0
pub tighten : (c X A B : ℤ) → pos 1 ≤ℤ c → (c *ℤ (B -ℤ pos 1)) <ℤ A → (A +ℤ c *ℤ X) ≤ℤ pos 0 → (B +ℤ X) ≤ℤ pos 0
tighten c X A B hc low h = go (total (B +ℤ X) (pos 0))
  where
    go : ((B +ℤ X) ≤ℤ pos 0) ⊎ (pos 0 <ℤ (B +ℤ X)) → (B +ℤ X) ≤ℤ pos 0
    go (inl k) = k
    go (inr k) =
        let m : (c *ℤ pos 0) ≤ℤ (c *ℤ ((B +ℤ X) -ℤ pos 1)) = mul_mono c (omega ints) (omega (ints, sub_parts (B +ℤ X) (pos 1))) in
        absurd
        (omega (
          arith,
          lt_of (at c ⊗ (at B ⊝ at (pos 1))) (at A) low,
          le_of (at A ⊕ at c ⊗ at X) (at (pos 0)) h,
          le_of (at c ⊗ at (pos 0)) (at c ⊗ ((at B ⊕ at X) ⊝ at (pos 1))) m,
        ))

-- a number below another is at most the other less one, so both bounds leave one quotient
pub rounded_once : (c A B D : ℤ) → pos 1 ≤ℤ c → (c *ℤ (B -ℤ pos 1)) <ℤ A → A ≤ℤ (c *ℤ B) → (c *ℤ (D -ℤ pos 1)) <ℤ A → A ≤ℤ (c *ℤ D) → B ≡ D
rounded_once c A B D hc low high low' high' = go (total B D) (total D B)
  where
    apart : (P Q : ℤ) → (c *ℤ (Q -ℤ pos 1)) <ℤ A → A ≤ℤ (c *ℤ P) → P <ℤ Q → ⊥
    apart P Q l h k =
        let m : (c *ℤ P) ≤ℤ (c *ℤ (Q -ℤ pos 1)) = mul_mono c (omega ints) (omega (ints, sub_parts Q (pos 1))) in
        omega ints

    go : (B ≤ℤ D) ⊎ (D <ℤ B) → (D ≤ℤ B) ⊎ (B <ℤ D) → B ≡ D
    go (inl h) (inl k) = omega ints
    go (inl h) (inr k) = absurd (apart B D low' high k)
    go (inr h) k = absurd (apart D B low high' h)
