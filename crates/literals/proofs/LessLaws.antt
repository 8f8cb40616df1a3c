-- A line less one literal is shorter exactly where the line holds the literal.
use mathlib.Core.Path.{◌≡◌, refl, sym, ap, ◌∙◌}
use mathlib.Core.Bool.{true, false}
use mathlib.Core.List.{List, [], ◌∷◌}
use Prim.Native.Nat.{ℕ, ◌≤◌}
use native.Mathlib.Omega.{arith}
use lib.ListN.{length, take}
use lib.Seq.{length-take-le}
use Rattle.std.proofs.lemmas.Grind.{common_steps}
use Rattle.ledger.specs.Literals.{holds, without}
use Rattle.literals.specs.Lists.{Gathered}

length_without : (x : ℕ) (ys : List ℕ) → length (without x ys) ≤ length ys
length_without x [] = omega arith
length_without x (y ∷ ys) = grind (arith, common_steps, length_without x ys)

same_length : (x : ℕ) (ys : List ℕ) → length (without x ys) ≡ length ys → holds x ys ≡ false
same_length x [] e = refl
same_length x (y ∷ ys) e = grind (arith, common_steps, length_without x ys, same_length x ys)

other_length : (x : ℕ) (ys : List ℕ) → (length (without x ys) ≡ length ys → ⊥) → holds x ys ≡ true
other_length x [] f = absurd (f refl)
other_length x (y ∷ ys) f = grind (arith, common_steps, other_length x ys)

-- what a line leaves, gathered in front

module _ {line ys cells : List ℕ} {x count : ℕ} (e : line ≡ ys) (g : Gathered line x count cells) where
  pub left_is : take count cells ≡ without x ys
  left_is = g.left ∙ ap (without x) e

  module _ (whole : length line ≤ length cells) where
    count_is : count ≡ length (without x ys)
    count_is = sym (length-take-le count cells (omega (arith, g.few))) ∙ ap length left_is

    pub none_lost : count ≡ length line → holds x ys ≡ false
    none_lost q = same_length x ys (sym count_is ∙ q ∙ ap length e)

    pub some_lost : (count ≡ length line → ⊥) → holds x ys ≡ true
    some_lost f = other_length x ys (λ q. f (count_is ∙ q ∙ sym (ap length e)))
