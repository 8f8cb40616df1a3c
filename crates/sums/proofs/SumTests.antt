-- The tests of terms and of sums as the code makes them: by the pairs of a pick and its multiplier, and by the first place of a stray sum.
use mathlib.Core.Path.{◌≡◌, refl, ap, ◌∙◌}
use mathlib.Core.Bool.{Bool, true, false, cond, not}
use mathlib.Core.List.{List, [], ◌∷◌}
use Prim.Native.Nat.{ℕ, suc, ◌+◌, ◌<◌}
use native.Mathlib.Numerals.{add-one}
use native.Mathlib.Omega.{arith}
use lib.IntN.{ℤ, pos}
use lib.ListN.{length, get_or, drop}
use lib.Seq.{get_or-drop}
use Rattle.std.specs.List.{list_all, zip, position_from}
use Rattle.std.proofs.Common.{Some, None}
use Rattle.ints.proofs.Bools.{never}
use Rattle.ints.specs.Tests.{all, divides}
use Rattle.rows.specs.declared.Reached.TheVariants.{Coefficient, Constant}
use Rattle.rows.specs.Summable.{terms, lowest}
use Rattle.rows.specs.Sum.{Term}
use Rattle.rows.proofs.TermLaws.{term}

pub pairs : (test : Term → Bool) (ps : List ℕ) (ms : List ℤ) → list_all (λ p. test (term p.0 p.1)) (zip ps ms) ≡ all test (terms ps ms)
pairs test [] ms = refl
pairs test (f ∷ ps) [] = refl
pairs test (f ∷ ps) (m ∷ ms) = rw (pairs test ps ms) refl

-- ---- the first sum that is no multiple of d

abbrev pub stray : ℤ → ℤ → Bool
stray d s = not (divides d s)

pub lowest_none : (d z : ℤ) (n : ℕ) (xs : List ℤ) → None ≡ position_from (stray d) n xs → Constant z ≡ lowest d z n xs
unfolding lowest
lowest_none d z n [] e = refl
lowest_none d z n (x ∷ xs) e = go (divides d x) e (lowest_none d z (n + 1) xs)
  where
    go : (b : Bool) → None ≡ cond (not b) (Some n) (position_from (stray d) (n + 1) xs)
        → (None ≡ position_from (stray d) (n + 1) xs → Constant z ≡ lowest d z (n + 1) xs) → Constant z ≡ cond b (lowest d z (suc n) xs) (Coefficient n x)
    go true f rest = rest f ∙ ap (λ (m : ℕ). lowest d z m xs) (add-one n)
    go false f rest = never (cc)

from_place : (d z : ℤ) (n k : ℕ) (xs : List ℤ) → Some k ≡ position_from (stray d) n xs
    → (i : ℕ) × (k ≡ n + i) × (i < length xs) × (Coefficient k (get_or xs i (pos 0)) ≡ lowest d z n xs)
unfolding lowest
from_place d z n k [] e = never (cc)
from_place d z n k (x ∷ xs) e = go (divides d x) e (from_place d z (n + 1) k xs)
  where
    go : (b : Bool) → Some k ≡ cond (not b) (Some n) (position_from (stray d) (n + 1) xs)
        → (Some k ≡ position_from (stray d) (n + 1) xs → (i : ℕ) × (k ≡ n + 1 + i) × (i < length xs) × (Coefficient k (get_or xs i (pos 0)) ≡ lowest d z (n + 1) xs))
        → (i : ℕ) × (k ≡ n + i) × (i < suc (length xs)) × (Coefficient k (get_or (x ∷ xs) i (pos 0)) ≡ cond b (lowest d z (suc n) xs) (Coefficient n x))
    go true f rest = let (i, e, l, h) = rest f in (suc i, omega arith, omega arith, h ∙ ap (λ (m : ℕ). lowest d z m xs) (add-one n))
    go false f rest = let e : k ≡ n = cc in (0, omega arith, omega arith, rw e)

-- the constant stands in front
pub lowest_some : (d z : ℤ) (k : ℕ) (sums : List ℤ) → Some k ≡ position_from (stray d) 0 (drop 1 sums)
    → Coefficient k (get_or sums (k + 1) (pos 0)) ≡ lowest d z 0 (drop 1 sums)
lowest_some d z k sums e =
    let (i, is, l, h) = from_place d z 0 k (drop 1 sums) e in
    let same : k + 1 ≡ 1 + i = omega arith in
    rw (same, ← get_or-drop 1 sums i (pos 0)) h
