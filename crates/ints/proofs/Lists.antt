-- A test of every element of a list, or of any: what it says of each, how a loop makes it one element at a time, and over a list that is
-- joined, cut or mapped; and the length of a list by index.
use mathlib.Core.Path.{◌≡◌, refl, sym}
use mathlib.Core.Bool.{Bool, true, false, not, ◌&&◌, ◌||◌, and_assoc, and-false}
use mathlib.Core.List.{List, [], ◌∷◌, ◌++◌, map}
use mathlib.Core.Logic.{◌⊎◌, inl, inr}
use Prim.Native.Nat.{ℕ, zero, suc, ◌+◌, ◌≤◌, ◌<◌}
use native.Mathlib.Numerals.{add-one}
use native.Mathlib.Omega.{arith}
use lib.Dec.{T}
use lib.ListN.{length, get_or, take, drop, length-append, drop_of_length-le}
use lib.Seq.{drop-cons}
use Rattle.ints.specs.Tests.{all, any, up_to}
use Rattle.ints.proofs.Bools.{T_and, and_T}

module _ {A : Type 0} (p : A → Bool) (xs : List A) (i : ℕ) (d : A) where
  -- the element at i fails: all from i on fail
  pub all_fails : i < length xs → p (get_or xs i d) ≡ false → all p (drop i xs) ≡ false
  all_fails l h = simp (drop-cons xs i d l, h)

  -- the element at i passes: what is left to test is the rest
  pub all_next : i < length xs → p (get_or xs i d) ≡ true → all p (drop i xs) ≡ all p (drop (i + 1) xs)
  all_next l h = simp (drop-cons xs i d l, h, add-one)

  -- nothing is left
  pub all_over : length xs ≤ i → all p (drop i xs) ≡ true
  all_over l = simp (drop_of_length-le xs l)

module _ {A : Type 0} where
  pub all_at : (p : A → Bool) (xs : List A) (i : ℕ) (d : A) → T (all p xs) → i < length xs → T (p (get_or xs i d))
  all_at p [] i d t h = absurd (omega arith)
  all_at p (x ∷ xs) zero d t h = (T_and (p x) (all p xs) t).0
  all_at p (x ∷ xs) (suc i) d t h = all_at p xs i d (T_and (p x) (all p xs) t).1 (omega arith)

  pub all_from : (p : A → Bool) (xs : List A) (d : A) → ((i : ℕ) → i < length xs → T (p (get_or xs i d))) → T (all p xs)
  all_from p [] d f = tt
  all_from p (x ∷ xs) d f = and_T (p x) (all p xs) (f 0 (omega arith)) (all_from p xs d (λ i l. f (suc i) (omega arith)))

  pub all_implies : (p q : A → Bool) → ((x : A) → T (p x) → T (q x)) → (xs : List A) → T (all p xs) → T (all q xs)
  all_implies p q f [] t = tt
  all_implies p q f (x ∷ xs) t = let h = T_and (p x) (all p xs) t in and_T (q x) (all q xs) (f x h.0) (all_implies p q f xs h.1)

  -- every element passes, or some element fails
  pub all_or_any : (p : A → Bool) (xs : List A) → T (all p xs) ⊎ T (any (λ x. not (p x)) xs)
  all_or_any p [] = inl tt
  all_or_any p (x ∷ xs) = go (p x) (all_or_any p xs)
    where
      go : (b : Bool) → T (all p xs) ⊎ T (any (λ x. not (p x)) xs) → T (b && all p xs) ⊎ T (not b || any (λ x. not (p x)) xs)
      go true rest = rest
      go false rest = inr tt

-- ---- joined, cut, mapped

module _ {A : Type 0} where
  pub all_append : (p : A → Bool) (xs ys : List A) → all p (xs ++ ys) ≡ all p xs && all p ys
  all_append p [] ys = refl
  all_append p (x ∷ xs) ys = rw (all_append p xs ys) (sym (and_assoc (p x) (all p xs) (all p ys)))

  pub all_take : (p : A → Bool) (n : ℕ) (xs : List A) → T (all p xs) → T (all p (take n xs))
  all_take p zero xs t = tt
  all_take p (suc n) [] t = tt
  all_take p (suc n) (x ∷ xs) t = let (h, k) = T_and (p x) (all p xs) t in and_T (p x) (all p (take n xs)) h (all_take p n xs k)

  -- two tests that agree on what passes a third
  pub all_agree : (g p q : A → Bool) → ((x : A) → T (g x) → p x ≡ q x) → (xs : List A) → T (all g xs) → all p xs ≡ all q xs
  all_agree g p q f [] t = refl
  all_agree g p q f (x ∷ xs) t = let (h, k) = T_and (g x) (all g xs) t in rw (f x h, all_agree g p q f xs k)

  pub any_agree : (g p q : A → Bool) → ((x : A) → T (g x) → p x ≡ q x) → (xs : List A) → T (all g xs) → any p xs ≡ any q xs
  any_agree g p q f [] t = refl
  any_agree g p q f (x ∷ xs) t = let (h, k) = T_and (g x) (all g xs) t in rw (f x h, any_agree g p q f xs k)

module _ {A B : Type 0} (p : B → Bool) (f : A → B) where
  pub all_map : (xs : List A) → all p (map f xs) ≡ all (λ x. p (f x)) xs
  all_map [] = refl
  all_map (x ∷ xs) = rw (all_map xs)

  pub any_map : (xs : List A) → any p (map f xs) ≡ any (λ x. p (f x)) xs
  any_map [] = refl
  any_map (x ∷ xs) = rw (any_map xs)

pub all_and : {A : Type 0} (p q : A → Bool) (xs : List A) → all p xs && all q xs ≡ all (λ x. p x && q x) xs
all_and p q [] = refl
all_and p q (x ∷ xs) = go (p x) (q x) (all_and p q xs)
  where
    go : (a b : Bool) → all p xs && all q xs ≡ all (λ x. p x && q x) xs
        → (a && all p xs) && (b && all q xs) ≡ (a && b) && all (λ x. p x && q x) xs
    go true true e = e
    go true false e = and-false (all p xs)
    go false b e = refl

pub length_up_to : {A : Type 0} (n : ℕ) (f : ℕ → A) → length (up_to n f) ≡ n
unfolding up_to
length_up_to zero f = refl
length_up_to (suc n) f = rw length-append (omega (arith, length_up_to n f))
