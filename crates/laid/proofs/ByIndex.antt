-- Lists that are read index by index, upwards and downwards, and lists that are filled up with one value.
use mathlib.Core.Path.{◌≡◌, refl, ap, ◌∙◌}
use mathlib.Core.Bool.{Bool, and-true}
use mathlib.Core.List.{List, [], ◌∷◌}
use Prim.Native.Nat.{ℕ, zero, suc, ◌-◌, ◌≤◌, ◌<◌}
use native.Mathlib.Omega.{arith}
use native.Mathlib.Decide.{dec_le, dec_lt}
use lib.Dec.{T}
use lib.ListN.{length, get_or, take, drop, replicate, length-take, length-drop, take-append-drop, get_or-append}
use lib.Seq.{take_all, take-append-le, drop_at, get_or_at, ext_get_or}
use Rattle.ints.specs.Tests.{up_to, all}
use Rattle.ints.proofs.Bools.{T_and, and_T}
use Rattle.ints.proofs.Lists.{all_append, length_up_to}
use Rattle.session.specs.Cells.{down_from}
use Rattle.laid.specs.Laid.{padded}

module _ {A : Type 0} where
  -- ---- upwards

  pub get_or_up_to : (n : ℕ) (f : ℕ → A) (i : ℕ) (d : A) → i < n → get_or (up_to n f) i d ≡ f i
  unfolding up_to
  get_or_up_to zero f i d h = absurd (omega arith)
  get_or_up_to (suc n) f i d h =
      let e = length_up_to n f in
      elim (dec_lt i n) [
        | yes q ↦ get_or-append (up_to n f) (f n ∷ []) d i (omega arith) ∙ get_or_up_to n f i d q
        | no q ↦ (let k : i ≡ n = omega arith in rw k (get_or_at (up_to n f) (f n) [] d n e))
      ]

  pub take_up_to : (k n : ℕ) (f : ℕ → A) → k ≤ n → take k (up_to n f) ≡ up_to k f
  unfolding up_to
  take_up_to k zero f h = let e : k ≡ 0 = omega arith in rw e
  take_up_to k (suc n) f h =
      elim (dec_le k n) [
        | yes q ↦ take-append-le k (up_to n f) (f n ∷ []) (omega (arith, length_up_to n f)) ∙ take_up_to k n f q
        | no q ↦ (let e : k ≡ suc n = omega arith in rw e (take_all (suc n) (up_to (suc n) f) (omega (arith, length_up_to (suc n) f))))
      ]

  pub all_up_to : (p : A → Bool) (n : ℕ) (f : ℕ → A) → ((i : ℕ) → i < n → T (p (f i))) → T (all p (up_to n f))
  unfolding up_to
  all_up_to p zero f h = tt
  all_up_to p (suc n) f h =
      simp (all_append, and-true) (and_T (all p (up_to n f)) (p (f n)) (all_up_to p n f (λ i q. h i (omega arith))) (h n (omega arith)))

  -- a list is what it has at each index
  pub up_to_is : (xs : List A) (f : ℕ → A) (d : A) → ((i : ℕ) → i < length xs → f i ≡ get_or xs i d) → up_to (length xs) f ≡ xs
  up_to_is xs f d h =
      let e = length_up_to (length xs) f in
      ext_get_or d (up_to (length xs) f) xs e (λ i q. get_or_up_to (length xs) f i d (omega arith) ∙ h i (omega arith))

  -- ---- downwards

  pub length_down_from : (n : ℕ) (f : ℕ → A) → length (down_from n f) ≡ n
  unfolding down_from
  length_down_from zero f = refl
  length_down_from (suc n) f = ap suc (length_down_from n f)

  pub down_from_agree : (n : ℕ) (f g : ℕ → A) → ((k : ℕ) → k < n → f k ≡ g k) → down_from n f ≡ down_from n g
  unfolding down_from
  down_from_agree zero f g h = refl
  down_from_agree (suc n) f g h = rw (h n (omega arith), down_from_agree n f g (λ k q. h k (omega arith)))

-- ---- filled up with z, which is what the test p finds

module _ {A : Type 0} (z : A) (n : ℕ) (p : A → Bool) where
  all_same : (k : ℕ) → T (p z) → T (all p (replicate k z))
  all_same zero h = tt
  all_same (suc k) h = and_T (p z) (all p (replicate k z)) h (all_same k h)

  same_all : ((x : A) → T (p x) → x ≡ z) → (xs : List A) → T (all p xs) → replicate (length xs) z ≡ xs
  same_all f [] t = refl
  same_all f (x ∷ xs) t = let (h, k) = T_and (p x) (all p xs) t in rw (same_all f xs k, f x h)

  -- behind a list's own k cells
  pub padded_zero : (xs : List A) (k : ℕ) → length xs ≡ k → T (p z) → T (all p (drop k (padded z n xs)))
  unfolding padded
  padded_zero xs k e h = rw (drop_at xs (replicate (n - length xs) z) k e) (all_same (n - length xs) h)

  -- the front of a list that goes on so
  pub padded_front : (xs : List A) (k : ℕ) → length xs ≡ n → k ≤ n → ((x : A) → T (p x) → x ≡ z) → T (all p (drop k xs))
      → padded z n (take k xs) ≡ xs
  unfolding padded
  padded_front xs k e h f t =
      let a : n - length (take k xs) ≡ length (drop k xs) = simp (length-take, length-drop) (omega arith) in
      rw (a, same_all f (drop k xs) t) (take-append-drop k xs)
