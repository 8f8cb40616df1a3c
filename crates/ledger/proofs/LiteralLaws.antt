-- The lists that lines are made by: which literals `joined`, `line_of` and `without` leave, in which order, and how many.
use mathlib.Core.Path.{◌≡◌, refl, sym, ap, ◌∙◌}
use mathlib.Core.Bool.{Bool, true, false, not, ◌||◌, cond, or_assoc, or-false}
use mathlib.Core.List.{List, [], ◌∷◌, map}
use Prim.Native.Nat.{ℕ, suc, ◌+◌, ◌≤◌}
use native.Mathlib.Omega.{arith}
use lib.Dec.{T, T_not, eqb, ltb, eqb→eq, eqb_refl, ltb→lt, lt→ltb, nltb→le}
use lib.ListN.{length}
use Rattle.ints.specs.Tests.{all, any, different}
use Rattle.ints.proofs.Bools.{T_and, and_T, T→false, false→T}
use Rattle.ints.proofs.Lists.{all_implies, all_map}
use Rattle.ledger.specs.Literals.{unnegated, negated, ascending_from, ascending, joined, line_of, without}

-- ---- which literals

-- x is below y, above it, or the same
module _ {A : Type 0} (P : A → Type 0) (x y : ℕ) (less more same : A) where
  placed : (T (ltb x y) → P less) → (T (ltb y x) → P more) → (x ≡ y → P same) → P (cond (ltb x y) less (cond (ltb y x) more same))
  placed f g h = go (ltb x y) (ltb y x) f (nltb→le x y) g (nltb→le y x)
    where
      go : (b c : Bool) → (T b → P less) → (T (not b) → y ≤ x) → (T c → P more) → (T (not c) → x ≤ y) → P (cond b less (cond c more same))
      go true c f k g l = f tt
      go false true f k g l = g tt
      go false false f k g l = let a = k tt in let b = l tt in h (omega arith)

or_swap : (a b c : Bool) → a || (b || c) ≡ b || (a || c)
or_swap true true c = refl
or_swap true false c = refl
or_swap false b c = refl

or_twice : (a b c : Bool) → a || (b || c) ≡ (a || b) || (a || c)
or_twice true b c = refl
or_twice false b c = refl

module _ (p : ℕ → Bool) where
  pub any_joined : (xs ys : List ℕ) → any p (joined xs ys) ≡ any p xs || any p ys
  any_joined [] ys = refl
  any_joined (x ∷ xs) [] = sym (or-false (any p (x ∷ xs)))
  any_joined (x ∷ xs) (y ∷ ys) =
      let both = any p (x ∷ xs) || any p (y ∷ ys) in
      placed (λ zs. any p zs ≡ both) x y (x ∷ joined xs (y ∷ ys)) (y ∷ joined (x ∷ xs) ys) (x ∷ joined xs ys)
      (λ _. rw (any_joined xs (y ∷ ys)) (sym (or_assoc (p x) (any p xs) (any p (y ∷ ys)))))
      (λ _. rw (any_joined (x ∷ xs) ys) (or_swap (p y) (any p (x ∷ xs)) (any p ys)))
      (λ e. rw (← e, any_joined xs ys) (or_twice (p x) (any p xs) (any p ys)))

  pub any_line_of : (xs : List ℕ) → any p (line_of xs) ≡ any p xs
  any_line_of [] = refl
  any_line_of (x ∷ xs) = any_joined (x ∷ []) (line_of xs) ∙ rw (or-false, any_line_of xs)

  -- a literal that fails the test is not missed
  pub any_without : (x : ℕ) (ys : List ℕ) → p x ≡ false → any p (without x ys) ≡ any p ys
  any_without x [] e = refl
  any_without x (y ∷ ys) e = go (eqb x y) (eqb→eq x y) (any_without x ys e)
    where
      go : (same : Bool) → (T same → x ≡ y) → any p (without x ys) ≡ any p ys
          → any p (cond same (without x ys) (y ∷ without x ys)) ≡ p y || any p ys
      go true f rest = rw (← f tt, e) rest
      go false f rest = rw rest

  pub all_joined : (xs ys : List ℕ) → T (all p xs) → T (all p ys) → T (all p (joined xs ys))
  all_joined [] ys t u = u
  all_joined (x ∷ xs) [] t u = t
  all_joined (x ∷ xs) (y ∷ ys) t u =
      let (tx, txs) = T_and (p x) (all p xs) t in
      let (uy, uys) = T_and (p y) (all p ys) u in
      placed (λ zs. T (all p zs)) x y (x ∷ joined xs (y ∷ ys)) (y ∷ joined (x ∷ xs) ys) (x ∷ joined xs ys)
      (λ _. and_T (p x) (all p (joined xs (y ∷ ys))) tx (all_joined xs (y ∷ ys) txs u))
      (λ _. and_T (p y) (all p (joined (x ∷ xs) ys)) uy (all_joined (x ∷ xs) ys t uys))
      (λ _. and_T (p x) (all p (joined xs ys)) tx (all_joined xs ys txs uys))

  pub all_line_of : (xs : List ℕ) → T (all p xs) → T (all p (line_of xs))
  all_line_of [] t = tt
  all_line_of (x ∷ xs) t =
      let (h, k) = T_and (p x) (all p xs) t in all_joined (x ∷ []) (line_of xs) (and_T (p x) true h tt) (all_line_of xs k)

  pub all_without : (x : ℕ) (ys : List ℕ) → T (all p ys) → T (all p (without x ys))
  all_without x [] t = tt
  all_without x (y ∷ ys) t = let (h, k) = T_and (p y) (all p ys) t in go (eqb x y) h (all_without x ys k)
    where
      go : (same : Bool) → T (p y) → T (all p (without x ys)) → T (all p (cond same (without x ys) (y ∷ without x ys)))
      go true h rest = rest
      go false h rest = and_T (p y) (all p (without x ys)) h rest

-- ---- their order

-- ascending from x: ascending, and all above x

from→ascending : (x : ℕ) (ys : List ℕ) → T (ascending_from x ys) → T (ascending ys)
from→ascending x [] t = tt
from→ascending x (y ∷ ys) t = (T_and (ltb x y) (ascending_from y ys) t).1

from→above : (x : ℕ) (ys : List ℕ) → T (ascending_from x ys) → T (all (ltb x) ys)
from→above x [] t = tt
from→above x (y ∷ ys) t =
    let (h, k) = T_and (ltb x y) (ascending_from y ys) t in
    and_T (ltb x y) (all (ltb x) ys) h (all_implies (ltb y) (ltb x) (λ z u. omega (arith, ltb→lt, lt→ltb)) ys (from→above y ys k))

above→from : (x : ℕ) (ys : List ℕ) → T (all (ltb x) ys) → T (ascending ys) → T (ascending_from x ys)
above→from x [] t u = tt
above→from x (y ∷ ys) t u = and_T (ltb x y) (ascending_from y ys) (T_and (ltb x y) (all (ltb x) ys) t).0 u

above_more : (x y : ℕ) (zs : List ℕ) → T (ltb x y) → T (ascending_from y zs) → T (all (ltb x) (y ∷ zs))
above_more x y zs h t = from→above x (y ∷ zs) (and_T (ltb x y) (ascending_from y zs) h t)

pub ascending_joined : (xs ys : List ℕ) → T (ascending xs) → T (ascending ys) → T (ascending (joined xs ys))
ascending_joined [] ys t u = u
ascending_joined (x ∷ xs) [] t u = t
ascending_joined (x ∷ xs) (y ∷ ys) t u =
    let txs = from→ascending x xs t in
    let uys = from→ascending y ys u in
    placed (λ zs. T (ascending zs)) x y (x ∷ joined xs (y ∷ ys)) (y ∷ joined (x ∷ xs) ys) (x ∷ joined xs ys)
    (λ h.
    above→from x (joined xs (y ∷ ys)) (all_joined (ltb x) xs (y ∷ ys) (from→above x xs t) (above_more x y ys h u))
    (ascending_joined xs (y ∷ ys) txs u))
    (λ h.
    above→from y (joined (x ∷ xs) ys) (all_joined (ltb y) (x ∷ xs) ys (above_more y x xs h t) (from→above y ys u))
    (ascending_joined (x ∷ xs) ys t uys))
    (λ e.
    above→from x (joined xs ys) (all_joined (ltb x) xs ys (from→above x xs t) (rw e (from→above y ys u)))
    (ascending_joined xs ys txs uys))

pub ascending_line_of : (xs : List ℕ) → T (ascending (line_of xs))
ascending_line_of [] = tt
ascending_line_of (x ∷ xs) = ascending_joined (x ∷ []) (line_of xs) tt (ascending_line_of xs)

pub ascending_without : (x : ℕ) (ys : List ℕ) → T (ascending ys) → T (ascending (without x ys))
ascending_without x [] t = tt
ascending_without x (y ∷ ys) t = go (eqb x y) (ascending_without x ys (from→ascending y ys t))
  where
    go : (same : Bool) → T (ascending (without x ys)) → T (ascending (cond same (without x ys) (y ∷ without x ys)))
    go true rest = rest
    go false rest = above→from y (without x ys) (all_without (ltb y) x ys (from→above y ys t)) rest

negated_from : (f : ℕ) (fs : List ℕ) → T (ascending_from f fs) → T (ascending_from (negated f) (map negated fs))
negated_from f [] t = tt
negated_from f (g ∷ fs) t =
    let (h, k) = T_and (ltb f g) (ascending_from g fs) t in
    and_T (ltb (negated f) (negated g)) (ascending_from (negated g) (map negated fs)) (omega (arith, ltb→lt, lt→ltb)) (negated_from g fs k)

-- forms in ascending order, negated
pub ascending_negated : (fs : List ℕ) → T (ascending fs) → T (ascending (map negated fs))
ascending_negated [] t = tt
ascending_negated (f ∷ fs) t = negated_from f fs t

-- ---- how many

pub length_joined : (xs ys : List ℕ) → length (joined xs ys) ≤ length xs + length ys
length_joined [] ys = omega arith
length_joined (x ∷ xs) [] = omega arith
length_joined (x ∷ xs) (y ∷ ys) =
    placed (λ zs. length zs ≤ length (x ∷ xs) + length (y ∷ ys)) x y (x ∷ joined xs (y ∷ ys)) (y ∷ joined (x ∷ xs) ys) (x ∷ joined xs ys)
    (λ _. omega (arith, length_joined xs (y ∷ ys)))
    (λ _. omega (arith, length_joined (x ∷ xs) ys))
    (λ _. omega (arith, length_joined xs ys))

pub length_line_of : (xs : List ℕ) → length (line_of xs) ≤ length xs
length_line_of [] = omega arith
length_line_of (x ∷ xs) = omega (arith, length_joined (x ∷ []) (line_of xs), length_line_of xs)

-- ---- numbers that are all different

length_joined_one : (x : ℕ) (ys : List ℕ) → T (all (λ y. not (eqb x y)) ys) → length (joined (x ∷ []) ys) ≡ suc (length ys)
length_joined_one x [] t = refl
length_joined_one x (y ∷ ys) t =
    let (other, rest) = T_and (not (eqb x y)) (all (λ y. not (eqb x y)) ys) t in
    placed (λ zs. length zs ≡ suc (suc (length ys))) x y (x ∷ y ∷ ys) (y ∷ joined (x ∷ []) ys) (x ∷ ys)
    (λ _. refl)
    (λ _. ap suc (length_joined_one x ys rest))
    (λ e. absurd (T_not (eqb x y) other (rw e (eqb_refl y))))

pub length_line_of_different : (xs : List ℕ) → T (different xs) → length (line_of xs) ≡ length xs
length_line_of_different [] t = refl
length_line_of_different (x ∷ xs) t =
    let (others, rest) = T_and (all (λ y. not (eqb x y)) xs) (different xs) t in
    length_joined_one x (line_of xs) (all_line_of (λ y. not (eqb x y)) xs others) ∙ ap suc (length_line_of_different xs rest)

-- the literals of forms that are all different
pub different_unnegated : (gs : List ℕ) → T (different gs) → T (different (map unnegated gs))
different_unnegated [] t = tt
different_unnegated (g ∷ gs) t =
    let (others, rest) = T_and (all (λ y. not (eqb g y)) gs) (different gs) t in
    and_T (all (λ y. not (eqb (unnegated g) y)) (map unnegated gs)) (different (map unnegated gs))
    (rw (all_map (λ y. not (eqb (unnegated g) y)) unnegated gs)
    (all_implies (λ y. not (eqb g y)) (λ y. not (eqb (unnegated g) (unnegated y)))
    (λ y u. false→T (T→false (eqb (unnegated g) (unnegated y)) (λ d. T_not (eqb g y) u (doubled g y (eqb→eq (unnegated g) (unnegated y) d))))) gs others))
    (different_unnegated gs rest)
  where
    doubled : (x y : ℕ) → unnegated x ≡ unnegated y → T (eqb x y)
    doubled x y e = let f : x ≡ y = omega arith in rw f (eqb_refl y)
