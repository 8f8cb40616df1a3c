-- A line's literals one at a time, and the lines one at a time, as the two loops of the walk test them.
use mathlib.Core.Path.{◌≡◌, refl, sym, ◌∙◌, subst}
use mathlib.Core.Bool.{Bool, true, false, ◌&&◌, and-false}
use mathlib.Core.List.{List, [], ◌∷◌}
use Prim.Native.Nat.{ℕ, zero, suc, ◌+◌, ◌*◌, ◌-◌, ◌≤◌, ◌<◌}
use native.Mathlib.Omega.{arith}
use native.Mathlib.Numerals.{add-one}
use native.Mathlib.Decide.{dec_le, dec_lt}
use borrow.Author.Tests.{lt-leb, le-leb, lt-ltb, le-ltb}
use lib.Dec.{T, leb, ltb, leb→le, le→leb, ltb→lt, lt→ltb}
use lib.ListN.{length, get_or, take, drop, length-take, drop_of_length-le}
use lib.Seq.{drop-cons}
use Rattle.ints.proofs.Bools.{T_and, and_T, T-same, true→T}
use Rattle.ledger.specs.Limits.{longest_line}
use Rattle.ledger.specs.Ledger.{premise, derived}
use Rattle.ledger.specs.Literals.{below, names_below, ascending_from, ascending}
use Rattle.session.specs.Limits.{line_cells}
use Rattle.session.specs.Cells.{end_before, origin_at, literals_at}
use Rattle.walk.specs.Walk.{LineGood}

-- ---- literals

-- they are at least low, ascend strictly and are below bound
unfoldable pub literals_hold : ℕ → ℕ → List ℕ → Bool
literals_hold bound low [] = true
literals_hold bound low (x ∷ xs) = leb low x && (ltb x bound && literals_hold bound (x + 1) xs)

-- the literals from place i on
module _ (bound low i : ℕ) (xs : List ℕ) where
  abbrev Rest : Bool
  Rest = literals_hold bound low (drop i xs)

  pub literal_low : i < length xs → get_or xs i 0 < low → Rest ≡ false
  unfolding literals_hold
  literal_low l x = simp (drop-cons xs i 0 l, lt-leb _ _ x)

  pub literal_high : i < length xs → low ≤ get_or xs i 0 → bound ≤ get_or xs i 0 → Rest ≡ false
  unfolding literals_hold
  literal_high l x y = simp (drop-cons xs i 0 l, le-leb _ _ x, le-ltb _ _ y)

  pub literal_good : i < length xs → low ≤ get_or xs i 0 → get_or xs i 0 < bound
      → Rest ≡ literals_hold bound (get_or xs i 0 + 1) (drop (i + 1) xs)
  unfolding literals_hold
  literal_good l x y = simp (drop-cons xs i 0 l, le-leb _ _ x, lt-ltb _ _ y, add-one i)

  pub literals_over : length xs ≤ i → Rest ≡ true
  unfolding literals_hold
  literals_over l = simp (drop_of_length-le xs l)

names_is : (n x : ℕ) → ltb x (2 * n) ≡ below n x
names_is n x = T-same _ _ (λ t. omega (arith, ltb→lt, lt→ltb)) (λ t. omega (arith, ltb→lt, lt→ltb))

above_is : (x y : ℕ) → leb (x + 1) y ≡ ltb x y
above_is x y = T-same _ _ (λ t. omega (arith, leb→le, lt→ltb)) (λ t. omega (arith, ltb→lt, le→leb))

and_swap : (a b c d : Bool) → a && (b && (c && d)) ≡ (a && c) && (b && d)
and_swap true true c d = refl
and_swap true false c d = sym (and-false c)
and_swap false b c d = refl

-- the literals after x
rest_is : (n x : ℕ) (xs : List ℕ) → literals_hold (2 * n) (x + 1) xs ≡ ascending_from x xs && names_below n xs
unfolding literals_hold
rest_is n x [] = refl
rest_is n x (y ∷ ys) =
    rw (above_is x y, names_is n y, rest_is n y ys) (and_swap (ltb x y) (below n y) (ascending_from y ys) (names_below n ys))

literals_is : (n : ℕ) (xs : List ℕ) → literals_hold (2 * n) 0 xs ≡ ascending xs && names_below n xs
unfolding literals_hold
literals_is n [] = refl
literals_is n (x ∷ xs) =
    rw (le-leb 0 x (omega arith), names_is n x, rest_is n x xs) (and_swap true (below n x) (ascending_from x xs) (names_below n xs))

-- ---- one line

-- a line has no more literals than its end is behind the one before
pub short_line : (pool lines : List ℕ) (k : ℕ) → end_before lines (suc k) ≤ end_before lines k + longest_line
    → length (literals_at pool lines k) ≤ longest_line
short_line pool lines k h = simp length-take (omega arith)

-- line k, whose literals start at `from`
module _ (pool lines : List ℕ) (n k from : ℕ) (at : from ≡ end_before lines k) where
  abbrev end : ℕ
  end = get_or lines (line_cells * k) 0

  abbrev pub literals : List ℕ
  literals = take (end - from) (drop from pool)

  tested : literals_hold (2 * n) 0 literals ≡ ascending (literals_at pool lines k) && names_below n (literals_at pool lines k)
  tested = rw (← at) (literals_is n literals)

  pub good_line : from ≤ end → end ≤ from + longest_line → premise ≤ origin_at lines k → origin_at lines k ≤ derived
      → literals_hold (2 * n) 0 literals ≡ true → LineGood pool lines n k
  good_line a b c d e =
      let (ascends, names) = T_and (ascending (literals_at pool lines k)) (names_below n (literals_at pool lines k)) (true→T (sym tested ∙ e)) in
      record {
        rise = omega arith;
        short = omega arith;
        legal = record {
          origin = and_T (leb premise (origin_at lines k)) (leb (origin_at lines k) derived) (le→leb premise _ c) (le→leb _ derived d);
          short = short_line pool lines k (omega arith);
          ascends = ascends;
          names = names;
        };
      }

  pub bad_literals : literals_hold (2 * n) 0 literals ≡ false → LineGood pool lines n k → ⊥
  bad_literals e g = subst T (sym tested ∙ e) (and_T (ascending (literals_at pool lines k)) (names_below n (literals_at pool lines k)) g.legal.ascends g.legal.names)

-- ---- lines

pub end_next : (lines : List ℕ) (k : ℕ) → get_or lines (line_cells * k) 0 ≡ end_before lines (k + 1)
end_next lines k = rw (add-one k)

-- ends that never fall
pub rising : (lines : List ℕ) (k n : ℕ) → k ≤ n → ((i : ℕ) → k ≤ i → i < n → end_before lines i ≤ end_before lines (suc i))
    → end_before lines k ≤ end_before lines n
rising lines k zero h f = let e : k ≡ 0 = omega arith in rw e (omega arith)
rising lines k (suc n) h f =
    elim (dec_le k n) [
      | yes q ↦ (let a = rising lines k n q (λ i a b. f i a (omega arith)) in let b = f n q (omega arith) in omega arith)
      | no q ↦ (let e : k ≡ suc n = omega arith in rw e (omega arith))
    ]

-- one index more
pub one_more : (P : ℕ → Type 0) (first k : ℕ) → ((i : ℕ) → first ≤ i → i < k → P i) → P k → (i : ℕ) → first ≤ i → i < k + 1 → P i
one_more P first k f p i a b = elim (dec_lt i k) [ yes q ↦ f i a q | no q ↦ (let e : i ≡ k = omega arith in rw e p) ]
