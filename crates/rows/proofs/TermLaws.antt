-- Terms, each a form and its multiplier: the next term of a loop, the term at an index, and what is known of it where the terms may be summed.
use mathlib.Core.Path.{◌≡◌, refl, sym, subst, ap, ◌∙◌}
use mathlib.Core.Bool.{true, false, ◌&&◌}
use mathlib.Core.List.{List, [], ◌∷◌}
use Prim.Native.Nat.{ℕ, zero, suc, ◌+◌, ◌*◌, ◌≤◌, ◌<◌}
use native.Mathlib.Nat.{add-zero}
use native.Mathlib.Numerals.{add-one}
use native.Mathlib.Omega.{arith}
use borrow.Author.Tests.{le-leb, eq-eqb}
use lib.Dec.{T, leb, eqb, leb→le, eqb→eq}
use lib.IntN.{ℤ, pos, nat_abs}
use lib.ListN.{length, get_or, drop}
use lib.Seq.{drop-cons, get_or-drop}
use Rattle.ints.specs.Tests.{all}
use Rattle.ints.proofs.Bools.{T_and, true→T, T→true, T→false}
use Rattle.ints.proofs.Lists.{all_at}
use Rattle.ints.proofs.Size.{within}
use Rattle.rows.specs.Limits.{largest_multiplier, most_terms}
use Rattle.rows.specs.Summable.{row_at, Inside}
use Rattle.rows.specs.Form.{in_range}
use Rattle.rows.specs.Sum.{Term}
use Rattle.rows.specs.Summable.{terms, summand, summable, Summable}

abbrev pub term : ℕ → ℤ → Term
term f m = record { form = f; multiplier = m }

terms_nil : (ps : List ℕ) → terms ps [] ≡ []
terms_nil [] = refl
terms_nil (f ∷ ps) = refl

pub drop_terms : (i : ℕ) (ps : List ℕ) (ms : List ℤ) → drop i (terms ps ms) ≡ terms (drop i ps) (drop i ms)
drop_terms zero ps ms = refl
drop_terms (suc i) [] ms = refl
drop_terms (suc i) (f ∷ ps) [] = sym (terms_nil (drop i ps))
drop_terms (suc i) (f ∷ ps) (m ∷ ms) = drop_terms i ps ms

pub length_terms : (ps : List ℕ) (ms : List ℤ) → length ps ≡ length ms → length (terms ps ms) ≡ length ps
length_terms [] ms e = refl
length_terms (f ∷ ps) [] e = absurd (omega arith)
length_terms (f ∷ ps) (m ∷ ms) e = ap suc (length_terms ps ms (omega arith))

module _ (ps : List ℕ) (ms : List ℤ) (i : ℕ) (e : length ps ≡ length ms) (h : i < length ps) where
  pub next_term : terms (drop i ps) (drop i ms) ≡ term (get_or ps i 0) (get_or ms i (pos 0)) ∷ terms (drop (i + 1) ps) (drop (i + 1) ms)
  next_term = rw (add-one, drop-cons ps i 0 h, drop-cons ms i (pos 0) (omega arith))

  pub term_at : (d : Term) → get_or (terms ps ms) i d ≡ term (get_or ps i 0) (get_or ms i (pos 0))
  term_at d =
      ap (λ (k : ℕ). get_or (terms ps ms) k d) (sym (add-zero i)) ∙ sym (get_or-drop i (terms ps ms) 0 d)
      ∙ ap (λ (l : List Term). get_or l 0 d) (drop_terms i ps ms ∙ next_term)

-- ---- what may be summed

-- a term that may be summed
pub record Summand (n : ℕ) (t : List ℤ) (f : ℕ) (m : ℤ) : Type 0 where
  pub inside : Inside n t f
  pub numbers : T (all in_range (row_at n t f))
  pub multiplier : nat_abs m ≤ largest_multiplier

module _ (n : ℕ) (t : List ℤ) where
  pub summand→ : (f : ℕ) (m : ℤ) → T (summand n t (term f m)) → Summand n t f m
  summand→ f m s =
      let (i, b) = T_and (leb ((n + 3) * f + (n + 3)) (length t)) _ s in
      let (r, b) = T_and (all in_range (row_at n t f)) _ b in
      record { inside = record { inside = leb→le ((n + 3) * f + (n + 3)) (length t) i }; numbers = r; multiplier = within largest_multiplier m b }

  module _ (ps : List ℕ) (ms : List ℤ) where
    -- few terms, and as many forms as multipliers: what is left to test is each term
    pub summable_is : length ps ≤ most_terms → length ps ≡ length ms → summable n t ps ms ≡ all (summand n t) (terms ps ms)
    summable_is f e = simp (le-leb (length ps) most_terms f, eq-eqb (length ps) (length ms) e)

    pub summable→ : summable n t ps ms ≡ true → Summable n t ps ms
    summable→ e =
        let (h, s) = T_and (leb (length ps) most_terms && eqb (length ps) (length ms)) _ (true→T e) in
        let (f, p) = T_and (leb (length ps) most_terms) _ h in
        record { few = leb→le (length ps) most_terms f; paired = eqb→eq (length ps) (length ms) p; summands = s }

    pub not_summable : (Summable n t ps ms → ⊥) → summable n t ps ms ≡ false
    not_summable f = T→false (summable n t ps ms) (λ s. f (summable→ (T→true (summable n t ps ms) s)))

pub summand_at : {n : ℕ} {t : List ℤ} {ps : List ℕ} {ms : List ℤ} →
    Summable n t ps ms → (i : ℕ) → i < length ps → Summand n t (get_or ps i 0) (get_or ms i (pos 0))
summand_at {n} {t} {ps} {ms} s i h =
    let none = term 0 (pos 0) in
    let l : length (terms ps ms) ≡ length ps = length_terms ps ms s.paired in
    summand→ n t (get_or ps i 0) (get_or ms i (pos 0))
    (subst (λ (x : Term). T (summand n t x)) (term_at ps ms i s.paired h none)
    (all_at (summand n t) (terms ps ms) i none s.summands (omega arith)))
