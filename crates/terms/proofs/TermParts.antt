-- Terms: their forms, a test and a sum of all of them, their kinds by ranges, and the numbers of what is legal.
use mathlib.Core.Path.{◌≡◌, refl, sym, subst, ap, ◌∙◌}
use mathlib.Core.Bool.{Bool, true, false, not, ◌&&◌, ◌||◌, cond, and-false}
use mathlib.Core.List.{List, [], ◌∷◌}
use Prim.Native.Nat.{ℕ, zero, suc, ◌+◌, ◌≤◌, ◌<◌}
use native.Mathlib.Omega.{arith}
use borrow.Author.Tests.{lt-leb, ne_eqb}
use lib.Dec.{T, eqb, leb, leb→le, eqb→eq}
use lib.IntN.{ℤ, pos, negsuc, neg_ℤ}
use lib.ListN.{length, get_or}
use Rattle.std.specs.List.{list_all, zip}
use Rattle.std.proofs.lemmas.List.{get_or_read}
use Rattle.std.proofs.lemmas.Slice.Zip.{length-zip, get_or-zip}
use Rattle.ints.specs.Tests.{eq_z, between, all}
use Rattle.ints.proofs.Bools.{T_and, T-same}
use Rattle.rows.specs.Limits.{largest_multiplier}
use Rattle.rows.specs.Row.{Row, plus, scaled}
use Rattle.rows.specs.Form.{Form, at_most, is_zero, is_divided, in_range, legal_divisor, legal, legal_multiplier}
use Rattle.rows.specs.Sum.{Term, summed_onto}
use Rattle.rows.specs.Summable.{terms, Inside, Picked}
use Rattle.rows.proofs.TermLaws.{term}
use Rattle.ledger.specs.Ledger.{nth_form}
use Rattle.ledger.specs.Checks.{forms_of, first_divisor}

pub forms_terms : (ps : List ℕ) (ms : List ℤ) → length ps ≡ length ms → forms_of (terms ps ms) ≡ ps
forms_terms [] ms e = refl
forms_terms (f ∷ ps) [] e = absurd (omega arith)
forms_terms (f ∷ ps) (m ∷ ms) e = ap (◌∷◌ f) (forms_terms ps ms (omega arith))

-- a test of all terms is a test of the pairs of a form and its multiplier
pub pairs : (test : Term → Bool) (ps : List ℕ) (ms : List ℤ) → list_all (λ p. test (term p.0 p.1)) (zip ps ms) ≡ all test (terms ps ms)
pairs test [] ms = refl
pairs test (f ∷ ps) [] = refl
pairs test (f ∷ ps) (m ∷ ms) = rw (pairs test ps ms) refl

-- the form of a pair is in the table, as each picked form is
pub pair_inside : {n : ℕ} {table : List ℤ} {ps : List ℕ} → Picked n table ps → (ms : List ℤ) (p : ℕ × ℤ) (k : ℕ) → k < length (zip ps ms)
    → p ≡ get_or (zip ps ms) k p → Inside n table p.0
pair_inside {n} {table} {ps} h ms p k l e =
    let m = length-zip ps ms in
    let first : k < length ps = omega (arith, m) in
    let here = get_or_read (zip ps ms) k p l e (0, pos 0) ∙ get_or-zip ps ms k (0, pos 0) first (omega (arith, m)) in
    subst (λ (f : ℕ). Inside n table f) (sym (ap (λ (x : ℕ × ℤ). x.0) here)) (h.inside k first)

pub first_divisor_lem : (fs : List Form) (ps : List ℕ) (ms : List ℤ) → 1 ≤ length ps → length ps ≡ length ms
    → first_divisor fs (terms ps ms) ≡ (nth_form fs (get_or ps 0 0)).divisor
first_divisor_lem fs [] ms h e = absurd (omega arith)
first_divisor_lem fs (f ∷ ps) [] h e = absurd (omega arith)
first_divisor_lem fs (f ∷ ps) (m ∷ ms) h e = refl

-- two sums, by rows that agree on what passes a test
module _ (g : Term → Bool) (row row' : ℕ → Row) (agree : (t : Term) → T (g t) → row t.form ≡ row' t.form) where
  pub sum_agrees : (r : Row) (ts : List Term) → T (all g ts) → summed_onto row r ts ≡ summed_onto row' r ts
  unfolding summed_onto
  sum_agrees r [] h = refl
  sum_agrees r (t ∷ ts) h =
      let (a, b) = T_and (g t) (all g ts) h in rw (agree t a) (sum_agrees (plus r (scaled t.multiplier (row' t.form))) ts b)

-- ---- kinds by their range

pub at_most_or_zero : (k : ℤ) → eq_z k at_most || eq_z k is_zero ≡ between at_most is_zero k
at_most_or_zero (pos zero) = refl
at_most_or_zero (pos (suc zero)) = refl
at_most_or_zero (pos (suc (suc zero))) = refl
at_most_or_zero (pos (suc (suc (suc k)))) =
    let k₃ = suc (suc (suc k)) in
    rw (ne_eqb k₃ 1 (λ e. omega arith), ne_eqb k₃ 2 (λ e. omega arith), lt-leb k₃ 2 (omega arith)) (sym (and-false (leb 1 k₃)))
at_most_or_zero (negsuc k) = refl

pub divided : (k : ℤ) → eq_z k is_divided ≡ between is_divided is_divided k
divided (pos k) =
    T-same (eqb k 3) (leb 3 k && leb k 3)
    (λ t. let e : k ≡ 3 = eqb→eq k 3 t in rw e tt)
    (λ t. let (a, b) = T_and (leb 3 k) (leb k 3) t in let e : k ≡ 3 = omega (arith, leb→le 3 k a, leb→le k 3 b) in rw e tt)
divided (negsuc k) = refl

-- ---- numbers in range

abbrev small : ℤ → Bool
small m = between (neg_ℤ (pos largest_multiplier)) (pos largest_multiplier) m

pub legal_small : (k m : ℤ) → T (legal_multiplier k m) → T (small m)
unfolding legal_multiplier
legal_small k m t = go (eq_z k at_most) m t
  where
    go : (b : Bool) (m : ℤ) → T (cond b (between (pos 1) (pos largest_multiplier) m) (small m && not (eq_z m (pos 0)))) → T (small m)
    go true (pos m) t = (T_and (leb 1 m) (leb m largest_multiplier) t).1
    go true (negsuc m) t = absurd t
    go false m t = (T_and (small m) (not (eq_z m (pos 0))) t).0

pub legal_numbers : (n : ℕ) (f : Form) → T (legal n f) → T (all in_range f.row)
unfolding legal
legal_numbers n f t =
    (T_and (between (pos 1) (pos 3) f.kind && legal_divisor f.kind f.divisor && eqb (length f.row) (n + 1)) (all in_range f.row) t).1
