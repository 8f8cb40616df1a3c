-- One step of each loop that sums rows, and how large the sums can grow.
use mathlib.Core.Path.{◌≡◌, refl, sym, ap, ap₂, ◌∙◌}
use mathlib.Core.List.{List, [], ◌∷◌, ◌++◌, append_assoc, append-nil}
use Prim.Native.Nat.{ℕ, zero, suc, ◌+◌, ◌*◌, ◌≤◌, ◌<◌, ◌^◌}
use native.Mathlib.Nat.{add-zero}
use native.Mathlib.Numerals.{add-one}
use native.Mathlib.Omega.{arith}
use lib.IntN.{ℤ, pos, nat_abs, ◌+ℤ◌, ◌*ℤ◌}
use lib.ListN.{length, get_or, take, drop, set, replicate, length-take, drop_of_length-le}
use lib.Seq.{take_all, take-length, take-suc-set, drop-cons, get_or-drop, drop-drop}
use Rattle.ints.proofs.Bools.{T_and}
use Rattle.ints.proofs.Lists.{all_take, all_implies}
use Rattle.ints.proofs.Size.{nat_abs_add, nat_abs_mul, sizes, within}
use lib.Dec.{T, leb}
use mathlib.Core.Bool.{true, false}
use Rattle.ints.specs.Tests.{all, divides}
use Rattle.rows.specs.declared.Reached.TheVariants.{Coefficient, Constant}
use Rattle.rows.specs.Row.{Row, zero_row, plus, scaled}
use Rattle.rows.specs.Sum.{Term, summed_onto, summed, bounded}
use Rattle.rows.specs.Summable.{terms, lowest, summand, Summable, Addable, Small}
use Rattle.rows.specs.Limits.{largest_number, largest_multiplier, most_terms}
use Rattle.rows.specs.Summable.{row_at}
use Rattle.rows.specs.Form.{in_range}
use Rattle.rows.proofs.FormCells.{length_row}
use Rattle.rows.proofs.TermLaws.{Summand, length_terms, next_term}

-- ---- plus and scaled, cell by cell

-- the cells before j are done, those from j on are to do
pub plus_step : (m : ℤ) (out sums row : List ℤ) (j : ℕ) (v : ℤ) → j < length out → j < length sums → j < length row
    → v ≡ get_or sums j (pos 0) +ℤ (m *ℤ get_or row j (pos 0))
    → take (j + 1) (set out j v) ++ plus (drop (j + 1) sums) (scaled m (drop (j + 1) row)) ≡ take j out ++ plus (drop j sums) (scaled m (drop j row))
plus_step m out sums row j v ho hs hr e =
    rw (add-one, take-suc-set out j v ho, append_assoc, drop-cons sums j (pos 0) hs, drop-cons row j (pos 0) hr, e)

-- every cell is done
pub plus_over : (m : ℤ) (out sums row : List ℤ) (j : ℕ) → length out ≤ j → length sums ≤ j → length row ≤ j
    → take j out ++ plus (drop j sums) (scaled m (drop j row)) ≡ out
plus_over m out sums row j ho hs hr = rw (take_all j out ho, drop_of_length-le sums hs, drop_of_length-le row hr, append-nil)

pub length_scaled : (m : ℤ) (r : List ℤ) → length (scaled m r) ≡ length r
length_scaled m [] = refl
length_scaled m (k ∷ r) = ap suc (length_scaled m r)

pub length_plus : (r s : List ℤ) → length r ≡ length s → length (plus r s) ≡ length r
length_plus [] [] e = refl
length_plus [] (l ∷ s) e = absurd (omega arith)
length_plus (k ∷ r) [] e = refl
length_plus (k ∷ r) (l ∷ s) e = ap suc (length_plus r s (omega arith))

-- lists that agree from j on agree at j, and from j + 1 on
pub same_at : (j : ℕ) (a b : List ℤ) → drop j a ≡ drop j b → get_or a j (pos 0) ≡ get_or b j (pos 0)
same_at j a b e =
    ap (λ (n : ℕ). get_or a n (pos 0)) (sym (add-zero j)) ∙ sym (get_or-drop j a 0 (pos 0)) ∙ ap (λ (l : List ℤ). get_or l 0 (pos 0)) e
    ∙ get_or-drop j b 0 (pos 0) ∙ ap (λ (n : ℕ). get_or b n (pos 0)) (add-zero j)

pub same_from : (j : ℕ) (a b : List ℤ) → drop j a ≡ drop j b → drop (j + 1) a ≡ drop (j + 1) b
same_from j a b e = sym (drop-drop 1 j a) ∙ ap (drop 1) e ∙ drop-drop 1 j b

-- ---- the lowest unknown

module _ (d z : ℤ) (sums : List ℤ) (k : ℕ) where
  -- the coefficient of unknown k stands behind the constant, at k + 1
  pub lowest_next : k + 1 < length sums → divides d (get_or sums (k + 1) (pos 0)) ≡ true
      → lowest d z (k + 1) (drop (k + 1 + 1) sums) ≡ lowest d z k (drop (k + 1) sums)
  unfolding lowest
  lowest_next h e =
      rw (drop-cons sums (k + 1) (pos 0) h, e) (ap₂ (λ (i j : ℕ). lowest d z i (drop j sums)) (add-one k) (add-one (k + 1)))

  pub lowest_stop : k + 1 < length sums → divides d (get_or sums (k + 1) (pos 0)) ≡ false
      → Coefficient k (get_or sums (k + 1) (pos 0)) ≡ lowest d z k (drop (k + 1) sums)
  unfolding lowest
  lowest_stop h e = rw (drop-cons sums (k + 1) (pos 0) h, e)

  pub lowest_over : length sums ≤ k + 1 → Constant z ≡ lowest d z k (drop (k + 1) sums)
  unfolding lowest
  lowest_over h = rw (drop_of_length-le sums h)

-- ---- the terms, one by one

module _ (row : ℕ → Row) (sum : Row) (ps : List ℕ) (ms : List ℤ) (i : ℕ) where
  pub sum_step : length ps ≡ length ms → i < length ps
      → summed_onto row (plus sum (scaled (get_or ms i (pos 0)) (row (get_or ps i 0)))) (terms (drop (i + 1) ps) (drop (i + 1) ms))
      ≡ summed_onto row sum (terms (drop i ps) (drop i ms))
  unfolding summed_onto
  sum_step e h = rw (next_term ps ms i e h)

  pub sum_over : length ps ≤ i → summed_onto row sum (terms (drop i ps) (drop i ms)) ≡ sum
  unfolding summed_onto
  sum_over h = rw (drop_of_length-le ps h)

-- ---- sizes: each term adds at most the largest multiplier times the largest number

abbrev pub Within : ℕ → List ℤ → Type 0
Within b l = (j : ℕ) → nat_abs (get_or l j (pos 0)) ≤ b

abbrev pub largest_term : ℕ
largest_term = largest_multiplier * largest_number

pub within_zeros : (n : ℕ) → Within 0 (replicate n (pos 0))
within_zeros zero j = omega arith
within_zeros (suc n) zero = omega arith
within_zeros (suc n) (suc j) = within_zeros n j

within_range : (r : List ℤ) → T (all in_range r) → Within largest_number r
within_range [] t j = omega arith
within_range (k ∷ r) t zero = within largest_number k (T_and (in_range k) (all in_range r) t).0
within_range (k ∷ r) t (suc j) = within_range r (T_and (in_range k) (all in_range r) t).1 j

-- a sum grows by no more than the sizes' product
size_plus : (m : ℤ) (s r : List ℤ) (j : ℕ)
    → nat_abs (get_or (plus s (scaled m r)) j (pos 0)) ≤ nat_abs (get_or s j (pos 0)) + nat_abs m * nat_abs (get_or r j (pos 0))
size_plus m [] [] j = omega arith
size_plus m [] (k ∷ r) zero = omega (arith, nat_abs_mul m k)
size_plus m [] (k ∷ r) (suc j) = size_plus m [] r j
size_plus m (x ∷ s) [] j = omega arith
size_plus m (x ∷ s) (k ∷ r) zero = omega (arith, nat_abs_add x (m *ℤ k), nat_abs_mul m k)
size_plus m (x ∷ s) (k ∷ r) (suc j) = size_plus m s r j

module _ (m : ℤ) (r : Row) (few : nat_abs m ≤ largest_multiplier) (numbers : T (all in_range r)) where
  added : (j : ℕ) → nat_abs m * nat_abs (get_or r j (pos 0)) ≤ largest_term
  added j = sizes few (within_range r numbers j)

  within_plus : (sum : List ℤ) (b : ℕ) → Within b sum → Within (b + largest_term) (plus sum (scaled m r))
  within_plus sum b w j = omega (arith, w j, added j, size_plus m sum r j)

module _ {n : ℕ} {table : List ℤ} {f : ℕ} {m : ℤ} (t : Summand n table f m) (sum : List ℤ) (b : ℕ) (w : Within b sum) where
  pub grown : Within (b + largest_term) (plus sum (scaled m (row_at n table f)))
  grown = within_plus m (row_at n table f) t.multiplier t.numbers sum b w

  pub room : b + largest_term < 2 ^ 63 → length sum ≡ n + 1 → Addable m sum (row_at n table f)
  room h l =
      record {
        same = l ∙ sym (length_row n table f t.inside);
        room = λ j. omega (arith, w j, added m (row_at n table f) t.multiplier t.numbers j);
      }

  pub length_grown : length sum ≡ n + 1 → length (plus sum (scaled m (row_at n table f))) ≡ n + 1
  length_grown l =
      length_plus sum (scaled m (row_at n table f)) (l ∙ sym (length_scaled m (row_at n table f) ∙ length_row n table f t.inside)) ∙ l

within_summed : (row : ℕ → Row) (ts : List Term) (sum : List ℤ) (b : ℕ) → T (all (bounded row) ts) → Within b sum
    → Within (b + length ts * largest_term) (summed_onto row sum ts)
unfolding summed_onto
within_summed row [] sum b h w j = omega (arith, w j)
within_summed row (t ∷ ts) sum b h w j =
    let (x, xs) = T_and (bounded row t) (all (bounded row) ts) h in
    let (numbers, few) = T_and (all in_range (row t.form)) _ x in
    let more = within_plus t.multiplier (row t.form) (within largest_multiplier t.multiplier few) numbers sum b w in
    omega (arith, within_summed row ts (plus sum (scaled t.multiplier (row t.form))) (b + largest_term) xs more j)

-- the running sums stay within 32 · 10^15: the sum of the first k terms, at every cell
pub running_sums : (n : ℕ) (row : ℕ → Row) (ts : List Term) → length ts ≤ most_terms → T (all (bounded row) ts)
    → (k j : ℕ) → nat_abs (get_or (summed n row (take k ts)) j (pos 0)) ≤ 32_000_000_000_000_000
running_sums n row ts few h k j =
    let first : length (take k ts) ≤ length ts = rw length-take (omega arith) in
    omega (arith, within_summed row (take k ts) (zero_row n) 0 (all_take (bounded row) k ts h) (within_zeros (n + 1)) j)

module _ (n : ℕ) (table : List ℤ) where
  summand_bounded : (t : Term) → T (summand n table t) → T (bounded (row_at n table) t)
  summand_bounded t h = (T_and (leb ((n + 3) * t.form + (n + 3)) (length table)) (bounded (row_at n table) t) h).1

  pub small_sums : (ps : List ℕ) (ms : List ℤ) → Summable n table ps ms → Small (summed n (row_at n table) (terms ps ms))
  small_sums ps ms s =
      let ts = terms ps ms in
      let inside = all_implies (summand n table) (bounded (row_at n table)) summand_bounded ts s.summands in
      let few : length ts ≤ most_terms = omega (arith, length_terms ps ms s.paired, s.few) in
      record { small = λ j. omega (arith, rw (take-length ts) at (running_sums n (row_at n table) ts few inside (length ts) j)) }
