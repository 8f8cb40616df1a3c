-- The lowest line that ends where it begins, as the loop looks for it, is the ledger's lowest empty line.
use mathlib.Core.Path.{◌≡◌, refl, sym, ap, ap₂, ◌∙◌}
use mathlib.Core.Bool.{Bool, true, false, cond}
use mathlib.Core.List.{List, [], ◌∷◌, ◌++◌}
use Prim.Native.Nat.{ℕ, zero, suc, ◌+◌, ◌*◌, ◌-◌, ◌≤◌, ◌<◌}
use native.Mathlib.Numerals.{add-one}
use native.Mathlib.Nat.{add-zero}
use native.Mathlib.Omega.{arith}
use borrow.Author.Tests.{eq-eqb, ne_eqb}
use lib.Dec.{eqb, eqb→eq}
use lib.ListN.{length, take, length-take, length-drop}
use lib.Seq.{get_or-take}
use Rattle.ints.specs.Tests.{up_to}
use Rattle.ints.proofs.Bools.{T-same, true→T}
use Rattle.ledger.specs.Limits.{most_lines}
use Rattle.ledger.specs.Ledger.{Line}
use Rattle.ledger.specs.Apply.{pass, fail}
use Rattle.ledger.specs.Standing.{refuted, not_refuted, standing_from}
use Rattle.session.specs.declared.state.Session.{Session}
use Rattle.session.specs.Limits.{line_cells, pool_table, line_table}
use Rattle.session.specs.Cells.{Tables, named, end_before, literals_at, line_at, ledger_of}
use Rattle.session.specs.Calls.{entry, stands, no_standing, stands_by, standing}
use Rattle.order.specs.Empty.{lowest_empty}
use Rattle.walk.proofs.LineWalk.{rising}
use Rattle.order.proofs.Entry.{entry_long, entry_clauses}

-- ---- the loop: line i of n

module _ (lines : List ℕ) (i n : ℕ) where
  next : i < n → n - i ≡ suc (n - (i + 1))
  next h = omega arith

  pub empty_here : i < n → end_before lines (i + 1) ≡ end_before lines i → lowest_empty lines i (n - i) ≡ refuted i
  unfolding lowest_empty
  empty_here h e = rw (next h, eq-eqb _ _ e)

  pub not_here : i < n → (end_before lines (i + 1) ≡ end_before lines i → ⊥)
      → lowest_empty lines i (n - i) ≡ lowest_empty lines (i + 1) (n - (i + 1))
  unfolding lowest_empty
  not_here h e = rw (next h, ne_eqb _ _ e)

  pub none_empty : n ≤ i → lowest_empty lines i (n - i) ≡ not_refuted
  unfolding lowest_empty
  none_empty h = let e : n - i ≡ 0 = omega arith in rw e

-- ---- the ledger

front : {A : Type 0} (n : ℕ) (f : ℕ → A) → up_to (suc n) f ≡ f 0 ∷ up_to n (λ i. f (suc i))
unfolding up_to
front zero f = refl
front (suc n) f = ap (λ l. l ++ (f (suc n) ∷ [])) (front n f)

-- lines that are empty exactly where an end equals the one before
same_lowest : (lines : List ℕ) (i n : ℕ) (f : ℕ → Line)
    → ((k : ℕ) → k < n → eqb (length (f k).literals) 0 ≡ eqb (end_before lines (suc (i + k))) (end_before lines (i + k)))
    → lowest_empty lines i n ≡ standing_from i (up_to n f)
unfolding lowest_empty standing_from up_to
same_lowest lines i zero f h = refl
same_lowest lines i (suc n) f h =
    rw (front n f, h 0 (omega arith), add-zero i, add-one i)
    (go (eqb (end_before lines (suc i)) (end_before lines i))
    (same_lowest lines (suc i) n (λ k. f (suc k)) (λ k l. let e : suc i + k ≡ i + suc k = omega arith in rw e (h (suc k) (omega arith)))))
  where
    go : (b : Bool) → lowest_empty lines (suc i) n ≡ standing_from (suc i) (up_to n (λ k. f (suc k)))
        → cond b (refuted i) (lowest_empty lines (suc i) n) ≡ cond b (refuted i) (standing_from (suc i) (up_to n (λ k. f (suc k))))
    go true e = refl
    go false e = e

same_ends : (a b : ℕ) → a ≤ b → eqb (b - a) 0 ≡ eqb b a
same_ends a b h =
    T-same (eqb (b - a) 0) (eqb b a)
    (λ t. true→T (eq-eqb b a (omega (arith, eqb→eq))))
    (λ t. true→T (eq-eqb (b - a) 0 (omega (arith, eqb→eq))))

-- a line whose literals are in the pool
empty_line : (pool lines : List ℕ) (k : ℕ) → end_before lines k ≤ end_before lines (suc k) → end_before lines (suc k) ≤ length pool
    → eqb (length (literals_at pool lines k)) 0 ≡ eqb (end_before lines (suc k)) (end_before lines k)
empty_line pool lines k h l =
    let e : length (literals_at pool lines k) ≡ end_before lines (suc k) - end_before lines k = simp (length-take, length-drop) (omega arith) in
    ap (λ (m : ℕ). eqb m 0) e ∙ same_ends (end_before lines k) (end_before lines (suc k)) h

end_named : (lines : List ℕ) (i : ℕ) → i ≤ most_lines → end_before (take line_table lines) i ≡ end_before lines i
end_named lines zero h = refl
end_named lines (suc i) h = get_or-take line_table lines (line_cells * i) 0 (omega arith)

module _ (n : ℕ) (s : Session) (t : Tables) where
  pub standing_refused : (k : ℕ) → entry n s t ≡ fail k → standing n s t ≡ no_standing k
  unfolding standing
  standing_refused k e = ap (λ f. stands_by f n s t) e

  standing_passed : entry n s t ≡ pass → standing n s t ≡ stands (standing_from 0 (up_to s.lines (line_at (named n t))))
  unfolding standing ledger_of
  standing_passed e = ap (λ f. stands_by f n s t) e

  pub lowest_empty_lem : entry n s t ≡ pass → stands (lowest_empty t.lines 0 s.lines) ≡ standing n s t
  lowest_empty_lem e =
      let l = entry_long n s t e in
      let g = entry_clauses n s t e in
      let few_lines = g.few_lines in
      let cut = take line_table t.lines in
      ap stands
      (same_lowest t.lines 0 s.lines (line_at (named n t))
      (λ k h.
      let z : 0 + k ≡ k = omega arith in
      let r = rising cut (suc k) s.lines (omega arith) (λ i a b. g.rise i b) in
      rw z
      (empty_line (take pool_table t.pool) cut k (g.rise k h) (simp length-take (omega (arith, g.last, g.few_literals)))
      ∙ ap₂ eqb (end_named t.lines (suc k) (omega arith)) (end_named t.lines k (omega arith)))))
      ∙ sym (standing_passed e)
