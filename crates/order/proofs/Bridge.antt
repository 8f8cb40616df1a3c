-- What the walk finds out is what the clauses of the order say.
use mathlib.Core.Path.{◌≡◌, ap, sym, subst}
use mathlib.Core.Bool.{Bool, cond}
use mathlib.Core.List.{List, [], ◌∷◌}
use Prim.Native.Nat.{ℕ, zero, suc, ◌+◌, ◌*◌, ◌-◌, ◌≤◌, ◌<◌}
use native.Mathlib.Omega.{arith}
use native.Mathlib.Decide.{dec_lt}
use borrow.Author.Tests.{lt-ltb, le-ltb}
use lib.Dec.{T, eqb}
use lib.IntN.{pos}
use lib.ListN.{drop}
use Rattle.ints.specs.Tests.{eq_z, all}
use Rattle.ints.proofs.Bools.{T_and, and_T}
use Rattle.ledger.specs.Literals.{names_below}
use Rattle.ledger.specs.Checks.{Check, Passed}
use Rattle.ledger.proofs.LegalLaws.{legal_more}
use Rattle.session.specs.declared.state.Mark.{Mark}
use Rattle.session.specs.declared.state.Session.{Session}
use Rattle.session.specs.Limits.{form_cells, line_cells}
use Rattle.session.specs.Cells.{Tables, tables, no_mark, counts_of, mark_at, end_before, literals_at, line_at}
use Rattle.session.specs.Parts.{edge}
use Rattle.session.specs.InOrder.{not_above, is_no_mark, order}
use Rattle.session.specs.Parts.{all_pass}
use Rattle.walk.specs.Walk.{LineGood}
use Rattle.walk.proofs.LineWalk.{short_line}
use Rattle.order.specs.Levels.{Counted, FormsGood, LevelsGood, lower}
use Rattle.session.proofs.Clauses.{not_above→le, le→not_above, Clauses, clauses, clauses_pass}

passed : (cs : List Check) → T (all_pass cs) → Passed cs
unfolding all_pass
passed [] t = tt
passed (c ∷ cs) t = let (h, k) = T_and c.passes (all_pass cs) t in (h, passed cs k)

passing : (cs : List Check) → Passed cs → T (all_pass cs)
unfolding all_pass
passing [] p = tt
passing (c ∷ cs) p = and_T c.passes (all_pass cs) p.0 (passing cs p.1)

-- ---- marks and the present counts

module _ (s : Session) (i : ℕ) where
  edge_mark : i < s.«open» → edge s i ≡ mark_at s i
  edge_mark h = ap (λ (b : Bool). cond b (mark_at s i) (counts_of s)) (lt-ltb _ _ h)

  edge_last : s.«open» ≤ i → edge s i ≡ counts_of s
  edge_last h = ap (λ (b : Bool). cond b (mark_at s i) (counts_of s)) (le-ltb _ _ h)

  -- what holds of a mark and of the counts holds of an edge
  edge_by : (P : Mark → Type 0) → (i < s.«open» → P (mark_at s i)) → (s.«open» ≤ i → P (counts_of s)) → P (edge s i)
  edge_by P f g =
      elim (dec_lt i s.«open») [
        | yes q ↦ subst P (sym (edge_mark q)) (f q)
        | no q ↦ (let h : s.«open» ≤ i = omega arith in subst P (sym (edge_last h)) (g h))
      ]

-- a line that names only forms below n names only forms below m
widen : {pool lines : List ℕ} {n i : ℕ} (m : ℕ) → n ≤ m → LineGood pool lines n i → LineGood pool lines m i
widen {pool} {lines} {n} {i} m h g =
    record {
      rise = g.rise;
      short = g.short;
      legal = legal_more n m (line_at (tables [] pool lines) i) h g.legal;
    }

-- ---- from the clauses to the walk

module _ {n : ℕ} (s : Session) (t : Tables) (f : Clauses n s t) where
  one_line : (m i : ℕ) → i < s.lines → T (names_below m (literals_at t.pool t.lines i)) → LineGood t.pool t.lines m i
  one_line m i h u =
      record {
        rise = f.rise i h;
        short = f.short i h;
        legal = record {
          origin = f.origins i h;
          short = short_line t.pool t.lines i (f.short i h);
          ascends = f.ascends i h;
          names = u;
        };
      }

  held : (i : ℕ) → T (not_above (edge s i) (counts_of s))
  held i =
      edge_by s i (λ (m : Mark). T (not_above m (counts_of s))) (f.marks_held i)
      (λ h. le→not_above (counts_of s) (counts_of s) (omega arith) (omega arith) (omega arith))

  rises : (i : ℕ) → i ≤ s.«open» → T (not_above (lower s i) (edge s i))
  rises zero h = le→not_above no_mark (edge s 0) (omega arith) (omega arith) (omega arith)
  rises (suc i) h =
      subst (λ (m : Mark). T (not_above m (edge s (suc i)))) (sym (edge_mark s i (omega arith)))
      (edge_by s (suc i) (λ (m : Mark). T (not_above (mark_at s i) m)) (λ q. f.marks_rise i (omega arith)) (λ q. f.marks_held i (omega arith)))

  ends : (i : ℕ) → end_before t.lines (edge s i).lines ≡ (edge s i).literals
  ends i = edge_by s i (λ (m : Mark). end_before t.lines m.lines ≡ m.literals) (λ q. sym (f.marks_end i q)) (λ q. f.last)

  name : (i k : ℕ) → k < (edge s i).lines → T (names_below (edge s i).forms (literals_at t.pool t.lines k))
  name i k =
      edge_by s i (λ (m : Mark). k < m.lines → T (names_below m.forms (literals_at t.pool t.lines k)))
      (λ q. f.marks_name i q k) (λ q. f.names k)

  walked : LevelsGood t.pool t.lines s
  walked i h =
      record {
        rises = rises i h;
        held = held i;
        ends = ends i;
        each =
            λ k a b.
            let q = not_above→le (edge s i) (counts_of s) (held i) in one_line (edge s i).forms k (omega (arith, q.1)) (name i k b);
      }

-- ---- from the walk to the clauses

module _ (s : Session) (pool lines : List ℕ) (v : LevelsGood pool lines s) where
  -- the lines below an edge name only its forms
  below_edge : (n : ℕ) → n ≤ s.«open» + 1 → (i : ℕ) → i < (lower s n).lines → LineGood pool lines (lower s n).forms i
  below_edge zero h i k = absurd (omega arith)
  below_edge (suc n) h i k =
      let g = v n (omega arith) in
      let r = not_above→le (lower s n) (edge s n) g.rises in
      elim (dec_lt i (lower s n).lines) [
        | yes q ↦ widen (edge s n).forms r.0 (below_edge n (omega arith) i q)
        | no q ↦ g.each i (omega arith) k
      ]

  -- what every level has, of the marks and of the present counts

  at_mark : (P : Mark → Type 0) (k : ℕ) → k < s.«open» → P (edge s k) → P (mark_at s k)
  at_mark P k h = subst P (edge_mark s k h)

  at_last : (P : Mark → Type 0) → P (edge s s.«open») → P (counts_of s)
  at_last P = subst P (edge_last s s.«open» (omega arith))

  each_line : (i : ℕ) → i < s.lines → LineGood pool lines s.forms i
  each_line =
      at_last (λ (m : Mark). (i : ℕ) → i < m.lines → LineGood pool lines m.forms i) (below_edge (suc s.«open») (omega arith))

  each_mark : (k : ℕ) → k < s.«open» → (i : ℕ) → i < (mark_at s k).lines → LineGood pool lines (mark_at s k).forms i
  each_mark k h =
      at_mark (λ (m : Mark). (i : ℕ) → i < m.lines → LineGood pool lines m.forms i) k h (below_edge (suc k) (omega arith))

  mark_rises : (k : ℕ) → k < s.«open» - 1 → T (not_above (mark_at s k) (mark_at s (suc k)))
  mark_rises k h =
      at_mark (λ (m : Mark). T (not_above m (mark_at s (suc k)))) k (omega arith)
      (at_mark (λ (m : Mark). T (not_above (edge s k) m)) (suc k) (omega arith) (v (suc k) (omega arith)).rises)

  mark_held : (k : ℕ) → k < s.«open» → T (not_above (mark_at s k) (counts_of s))
  mark_held k h = at_mark (λ (m : Mark). T (not_above m (counts_of s))) k h (v k (omega arith)).held

  mark_end : (k : ℕ) → k < s.«open» → end_before lines (mark_at s k).lines ≡ (mark_at s k).literals
  mark_end k h = at_mark (λ (m : Mark). end_before lines m.lines ≡ m.literals) k h (v k (omega arith)).ends

  last_end : end_before lines s.lines ≡ s.literals
  last_end = at_last (λ (m : Mark). end_before lines m.lines ≡ m.literals) (v s.«open» (omega arith)).ends

-- ---- the whole

-- what the parts of the test find out
pub record Found (n : ℕ) (s : Session) (t : Tables) : Type 0 where
  pub counted : Counted s
  pub contents : FormsGood n t.forms s.forms
  pub levels : LevelsGood t.pool t.lines s
  pub marks_zero : T (all is_no_mark (drop s.«open» s.marks))
  pub forms_zero : T (all (λ c. eq_z c (pos 0)) (drop (form_cells n * s.forms) t.forms))
  pub pool_zero : T (all (λ c. eqb c 0) (drop s.literals t.pool))
  pub lines_zero : T (all (λ c. eqb c 0) (drop (line_cells * s.lines) t.lines))

module _ (n : ℕ) (s : Session) (t : Tables) where
  pub found : T (all_pass (order n s t)) → Found n s t
  found p =
      let f : Clauses n s t = clauses (passed (order n s t) p) in
      record {
        counted = record { forms = f.few_forms; lines = f.few_lines; literals = f.few_literals; levels = f.few_levels };
        contents = f.contents;
        levels = walked s t f;
        marks_zero = f.marks_zero;
        forms_zero = f.forms_zero;
        pool_zero = f.pool_zero;
        lines_zero = f.lines_zero;
      }

  pub in_order : Found n s t → T (all_pass (order n s t))
  in_order g =
      let v = g.levels in
      let p = t.pool in
      let l = t.lines in
      let e = each_line s p l v in
      passing (order n s t)
      (clauses_pass
      (record {
        few_forms = g.counted.forms;
        few_lines = g.counted.lines;
        few_literals = g.counted.literals;
        few_levels = g.counted.levels;
        contents = g.contents;
        rise = λ i h. (e i h).rise;
        short = λ i h. (e i h).short;
        last = last_end s p l v;
        origins = λ i h. (e i h).legal.origin;
        ascends = λ i h. (e i h).legal.ascends;
        names = λ i h. (e i h).legal.names;
        marks_rise = mark_rises s p l v;
        marks_held = mark_held s p l v;
        marks_end = λ k h. sym (mark_end s p l v k h);
        marks_name = λ k h i q. (each_mark s p l v k h i q).legal.names;
        forms_zero = g.forms_zero;
        pool_zero = g.pool_zero;
        lines_zero = g.lines_zero;
        marks_zero = g.marks_zero;
      }))
