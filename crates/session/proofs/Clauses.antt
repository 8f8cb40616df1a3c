-- The clauses of the order, each by its name and as a fact. Whoever shows that a session and its tables are in order gives these, and
-- whoever is given the order reads them.
use mathlib.Core.Path.{◌≡◌, subst}
use mathlib.Core.Bool.{Bool, ◌&&◌}
use Prim.Native.Nat.{ℕ, zero, suc, ◌+◌, ◌*◌, ◌-◌, ◌≤◌, ◌<◌}
use native.Mathlib.Omega.{arith}
use native.Mathlib.Decide.{dec_lt}
use lib.Dec.{T, eqb, leb, leb→le, le→leb, eqb→eq, eqb_refl}
use lib.IntN.{pos}
use lib.ListN.{drop}
use Rattle.ints.specs.Tests.{eq_z, all}
use Rattle.ints.proofs.Bools.{T_and, and_T}
use Rattle.rows.specs.Form.{form_at, legal}
use Rattle.ledger.specs.Limits.{most_forms, most_lines, most_literals, most_levels, longest_line}
use Rattle.ledger.specs.Literals.{ascending, names_below}
use Rattle.ledger.specs.Ledger.{is_origin}
use Rattle.ledger.specs.Checks.{Passed}
use Rattle.session.specs.declared.state.Mark.{Mark}
use Rattle.session.specs.declared.state.Session.{Session}
use Rattle.session.specs.Limits.{line_cells, form_cells}
use Rattle.session.specs.Cells.{Tables, counts_of, mark_at, end_before, origin_at, literals_at}
use Rattle.session.specs.InOrder.{all_below, not_above, is_no_mark, order}

-- ---- the tests that the clauses are made of

pub below_at : (n : ℕ) (p : ℕ → Bool) → T (all_below n p) → (i : ℕ) → i < n → T (p i)
unfolding all_below
below_at zero p t i h = absurd (omega arith)
below_at (suc n) p t i h =
    let (before, last) = T_and (all_below n p) (p n) t in
    elim (dec_lt i n) [ yes q ↦ below_at n p before i q | no q ↦ (let e : i ≡ n = omega arith in rw e last) ]

pub at_below : (n : ℕ) (p : ℕ → Bool) → ((i : ℕ) → i < n → T (p i)) → T (all_below n p)
unfolding all_below
at_below zero p f = tt
at_below (suc n) p f = and_T (all_below n p) (p n) (at_below n p (λ i h. f i (omega arith))) (f n (omega arith))

module _ (a b : Mark) where
  pub not_above→le : T (not_above a b) → (a.forms ≤ b.forms) × (a.lines ≤ b.lines) × (a.literals ≤ b.literals)
  unfolding not_above
  not_above→le t =
      let (first, literals) = T_and (leb a.forms b.forms && leb a.lines b.lines) _ t in
      let (forms, lines) = T_and (leb a.forms b.forms) _ first in
      (leb→le _ _ forms, leb→le _ _ lines, leb→le _ _ literals)

  pub le→not_above : a.forms ≤ b.forms → a.lines ≤ b.lines → a.literals ≤ b.literals → T (not_above a b)
  unfolding not_above
  le→not_above f l p =
      let first = and_T (leb a.forms b.forms) (leb a.lines b.lines) (le→leb _ _ f) (le→leb _ _ l) in
      and_T (leb a.forms b.forms && leb a.lines b.lines) _ first (le→leb _ _ p)

eq→eqb : {a b : ℕ} → a ≡ b → T (eqb a b)
eq→eqb {a} e = subst (λ (x : ℕ). T (eqb a x)) e (eqb_refl a)

infixr 20 ◌&◌
◌&◌ : {A B : Type 0} → A → B → A × B
a & b = (a, b)

-- ---- the clauses

pub record Clauses (n : ℕ) (s : Session) (t : Tables) : Type 0 where
  pub few_forms : s.forms ≤ most_forms
  pub few_lines : s.lines ≤ most_lines
  pub few_literals : s.literals ≤ most_literals
  pub few_levels : s.«open» ≤ most_levels
  pub contents : (f : ℕ) → f < s.forms → T (legal n (form_at n t.forms f))
  pub rise : (i : ℕ) → i < s.lines → end_before t.lines i ≤ end_before t.lines (suc i)
  pub short : (i : ℕ) → i < s.lines → end_before t.lines (suc i) ≤ end_before t.lines i + longest_line
  pub last : end_before t.lines s.lines ≡ s.literals
  pub origins : (i : ℕ) → i < s.lines → T (is_origin (origin_at t.lines i))
  pub ascends : (i : ℕ) → i < s.lines → T (ascending (literals_at t.pool t.lines i))
  pub names : (i : ℕ) → i < s.lines → T (names_below s.forms (literals_at t.pool t.lines i))
  pub marks_rise : (k : ℕ) → k < s.«open» - 1 → T (not_above (mark_at s k) (mark_at s (suc k)))
  pub marks_held : (k : ℕ) → k < s.«open» → T (not_above (mark_at s k) (counts_of s))
  pub marks_end : (k : ℕ) → k < s.«open» → (mark_at s k).literals ≡ end_before t.lines (mark_at s k).lines
  pub marks_name : (k : ℕ) → k < s.«open» → (i : ℕ) → i < (mark_at s k).lines
      → T (names_below (mark_at s k).forms (literals_at t.pool t.lines i))
  pub forms_zero : T (all (λ c. eq_z c (pos 0)) (drop (form_cells n * s.forms) t.forms))
  pub pool_zero : T (all (λ c. eqb c 0) (drop s.literals t.pool))
  pub lines_zero : T (all (λ c. eqb c 0) (drop (line_cells * s.lines) t.lines))
  pub marks_zero : T (all is_no_mark (drop s.«open» s.marks))

module _ {n : ℕ} {s : Session} {t : Tables} where
  pub clauses : Passed (order n s t) → Clauses n s t
  unfolding order
  clauses p =
      let (few_forms, (few_lines, (few_literals, (few_levels, (contents, of-lines))))) = p in
      let (rise, (short, (last, (origins, (ascends, (names, of-marks)))))) = of-lines in
      let (marks_rise, (marks_held, (marks_end, (marks_name, of-zeros)))) = of-marks in
      let (forms_zero, (pool_zero, (lines_zero, (marks_zero, _)))) = of-zeros in
      record {
        few_forms = leb→le _ _ few_forms;
        few_lines = leb→le _ _ few_lines;
        few_literals = leb→le _ _ few_literals;
        few_levels = leb→le _ _ few_levels;
        contents = below_at _ _ contents;
        rise = λ i h. leb→le _ _ (below_at _ _ rise i h);
        short = λ i h. leb→le _ _ (below_at _ _ short i h);
        last = eqb→eq _ _ last;
        origins = below_at _ _ origins;
        ascends = below_at _ _ ascends;
        names = below_at _ _ names;
        marks_rise = below_at _ _ marks_rise;
        marks_held = below_at _ _ marks_held;
        marks_end = λ k h. eqb→eq _ _ (below_at _ _ marks_end k h);
        marks_name = λ k h. below_at _ _ (below_at _ _ marks_name k h);
        forms_zero = forms_zero;
        pool_zero = pool_zero;
        lines_zero = lines_zero;
        marks_zero = marks_zero;
      }

  pub clauses_pass : Clauses n s t → Passed (order n s t)
  unfolding order
  clauses_pass c =
      le→leb _ _ c.few_forms
      & le→leb _ _ c.few_lines
      & le→leb _ _ c.few_literals
      & le→leb _ _ c.few_levels
      & at_below _ _ c.contents
      & at_below _ _ (λ i h. le→leb _ _ (c.rise i h))
      & at_below _ _ (λ i h. le→leb _ _ (c.short i h))
      & eq→eqb c.last
      & at_below _ _ c.origins
      & at_below _ _ c.ascends
      & at_below _ _ c.names
      & at_below _ _ c.marks_rise
      & at_below _ _ c.marks_held
      & at_below _ _ (λ k h. eq→eqb (c.marks_end k h))
      & at_below _ _ (λ k h. at_below _ _ (c.marks_name k h))
      & c.forms_zero
      & c.pool_zero
      & c.lines_zero
      & c.marks_zero
      & tt
