-- A legal ledger laid out is in order, and it is read back from there.
use mathlib.Core.Path.{◌≡◌, refl, ap, sym, ◌∙◌}
use Prim.Native.Nat.{ℕ, zero, suc, ◌+◌, ◌-◌, ◌≤◌, ◌<◌}
use native.Mathlib.Nat.{zero-add}
use native.Mathlib.Omega.{arith}
use lib.Dec.{T, eqb}
use lib.IntN.{pos}
use lib.ListN.{length, get_or, take}
use lib.Seq.{take-length}
use Rattle.ints.specs.Tests.{eq_z}
use Rattle.ints.proofs.Lists.{all_at}
use Rattle.rows.specs.Form.{form_of, form_at, legal}
use Rattle.ledger.specs.Limits.{most_levels}
use Rattle.ledger.specs.Literals.{names_below}
use Rattle.ledger.specs.Ledger.{Line, Ledger, no_form, no_line, literal_count}
use Rattle.ledger.specs.Legal.{Legal}
use Rattle.ledger.specs.Checks.{Passed}
use Rattle.ledger.proofs.LegalLaws.{literals_take}
use Rattle.session.specs.declared.state.Session.{Session}
use Rattle.session.specs.Limits.{form_table, pool_table, line_table}
use Rattle.session.specs.Cells.{Tables, no_mark, counts_of, mark_at, end_before, origin_at, literals_at, down_from, line_at, level_at, ledger_of}
use Rattle.session.specs.InOrder.{not_above, is_no_mark, order}
use Rattle.session.proofs.Clauses.{le→not_above, clauses_pass}
use Rattle.laid.specs.Laid.{padded, forms_laid, pool_laid, lines_laid, tables_of, marks_laid, session_of}
use Rattle.laid.proofs.ByIndex.{up_to_is, padded_zero}
use Rattle.laid.proofs.LaidParts.{length_forms, length_pool, length_lines, length_marks}
use Rattle.laid.proofs.LaidCells.{cells_at_lem, count_next, count_rises, literals_at_lem, end_at, origin_at_lem}
use Rattle.laid.proofs.LaidMarks.{marks_read, mark_counts, mark_rises, mark_names}

module _ (n : ℕ) (l : Ledger) (g : Legal n l) where
  abbrev s : Session
  s = session_of l

  abbrev t : Tables
  t = tables_of n l

  abbrev line : ℕ → Line
  line i = get_or l.lines i no_line

  -- ---- what the cells hold

  form_is : (f : ℕ) → f < length l.forms → form_at n t.forms f ≡ get_or l.forms f no_form
  unfolding tables_of padded
  form_is f h = ap form_of (cells_at_lem n l.forms _ f g.contents h)

  end_is : (i : ℕ) → i ≤ length l.lines → end_before t.lines i ≡ literal_count (take i l.lines)
  unfolding tables_of padded
  end_is zero h = refl
  end_is (suc i) h = end_at l.lines _ 0 i h ∙ zero-add _

  origin_is : (i : ℕ) → i < length l.lines → origin_at t.lines i ≡ (line i).origin
  unfolding tables_of padded
  origin_is i h = origin_at_lem l.lines _ 0 i h

  end_next : (i : ℕ) → i < length l.lines → end_before t.lines (suc i) ≡ end_before t.lines i + length (line i).literals
  end_next i h = omega (arith, end_is i (omega arith), end_is (suc i) h, count_next l.lines i h)

  literals_is : (i : ℕ) → i < length l.lines → literals_at t.pool t.lines i ≡ (line i).literals
  unfolding tables_of padded
  literals_is i h =
      let q : end_before t.lines (suc i) - end_before t.lines i ≡ length (line i).literals = omega (arith, end_next i h) in
      rw (q, end_is i (omega arith)) (literals_at_lem l.lines _ i h)

  marks_are : down_from (length l.marks) (level_at s) ≡ l.marks
  unfolding session_of padded
  marks_are = marks_read l.lines _ l.marks

  pub read_back : ledger_of n (session_of l) (tables_of n l) ≡ l
  unfolding ledger_of session_of
  read_back =
      let forms = up_to_is l.forms (form_at n t.forms) no_form form_is in
      let lines = up_to_is l.lines (line_at t) no_line (λ i h. λ j. record { origin = origin_is i h j; literals = literals_is i h j }) in
      λ j. record { forms = forms j; lines = lines j; marks = marks_are j }

  -- ---- the marks

  within : (k : ℕ) → k < length l.marks
      → ((mark_at s k).forms ≤ length l.forms)
      × ((mark_at s k).lines ≤ length l.lines)
      × ((mark_at s k).literals ≡ literal_count (take (mark_at s k).lines l.lines))
  unfolding session_of padded
  within = mark_counts l.lines _ l.marks _ _ g.marked

  rise : (k : ℕ) → suc k < length l.marks → ((mark_at s k).forms ≤ (mark_at s (suc k)).forms) × ((mark_at s k).lines ≤ (mark_at s (suc k)).lines)
  unfolding session_of padded
  rise = mark_rises l.lines _ l.marks _ _ g.marked

  rising : (k : ℕ) → suc k < length l.marks → T (not_above (mark_at s k) (mark_at s (suc k)))
  rising k h =
      let (forms, lines) = rise k h in
      let (_, _, here) = within k (omega arith) in
      let (_, _, next) = within (suc k) h in
      let up = count_rises l.lines (mark_at s k).lines (mark_at s (suc k)).lines lines in
      le→not_above (mark_at s k) (mark_at s (suc k)) forms lines (omega arith)

  held : (k : ℕ) → k < length l.marks → T (not_above (mark_at s k) (counts_of s))
  unfolding session_of
  held k h =
      let (forms, lines, literals) = within k h in
      le→not_above (mark_at s k) (counts_of s) forms lines (omega (arith, literals_take (mark_at s k).lines l.lines))

  below_mark : (k : ℕ) → k < length l.marks → (i : ℕ) → i < (mark_at s k).lines → T (names_below (mark_at s k).forms (line i).literals)
  unfolding session_of padded
  below_mark = mark_names l.lines _ l.marks _ l.lines g.marked g.named

  -- ---- in order

  pub laid_in_order : Passed (order n (session_of l) (tables_of n l))
  unfolding session_of tables_of
  laid_in_order =
      clauses_pass
      (record {
        few_forms = g.few_forms;
        few_lines = g.few_lines;
        few_literals = g.few_literals;
        few_levels = g.few_levels;
        contents = λ f h. rw (form_is f h) (all_at (legal n) l.forms f no_form g.contents h);
        rise = λ i h. omega (arith, end_next i h);
        short = λ i h. omega (arith, end_next i h, (g.each i h).short);
        last = end_is (length l.lines) (omega arith) ∙ ap literal_count (take-length l.lines);
        origins = λ i h. rw (origin_is i h) (g.each i h).origin;
        ascends = λ i h. rw (literals_is i h) (g.each i h).ascends;
        names = λ i h. rw (literals_is i h) (g.each i h).names;
        marks_rise = λ k h. rising k (omega arith);
        marks_held = held;
        marks_end = λ k h. let (_, lines, literals) = within k h in literals ∙ sym (end_is (mark_at s k).lines lines);
        marks_name = λ k h i q. rw (literals_is i (omega (arith, (within k h).1))) (below_mark k h i q);
        forms_zero = padded_zero (pos 0) (form_table n) (λ c. eq_z c (pos 0)) (forms_laid l.forms) _ (length_forms n l.forms g.contents) tt;
        pool_zero = padded_zero 0 pool_table (λ c. eqb c 0) (pool_laid l.lines) _ (length_pool l.lines) tt;
        lines_zero = padded_zero 0 line_table (λ c. eqb c 0) (lines_laid 0 l.lines) _ (length_lines 0 l.lines) tt;
        marks_zero = padded_zero no_mark most_levels is_no_mark (marks_laid l.lines l.marks) _ (length_marks l.lines l.marks) tt;
      })
