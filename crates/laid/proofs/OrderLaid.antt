-- Cells in order are the layout of the ledger that is read from them, and that ledger is legal.
use mathlib.Core.Path.{◌≡◌, refl, ap, sym, ◌∙◌}
use mathlib.Core.Bool.{◌&&◌}
use mathlib.Core.List.{List, [], ◌∷◌, append-nil}
use Prim.Native.Nat.{ℕ, zero, suc, ◌+◌, ◌*◌, ◌-◌, ◌≤◌, ◌<◌}
use native.Mathlib.Decide.{dec_le}
use native.Mathlib.Nat.{mul-le-mul_left}
use native.Mathlib.Numerals.{add-one}
use native.Mathlib.Omega.{arith}
use lib.Dec.{T, eqb, eqb→eq}
use lib.IntN.{ℤ, pos}
use lib.ListN.{length, get_or, take, drop, length-take, length-drop}
use lib.Seq.{take-add, take-suc, drop-cons}
use Rattle.ints.specs.Tests.{up_to, eq_z}
use Rattle.ints.proofs.Bools.{T_and}
use Rattle.ints.proofs.Order.{eq_z→eq}
use Rattle.ints.proofs.Lists.{length_up_to}
use Rattle.rows.specs.Form.{cells_of, form_of, cells_at, form_at, legal}
use Rattle.ledger.specs.Limits.{most_levels}
use Rattle.ledger.specs.Literals.{names_below}
use Rattle.ledger.specs.Ledger.{Line, no_line, literal_count}
use Rattle.ledger.specs.Legal.{LegalLine, MarksIn, Named, line_below, Legal}
use Rattle.ledger.specs.Checks.{Passed}
use Rattle.ledger.proofs.LegalLaws.{literals_append}
use Rattle.session.specs.declared.state.Mark.{Mark}
use Rattle.session.specs.declared.state.Session.{Session}
use Rattle.session.specs.Limits.{line_cells, form_cells, form_table, pool_table, line_table}
use Rattle.session.specs.Cells.{Tables, no_mark, counts_of, mark_at, end_before, literals_at, down_from, line_at, level_at, ledger_of}
use Rattle.session.specs.InOrder.{not_above, is_no_mark, order}
use Rattle.session.proofs.Clauses.{not_above→le, Clauses, clauses}
use Rattle.laid.specs.Laid.{padded, forms_laid, pool_laid, lines_laid, tables_of, marks_laid, session_of}
use Rattle.laid.proofs.ByIndex.{get_or_up_to, take_up_to, all_up_to, length_down_from, padded_front}
use Rattle.laid.proofs.LaidParts.{forms_append, pool_append, lines_append}
use Rattle.laid.specs.Held.{Exact}

cells_back : (c : List ℤ) → 2 ≤ length c → cells_of (form_of c) ≡ c
cells_back [] h = absurd (omega arith)
cells_back (x ∷ []) h = absurd (omega arith)
cells_back (x ∷ y ∷ c) h = refl

forms_back : (n : ℕ) (table : List ℤ) (k : ℕ) → form_cells n * k ≤ length table → forms_laid (up_to k (form_at n table)) ≡ take (form_cells n * k) table
unfolding up_to forms_laid
forms_back n table zero h = let q : form_cells n * 0 ≡ 0 = omega arith in rw q
forms_back n table (suc k) h =
    let q : form_cells n * suc k ≡ form_cells n * k + form_cells n = omega arith in
    let two : 2 ≤ length (cells_at n table k) = simp (length-take, length-drop) (omega arith) in
    rw (q, forms_append, forms_back n table k (omega arith), append-nil, cells_back (cells_at n table k) two, take-add (form_cells n * k))

two_cells : (c : List ℕ) (i : ℕ) → i + 1 < length c → take 2 (drop i c) ≡ get_or c i 0 ∷ get_or c (i + 1) 0 ∷ []
two_cells c i h = rw (drop-cons c i 0 (omega arith), drop-cons c (suc i) 0 (omega arith), add-one i)

no_mark_lem : (m : Mark) → T (is_no_mark m) → m ≡ no_mark
no_mark_lem m h =
    let (rest, c) = T_and (eqb m.forms 0 && eqb m.lines 0) _ h in
    let (a, b) = T_and (eqb m.forms 0) _ rest in
    let forms = eqb→eq _ _ a in
    let lines = eqb→eq _ _ b in
    let literals = eqb→eq _ _ c in
    λ i. record { forms = forms i; lines = lines i; literals = literals i }

module _ (n : ℕ) (s : Session) (t : Tables) (e : Exact n s t) (p : Passed (order n s t)) where
  c : Clauses n s t
  c = clauses p

  abbrev ends : ℕ → ℕ
  ends i = end_before t.lines i

  abbrev lines : ℕ → List Line
  lines k = up_to k (line_at t)

  -- ---- the lines

  ends_rise : (a b : ℕ) → a ≤ b → b ≤ s.lines → ends a ≤ ends b
  ends_rise a zero h k = let q : a ≡ 0 = omega arith in rw q (omega arith)
  ends_rise a (suc b) h k =
      elim (dec_le a b) [
        | yes r ↦ omega (arith, ends_rise a b r (omega arith), c.rise b k)
        | no r ↦ (let q : a ≡ suc b = omega arith in rw q (omega arith))
      ]

  pub in_pool : (i : ℕ) → i ≤ s.lines → ends i ≤ length t.pool
  in_pool i h = omega (arith, ends_rise i s.lines h (omega arith), c.last, c.few_literals, e.sized.pool_size)

  length_literals : (i : ℕ) → i < s.lines → length (literals_at t.pool t.lines i) ≡ ends (suc i) - ends i
  length_literals i h = simp (length-take, length-drop) (omega (arith, in_pool (suc i) h, c.rise i h))

  count_back : (k : ℕ) → k ≤ s.lines → literal_count (lines k) ≡ ends k
  unfolding up_to
  count_back zero h = refl
  count_back (suc k) h = rw literals_append (omega (arith, count_back k (omega arith), length_literals k h, c.rise k h))

  pool_back : (k : ℕ) → k ≤ s.lines → pool_laid (lines k) ≡ take (ends k) t.pool
  unfolding up_to pool_laid
  pool_back zero h = refl
  pool_back (suc k) h =
      let q : ends k + (ends (suc k) - ends k) ≡ ends (suc k) = omega (arith, c.rise k h) in
      rw (pool_append, pool_back k (omega arith), append-nil)
      (sym (take-add (ends k) (ends (suc k) - ends k) t.pool) ∙ ap (λ (m : ℕ). take m t.pool) q)

  lines_back : (k : ℕ) → k ≤ s.lines → lines_laid 0 (lines k) ≡ take (line_cells * k) t.lines
  unfolding up_to lines_laid
  lines_back zero h = refl
  lines_back (suc k) h =
      let room : line_cells * k + 1 < length t.lines = omega (arith, c.few_lines, e.sized.line_size) in
      let q : line_cells * suc k ≡ line_cells * k + line_cells = omega arith in
      let before = count_back k (omega arith) in
      let here = length_literals k h in
      let v : 0 + literal_count (lines k) + length (literals_at t.pool t.lines k) ≡ ends (suc k) = omega (arith, c.rise k h) in
      rw (q, lines_append, lines_back k (omega arith), v, take-add, two_cells t.lines (line_cells * k) room)

  -- ---- the marks

  mark_end : (k : ℕ) → k < s.«open» → literal_count (take (mark_at s k).lines (lines s.lines)) ≡ (mark_at s k).literals
  mark_end k h =
      let (_, held, _) = not_above→le (mark_at s k) (counts_of s) (c.marks_held k h) in
      rw (take_up_to (mark_at s k).lines s.lines (line_at t) held) (count_back (mark_at s k).lines held ∙ sym (c.marks_end k h))

  marks_back : (k : ℕ) → k ≤ s.«open» → marks_laid (lines s.lines) (down_from k (level_at s)) ≡ take k s.marks
  unfolding down_from marks_laid
  marks_back zero h = refl
  marks_back (suc k) h =
      rw (marks_back k (omega arith), mark_end k h) (sym (take-suc s.marks k no_mark (omega (arith, e.mark_size, c.few_levels))))

  -- ---- laid out again

  form_cells_lem : padded (pos 0) (form_table n) (forms_laid (up_to s.forms (form_at n t.forms))) ≡ t.forms
  form_cells_lem =
      let room : form_cells n * s.forms ≤ form_table n = omega (arith, mul-le-mul_left (form_cells n) c.few_forms) in
      rw (forms_back n t.forms s.forms (omega (arith, e.sized.form_size)))
      (padded_front (pos 0) _ (λ x. eq_z x (pos 0)) t.forms _ e.sized.form_size room (λ x. eq_z→eq x (pos 0)) c.forms_zero)

  pool_cells : padded 0 pool_table (pool_laid (lines s.lines)) ≡ t.pool
  pool_cells =
      rw (pool_back s.lines (omega arith), c.last)
      (padded_front 0 _ (λ x. eqb x 0) t.pool _ e.sized.pool_size c.few_literals (λ x. eqb→eq x 0) c.pool_zero)

  line_cells_lem : padded 0 line_table (lines_laid 0 (lines s.lines)) ≡ t.lines
  line_cells_lem =
      let room : line_cells * s.lines ≤ line_table = omega (arith, c.few_lines) in
      rw (lines_back s.lines (omega arith))
      (padded_front 0 _ (λ x. eqb x 0) t.lines _ e.sized.line_size room (λ x. eqb→eq x 0) c.lines_zero)

  mark_cells : padded no_mark most_levels (marks_laid (lines s.lines) (down_from s.«open» (level_at s))) ≡ s.marks
  mark_cells =
      rw (marks_back s.«open» (omega arith)) (padded_front no_mark _ is_no_mark s.marks _ e.mark_size c.few_levels no_mark_lem c.marks_zero)

  form_count : length (up_to s.forms (form_at n t.forms)) ≡ s.forms
  form_count = length_up_to s.forms (form_at n t.forms)

  line_count : length (lines s.lines) ≡ s.lines
  line_count = length_up_to s.lines (line_at t)

  literal_count_lem : literal_count (lines s.lines) ≡ s.literals
  literal_count_lem = count_back s.lines (omega arith) ∙ c.last

  level_count : length (down_from s.«open» (level_at s)) ≡ s.«open»
  level_count = length_down_from s.«open» (level_at s)

  pub laid_back : (session_of (ledger_of n s t) ≡ s) × (tables_of n (ledger_of n s t) ≡ t)
  unfolding session_of tables_of ledger_of
  laid_back = (
    λ i. record { forms = form_count i; lines = line_count i; literals = literal_count_lem i; «open» = level_count i; marks = mark_cells i },
    λ i. record { forms = form_cells_lem i; pool = pool_cells i; lines = line_cells_lem i },
  )

  -- ---- legal

  -- the first k levels, below m
  levels_legal : (k : ℕ) (m : Mark) → k ≤ s.«open» → ((j : ℕ) → suc j ≡ k → T (not_above (mark_at s j) m))
      → ((i : ℕ) → i < m.lines → T (names_below m.forms (literals_at t.pool t.lines i)))
      → MarksIn m.forms m.lines (down_from k (level_at s)) × Named m.forms (lines m.lines) (down_from k (level_at s))
  unfolding down_from
  levels_legal zero m h top names = (tt, all_up_to (line_below m.forms) m.lines (line_at t) names)
  levels_legal (suc k) m h top names =
      let (forms, count, _) = not_above→le (mark_at s k) m (top k refl) in
      let (marked, named) = levels_legal k (mark_at s k) (omega arith) (λ j q. rw (← q) (c.marks_rise j (omega arith))) (c.marks_name k h) in
      let below = all_up_to (line_below m.forms) m.lines (line_at t) names in
      ((forms, count, marked), (below, rw (take_up_to (mark_at s k).lines m.lines (line_at t) count) named))

  line_legal : (i : ℕ) → i < s.lines → LegalLine s.forms (line_at t i)
  line_legal i h =
      record { origin = c.origins i h; short = omega (arith, length_literals i h, c.short i h); ascends = c.ascends i h; names = c.names i h }

  pub legal_back : Legal n (ledger_of n s t)
  unfolding ledger_of
  legal_back =
      let (marked, named) = levels_legal s.«open» (counts_of s) (omega arith) (λ j q. c.marks_held j (omega arith)) c.names in
      record {
        few_forms = rw form_count c.few_forms;
        few_lines = rw line_count c.few_lines;
        few_literals = rw literal_count_lem c.few_literals;
        few_levels = rw level_count c.few_levels;
        contents = all_up_to (legal n) s.forms (form_at n t.forms) c.contents;
        each = λ i h. let q : i < s.lines = rw line_count at h in rw (form_count, get_or_up_to s.lines (line_at t) i no_line q) (line_legal i q);
        marked = rw (form_count, line_count) marked;
        named = rw form_count named;
      }
