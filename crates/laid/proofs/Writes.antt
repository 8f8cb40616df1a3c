-- Each of the four writes makes of a legal ledger laid out the next ledger laid out, and finds the room that it needs.
use mathlib.Core.Path.{◌≡◌, refl, ◌∙◌}
use mathlib.Core.List.{List, [], ◌∷◌, ◌++◌, append-nil}
use Prim.Native.Nat.{ℕ, ◌+◌, ◌*◌, ◌-◌, ◌≤◌, ◌<◌}
use native.Mathlib.Nat.{mul-le-mul_left, zero-add}
use native.Mathlib.Numerals.{add-one}
use native.Mathlib.Omega.{arith}
use lib.IntN.{pos}
use lib.ListN.{length, take, drop, length-append, take-append-drop}
use lib.Seq.{take-append-le, take-take, take-length, length-take-le}
use Rattle.ints.proofs.Lists.{all_take}
use Rattle.rows.specs.Form.{Form, legal, cells_of}
use Rattle.ledger.specs.Limits.{most_forms, most_lines, most_literals, most_levels}
use Rattle.ledger.specs.Ledger.{Line, Ledger, literal_count, Mark as LedgerMark, new_form, new_line, add, opened, withdrawn}
use Rattle.ledger.specs.Legal.{Legal}
use Rattle.ledger.proofs.LegalLaws.{literals_append, literals_take}
use Rattle.session.specs.Limits.{line_cells, form_cells, form_table, pool_table, line_table}
use Rattle.session.specs.Cells.{tables, no_mark, counts_of, cells_of_line}
use Rattle.session.specs.Effects.{cleared, with_form, form_written, with_line, literals_written, line_written, with_level, last_mark, less_level, freed, Between}
use Rattle.laid.specs.Laid.{forms_laid, pool_laid, lines_laid, marks_laid, tables_of, mark_laid, session_of}
use Rattle.laid.proofs.LaidParts.{length_padded, padded_written, padded_cleared, padded_set, padded_unset, get_or_padded}
use Rattle.laid.proofs.LaidParts.{length_cells, forms_append, length_forms, pool_append, length_pool, lines_append, length_lines}
use Rattle.laid.proofs.LaidParts.{length_marks, marks_agree}

module _ (n : ℕ) (l : Ledger) (g : Legal n l) where
  forms_fit : length (forms_laid l.forms) ≤ form_table n
  forms_fit = omega (arith, length_forms n l.forms g.contents, mul-le-mul_left (form_cells n) g.few_forms)

  pool_fits : length (pool_laid l.lines) ≤ pool_table
  pool_fits = omega (arith, length_pool l.lines, g.few_literals)

  lines_fit : length (lines_laid 0 l.lines) ≤ line_table
  lines_fit = omega (arith, length_lines 0 l.lines, g.few_lines)

  pub in_form_table : length (tables_of n l).forms ≡ form_table n
  unfolding tables_of
  in_form_table = length_padded (pos 0) (form_table n) (forms_laid l.forms) forms_fit

  pub in_pool_table : length (tables_of n l).pool ≡ pool_table
  unfolding tables_of
  in_pool_table = length_padded 0 pool_table (pool_laid l.lines) pool_fits

  pub in_line_table : length (tables_of n l).lines ≡ line_table
  unfolding tables_of
  in_line_table = length_padded 0 line_table (lines_laid 0 l.lines) lines_fit

  -- ---- one form more

  module _ (f : Form) (room : length l.forms < most_forms) (whole : length f.row ≡ n + 1) where
    form_cells_lem : (tables_of n (add l (new_form f))).forms ≡ form_written n (length l.forms) (cells_of f) (tables_of n l).forms
    unfolding tables_of add forms_laid
    form_cells_lem =
        let cells : forms_laid (l.forms ++ (f ∷ [])) ≡ forms_laid l.forms ++ cells_of f = rw (forms_append, append-nil) in
        let long = length_forms n l.forms g.contents in
        let fits : length (forms_laid (l.forms ++ (f ∷ []))) ≤ form_table n =
        rw (cells, length-append) (omega (arith, long, length_cells n f whole, mul-le-mul_left (form_cells n) room)) in
        padded_written (pos 0) (form_table n) (forms_laid l.forms) (cells_of f) _ cells fits (form_cells n * length l.forms) long

    pub form_written_lem : (session_of (add l (new_form f)) ≡ with_form (session_of l))
        × (tables_of n (add l (new_form f))
        ≡ tables (form_written n (session_of l).forms (cells_of f) (tables_of n l).forms) (tables_of n l).pool (tables_of n l).lines)
    unfolding session_of tables_of add
    form_written_lem = (rw length-append, λ i. tables (form_cells_lem i) (tables_of n l).pool (tables_of n l).lines)

  -- ---- one line more

  module _ (x : Line) (room : length l.lines < most_lines) (literals : literal_count l.lines + length x.literals ≤ most_literals) where
    line_session : session_of (add l (new_line x)) ≡ with_line (session_of l) (length x.literals)
    unfolding session_of add
    line_session =
        let total : literal_count (l.lines ++ (x ∷ [])) ≡ literal_count l.lines + length x.literals =
        literals_append l.lines (x ∷ []) ∙ omega arith in
        let marks =
        marks_agree (l.lines ++ (x ∷ [])) l.lines l.marks (length l.forms) (length l.lines) g.marked
        (λ i q. take-append-le i l.lines (x ∷ []) q) in
        rw (length-append, total, marks)

    line_pool : (tables_of n (add l (new_line x))).pool ≡ literals_written (literal_count l.lines) x (tables_of n l).pool
    unfolding tables_of add pool_laid
    line_pool =
        let cells : pool_laid (l.lines ++ (x ∷ [])) ≡ pool_laid l.lines ++ x.literals = rw (pool_append, append-nil) in
        let long = length_pool l.lines in
        let fits : length (pool_laid (l.lines ++ (x ∷ []))) ≤ pool_table = rw (cells, length-append) (omega arith) in
        padded_written 0 pool_table (pool_laid l.lines) x.literals _ cells fits (literal_count l.lines) long

    line_cells_lem : (tables_of n (add l (new_line x))).lines
        ≡ line_written (length l.lines) (literal_count l.lines) x (tables_of n l).lines
    unfolding tables_of add lines_laid
    line_cells_lem =
        let new = cells_of_line (literal_count l.lines + length x.literals) x in
        let cells : lines_laid 0 (l.lines ++ (x ∷ [])) ≡ lines_laid 0 l.lines ++ new = rw (lines_append, zero-add) in
        let long = length_lines 0 l.lines in
        let fits : length (lines_laid 0 (l.lines ++ (x ∷ []))) ≤ line_table = rw (cells, length-append) (omega arith) in
        padded_written 0 line_table (lines_laid 0 l.lines) new _ cells fits (line_cells * length l.lines) long

    pub line_written_lem : (session_of (add l (new_line x)) ≡ with_line (session_of l) (length x.literals))
        × (tables_of n (add l (new_line x))
        ≡ tables (tables_of n l).forms (literals_written (session_of l).literals x (tables_of n l).pool)
        (line_written (session_of l).lines (session_of l).literals x (tables_of n l).lines))
    unfolding session_of tables_of add
    line_written_lem = (line_session, λ i. tables (tables_of n l).forms (line_pool i) (line_cells_lem i))

-- ---- one level more

pub level_opened : (n : ℕ) (l : Ledger) → length l.marks < most_levels
    → (session_of (opened l) ≡ with_level (session_of l)) × (tables_of n (opened l) ≡ tables_of n l)
unfolding session_of tables_of opened marks_laid
level_opened n l h =
    let long = length_marks l.lines l.marks in
    let marks = padded_set no_mark most_levels (marks_laid l.lines l.marks) (counts_of (session_of l)) (omega arith) in
    (rw (take-length l.lines, marks, long, add-one), refl)

-- ---- one level less

abbrev pub Closes : ℕ → Ledger → Type 0
Closes n l = (session_of (withdrawn l) ≡ less_level (session_of l)) × (tables_of n (withdrawn l) ≡ freed n (last_mark (session_of l)) (counts_of (session_of l)) (tables_of n l))

-- a ledger at an open level
abbrev with_last : List Form → List Line → LedgerMark → List LedgerMark → Ledger
with_last fs ls m ms = record { forms = fs; lines = ls; marks = m ∷ ms }

module _ (n : ℕ) (fs : List Form) (ls : List Line) (m : LedgerMark) (ms : List LedgerMark) (g : Legal n (with_last fs ls m ms)) where
  abbrev before : Ledger
  before = with_last fs ls m ms

  last : last_mark (session_of before) ≡ mark_laid ls m
  unfolding session_of marks_laid
  last =
      let long = length_marks ls ms in
      let at : length (m ∷ ms) - 1 ≡ length (marks_laid ls ms) = omega arith in
      rw at (get_or_padded no_mark most_levels (marks_laid ls ms) (mark_laid ls m) (omega (arith, g.few_levels)) no_mark)

  closed_session : session_of (withdrawn before) ≡ less_level (session_of before)
  unfolding session_of marks_laid withdrawn
  closed_session =
      let (a, b, below) = g.marked in
      let long = length_marks ls ms in
      let at : length (m ∷ ms) - 1 ≡ length ms = omega arith in
      let same = marks_agree (take m.lines ls) ls ms m.forms m.lines below (λ i q. take-take i m.lines ls q) in
      let unset = padded_unset no_mark most_levels (marks_laid ls ms) (mark_laid ls m) (omega (arith, g.few_levels)) in
      rw (last, length-take-le m.forms fs a, length-take-le m.lines ls b, same, unset, long, at)

  closed_forms : (tables_of n (withdrawn before)).forms ≡ cleared (pos 0) (form_cells n * m.forms) (form_cells n * length fs) (tables_of n before).forms
  unfolding tables_of withdrawn
  closed_forms =
      let k = m.forms in
      padded_cleared (pos 0) (form_table n) (forms_laid (take k fs)) (forms_laid (drop k fs)) (forms_laid fs)
      (rw (← forms_append, take-append-drop)) (forms_fit n before g) (form_cells n * k) (form_cells n * length fs)
      (rw (length_forms n (take k fs) (all_take (legal n) k fs g.contents), length-take-le k fs g.marked.0))
      (length_forms n fs g.contents)

  closed_pool : (tables_of n (withdrawn before)).pool ≡ cleared 0 (literal_count (take m.lines ls)) (literal_count ls) (tables_of n before).pool
  unfolding tables_of withdrawn
  closed_pool =
      let k = m.lines in
      padded_cleared 0 pool_table (pool_laid (take k ls)) (pool_laid (drop k ls)) (pool_laid ls)
      (rw (← pool_append, take-append-drop)) (pool_fits n before g) (literal_count (take k ls)) (literal_count ls)
      (length_pool (take k ls)) (length_pool ls)

  closed_lines : (tables_of n (withdrawn before)).lines ≡ cleared 0 (line_cells * m.lines) (line_cells * length ls) (tables_of n before).lines
  unfolding tables_of withdrawn
  closed_lines =
      let k = m.lines in
      padded_cleared 0 line_table (lines_laid 0 (take k ls)) (lines_laid (0 + literal_count (take k ls)) (drop k ls)) (lines_laid 0 ls)
      (rw (← lines_append, take-append-drop)) (lines_fit n before g) (line_cells * k) (line_cells * length ls)
      (rw (length_lines, length-take-le k ls g.marked.1)) (length_lines 0 ls)

  closed : Closes n before
  unfolding session_of
  closed = (closed_session, rw last (λ i. tables (closed_forms i) (closed_pool i) (closed_lines i)))

  closed_room : Between n (last_mark (session_of before)) (counts_of (session_of before)) (tables_of n before)
  unfolding session_of
  closed_room =
      record {
        forms = rw last g.marked.0;
        lines = rw last g.marked.1;
        literals = rw last (literals_take m.lines ls);
        in_form_table = omega (arith, in_form_table n before g, mul-le-mul_left (form_cells n) g.few_forms);
        in_pool_table = omega (arith, in_pool_table n before g, g.few_literals);
        in_line_table = omega (arith, in_line_table n before g, g.few_lines);
      }

-- what a legal ledger with a last mark has, a legal ledger has at an open level
at_level : (n : ℕ) (P : Ledger → Type 0)
    → ((fs : List Form) (ls : List Line) (m : LedgerMark) (ms : List LedgerMark) → Legal n (with_last fs ls m ms) → P (with_last fs ls m ms))
    → (l : Ledger) → Legal n l → 0 < length l.marks → P l
at_level n P f l = go l.marks
  where
    go : (ms : List LedgerMark) → Legal n (record { forms = l.forms; lines = l.lines; marks = ms }) → 0 < length ms
        → P (record { forms = l.forms; lines = l.lines; marks = ms })
    go [] g h = absurd (omega arith)
    go (m ∷ ms) g h = f l.forms l.lines m ms g

module _ (n : ℕ) (l : Ledger) (g : Legal n l) (level : 0 < length l.marks) where
  pub level_room : Between n (last_mark (session_of l)) (counts_of (session_of l)) (tables_of n l)
  level_room = at_level n (λ l. Between n (last_mark (session_of l)) (counts_of (session_of l)) (tables_of n l)) (closed_room n) l g level

  pub level_closed : Closes n l
  level_closed = at_level n (Closes n) (closed n) l g level
