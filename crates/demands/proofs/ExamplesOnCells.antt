-- Every example of the one list holds of feed, run and standing: from a start on, the bytes give the answer, the session and the cells that are
-- expected of them. And on each session and tables that are out of order every call is refused.
use mathlib.Core.Path.{◌≡◌, refl, sym, ap, subst, ◌∙◌}
use mathlib.Core.Logic.{◌⊎◌, inl, inr}
use mathlib.Core.Bool.{and-true}
use mathlib.Core.List.{List, [], ◌∷◌, ◌++◌, map, append_assoc}
use Prim.Native.Nat.{ℕ, ◌+◌, ◌*◌, ◌≤◌, ◌<◌}
use native.Mathlib.Omega.{arith}
use lib.Dec.{T, eqb, eqb→eq}
use lib.IntN.{ℤ}
use lib.ListN.{length, take, drop, length-append}
use lib.Seq.{take-append-le, drop-append-le}
use Rattle.ints.specs.Tests.{all}
use Rattle.ints.proofs.Bools.{T_and}
use Rattle.ints.proofs.Lists.{all_append}
use Rattle.rows.specs.Limits.{unknowns}
use Rattle.rows.specs.Form.{form_of, cells_of, legal}
use Rattle.ledger.specs.Limits.{most_forms, most_lines, most_literals}
use Rattle.ledger.specs.Ledger.{Line, Ledger, fresh, literal_count, new_form, new_line, add, opened}
use Rattle.ledger.specs.Record.{accepted, form, line}
use Rattle.ledger.specs.Legal.{Legal}
use Rattle.ledger.specs.Apply.{Finding, pass, fail, Outcome}
use Rattle.ledger.specs.Bytes.{apply_bytes}
use Rattle.ledger.specs.Run as ledger
use Rattle.ledger.specs.Standing as stood
use Rattle.ledger.specs.Examples.{Expected, refuses, makes_form, makes_line, opens, closes, Try, Example, after, replays}
use Rattle.ledger.specs.Examples.{fed_from, ledger_by, hoped, refuted_line as empty_line, printed_of, meets, holds, examples, all_hold}
use Rattle.ledger.proofs.LegalLaws.{legal_fresh, legal_apply_bytes, literals_append}
use Rattle.ledger.proofs.ExampleLaws.{same_numbers, same_outcome_lem, fed_same, fed_accepted}
use Rattle.session.specs.Cells.{Tables, tables, excess, with_excess}
use Rattle.session.specs.Limits.{form_cells, form_table}
use Rattle.session.specs.Effects.{written, with_form, with_line}
use Rattle.session.specs.Calls.{entry, started, start, stands, standing}
use Rattle.session.specs.Examples as Damaged
use Rattle.laid.specs.Laid.{session_of, tables_of}
use Rattle.laid.proofs.LaidParts.{legal_row, length_cells}
use Rattle.laid.proofs.Writes.{in_form_table, in_pool_table, in_line_table, form_written_lem, line_written_lem, level_opened}
use Rattle.checker.specs.Feed.{feed}
use Rattle.checker.proofs.Beside.{laid_held, entry_beside}
use Rattle.stream.specs.Run.{run}
use Rattle.pieces.proofs.RunLaid.{legal_fed, legal_run, result_laid, totals_laid, ledger_read, feed_laid, run_laid}
use Rattle.demands.specs.History.{fed, State, begun, called_all, EachAccepted}
use Rattle.demands.specs.Examples.{hoped_cells, AllMeet, refuted_line, printed, HoldsOnCells, AllHoldOnCells, Refuses, AllJudged}
use Rattle.demands.proofs.OnLedger.{laid, start_laid, fed_laid, accepted_laid}

-- what is written in front of an excess leaves the excess
written_beside : {A : Type 0} (at : ℕ) (vs xs ys : List A) → at + length vs ≤ length xs → written at vs (xs ++ ys) ≡ written at vs xs ++ ys
written_beside at vs xs ys h =
    rw (take-append-le at xs ys (omega arith), drop-append-le (at + length vs) xs ys h)
    (sym (append_assoc (take at xs) (vs ++ drop (at + length vs) xs) ys ∙ ap (λ zs. take at xs ++ zs) (append_assoc vs (drop (at + length vs) xs) ys)))

module _ (t : Tables) (ok : (start unknowns t).answer ≡ started) where
  abbrev x : Tables
  x = excess unknowns t

  abbrev n : ℕ
  n = unknowns

  -- ---- the ledger that records leave, laid out

  records_laid : (bs : List (List ℕ)) → called_all n (begun n t) (map fed bs) ≡ laid n x (ledger_by bs)
  records_laid bs =
      ap (λ (s : State). called_all n s (map fed bs)) (start_laid n t ok)
      ∙ fed_laid n x fresh (legal_fresh n) bs
      ∙ ap (laid n x) (sym (fed_same 0 fresh bs))

  legal_records : (bs : List (List ℕ)) → Legal n (ledger_by bs)
  legal_records bs = subst (Legal n) (sym (fed_same 0 fresh bs)) (legal_fed n fresh (legal_fresh n) bs)

  -- ---- what is expected, laid out

  module _ (l : Ledger) (g : Legal n l) where
    -- cells that a form is made of are the form's
    form_back : (cells : List ℤ) → length (form_of cells).row ≡ n + 1 → cells_of (form_of cells) ≡ cells
    form_back [] h = absurd (omega (arith, h))
    form_back (k ∷ []) h = absurd (omega (arith, h))
    form_back (k ∷ d ∷ r) h = refl

    hoped_form : (k : ℕ) (cells : List ℤ) → Legal n (add l (new_form (form_of cells)))
        → result_laid n x (accepted (form k)) (add l (new_form (form_of cells))) ≡ hoped_cells t (laid n x l) (makes_form k cells)
    unfolding add session_of
    hoped_form k cells h =
        let f = form_of cells in
        let room : length l.forms < most_forms = room_for h in
        let whole = whole_form h in
        let (s, u) = form_written_lem n l g f room whole in
        let table = in_form_table n l g in
        let long = length_cells n f whole in
        let back = form_back cells whole in
        let inside : 15 * (session_of l).forms + length (cells_of f) ≤ length (tables_of n l).forms = fits room long table in
        (λ i. record { answer = accepted (form k); session = s i; tables = with_excess (u i) x })
        ∙ (λ i. record {
          answer = accepted (form k);
          session = with_form (session_of l);
          tables =
              tables (sym (written_beside (15 * (session_of l).forms) (cells_of f) (tables_of n l).forms x.forms inside) i)
              ((tables_of n l).pool ++ x.pool) ((tables_of n l).lines ++ x.lines);
        })
        ∙ (λ i. record {
          answer = accepted (form k);
          session = with_form (session_of l);
          tables =
              tables (written (15 * (session_of l).forms) (back i) ((tables_of n l).forms ++ x.forms))
              ((tables_of n l).pool ++ x.pool) ((tables_of n l).lines ++ x.lines);
        })
      where
        room_for : Legal n (add l (new_form (form_of cells))) → length l.forms < most_forms
        room_for h = omega (arith, h.few_forms, length-append l.forms (form_of cells ∷ []))

        whole_form : Legal n (add l (new_form (form_of cells))) → length (form_of cells).row ≡ n + 1
        whole_form h =
            legal_row n (form_of cells)
            (T_and (all (legal n) l.forms) (legal n (form_of cells)) (simp (all_append, and-true) at h.contents)).1

        fits : length l.forms < most_forms → length (cells_of (form_of cells)) ≡ form_cells n → length (tables_of n l).forms ≡ form_table n
            → 15 * (session_of l).forms + length (cells_of (form_of cells)) ≤ length (tables_of n l).forms
        fits a b c = omega (arith, a, b, c)

    abbrev line_with : ℕ → List ℕ → Line
    line_with o xs = record { origin = o; literals = xs }

    hoped_line : (k o : ℕ) (xs : List ℕ) → Legal n (add l (new_line (line_with o xs)))
        → result_laid n x (accepted (line k)) (add l (new_line (line_with o xs))) ≡ hoped_cells t (laid n x l) (makes_line k o xs)
    unfolding add session_of
    hoped_line k o xs h =
        let lines : length l.lines < most_lines = omega (arith, h.few_lines, length-append l.lines (line_with o xs ∷ [])) in
        let literals : literal_count l.lines + length xs ≤ most_literals =
        omega (arith, h.few_literals, literals_append l.lines (line_with o xs ∷ [])) in
        let (s, u) = line_written_lem n l g (line_with o xs) lines literals in
        let end = (session_of l).literals + length xs in
        (λ i. record { answer = accepted (line k); session = s i; tables = with_excess (u i) x })
        ∙ (λ i. record {
          answer = accepted (line k);
          session = with_line (session_of l) (length xs);
          tables =
              tables ((tables_of n l).forms ++ x.forms)
              (sym (written_beside (session_of l).literals xs (tables_of n l).pool x.pool (omega (arith, literals, in_pool_table n l g))) i)
              (sym (written_beside (2 * (session_of l).lines) (end ∷ o ∷ []) (tables_of n l).lines x.lines (omega (arith, lines, in_line_table n l g))) i);
        })

    hoped_laid : (e : Expected) → Legal n (hoped l e).ledger
        → result_laid n x (hoped l e).answer (hoped l e).ledger ≡ hoped_cells t (laid n x l) e
    unfolding add opened
    hoped_laid (refuses k) h = refl
    hoped_laid (makes_form k cells) h = hoped_form k cells h
    hoped_laid (makes_line k o xs) h = hoped_line k o xs h
    hoped_laid (opens k) h =
        let (s, u) = level_opened n l h.few_levels in
        λ i. record { answer = (hoped l (opens k)).answer; session = s i; tables = with_excess (u i) x }
    hoped_laid (closes k bs) h = rw (records_laid bs)

  -- ---- the examples

  all_meet : (bs : List (List ℕ)) (ts : List Try) → T (all (meets (ledger_by bs)) ts) → AllMeet t (laid n x (ledger_by bs)) ts
  unfolding meets
  all_meet bs [] h = tt
  all_meet bs (y ∷ ys) h =
      let l = ledger_by bs in
      let g = legal_records bs in
      let (this, rest) = T_and (meets l y) (all (meets l) ys) h in
      let same = same_outcome_lem (apply_bytes n l y.bytes) (hoped l y.expected) this in
      let legal : Legal n (hoped l y.expected).ledger = subst (λ (o : Outcome). Legal n o.ledger) same (legal_apply_bytes n l y.bytes g) in (
        feed_laid n x l g y.bytes
            ∙ ap (λ (o : Outcome). result_laid n x o.answer o.ledger) same
            ∙ hoped_laid l g y.expected legal,
        all_meet bs ys rest,
      )

  stood_laid : (l : Ledger) → Legal n l → standing n (session_of l) (with_excess (tables_of n l) x) ≡ stands (stood.standing l)
  unfolding standing
  stood_laid l g =
      rw (entry_beside (laid_held n l g) x) (ap (λ (k : Ledger). stands (stood.standing k)) (ledger_read n x l g))

  printed_laid : (r : ledger.Run) → Legal n r.ledger → printed (totals_laid n x r) ≡ printed_of r
  unfolding session_of
  printed_laid r g = front (rw (stood_laid r.ledger g) (same (stood.standing r.ledger)))
    where
      same : (q : stood.Standing) → refuted_line (stands q) ≡ empty_line q
      same (stood.refuted i) = refl
      same stood.not_refuted = refl

      front : {xs ys : List ℕ} → xs ≡ ys →
          let l = r.ledger in
          ◌≡◌ {A = List ℕ}
          (r.records ∷ r.bytes ∷ length l.forms ∷ length l.lines ∷ literal_count l.lines ∷ length l.marks ∷ r.stop ∷ xs)
          (r.records ∷ r.bytes ∷ length l.forms ∷ length l.lines ∷ literal_count l.lines ∷ length l.marks ∷ r.stop ∷ ys)
      front e = rw e

  holds_on_cells : (e : Example) → T (holds e) → HoldsOnCells t e
  unfolding holds
  holds_on_cells (after bs ts) h =
      let f = fed_from 0 fresh bs in
      let (count, tries) = T_and (eqb f.accepted (length bs)) (all (meets f.ledger) ts) h in
      let good = fed_accepted 0 fresh bs (omega (arith, eqb→eq f.accepted (length bs) count)) in (
        subst (λ (s : State). EachAccepted n s bs) (sym (start_laid n t ok)) (accepted_laid n x fresh (legal_fresh n) bs good),
        rw (records_laid bs) (all_meet bs ts tries),
      )
  holds_on_cells (replays file numbers) h =
      ap (λ (s : State). printed (run n s.session s.tables file)) (start_laid n t ok)
      ∙ ap printed (run_laid n x fresh (legal_fresh n) file)
      ∙ printed_laid (ledger.run n fresh file) (legal_run n fresh (legal_fresh n) file)
      ∙ same_numbers (printed_of (ledger.run n fresh file)) numbers h

  hold_on_cells : (es : List Example) → T (all holds es) → AllHoldOnCells t es
  hold_on_cells [] h = tt
  hold_on_cells (e ∷ es) h = let (this, rest) = T_and (holds e) (all holds es) h in (holds_on_cells e this, hold_on_cells es rest)

  pub examples_hold : AllHoldOnCells t examples
  examples_hold = hold_on_cells examples all_hold

-- ---- sessions and tables out of order

judged : (e : Damaged.Example) → T (Damaged.holds e) → ((e.number ≡ 0) × (entry unknowns e.session e.tables ≡ pass)) ⊎ Refuses e
unfolding Damaged.holds feed run standing
judged e h = by (entry unknowns e.session e.tables) refl h
  where
    by : (f : Finding) → entry unknowns e.session e.tables ≡ f → T (Damaged.is_found e.number f)
        → ((e.number ≡ 0) × (entry unknowns e.session e.tables ≡ pass)) ⊎ Refuses e
    by pass same h = inl (eqb→eq e.number 0 h, same)
    by (fail k) same h =
        let number = eqb→eq e.number k h in
        inr (λ b. (rw (same, number), rw (same, number), rw (same, number)))

all_judged : (es : List Damaged.Example) → T (all Damaged.holds es) → AllJudged es
all_judged [] h = tt
all_judged (e ∷ es) h = let (this, rest) = T_and (Damaged.holds e) (all Damaged.holds es) h in (judged e this, all_judged es rest)

pub damaged_refused : AllJudged Damaged.examples
damaged_refused = all_judged Damaged.examples Damaged.all_hold
