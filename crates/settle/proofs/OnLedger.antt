-- From held tables to the ledger and back: each way out of a write or of a refusal is what the ledger's own step makes, laid out.
use mathlib.Core.Path.{◌≡◌, refl}
use mathlib.Core.List.{List, [], ◌∷◌}
use Prim.Native.Nat.{ℕ, ◌+◌, ◌-◌, ◌≤◌, ◌<◌}
use native.Mathlib.Omega.{arith}
use lib.IntN.{ℤ}
use lib.ListN.{length}
use borrow.Author.Tests.{lt-ltb, le-ltb, le-leb, lt-leb}
use Rattle.rows.specs.Form.{Form, form_of, cells_of}
use Rattle.ledger.specs.Limits.{most_forms, most_lines, most_literals, most_levels}
use Rattle.ledger.specs.Ledger.{Line, literal_count, new_form, new_line}
use Rattle.ledger.specs.Record.{Made, form, line, level, accepted}
use Rattle.ledger.specs.Checks.{room}
use Rattle.ledger.specs.Apply.{finding}
use Rattle.ledger.specs.Settles.{stored, settles, opens, withdraws}
use Rattle.session.specs.declared.state.Session.{Session}
use Rattle.session.specs.Limits.{form_cells}
use Rattle.session.specs.Cells.{Tables, tables, counts_of, ledger_of}
use Rattle.session.specs.Effects.{with_form, form_written, with_line, literals_written, line_written, with_level, last_mark, less_level, freed, Between}
use Rattle.laid.specs.Held.{Held}
use Rattle.laid.proofs.Writes.{form_written_lem, line_written_lem, level_opened, level_room, level_closed}
use Rattle.laid.proofs.HeldLaws.{held_clauses, held_legal, held_session, held_tables, form_count, line_count, literal_count_lem, level_count}
use Rattle.laid.specs.Result.{Result, unchanged, settled}

-- an acceptance
abbrev pub changed : Made → Session → Tables → Result
changed m s t = record { answer = accepted m; session = s; tables = t }

-- cells that are all there are a form's
whole_cells : (n : ℕ) (cells : List ℤ) → length cells ≡ form_cells n → (length (form_of cells).row ≡ n + 1) × (cells_of (form_of cells) ≡ cells)
whole_cells n [] e = absurd (omega arith)
whole_cells n (k ∷ []) e = absurd (omega arith)
whole_cells n (k ∷ d ∷ row) e = (omega arith, refl)

module _ {n : ℕ} {s : Session} {t : Tables} (h : Held n s t) where
  -- ---- a form

  pub form_full : (f : Form) → most_forms ≤ s.forms → unchanged 7 s t ≡ settled n s t (stored (ledger_of n s t) (new_form f))
  unfolding stored finding room
  form_full f full = rw (form_count h, le-ltb s.forms most_forms full)

  pub form_kept : (xs : List ℤ) → length xs ≡ form_cells n → s.forms < most_forms → (fs : List ℤ)
      → fs ≡ form_written n s.forms xs t.forms
      → changed (form s.forms) (with_form s) (tables fs t.pool t.lines) ≡ settled n s t (stored (ledger_of n s t) (new_form (form_of xs)))
  unfolding stored finding room
  form_kept xs long free fs e =
      let room : length (ledger_of n s t).forms < most_forms = rw (form_count h) free in
      let (whole, same) = whole_cells n xs long in
      let (session, cells) = rw (held_session h, held_tables h) at (form_written_lem n (ledger_of n s t) (held_legal h) (form_of xs) room whole) in
      let forms = rw (← same) at e in
      rw (form_count h, lt-ltb s.forms most_forms free, forms, session, cells)

  -- ---- a line

  pub line_full : (x : Line) → most_lines ≤ s.lines → unchanged 7 s t ≡ settled n s t (stored (ledger_of n s t) (new_line x))
  unfolding stored finding room
  line_full x full = rw (line_count h, le-ltb s.lines most_lines full)

  pub pool_full : (x : Line) → s.lines < most_lines → most_literals - s.literals < length x.literals
      → unchanged 7 s t ≡ settled n s t (stored (ledger_of n s t) (new_line x))
  unfolding stored finding room
  pool_full x free full =
      let over = lt-leb (s.literals + length x.literals) most_literals (omega (arith, (held_clauses h).few_literals)) in
      rw (line_count h, lt-ltb s.lines most_lines free, literal_count_lem h, over)

  pub line_kept : (x : Line) → s.lines < most_lines → s.literals + length x.literals ≤ most_literals → (ps ls : List ℕ)
      → ps ≡ literals_written s.literals x t.pool
      → ls ≡ line_written s.lines s.literals x t.lines
      → changed (line s.lines) (with_line s (length x.literals)) (tables t.forms ps ls) ≡ settled n s t (stored (ledger_of n s t) (new_line x))
  unfolding stored finding room
  line_kept x free fits ps ls e f =
      let room : length (ledger_of n s t).lines < most_lines = rw (line_count h) free in
      let place : literal_count (ledger_of n s t).lines + length x.literals ≤ most_literals = rw (literal_count_lem h) fits in
      let (session, cells) = rw (held_session h, held_tables h) at (line_written_lem n (ledger_of n s t) (held_legal h) x room place) in
      let under = le-leb (s.literals + length x.literals) most_literals fits in
      rw (line_count h, lt-ltb s.lines most_lines free, literal_count_lem h, under, e, f, session, cells)

  -- ---- a level

  pub levels_full : most_levels ≤ s.«open» → unchanged 7 s t ≡ settled n s t (settles (ledger_of n s t) opens)
  unfolding settles finding
  levels_full full = rw (level_count h, le-ltb s.«open» most_levels full)

  pub level_opens : s.«open» < most_levels → changed (level (s.«open» + 1)) (with_level s) t ≡ settled n s t (settles (ledger_of n s t) opens)
  unfolding settles finding
  level_opens free =
      let (session, cells) = rw (held_session h, held_tables h) at (level_opened n (ledger_of n s t) (rw (level_count h) free)) in
      rw (level_count h, lt-ltb s.«open» most_levels free, session, cells)

  pub no_level : s.«open» ≡ 0 → unchanged 13 s t ≡ settled n s t (settles (ledger_of n s t) withdraws)
  unfolding settles finding
  no_level none = rw (level_count h, none)

  pub level_fits : 0 < s.«open» → Between n (last_mark s) (counts_of s) t
  level_fits some = rw (held_session h, held_tables h) at (level_room n (ledger_of n s t) (held_legal h) (rw (level_count h) some))

  pub level_closes : 0 < s.«open»
      → changed (level (s.«open» - 1)) (less_level s) (freed n (last_mark s) (counts_of s) t) ≡ settled n s t (settles (ledger_of n s t) withdraws)
  unfolding settles finding
  level_closes some =
      let room : 0 < length (ledger_of n s t).marks = rw (level_count h) some in
      let (session, cells) = rw (held_session h, held_tables h) at (level_closed n (ledger_of n s t) (held_legal h) room) in
      rw (level_count h, lt-ltb 0 s.«open» some, session, cells)
