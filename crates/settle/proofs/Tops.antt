-- A change by what is seen of a session, as the session's own change.
use mathlib.Core.Path.{◌≡◌, subst}
use mathlib.Core.List.{List}
use Prim.Native.Nat.{ℕ, ◌+◌, ◌-◌, ◌≤◌, ◌<◌}
use lib.IntN.{ℤ}
use lib.ListN.{length, set}
use Rattle.rows.specs.Form.{form_of}
use Rattle.ledger.specs.Limits.{most_forms, most_lines, most_literals, most_levels}
use Rattle.ledger.specs.Ledger.{Line, new_form, new_line}
use Rattle.ledger.specs.Record.{form, line, level}
use Rattle.ledger.specs.Settles.{stored, settles, opens, withdraws}
use Rattle.session.specs.declared.state.Mark.{Mark}
use Rattle.session.specs.declared.state.Session.{Session}
use Rattle.session.specs.Limits.{form_cells}
use Rattle.session.specs.Cells.{Tables, tables, no_mark, counts_of, mark_at, ledger_of}
use Rattle.session.specs.Effects.{form_written, literals_written, line_written, freed, Between}
use Rattle.laid.specs.Held.{Held}
use Rattle.laid.proofs.HeldLaws.{held_clauses}
use Rattle.settle.specs.declared.Top.{Top}
use Rattle.settle.specs.Settling.{with_counts, top_of, Seen}
use Rattle.laid.specs.Result.{settled}
use Rattle.settle.proofs.OnLedger.{changed, form_kept, line_kept, level_opens, level_fits, level_closes}

-- what is read of a session is its top
pub top_is : (s : Session) {counts : Mark} {at : ℕ} → counts ≡ counts_of s → at ≡ s.«open» - 1
    → top_of s ≡ record { counts = counts; «open» = s.«open»; last = mark_at s at }
top_is s e f = rw (e, f)

-- ---- a form, a line

module _ {n : ℕ} {s : Session} {t : Tables} (h : Held n s t) (top : Top) (e : top_of s ≡ top) where
  pub form_adds : (xs : List ℤ) → length xs ≡ form_cells n → top.counts.forms < most_forms → (fs : List ℤ)
      → fs ≡ form_written n top.counts.forms xs t.forms
      → changed (form top.counts.forms)
      (with_counts s (record { forms = top.counts.forms + 1; lines = top.counts.lines; literals = top.counts.literals }))
      (tables fs t.pool t.lines)
      ≡ settled n s t (stored (ledger_of n s t) (new_form (form_of xs)))
  form_adds xs long free fs w = rw (← e) (form_kept h xs long (rw (← e) at free) fs (rw (← e) at w))

  pub line_adds : (x : Line) → top.counts.lines < most_lines → top.counts.literals + length x.literals ≤ most_literals → (ps ls : List ℕ)
      → ps ≡ literals_written top.counts.literals x t.pool → ls ≡ line_written top.counts.lines top.counts.literals x t.lines
      → changed (line top.counts.lines)
      (with_counts s
      (record { forms = top.counts.forms; lines = top.counts.lines + 1; literals = top.counts.literals + length x.literals }))
      (tables t.forms ps ls)
      ≡ settled n s t (stored (ledger_of n s t) (new_line x))
  line_adds x free fits ps ls w v = rw (← e) (line_kept h x (rw (← e) at free) (rw (← e) at fits) ps ls (rw (← e) at w) (rw (← e) at v))

-- ---- levels

module _ {n : ℕ} {s : Session} {t : Tables} (h : Held n s t) (top : Top) (e : top_of s ≡ top) where
  pub opens_more : top.«open» < most_levels
      → changed (level (top.«open» + 1))
      (record {
        forms = top.counts.forms;
        lines = top.counts.lines;
        literals = top.counts.literals;
        «open» = top.«open» + 1;
        marks = set s.marks top.«open» top.counts;
      })
      t
      ≡ settled n s t (settles (ledger_of n s t) opens)
  opens_more free = rw (← e) (level_opens h (rw (← e) at free))

  pub closes_less : 0 < top.«open» → (t' : Tables) → t' ≡ freed n top.last top.counts t
      → changed (level (top.«open» - 1))
      (record {
        forms = top.last.forms;
        lines = top.last.lines;
        literals = top.last.literals;
        «open» = top.«open» - 1;
        marks = set s.marks (top.«open» - 1) no_mark;
      })
      t'
      ≡ settled n s t (settles (ledger_of n s t) withdraws)
  closes_less some t' w = rw w (rw (← e) (level_closes h (rw (← e) at some)))

-- what is seen of a session that is held
module _ {n : ℕ} {top : Top} {t : Tables} (v : Seen n top t) where
  pub seen_levels : top.«open» ≤ most_levels
  seen_levels = subst (λ (x : Top). x.«open» ≤ most_levels) v.seen (held_clauses v.held).few_levels

  pub seen_literals : top.counts.literals ≤ most_literals
  seen_literals = subst (λ (x : Top). x.counts.literals ≤ most_literals) v.seen (held_clauses v.held).few_literals

  pub seen_between : 0 < top.«open» → Between n top.last top.counts t
  seen_between some = subst (λ (x : Top). Between n x.last x.counts t) v.seen (level_fits v.held (rw (← v.seen) at some))
