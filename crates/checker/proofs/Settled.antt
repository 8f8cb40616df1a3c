-- What is held may be proposed from, and what is proposed, settled, is what the record does.
use mathlib.Core.Path.{◌≡◌, sym, ap, ◌∙◌}
use mathlib.Core.List.{List}
use Prim.Native.Nat.{ℕ, suc}
use Rattle.ledger.specs.Record.{RecordMark}
use Rattle.ledger.specs.Apply.{fail, finding}
use Rattle.ledger.proofs.Findings.{in_two_steps}
use Rattle.ledger.specs.Settles.{Proposal, proposed, settles}
use Rattle.ledger.specs.Bytes.{shape, fields, decode, apply_bytes}
use Rattle.session.specs.declared.state.Session.{Session}
use Rattle.session.specs.Cells.{Tables, ledger_of}
use Rattle.laid.specs.Held.{Held}
use Rattle.laid.proofs.OrderLaid.{in_pool}
use Rattle.laid.proofs.HeldLaws.{held_clauses}
use Rattle.records.specs.Marks.{OfMark}
use Rattle.rules.specs.Held.{FormsHeld, LinesHeld}
use Rattle.rules.specs.Read.{forms_in, lines_in}
use Rattle.std.specs.Prelude.{Result}
use Rattle.session.specs.declared.answers.Refusal.{Refusal}
use Rattle.settle.specs.declared.Change.{Change}
use Rattle.settle.specs.declared.Top.{Top}
use Rattle.laid.specs.Result.{unchanged, settled}
use Rattle.settle.specs.Settling.{result_by, Gives, Seen, Settles}
use Rattle.checker.specs.Feed.{stepped}
use Rattle.checker.specs.Changes.{Changes}

held_forms : {n : ℕ} {s : Session} {t : Tables} → Held n s t → FormsHeld n s.forms t.forms
held_forms h = record { size = h.exact.sized.form_size; few = (held_clauses h).few_forms; contents = (held_clauses h).contents }

held_lines : {n : ℕ} {s : Session} {t : Tables} → Held n s t → LinesHeld s.lines t.pool t.lines
held_lines {n} {s} {t} h =
    let c = held_clauses h in
    record {
      size = h.exact.sized.line_size;
      few = c.few_lines;
      rise = c.rise;
      short = c.short;
      inside = λ i k. in_pool n s t h.exact h.ordered (suc i) k;
    }

module _ (n : ℕ) (s : Session) (t : Tables) (b : List ℕ) where
  -- a wrong shape is refused
  pub stepped_wrong : {k : ℕ} → finding (shape b) ≡ fail k → stepped n s t b ≡ unchanged k s t
  unfolding stepped apply_bytes
  stepped_wrong e = rw e

  -- what bytes that bear a mark propose, settled
  stepped_settled : {p : Proposal} {c : Result Change Refusal} {t' : Tables} (m : RecordMark) → OfMark b m
      → p ≡ proposed n (forms_in n s.forms t.forms) (lines_in s.lines t.pool t.lines) (fields b m)
      → Gives n s t (settles (ledger_of n s t) p) c t' → result_by s c t' ≡ stepped n s t b
  unfolding stepped apply_bytes decode ledger_of
  stepped_settled m o e g =
      g.result
      ∙ ap (λ (x : Proposal). settled n s t (settles (ledger_of n s t) x)) e
      ∙ ap (settled n s t) (sym (in_two_steps n (ledger_of n s t) (fields b m)))
      ∙ rw (o.shaped, o.bearing)

-- by what is seen of a session
module _ {n : ℕ} {top : Top} {t : Tables} where
  pub seen_forms : Seen n top t → FormsHeld n top.counts.forms t.forms
  seen_forms v = rw (← v.seen) (held_forms v.held)

  pub seen_lines : Seen n top t → LinesHeld top.counts.lines t.pool t.lines
  seen_lines v = rw (← v.seen) (held_lines v.held)

  pub settled_changes : {p : Proposal} {c : Result Change Refusal} {t' : Tables} (b : List ℕ) (m : RecordMark) → OfMark b m
      → p ≡ proposed n (forms_in n top.counts.forms t.forms) (lines_in top.counts.lines t.pool t.lines) (fields b m)
      → Settles n top t p c t' → Changes n top t b c t'
  settled_changes b m o e g s same h =
      record { result = stepped_settled n s t b m o (rw (← same) at e) (g s same h); place = (g s same h).place }
