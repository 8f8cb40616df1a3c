-- A step from its parts: the bytes held, the run over them, what is kept of them, and what is said of it.
use Rattle.std.proofs.Common.{◌≡◌, ℕ, ◌+◌, Bool, List, take, drop}
use Rattle.session.specs.declared.state.Session.{Session}
use Rattle.session.specs.Cells.{Tables}
use Rattle.session.specs.Answers.{finding_of}
use Rattle.stream.specs.Run.{run, stop_number, totals_of}
use Rattle.stream.specs.declared.Ran.{Ran}
use Rattle.pieces.specs.declared.Next as code
use Rattle.pieces.specs.Step.{total, next_by, step, next_of, step_of}
use Rattle.pieces.specs.Parts.{Holding, Kept}

module _ (n : ℕ) (s : Session) (t : Tables) (buffer : List ℕ) (count : ℕ) (last : Bool) (r : Ran) (t' : Tables) where
  pub stepped : {end : ℕ} → Holding count buffer end → totals_of r t' ≡ run n s t (take end buffer)
      → {kept : ℕ} {x : List ℕ} → Kept (drop r.bytes (take end buffer)) buffer kept x
      → (v : code.Next) → next_of v ≡ next_by (stop_number (finding_of r.stop)) last kept
      → (k c : ℕ) {records bytes : ℕ} → records ≡ total (k + r.records) → bytes ≡ total (c + r.bytes)
      → step_of (record { progress = record { session = r.session; records = records; bytes = bytes }; next = v }) t' x ≡ step n k c s t buffer count last
  unfolding step
  stepped h e {kept} {x} m v f k c p q =
      rw (← h.held, ← e, p, q, f, m.size, m.front)
