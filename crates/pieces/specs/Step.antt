-- One step through a proof file that comes in pieces: a run over the bytes that a buffer holds, with the totals so far, the bytes that stay
-- for the next piece to come behind them, and whether the file is decided.
use Rattle.std.specs.Prelude.{◌≡◌, ℕ, ◌+◌, ◌%◌, ◌^◌, Bool, cond, not, ◌&&◌, ◌||◌, List, ◌++◌, length, take, drop, ◌==◌}
use Rattle.rows.specs.Limits.{unknowns}
use Rattle.session.specs.declared.state.Session.{Session}
use Rattle.session.specs.Cells.{Tables}
use Rattle.session.specs.Answers.{finding_of}
use Rattle.stream.specs.Run.{Totals, run, stop_number}
use Rattle.pieces.specs.declared.Next.TheVariants.{GoesOn, Decided}
use Rattle.pieces.specs.declared.Progress.{Progress}
use Rattle.pieces.specs.declared.Judged.{Judged}
use Rattle.pieces.specs.declared.Next as code

-- the file goes on behind so many bytes, which stay at the buffer's front; or its stopping number is decided
pub data Next : Type 0 where
  goes_on : ℕ → Next
  decided : ℕ → Next

pub record Step : Type 0 where
  pub records : ℕ
  pub bytes : ℕ
  pub session : Session
  pub tables : Tables
  pub buffer : List ℕ
  pub next : Next

-- totals have 64 bits, and begin again at 0
abbrev pub total : ℕ → ℕ
total n = n % 2 ^ 64

-- a run that came to its end, or to a record that is cut off, may go on with more bytes, and no other
abbrev pub may_go_on : ℕ → Bool
may_go_on stop = stop == 0 || stop == 3

abbrev pub next_by : ℕ → Bool → ℕ → Next
next_by stop last kept = cond (not last && may_go_on stop) (goes_on kept) (decided stop)

-- what is to be read again comes to the front, and what lies behind that stays
abbrev pub moved : List ℕ → List ℕ → List ℕ
moved rest buffer = rest ++ drop (length rest) buffer

abbrev pub step_by : Totals → ℕ → ℕ → List ℕ → List ℕ → Bool → Step
step_by r records bytes buffer rest last =
    record {
      records = total (records + r.records);
      bytes = total (bytes + r.bytes);
      session = r.session;
      tables = r.tables;
      buffer = moved rest buffer;
      next = next_by r.stop last (length rest);
    }

-- so many records and bytes were accepted before; the buffer holds count bytes, or as many as it has; and they may be the file's last
unfoldable pub step : ℕ → ℕ → ℕ → Session → Tables → List ℕ → ℕ → Bool → Step
step n records bytes s t buffer count last =
    let held = take count buffer in
    let r = run n s t held in
    step_by r records bytes buffer (drop r.bytes held) last

-- ---- what the code gives, in these terms

abbrev pub next_of : code.Next → Next
next_of (GoesOn kept) = goes_on kept
next_of (Decided stop) = decided (stop_number (finding_of stop))

abbrev pub step_of : Judged → Tables → List ℕ → Step
step_of r t buffer =
    record {
      records = r.progress.records;
      bytes = r.progress.bytes;
      session = r.progress.session;
      tables = t;
      buffer = buffer;
      next = next_of r.next;
    }

-- a piece, given the progress p and lent t and the buffer, gives r and leaves t' and buffer'
abbrev pub Judges : Progress → Tables → List ℕ → ℕ → Bool → Judged → Tables → List ℕ → Type 0
Judges p t buffer count last r t' buffer' =
    step_of r t' buffer' ≡ step unknowns p.records p.bytes p.session t buffer count last
