-- What the call run does: the records and the bytes that it accepts, the number that stops it, the session and every lent cell afterwards,
-- for every input.
use Rattle.std.specs.Prelude.{◌≡◌, List, [], ◌∷◌, ℕ, ◌+◌, length}
use Rattle.rows.specs.Limits.{unknowns}
use Rattle.ledger.specs.Record.{accepted, refused}
use Rattle.ledger.specs.Apply.{Finding, pass, fail}
use Rattle.ledger.specs.Split.{records_of}
use Rattle.session.specs.declared.state.Session.{Session}
use Rattle.session.specs.Cells.{Tables}
use Rattle.session.specs.Calls.{entry}
use Rattle.session.specs.Answers.{finding_of}
use Rattle.laid.specs.Result.{Result}
use Rattle.checker.specs.Feed.{feed}
use Rattle.stream.specs.declared.Ran.{Ran}

pub record Totals : Type 0 where
  pub records : ℕ
  pub bytes : ℕ
  pub stop : ℕ
  pub session : Session
  pub tables : Tables

abbrev pub totals : ℕ → ℕ → ℕ → Session → Tables → Totals
totals records bytes stop s t = record { records = records; bytes = bytes; stop = stop; session = s; tables = t }

-- records fed by a call one after the other, up to the first that it refuses; so many records and bytes were accepted before them
unfoldable pub each_by : (Session → Tables → List ℕ → Result) → ℕ → ℕ → Session → Tables → List (List ℕ) → Totals
each_by call records bytes s t [] = totals records bytes 0 s t
each_by call records bytes s t (b ∷ bs) =
    elim (call s t b).answer [
      | accepted m ↦ each_by call (records + 1) (bytes + length b) (call s t b).session (call s t b).tables bs
      | refused k ↦ totals records bytes k s t
    ]

-- 1 and 2 come first, also for an empty stream
abbrev pub run_by : Finding → ℕ → Session → Tables → List ℕ → Totals
run_by pass n s t b = each_by (feed n) 0 0 s t (records_of b)
run_by (fail k) n s t b = totals 0 0 k s t

unfoldable pub run : ℕ → Session → Tables → List ℕ → Totals
unfolding each_by
run n s t b = run_by (entry n s t) n s t b

-- what the code gives, in these terms: the number of the refusal, or 0 at the end
abbrev pub stop_number : Finding → ℕ
stop_number pass = 0
stop_number (fail k) = k

abbrev pub totals_of : Ran → Tables → Totals
totals_of r t = totals r.records r.bytes (stop_number (finding_of r.stop)) r.session t

-- run, given s and the stream b and lent t, gives r and leaves t'
abbrev pub Runs : Session → Tables → List ℕ → Ran → Tables → Type 0
Runs s t b r t' = totals_of r t' ≡ run unknowns s t b
