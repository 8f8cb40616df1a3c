-- What the call feed does: the answer, the session and every lent cell afterwards, for every input.
use Rattle.std.specs.Prelude.{◌≡◌, List, ℕ}
use Rattle.rows.specs.Limits.{unknowns}
use Rattle.ledger.specs.Apply.{Finding, pass, fail}
use Rattle.ledger.specs.Bytes.{apply_bytes}
use Rattle.session.specs.declared.state.Session.{Session}
use Rattle.session.specs.Cells.{Tables, named, excess, with_excess, ledger_of}
use Rattle.session.specs.Answers.{answer_of}
use Rattle.session.specs.Calls.{entry}
use Rattle.laid.specs.Laid.{tables_of, session_of}
use Rattle.laid.specs.Result.{Result, unchanged, settled}
use Rattle.checker.specs.declared.keep.Fed.{Fed}

-- a record on tables that are cut to their named cells and in order
unfoldable pub stepped : ℕ → Session → Tables → List ℕ → Result
unfolding apply_bytes ledger_of session_of tables_of
stepped n s t b = settled n s t (apply_bytes n (ledger_of n s t) b)

-- the excess of the tables stays
abbrev pub beside : Tables → Result → Result
beside x r = record { answer = r.answer; session = r.session; tables = with_excess r.tables x }

-- 1 and 2 come first, then the record's shape and its tests
abbrev pub fed_by : Finding → ℕ → Session → Tables → List ℕ → Result
fed_by pass n s t b = beside (excess n t) (stepped n s (named n t) b)
fed_by (fail k) n s t b = unchanged k s t

unfoldable pub feed : ℕ → Session → Tables → List ℕ → Result
unfolding stepped
feed n s t b = fed_by (entry n s t) n s t b

-- what the code gives, in these terms
abbrev pub result_of : Fed → Tables → Result
result_of r t = record { answer = answer_of r.answer; session = r.session; tables = t }

-- feed, given s and b and lent t, gives r and leaves t'
abbrev pub Feeds : Session → Tables → List ℕ → Fed → Tables → Type 0
Feeds s t b r t' = result_of r t' ≡ feed unknowns s t b
