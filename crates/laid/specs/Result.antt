-- What a record gives on session and tables: the answer, the session and every cell afterwards.
use Rattle.std.specs.Prelude.{ℕ}
use Rattle.ledger.specs.Record.{Answer, accepted, refused}
use Rattle.ledger.specs.Apply.{Outcome}
use Rattle.session.specs.declared.state.Session.{Session}
use Rattle.session.specs.Cells.{Tables}
use Rattle.laid.specs.Laid.{tables_of, session_of}

pub record Result : Type 0 where
  pub answer : Answer
  pub session : Session
  pub tables : Tables

-- a refusal leaves session and tables as they stood
abbrev pub unchanged : ℕ → Session → Tables → Result
unchanged k s t = record { answer = refused k; session = s; tables = t }

-- what happens to the ledger, laid out again where it is accepted
abbrev pub settled : ℕ → Session → Tables → Outcome → Result
settled n s t o =
    elim o.answer [
      | accepted m ↦ record { answer = accepted m; session = session_of o.ledger; tables = tables_of n o.ledger }
      | refused k ↦ unchanged k s t
    ]
