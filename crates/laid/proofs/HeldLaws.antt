-- What is held: the clauses of the order, and the ledger that is read, whose counts are the session's and which is laid out as it was read.
use mathlib.Core.Path.{◌≡◌, ap}
use Prim.Native.Nat.{ℕ}
use lib.ListN.{length}
use Rattle.ints.proofs.Lists.{length_up_to}
use Rattle.rows.specs.Form.{form_at}
use Rattle.ledger.specs.Ledger.{literal_count}
use Rattle.ledger.specs.Legal.{Legal}
use Rattle.session.specs.declared.state.Session.{Session}
use Rattle.session.specs.Cells.{Tables, line_at, ledger_of}
use Rattle.session.proofs.Clauses.{Clauses, clauses}
use Rattle.laid.specs.Laid.{tables_of, session_of}
use Rattle.laid.specs.Held.{Held}
use Rattle.laid.proofs.OrderLaid.{legal_back, laid_back}

module _ {n : ℕ} {s : Session} {t : Tables} (h : Held n s t) where
  pub held_clauses : Clauses n s t
  held_clauses = clauses h.ordered

  pub held_legal : Legal n (ledger_of n s t)
  held_legal = legal_back n s t h.exact h.ordered

  pub held_session : session_of (ledger_of n s t) ≡ s
  held_session = (laid_back n s t h.exact h.ordered).0

  pub held_tables : tables_of n (ledger_of n s t) ≡ t
  held_tables = (laid_back n s t h.exact h.ordered).1

  pub form_count : length (ledger_of n s t).forms ≡ s.forms
  unfolding ledger_of
  form_count = length_up_to s.forms (form_at n t.forms)

  pub line_count : length (ledger_of n s t).lines ≡ s.lines
  unfolding ledger_of
  line_count = length_up_to s.lines (line_at t)

  pub literal_count_lem : literal_count (ledger_of n s t).lines ≡ s.literals
  unfolding session_of
  literal_count_lem = ap (λ (x : Session). x.literals) held_session

  pub level_count : length (ledger_of n s t).marks ≡ s.«open»
  unfolding session_of
  level_count = ap (λ (x : Session). x.«open») held_session
