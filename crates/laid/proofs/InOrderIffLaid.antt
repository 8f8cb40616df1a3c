-- A session and tables of the exact sizes are in order exactly where some legal ledger is laid out in them, and it is the ledger that is
-- read back from them: no other lies there.
use mathlib.Core.Path.{◌≡◌}
use Prim.Native.Nat.{ℕ}
use Rattle.ledger.specs.Ledger.{Ledger}
use Rattle.ledger.specs.Legal.{Legal}
use Rattle.ledger.specs.Checks.{Passed}
use Rattle.session.specs.declared.state.Session.{Session}
use Rattle.session.specs.Cells.{Tables, ledger_of}
use Rattle.session.specs.InOrder.{order}
use Rattle.laid.specs.Laid.{tables_of, session_of}
use Rattle.laid.specs.Held.{Exact}
use Rattle.laid.proofs.LegalLaid.{read_back, laid_in_order}
use Rattle.laid.proofs.OrderLaid.{laid_back, legal_back}

pub record LaidOut (n : ℕ) (s : Session) (t : Tables) (l : Ledger) : Type 0 where
  pub legal : Legal n l
  pub session : session_of l ≡ s
  pub tables : tables_of n l ≡ t

module _ (n : ℕ) (s : Session) (t : Tables) where
  pub in_order_laid : Exact n s t → Passed (order n s t) → LaidOut n s t (ledger_of n s t)
  in_order_laid e p = let (session, tables) = laid_back n s t e p in record { legal = legal_back n s t e p; session = session; tables = tables }

  pub laid_in_order' : (l : Ledger) → LaidOut n s t l → Passed (order n s t) × (ledger_of n s t ≡ l)
  laid_in_order' l o = rw (← o.session, ← o.tables) (laid_in_order n l o.legal, read_back n l o.legal)
