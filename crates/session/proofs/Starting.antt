-- What it says that the sizes pass, and what `start` does on its two ways out.
use mathlib.Core.Path.{◌≡◌, sym, ap, ◌∙◌}
use mathlib.Core.List.{List}
use Prim.Native.Nat.{ℕ}
use lib.Dec.{leb→le}
use lib.IntN.{ℤ, pos}
use lib.ListN.{length, take, replicate}
use lib.Seq.{length-take-le}
use Rattle.ledger.specs.Checks.{Passed}
use Rattle.ledger.specs.Apply.{finding}
use Rattle.ledger.proofs.Findings.{pass→passed}
use Rattle.session.specs.declared.state.Session.{Session}
use Rattle.session.specs.declared.answers.Refusal.{Refusal}
use Rattle.std.specs.Prelude.{Result, Ok, Err}
use Rattle.session.specs.Limits.{form_table, pool_table, line_table}
use Rattle.session.specs.Cells.{Tables, tables, excess, with_excess, fresh_session}
use Rattle.session.specs.Parts.{Long}
use Rattle.session.specs.InOrder.{sizes}
use Rattle.session.specs.Answers.{finding_of}
use Rattle.session.specs.Calls.{start, beginning_of}

pub sizes_long : (n : ℕ) (t : Tables) → Passed (sizes n t) → Long n t
unfolding sizes
sizes_long n t p = record { form_room = leb→le _ _ p.0; pool_room = leb→le _ _ p.1.0; line_room = leb→le _ _ p.1.1.0 }

module _ (n : ℕ) (t : Tables) (v : Result (Unit {0}) Refusal) (found : finding_of v ≡ finding (sizes n t)) where
  pub passed→long : v ≡ Ok tt → Long n t
  passed→long e = sizes_long n t (pass→passed (sizes n t) (sym found ∙ ap finding_of e))

  module _ (s : Session) (fresh : s ≡ fresh_session) where
    pub start_refused : (why : Refusal) → v ≡ Err why → beginning_of (record { session = s; start = Err why }) t ≡ start n t
    unfolding start
    start_refused why e = rw (← found, e, fresh)

    -- the named cells came back as zeros
    pub start_passed : (f : List ℤ) (p l : List ℕ) → v ≡ Ok tt
        → f ≡ replicate (length (take (form_table n) t.forms)) (pos 0)
        → p ≡ replicate (length (take pool_table t.pool)) 0
        → l ≡ replicate (length (take line_table t.lines)) 0
        → beginning_of (record { session = s; start = Ok tt }) (with_excess (tables f p l) (excess n t)) ≡ start n t
    unfolding start
    start_passed f p l e i j k =
        let h = passed→long e in
        simp (
          ← found,
          e,
          fresh,
          i,
          j,
          k,
          length-take-le (form_table n) t.forms h.form_room,
          length-take-le pool_table t.pool h.pool_room,
          length-take-le line_table t.lines h.line_room,
        )
