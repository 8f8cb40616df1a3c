-- A run over a stream that ends inside a record stops there with 3, and keeps what the records before it made.
use mathlib.Core.Path.{◌≡◌, sym, ap, subst, ◌∙◌}
use mathlib.Core.List.{List, [], ◌∷◌, ◌++◌, flatten}
use Prim.Native.Nat.{ℕ, ◌<◌}
use lib.ListN.{length, take}
use Rattle.ledger.specs.Limits.{most_levels}
use Rattle.ledger.specs.Ledger.{Ledger}
use Rattle.ledger.specs.Legal.{Legal}
use Rattle.ledger.specs.Record.{is_accepted}
use Rattle.ledger.specs.Checks.{Passed}
use Rattle.ledger.specs.Apply.{pass}
use Rattle.ledger.specs.Bytes.{shape, apply_bytes}
use Rattle.ledger.specs.Run.{AllAccepted}
use Rattle.ledger.proofs.LegalLaws.{legal_apply_bytes}
use Rattle.ledger.proofs.Splitting.{stops_inside}
use Rattle.session.specs.declared.state.Session.{Session}
use Rattle.session.specs.Cells.{Tables, named, excess, ledger_of, with_excess}
use Rattle.session.specs.Calls.{entry}
use Rattle.laid.specs.Result.{Result}
use Rattle.laid.proofs.HeldLaws.{held_legal, held_session, held_tables}
use Rattle.checker.proofs.Beside.{restored}
use Rattle.checker.proofs.Feeding.{entry_held}
use Rattle.stream.specs.Run.{Totals, run}
use Rattle.pieces.proofs.RunLaid.{totals_laid, feed_laid, run_laid}
use Rattle.demands.specs.History.{State, state, EachAccepted, StopsInside}
use Rattle.demands.proofs.OnLedger.{laid, fed_laid}

-- what is in order is the ledger laid out that is read from it
in_order_laid : (n : ℕ) (s : Session) (t : Tables) → length s.marks ≡ most_levels → entry n s t ≡ pass
    → (state s t ≡ laid n (excess n t) (ledger_of n s (named n t))) × Legal n (ledger_of n s (named n t))
in_order_laid n s t marks e =
    let h = entry_held n s t e marks in
    (λ i. state (sym (held_session h) i) (((sym (restored n t)) ∙ ap (λ (u : Tables). with_excess u (excess n t)) (sym (held_tables h))) i), held_legal h)

-- accepted on cells is accepted on the ledger
accepted_read : (n : ℕ) (x : Tables) (l : Ledger) → Legal n l → (bs : List (List ℕ)) → EachAccepted n (laid n x l) bs → AllAccepted n l bs
unfolding EachAccepted AllAccepted
accepted_read n x l g [] a = tt
accepted_read n x l g (b ∷ bs) (a, rest) =
    let same = feed_laid n x l g b in (
      subst (λ (r : Result). is_accepted r.answer) same a,
      accepted_read n x (apply_bytes n l b).ledger (legal_apply_bytes n l b g) bs
          (subst (λ (r : Result). EachAccepted n (state r.session r.tables) bs) same rest),
    )

-- a session has eight marks, as the code's always does
pub ends_inside_record : (n : ℕ) (s : Session) (t : Tables) → length s.marks ≡ most_levels → entry n s t ≡ pass
    → (bs : List (List ℕ)) → EachAccepted n (state s t) bs → (b : List ℕ) → Passed (shape b) → (k : ℕ) → 0 < k → k < length b
    → StopsInside n (state s t) bs (run n s t (flatten bs ++ take k b))
ends_inside_record n s t marks e bs a b p k some less =
    let (same, g) = in_order_laid n s t marks e in
    let l = ledger_of n s (named n t) in
    let x = excess n t in
    let good = accepted_read n x l g bs (subst (λ (q : State). EachAccepted n q bs) same a) in
    let ran = run_laid n x l g (flatten bs ++ take k b) ∙ ap (totals_laid n x) (stops_inside n l bs good b p k some less) in
    subst (λ (q : State). StopsInside n q bs (run n q.session q.tables (flatten bs ++ take k b))) (sym same)
    (record {
      stop = ap (λ (r : Totals). r.stop) ran;
      records = ap (λ (r : Totals). r.records) ran;
      bytes = ap (λ (r : Totals). r.bytes) ran;
      leaves = fed_laid n x l g bs ∙ sym (ap (λ (r : Totals). state r.session r.tables) ran);
    })
