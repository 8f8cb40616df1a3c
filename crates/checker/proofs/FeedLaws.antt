-- What feed promises, in the words of the demands: a refused call changes nothing, cells past the named ones never change, a record is accepted
-- exactly where all tests pass and then stored as its rule gives it, and what was in order is in order again.
use mathlib.Core.Path.{◌≡◌, refl, sym, ap, subst, ◌∙◌}
use mathlib.Core.List.{List}
use Prim.Native.Nat.{ℕ}
use lib.ListN.{length}
use Rattle.ints.proofs.Bools.{never}
use Rattle.ledger.specs.Limits.{most_levels}
use Rattle.ledger.specs.Ledger.{Ledger}
use Rattle.ledger.specs.Legal.{Legal}
use Rattle.ledger.specs.Record.{Made, Answer, accepted, refused}
use Rattle.ledger.specs.Checks.{Passed, checks}
use Rattle.ledger.specs.Apply.{Finding, pass, fail, Outcome, done, made}
use Rattle.ledger.specs.Bytes.{shape, decode, apply_bytes}
use Rattle.ledger.proofs.Findings.{passed→pass, accepted_exactly, apply_accepted, bytes_accepted}
use Rattle.ledger.proofs.LegalLaws.{legal_apply_bytes}
use Rattle.session.specs.declared.state.Session.{Session}
use Rattle.session.specs.Cells.{Tables, named, excess, with_excess, ledger_of}
use Rattle.session.specs.Calls.{entry}
use Rattle.laid.specs.Laid.{tables_of, session_of}
use Rattle.laid.proofs.HeldLaws.{held_legal}
use Rattle.laid.specs.Result.{unchanged, settled}
use Rattle.checker.specs.Feed.{stepped, beside, fed_by, feed}
use Rattle.checker.proofs.Beside.{restored, laid_held, entry_beside, excess_beside}
use Rattle.checker.proofs.Feeding.{entry_held}

-- ---- the call

module _ (n : ℕ) (s : Session) (t : Tables) (b : List ℕ) where
  pub refused_unchanged : (k : ℕ) → (feed n s t b).answer ≡ refused k → feed n s t b ≡ unchanged k s t
  unfolding feed stepped
  refused_unchanged k e = by (entry n s t) e
    where
      of : (a : Answer) (l : Ledger) → a ≡ refused k
          → beside (excess n t) (settled n s (named n t) (record { answer = a; ledger = l })) ≡ unchanged k s t
      of (accepted m) l f = cc
      of (refused j) l f = λ i. record { answer = f i; session = s; tables = restored n t i }

      told : (a : Answer) (l : Ledger) → (settled n s (named n t) (record { answer = a; ledger = l })).answer ≡ a
      told (accepted m) l = refl
      told (refused j) l = refl

      by : (f : Finding) → (fed_by f n s t b).answer ≡ refused k → fed_by f n s t b ≡ unchanged k s t
      by pass f =
          let o = apply_bytes n (ledger_of n s (named n t)) b in of o.answer o.ledger (sym (told o.answer o.ledger) ∙ f)
      by (fail j) f = λ i. record { answer = f i; session = s; tables = t }

  -- the sizes, the order, the shape and the tests of the record that the bytes say
  pub accepted_where : let l = ledger_of n s (named n t) in entry n s t ≡ pass → Passed (shape b) → Passed (checks n l (decode b))
      → feed n s t b
      ≡ record {
        answer = accepted (made l (decode b));
        session = session_of (done l (decode b));
        tables = with_excess (tables_of n (done l (decode b))) (excess n t);
      }
  unfolding feed stepped apply_bytes
  accepted_where e p q = rw (e, passed→pass (shape b) p, accepted_exactly n (ledger_of n s (named n t)) (decode b) q)

  pub accepted_only : (m : Made) → (feed n s t b).answer ≡ accepted m
      → (entry n s t ≡ pass) × Passed (shape b) × Passed (checks n (ledger_of n s (named n t)) (decode b))
  unfolding feed stepped
  accepted_only m e = by (entry n s t) e
    where
      l : Ledger
      l = ledger_of n s (named n t)

      told : (a : Answer) (r : Ledger) → (settled n s (named n t) (record { answer = a; ledger = r })).answer ≡ a
      told (accepted k) r = refl
      told (refused j) r = refl

      by : (f : Finding) → (fed_by f n s t b).answer ≡ accepted m → (f ≡ pass) × Passed (shape b) × Passed (checks n l (decode b))
      by pass f =
          let o = apply_bytes n l b in
          let given = sym (told o.answer o.ledger) ∙ f in
          let (shaped, same) = bytes_accepted n l b m given in
          (refl, shaped, (apply_accepted n l (decode b) m (sym (ap (λ (x : Outcome). x.answer) same) ∙ given)).0)
      by (fail j) f = never (cc)

  -- a session has eight marks, as the code's always does
  module _ (marks : length s.marks ≡ most_levels) where
    legal_then : entry n s t ≡ pass → Legal n (apply_bytes n (ledger_of n s (named n t)) b).ledger
    legal_then e = legal_apply_bytes n (ledger_of n s (named n t)) b (held_legal (entry_held n s t e marks))

    pub ordered_again : entry n s t ≡ pass → entry n (feed n s t b).session (feed n s t b).tables ≡ pass
    unfolding feed stepped
    ordered_again e = let o = apply_bytes n (ledger_of n s (named n t)) b in rw e (of o.answer o.ledger (legal_then e))
      where
        of : (a : Answer) (r : Ledger) → Legal n r →
            let x = beside (excess n t) (settled n s (named n t) (record { answer = a; ledger = r })) in entry n x.session x.tables ≡ pass
        of (accepted m) r g = entry_beside (laid_held n r g) (excess n t)
        of (refused j) r g = subst (λ (x : Tables). entry n s x ≡ pass) (sym (restored n t)) e

    pub excess_stays : excess n (feed n s t b).tables ≡ excess n t
    unfolding feed stepped
    excess_stays = by (entry n s t) refl
      where
        of : (a : Answer) (r : Ledger) → Legal n r
            → excess n (beside (excess n t) (settled n s (named n t) (record { answer = a; ledger = r }))).tables ≡ excess n t
        of (accepted m) r g = excess_beside (laid_held n r g) (excess n t)
        of (refused j) r g = ap (λ (x : Tables). excess n x) (restored n t)

        by : (f : Finding) → entry n s t ≡ f → excess n (fed_by f n s t b).tables ≡ excess n t
        by pass e = let o = apply_bytes n (ledger_of n s (named n t)) b in of o.answer o.ledger (legal_then e)
        by (fail j) e = refl
