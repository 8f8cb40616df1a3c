-- Tables with something behind their named cells: the named cells and the excess come apart again, and a record does on them what it does on
-- the named cells alone, where these are held, as they then are again.
use mathlib.Core.Path.{◌≡◌, subst}
use mathlib.Core.List.{List, [], ◌∷◌, ◌++◌}
use Prim.Native.Nat.{ℕ}
use native.Mathlib.Omega.{arith}
use lib.Dec.{T, leb, le→leb}
use lib.ListN.{length, take, drop, take-append-drop, length-append}
use lib.Seq.{take-append_seam, drop-append_seam}
use Rattle.ledger.specs.Ledger.{Ledger}
use Rattle.ledger.specs.Legal.{Legal}
use Rattle.ledger.specs.Record.{Answer, accepted, refused}
use Rattle.ledger.specs.Checks.{Check, Passed}
use Rattle.ledger.specs.Apply.{pass}
use Rattle.ledger.specs.Bytes.{apply_bytes}
use Rattle.ledger.proofs.Findings.{passed→pass}
use Rattle.ledger.proofs.LegalLaws.{legal_apply_bytes}
use Rattle.session.specs.declared.state.Session.{Session}
use Rattle.session.specs.Limits.{form_table, pool_table, line_table}
use Rattle.session.specs.Cells.{Tables, tables, named, excess, with_excess, ledger_of}
use Rattle.session.specs.InOrder.{sizes, order}
use Rattle.session.specs.Calls.{entry}
use Rattle.laid.specs.Laid.{tables_of, session_of}
use Rattle.laid.proofs.Sizes.{laid_sizes}
use Rattle.laid.proofs.LegalLaid.{laid_in_order}
use Rattle.laid.specs.Held.{Held}
use Rattle.laid.proofs.HeldLaws.{held_legal}
use Rattle.laid.specs.Result.{settled}
use Rattle.checker.specs.Feed.{stepped, beside, feed}

pub restored : (n : ℕ) (t : Tables) → with_excess (named n t) (excess n t) ≡ t
restored n t =
    λ i. tables (take-append-drop (form_table n) t.forms i) (take-append-drop pool_table t.pool i) (take-append-drop line_table t.lines i)

take_front : {A : Type 0} (k : ℕ) (xs ys : List A) → length xs ≡ k → take k (xs ++ ys) ≡ xs
take_front k xs ys e = subst (λ (m : ℕ). take m (xs ++ ys) ≡ xs) e (take-append_seam xs ys)

drop_front : {A : Type 0} (k : ℕ) (xs ys : List A) → length xs ≡ k → drop k (xs ++ ys) ≡ ys
drop_front k xs ys e = subst (λ (m : ℕ). drop m (xs ++ ys) ≡ ys) e (drop-append_seam xs ys)

passed_both : (cs ds : List Check) → Passed cs → Passed ds → Passed (cs ++ ds)
passed_both [] ds p q = q
passed_both (c ∷ cs) ds p q = (p.0, passed_both cs ds p.1 q)

longer : {A : Type 0} (k : ℕ) (xs ys : List A) → length xs ≡ k → T (leb k (length (xs ++ ys)))
longer k xs ys e = le→leb k (length (xs ++ ys)) (omega (arith, length-append xs ys))

-- a legal ledger laid out is held
pub laid_held : (n : ℕ) (l : Ledger) → Legal n l → Held n (session_of l) (tables_of n l)
laid_held n l g = record { exact = laid_sizes n l g; ordered = laid_in_order n l g }

module _ {n : ℕ} {s : Session} {t : Tables} (h : Held n s t) (x : Tables) where
  pub named_beside : named n (with_excess t x) ≡ t
  named_beside =
      λ i. tables
      (take_front (form_table n) t.forms x.forms h.exact.sized.form_size i)
      (take_front pool_table t.pool x.pool h.exact.sized.pool_size i)
      (take_front line_table t.lines x.lines h.exact.sized.line_size i)

  pub excess_beside : excess n (with_excess t x) ≡ x
  excess_beside =
      λ i. tables
      (drop_front (form_table n) t.forms x.forms h.exact.sized.form_size i)
      (drop_front pool_table t.pool x.pool h.exact.sized.pool_size i)
      (drop_front line_table t.lines x.lines h.exact.sized.line_size i)

  pub entry_beside : entry n s (with_excess t x) ≡ pass
  unfolding sizes
  entry_beside =
      let sized : Passed (sizes n (with_excess t x)) = (
        longer (form_table n) t.forms x.forms h.exact.sized.form_size,
        (longer pool_table t.pool x.pool h.exact.sized.pool_size, (longer line_table t.lines x.lines h.exact.sized.line_size, tt)),
      ) in
      let ordered : Passed (order n s (named n (with_excess t x))) = rw named_beside h.ordered in
      passed→pass (sizes n (with_excess t x) ++ order n s (named n (with_excess t x)))
      (passed_both (sizes n (with_excess t x)) (order n s (named n (with_excess t x))) sized ordered)

  pub feed_beside : (b : List ℕ) → feed n s (with_excess t x) b ≡ beside x (stepped n s t b)
  unfolding feed
  feed_beside b = rw entry_beside (λ i. beside (excess_beside i) (stepped n s (named_beside i) b))

-- what is held is held again
pub held_again : {n : ℕ} {s : Session} {t : Tables} → Held n s t → (b : List ℕ) → Held n (stepped n s t b).session (stepped n s t b).tables
unfolding stepped
held_again {n} {s} {t} h b =
    let o = apply_bytes n (ledger_of n s t) b in of o.answer o.ledger (legal_apply_bytes n (ledger_of n s t) b (held_legal h))
  where
    of : (a : Answer) (l : Ledger) → Legal n l →
        let r = settled n s t (record { answer = a; ledger = l }) in Held n r.session r.tables
    of (accepted m) l g = laid_held n l g
    of (refused k) l g = h
