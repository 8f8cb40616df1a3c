-- Calls on a legal ledger that is laid out, with any excess behind: each leaves the ledger laid out that its records make, and so do all.
use mathlib.Core.Path.{◌≡◌, refl, ap, ◌∙◌}
use mathlib.Core.List.{List, [], ◌∷◌, ◌++◌, map}
use Prim.Native.Nat.{ℕ}
use native.Mathlib.Nat.{sub-zero}
use Rattle.ints.proofs.Bools.{never}
use Rattle.ledger.specs.Ledger.{Ledger, fresh}
use Rattle.ledger.specs.Legal.{Legal}
use Rattle.ledger.specs.Apply.{Finding, pass, fail, finding}
use Rattle.ledger.specs.Bytes.{apply_bytes}
use Rattle.ledger.specs.Run.{fed_all, AllAccepted}
use Rattle.ledger.proofs.LegalLaws.{legal_apply_bytes}
use Rattle.ledger.proofs.RunLaws.{run_stops_at_first_bad}
use Rattle.session.specs.Cells.{Tables, excess, with_excess}
use Rattle.session.specs.InOrder.{sizes}
use Rattle.session.specs.Calls.{started, begun_by, start}
use Rattle.laid.specs.Laid.{padded, forms_laid, pool_laid, lines_laid, tables_of, marks_laid, session_of}
use Rattle.pieces.proofs.RunLaid.{legal_fed, feed_laid, run_laid}
use Rattle.demands.specs.History.{Call, fed, ran, State, state, begun, called, called_all, records_by, records_fed, EachAccepted}

-- with this excess
abbrev pub laid : ℕ → Tables → Ledger → State
laid n x l = state (session_of l) (with_excess (tables_of n l) x)

-- ---- a start

pub start_laid : (n : ℕ) (t : Tables) → (start n t).answer ≡ started → begun n t ≡ laid n (excess n t) fresh
unfolding start session_of tables_of padded forms_laid pool_laid lines_laid marks_laid
start_laid n t e = by (finding (sizes n t)) e
  where
    by : (f : Finding) → (begun_by f n t).answer ≡ started → state (begun_by f n t).session (begun_by f n t).tables ≡ laid n (excess n t) fresh
    by pass e = rw sub-zero
    by (fail k) e = never (cc)

-- ---- records fed to a ledger

module _ (n : ℕ) where
  fed_both : (l : Ledger) (bs cs : List (List ℕ)) → fed_all n l (bs ++ cs) ≡ fed_all n (fed_all n l bs) cs
  unfolding fed_all
  fed_both l [] cs = refl
  fed_both l (b ∷ bs) cs = fed_both (apply_bytes n l b).ledger bs cs

-- ---- calls

module _ (n : ℕ) (x : Tables) where
  called_laid : (l : Ledger) → Legal n l → (c : Call) → called n (laid n x l) c ≡ laid n x (fed_all n l (records_by n (laid n x l) c))
  unfolding fed_all
  called_laid l g (fed b) = rw (feed_laid n x l g b)
  called_laid l g (ran b) = rw (run_laid n x l g b, (run_stops_at_first_bad n l b).ledger)

  pub all_laid : (l : Ledger) → Legal n l → (cs : List Call)
      → called_all n (laid n x l) cs ≡ laid n x (fed_all n l (records_fed n (laid n x l) cs))
  unfolding called_all records_fed fed_all
  all_laid l g [] = refl
  all_laid l g (c ∷ cs) =
      let bs = records_by n (laid n x l) c in
      rw (called_laid l g c, fed_both n l bs) (all_laid (fed_all n l bs) (legal_fed n l g bs) cs)

  -- ---- records fed one after the other

  pub fed_laid : (l : Ledger) → Legal n l → (bs : List (List ℕ)) → called_all n (laid n x l) (map fed bs) ≡ laid n x (fed_all n l bs)
  unfolding called_all fed_all
  fed_laid l g [] = refl
  fed_laid l g (b ∷ bs) =
      ap (λ (s : State). called_all n s (map fed bs)) (called_laid l g (fed b)) ∙ fed_laid (apply_bytes n l b).ledger (legal_apply_bytes n l b g) bs

  pub accepted_laid : (l : Ledger) → Legal n l → (bs : List (List ℕ)) → AllAccepted n l bs → EachAccepted n (laid n x l) bs
  unfolding AllAccepted EachAccepted
  accepted_laid l g [] a = tt
  accepted_laid l g (b ∷ bs) a = rw (feed_laid n x l g b) (a.0, accepted_laid (apply_bytes n l b).ledger (legal_apply_bytes n l b g) bs a.1)
