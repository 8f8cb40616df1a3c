-- Demand 3, said of the records still in force, which are what remains of the records fed when the struck out ones go: the state equals that of a
-- fresh session fed only these, the forms and premises that are read are those that they carry, and where the standing is refuted no whole
-- numbers satisfy what they carry.
use mathlib.Core.Path.{◌≡◌, sym, ap, ◌∙◌}
use mathlib.Core.List.{List, map, reverse, reverse-reverse}
use Prim.Native.Nat.{ℕ}
use lib.Dec.{T}
use Rattle.rows.specs.Truth.{Integers}
use Rattle.ledger.specs.Ledger.{Ledger}
use Rattle.ledger.specs.Standing.{refuted}
use Rattle.ledger.specs.Truth.{premise_lists}
use Rattle.ledger.specs.History.{after_bytes, op_count, NoWD}
use Rattle.ledger.specs.Carried.{forms_carried, lists_carried, satisfied}
use Rattle.ledger.proofs.InForce.{bytes_in_force_lem}
use Rattle.ledger.proofs.StruckOut.{in_force_remains, in_force_only, in_force_no_wd, open_levels}
use Rattle.ledger.proofs.Carried.{forms_carried_lem, premises_carried, premises_satisfied}
use Rattle.session.specs.Cells.{Tables}
use Rattle.session.specs.Calls.{started, start, stands, standing}
use Rattle.laid.specs.Laid.{session_of}
use Rattle.demands.specs.History.{Call, fed, begun, called_all, now, read, history, StillInForce, EachAccepted}
use Rattle.demands.proofs.WithdrawalExact.{still_in_force, history_laid, exact, read_in_force, refuted_means_refuted}

-- ---- there are records still in force, and no two lists of them

module _ (n : ℕ) (t : Tables) (calls : List Call) where
  pub some_in_force : (bs : List (List ℕ)) × StillInForce n t calls bs
  some_in_force = (still_in_force n t calls, rw reverse-reverse (in_force_remains n (history n t calls)))

  only_in_force : (bs : List (List ℕ)) → StillInForce n t calls bs → bs ≡ still_in_force n t calls
  only_in_force bs r = sym (reverse-reverse bs) ∙ ap reverse (in_force_only n (history n t calls) (reverse bs) r)

  pub in_force_once : (bs cs : List (List ℕ)) → StillInForce n t calls bs → StillInForce n t calls cs → bs ≡ cs
  in_force_once bs cs r s = only_in_force bs r ∙ sym (only_in_force cs s)

-- ---- and of these, over n unknowns, after any calls since a start that was accepted

module _ (n : ℕ) (t : Tables) (ok : (start n t).answer ≡ started) (calls : List Call) where
  read_after : read n (now n t calls) ≡ after_bytes n (history n t calls)
  read_after = read_in_force n t ok calls ∙ (bytes_in_force_lem n (history n t calls)).0

  module _ (bs : List (List ℕ)) (in_force : StillInForce n t calls bs) where
    -- session and cells are those of a start and these records fed one after the other, each of which is accepted
    pub withdrawal_exact : (called_all n (begun n t) calls ≡ called_all n (begun n t) (map fed bs)) × EachAccepted n (begun n t) bs
    withdrawal_exact = rw (only_in_force n t calls bs in_force) (exact n t ok calls)

    pub forms_of_records : (read n (now n t calls)).forms ≡ forms_carried bs
    forms_of_records =
        rw (only_in_force n t calls bs in_force) (ap (λ (l : Ledger). l.forms) read_after ∙ forms_carried_lem n (history n t calls))

    pub premises_of_records : premise_lists (read n (now n t calls)).lines ≡ lists_carried bs
    premises_of_records =
        rw (only_in_force n t calls bs in_force) (ap (λ (l : Ledger). premise_lists l.lines) read_after ∙ premises_carried n (history n t calls))

    pub refuted_means_none : (i : ℕ) → standing n (now n t calls).session (now n t calls).tables ≡ stands (refuted i)
        → (ρ : Integers) → T (satisfied ρ (forms_carried bs) (lists_carried bs)) → ⊥
    refuted_means_none i e ρ s =
        refuted_means_refuted n t ok calls i e ρ
        (rw (premises_satisfied ρ (read n (now n t calls)).forms (read n (now n t calls)).lines, forms_of_records, premises_of_records) s)

    pub no_withdrawal_in_force : NoWD (reverse bs)
    no_withdrawal_in_force = rw (only_in_force n t calls bs in_force, reverse-reverse) (in_force_no_wd n (history n t calls))

    -- an OP for each open level
    pub opens_in_force : op_count (reverse bs) ≡ (now n t calls).session.«open»
    unfolding session_of
    opens_in_force = rw (only_in_force n t calls bs in_force, history_laid n t ok calls, reverse-reverse) (open_levels n (history n t calls))
