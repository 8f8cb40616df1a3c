-- Withdrawal is exact and refuted means refuted, for calls on cells: after any calls since a start that was accepted, session and tables are
-- those that the records still in force leave when they are fed alone to the same start, and where the standing is refuted no whole numbers
-- for the unknowns make all premises in force true.
use mathlib.Core.Path.{◌≡◌, sym, ap, subst, ◌∙◌}
use mathlib.Core.List.{List, [], map, reverse, reverse-reverse}
use Prim.Native.Nat.{ℕ}
use lib.Dec.{T}
use Rattle.rows.specs.Truth.{Integers}
use Rattle.ledger.specs.Ledger.{Ledger, fresh}
use Rattle.ledger.specs.Legal.{Legal}
use Rattle.ledger.specs.Apply.{pass}
use Rattle.ledger.specs.Bytes.{apply_bytes}
use Rattle.ledger.specs.Run.{fed_all}
use Rattle.ledger.specs.Standing.{refuted}
use Rattle.ledger.specs.Standing as ledger
use Rattle.ledger.specs.Premises.{premises_true}
use Rattle.ledger.specs.History.{after_bytes}
use Rattle.ledger.specs.Kept.{AcceptedBytes, bytes_in_force}
use Rattle.ledger.proofs.InForce.{bytes_in_force_lem}
use Rattle.ledger.proofs.LegalLaws.{legal_fresh, legal_after_bytes}
use Rattle.ledger.proofs.LinesTrue.{refuted_by_bytes}
use Rattle.ledger.proofs.RunLaws.{fed_is_history, accepted_back}
use Rattle.session.specs.Cells.{Tables, excess}
use Rattle.session.specs.Calls.{entry, started, start, stands, standing}
use Rattle.checker.specs.Feed.{feed}
use Rattle.checker.proofs.Beside.{laid_held, excess_beside, entry_beside}
use Rattle.demands.specs.History.{Call, fed, State, begun, called_all, records_fed, history, now, read, EachAccepted}
use Rattle.pieces.proofs.RunLaid.{feed_laid, ledger_read}
use Rattle.demands.proofs.OnLedger.{laid, start_laid, all_laid, fed_laid, accepted_laid}

-- the records still in force, worked out, the first first
abbrev pub still_in_force : ℕ → Tables → List Call → List (List ℕ)
still_in_force n t cs = reverse (bytes_in_force n (history n t cs))

stands_same : {a b : ledger.Standing} → stands a ≡ stands b → a ≡ b
stands_same e = cc

module _ (n : ℕ) (t : Tables) (ok : (start n t).answer ≡ started) (calls : List Call) where
  abbrev x : Tables
  x = excess n t

  -- the state after the calls is the ledger of their history, laid out
  pub history_laid : now n t calls ≡ laid n (excess n t) (after_bytes n (history n t calls))
  history_laid =
      rw (start_laid n t ok)
      (all_laid n x fresh (legal_fresh n) calls ∙ ap (laid n x) (fed_is_history n (records_fed n (laid n x fresh) calls)))

  legal_now : Legal n (after_bytes n (history n t calls))
  legal_now = legal_after_bytes n (history n t calls)

  -- accepted in the history is what the calls accept
  pub answer_of_history : (b : List ℕ) → (feed n (now n t calls).session (now n t calls).tables b).answer ≡ (apply_bytes n (after_bytes n (history n t calls)) b).answer
  answer_of_history b = rw (history_laid, feed_laid n x (after_bytes n (history n t calls)) legal_now b)

  -- ---- withdrawal is exact

  kept_laid : called_all n (begun n t) (map fed (still_in_force n t calls)) ≡ laid n x (after_bytes n (history n t calls))
  kept_laid =
      let kept = bytes_in_force n (history n t calls) in
      let same : fed_all n fresh (reverse kept) ≡ after_bytes n (history n t calls) =
      fed_is_history n (reverse kept) ∙ ap (after_bytes n) (reverse-reverse kept) ∙ (bytes_in_force_lem n (history n t calls)).0 in
      ap (λ (s : State). called_all n s (map fed (reverse kept))) (start_laid n t ok)
      ∙ fed_laid n x fresh (legal_fresh n) (reverse kept)
      ∙ ap (laid n x) same

  kept_accepted : EachAccepted n (begun n t) (still_in_force n t calls)
  unfolding after_bytes
  kept_accepted =
      let kept = bytes_in_force n (history n t calls) in
      let all = (accepted_back n [] (reverse kept) (subst (AcceptedBytes n) (sym (reverse-reverse kept)) (bytes_in_force_lem n (history n t calls)).1)).0 in
      subst (λ (s : State). EachAccepted n s (reverse kept)) (sym (start_laid n t ok)) (accepted_laid n x fresh (legal_fresh n) (reverse kept) all)

  pub exact : (called_all n (begun n t) calls ≡ called_all n (begun n t) (map fed (still_in_force n t calls)))
      × EachAccepted n (begun n t) (still_in_force n t calls)
  exact = (history_laid ∙ sym kept_laid, kept_accepted)

  -- cells past the named ones are those that were lent
  pub excess_stays : excess n (now n t calls).tables ≡ excess n t
  excess_stays = rw history_laid (excess_beside (laid_held n (after_bytes n (history n t calls)) legal_now) x)

  -- ---- refuted means refuted

  -- the forms and lines that are read are those of the records in force
  pub read_in_force : read n (now n t calls) ≡ after_bytes n (bytes_in_force n (history n t calls))
  read_in_force = rw (history_laid, (bytes_in_force_lem n (history n t calls)).0) (ledger_read n x (after_bytes n (history n t calls)) legal_now)

  -- the next call is not refused 1 or 2
  pub entry_passes : entry n (now n t calls).session (now n t calls).tables ≡ pass
  entry_passes = rw history_laid (entry_beside (laid_held n (after_bytes n (history n t calls)) legal_now) x)

  pub standing_answers : standing n (now n t calls).session (now n t calls).tables ≡ stands (ledger.standing (read n (now n t calls)))
  unfolding standing
  standing_answers = rw entry_passes

  pub refuted_means_refuted : (i : ℕ) → standing n (now n t calls).session (now n t calls).tables ≡ stands (refuted i) →
      let l = read n (now n t calls) in (ρ : Integers) → T (premises_true ρ l.forms l.lines) → ⊥
  refuted_means_refuted i e ρ p =
      let kept = bytes_in_force n (history n t calls) in
      let same : stands (ledger.standing (after_bytes n kept)) ≡ stands (refuted i) =
      ap (λ (l : Ledger). stands (ledger.standing l)) (sym read_in_force) ∙ sym standing_answers ∙ e in
      refuted_by_bytes n kept i (stands_same same) ρ (rw read_in_force at p)
