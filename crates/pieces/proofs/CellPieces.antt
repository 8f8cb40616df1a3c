-- A run on any session and any tables, cut in two: what it accepts of a front part it accepts of the whole and goes on from there, so totals
-- add; a stop by another number than 0 and 3 is the whole run's; and what a stop by 0 or 3 leaves is less than the longest record.
use Rattle.std.proofs.Common.{◌≡◌, ℕ, ◌+◌, ◌<◌, ◌≤◌, Bool, true, false, cond, ◌&&◌, T, eqb, ltb, List, [], ◌∷◌, ◌++◌, length, drop, sym, refl, ap, inl, inr, arith, eqb→eq, ltb→lt}
use Rattle.ints.specs.Tests.{all}
use Rattle.ints.proofs.Bools.{never, T_and, T-or}
use Rattle.ledger.specs.Limits.{most_levels}
use Rattle.ledger.specs.Ledger.{Ledger}
use Rattle.ledger.specs.Legal.{Legal}
use Rattle.ledger.specs.Checks.{Check}
use Rattle.ledger.specs.Apply.{Finding, pass, fail, finding}
use Rattle.ledger.specs.Run as ledger
use Rattle.session.specs.declared.state.Session.{Session}
use Rattle.session.specs.Cells.{Tables, named, excess, ledger_of}
use Rattle.session.specs.InOrder.{sizes, order}
use Rattle.session.specs.Calls.{entry}
use Rattle.checker.proofs.Feeding.{entry_held}
use Rattle.laid.proofs.InOrderIffLaid.{LaidOut, in_order_laid}
use Rattle.laid.proofs.Sizes.{laid_sizes}
use Rattle.stream.specs.Run.{Totals, totals, run}
use Rattle.checker.proofs.Beside.{restored}
use Rattle.pieces.specs.Step.{may_go_on}
use Rattle.pieces.proofs.RunLaid.{legal_run, totals_laid, run_laid}
use Rattle.pieces.specs.Longest.{longest}
use Rattle.pieces.proofs.LedgerPieces.{accepts_within, totals_add, final, unfinished, finished}

-- a run where so many records and bytes were counted before
abbrev pub counting : ℕ → ℕ → Totals → Totals
counting k c r = totals (k + r.records) (c + r.bytes) r.stop r.session r.tables

-- a list of tests refuses with none but its numbers
finding_within : (p : ℕ → Bool) (cs : List Check) → T (all (λ c. p c.number) cs) → {j : ℕ} → finding cs ≡ fail j → T (p j)
unfolding finding
finding_within p [] h e = never (cc)
finding_within p (c ∷ cs) h {j} e =
    let u = T_and (p c.number) (all (λ c. p c.number) cs) h in
    go c.passes e u.0 (finding_within p cs u.1)
  where
    go : (b : Bool) → cond b (finding cs) (fail c.number) ≡ fail j → T (p c.number) → (finding cs ≡ fail j → T (p j)) → T (p j)
    go true e h rest = rest e
    go false e h rest = let s : c.number ≡ j = cc in rw s at h

module _ (n : ℕ) (s : Session) (t : Tables) where
  refused_before : (k : ℕ) → entry n s t ≡ fail k → (b : List ℕ) → run n s t b ≡ totals 0 0 k s t
  unfolding run
  refused_before k e b = rw e

  abbrev there : Ledger
  there = ledger_of n s (named n t)

  -- a session has eight marks, as the code's always does
  module _ (marks : length s.marks ≡ most_levels) where
    -- where nothing is refused before the first record, a legal ledger is laid out
    entry_laid : entry n s t ≡ pass → LaidOut n s (named n t) there
    entry_laid e = let h = entry_held n s t e marks in in_order_laid n s (named n t) h.exact h.ordered

    on_ledger : entry n s t ≡ pass → (b : List ℕ) → run n s t b ≡ totals_laid n (excess n t) (ledger.run n there b)
    on_ledger e b =
        let o = entry_laid e in
        rw (o.session, o.tables, restored n t) at (run_laid n (excess n t) there o.legal b)

    legal_then : entry n s t ≡ pass → (a : List ℕ) → Legal n (ledger.run n there a).ledger
    legal_then e a = legal_run n there (entry_laid e).legal a

    pub cells_add : (a b : List ℕ) → let r = run n s t a in
        run n s t (a ++ b) ≡ counting r.records r.bytes (run n r.session r.tables (drop r.bytes a ++ b))
    cells_add a b = by (entry n s t) refl
      where
        by : (f : Finding) → entry n s t ≡ f → let r = run n s t a in
            run n s t (a ++ b) ≡ counting r.records r.bytes (run n r.session r.tables (drop r.bytes a ++ b))
        by pass e =
            let r = ledger.run n there a in
            rw (on_ledger e (a ++ b), on_ledger e a, run_laid n (excess n t) r.ledger (legal_then e a) (drop r.bytes a ++ b), totals_add n there a b)
        by (fail k) e = rw (refused_before k e (a ++ b), refused_before k e a, refused_before k e (a ++ b))

    pub cells_final : (a b : List ℕ) → let r = run n s t a in may_go_on r.stop ≡ false → run n s t (a ++ b) ≡ r
    cells_final a b = by (entry n s t) refl
      where
        by : (f : Finding) → entry n s t ≡ f → let r = run n s t a in may_go_on r.stop ≡ false → run n s t (a ++ b) ≡ r
        by pass e =
            rw (on_ledger e (a ++ b), on_ledger e a)
            (λ m. ap (totals_laid n (excess n t)) (final n there a b (λ z. never (sym (rw z at m))) (λ z. never (sym (rw z at m)))))
        by (fail k) e = λ m. rw (refused_before k e (a ++ b), refused_before k e a)

    pub marks_again : (a : List ℕ) → length (run n s t a).session.marks ≡ most_levels
    marks_again a = by (entry n s t) refl
      where
        by : (f : Finding) → entry n s t ≡ f → length (run n s t a).session.marks ≡ most_levels
        by pass e = rw (on_ledger e a) (laid_sizes n (ledger.run n there a).ledger (legal_then e a)).mark_size
        by (fail k) e = rw (refused_before k e a) marks

    -- ---- how much is taken, and how much is left

    pub cells_within : (a : List ℕ) → let r = run n s t a in (r.records ≤ r.bytes) × (r.bytes ≤ length a)
    cells_within a = by (entry n s t) refl
      where
        by : (f : Finding) → entry n s t ≡ f → let r = run n s t a in (r.records ≤ r.bytes) × (r.bytes ≤ length a)
        by pass e = rw (on_ledger e a) (accepts_within n there a)
        by (fail k) e = rw (refused_before k e a) (omega arith, omega arith)

    -- 1 and 2 only
    entry_number : {k : ℕ} → entry n s t ≡ fail k → T (ltb 0 k && ltb k 3)
    unfolding sizes order
    entry_number e = finding_within (λ k. ltb 0 k && ltb k 3) (sizes n t ++ order n s (named n t)) tt e

    pub little_left : (a : List ℕ) → let r = run n s t a in T (may_go_on r.stop) → length a < r.bytes + longest
    little_left a = by (entry n s t) refl
      where
        by : (f : Finding) → entry n s t ≡ f → let r = run n s t a in T (may_go_on r.stop) → length a < r.bytes + longest
        by pass e =
            let r = ledger.run n there a in
            rw (on_ledger e a) (λ m. elim (T-or (eqb r.stop 0) (eqb r.stop 3) m) [
              | inl z ↦ omega (arith, finished n there a (eqb→eq r.stop 0 z))
              | inr z ↦ unfinished n there a (eqb→eq r.stop 3 z)
            ])
        by (fail k) e =
            let (some, few) = T_and (ltb 0 k) (ltb k 3) (entry_number e) in
            rw (refused_before k e a) (λ m. elim (T-or (eqb k 0) (eqb k 3) m) [
              | inl z ↦ absurd (omega (arith, ltb→lt 0 k some, eqb→eq k 0 z))
              | inr z ↦ absurd (omega (arith, ltb→lt k 3 few, eqb→eq k 3 z))
            ])
