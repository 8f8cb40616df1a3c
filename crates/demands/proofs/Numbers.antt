-- The tests of a call stand in the order 1, 2, the record's shape, 6, 8, 9, 10, 11, 12, 13, 7; feed gives a number exactly when a test with it
-- fails and all that are made before it pass; and each call gives no other numbers than its own.
use mathlib.Core.Path.{◌≡◌, refl}
use mathlib.Core.Bool.{false, ◌&&◌}
use mathlib.Core.Logic.Iff
use mathlib.Core.Logic.{◌↔◌, ◌⊎◌, inl, inr}
use mathlib.Core.List.{List, [], ◌∷◌, ◌++◌, append_assoc}
use Prim.Native.Nat.{ℕ, ◌+◌, ◌≤◌}
use native.Mathlib.Omega.{arith}
use lib.Dec.{T, eqb, leb, leb→le, eqb→eq}
use lib.ListN.{length}
use Rattle.ints.proofs.Bools.{never, T_and, T-or}
use Rattle.ledger.specs.Literals.{holds}
use Rattle.ledger.specs.Ledger.{Ledger}
use Rattle.ledger.specs.Record.{Answer, accepted, refused, is_accepted}
use Rattle.ledger.specs.Checks.{Check, checks, Passed}
use Rattle.ledger.specs.Apply.{Finding, pass, fail, finding, Outcome}
use Rattle.ledger.specs.Bytes.{shape, decode, apply_bytes}
use Rattle.ledger.specs.Numbers.{shape_order, record_order, follow, Given}
use Rattle.ledger.specs.Split.{records_of}
use Rattle.ledger.proofs.Findings.{pass→passed, passed→pass, pass_append, fail_append}
use Rattle.ledger.proofs.Numbers.{follow_append, number_in, holds_all, given_exactly, byte_tests, bytes_follow, bytes_found}
use Rattle.session.specs.declared.state.Session.{Session}
use Rattle.session.specs.Cells.{Tables, named, ledger_of}
use Rattle.session.specs.InOrder.{sizes}
use Rattle.session.proofs.Numbers.{sizes_follow, entry_tests, entry_follow}
use Rattle.session.specs.Calls.{not_started, begun_by, start, no_standing, stands_by, standing}
use Rattle.laid.specs.Result.{settled}
use Rattle.checker.specs.Feed.{stepped, fed_by, feed}
use Rattle.stream.specs.Run.{each_by, run_by, run}
use Rattle.demands.specs.Numbers.{feed_tests, number_order}

-- ---- the order

module _ (n : ℕ) where
  module _ (s : Session) (t : Tables) where
    module _ (b : List ℕ) where
      abbrev held : Ledger
      held = ledger_of n s (named n t)

      in_two : feed_tests n s t b ≡ entry_tests n s t ++ byte_tests n held b
      in_two = append_assoc (entry_tests n s t) (shape b) (checks n held (decode b))

      pub feed_follows : T (follow number_order (feed_tests n s t b))
      feed_follows = rw in_two (follow_append (1 ∷ 2 ∷ []) (shape_order ++ record_order) (entry_tests n s t) (byte_tests n held b) (entry_follow n s t) (bytes_follow n held b))

      -- ---- feed

      settled_answer : (o : Outcome) → (settled n s (named n t) o).answer ≡ o.answer
      settled_answer o = go o.answer refl
        where
          go : (a : Answer) → o.answer ≡ a → (settled n s (named n t) o).answer ≡ o.answer
          go (accepted m) e = rw e
          go (refused k) e = rw e

      feed_found : (k : ℕ) → (feed n s t b).answer ≡ refused k ↔ finding (feed_tests n s t b) ≡ fail k
      unfolding feed stepped
      feed_found k = rw in_two (by (finding (entry_tests n s t)) refl)
        where
          by : (f : Finding) → finding (entry_tests n s t) ≡ f → ((fed_by f n s t b).answer ≡ refused k ↔ finding (entry_tests n s t ++ byte_tests n held b) ≡ fail k)
          by pass e = rw (settled_answer (apply_bytes n held b), pass_append (entry_tests n s t) (byte_tests n held b) e) (bytes_found n held b k)
          by (fail j) e = rw (fail_append (entry_tests n s t) (byte_tests n held b) j e) (λ f. cc, λ f. cc)

      pub feed_given : (k : ℕ) → (feed n s t b).answer ≡ refused k ↔ Given k (feed_tests n s t b)
      feed_given k = Iff.trans (feed_found k) (given_exactly k (feed_tests n s t b))

      pub feed_accepts : is_accepted (feed n s t b).answer ↔ Passed (feed_tests n s t b)
      feed_accepts = (to (finding cs) refl, from (feed n s t b).answer refl)
        where
          cs : List Check
          cs = feed_tests n s t b

          to : (f : Finding) → finding cs ≡ f → is_accepted (feed n s t b).answer → Passed cs
          to pass e a = pass→passed cs e
          to (fail k) e a = absurd (rw ((feed_found k).1 e) at a)

          from : (r : Answer) → (feed n s t b).answer ≡ r → Passed cs → is_accepted (feed n s t b).answer
          from (accepted m) e p = rw e tt
          from (refused k) e p = let f = (feed_found k).0 e in let g = passed→pass cs p in never (cc)

      pub feed_number : (k : ℕ) → (feed n s t b).answer ≡ refused k → (1 ≤ k) × (k ≤ 13)
      feed_number k e =
          let (low, high) =
          T_and (leb 1 k) (leb k 13)
          (holds_all (λ j. leb 1 j && leb j 13) number_order k tt (number_in number_order (feed_tests n s t b) feed_follows ((feed_found k).0 e))) in
          (leb→le 1 k low, leb→le k 13 high)

    -- ---- standing

    entry_number : (k : ℕ) → finding (entry_tests n s t) ≡ fail k → (k ≡ 1) ⊎ (k ≡ 2)
    entry_number k e = elim (T-or (eqb k 1) (holds k (2 ∷ [])) (number_in (1 ∷ 2 ∷ []) (entry_tests n s t) (entry_follow n s t) e)) [
      | inl h ↦ inl (eqb→eq k 1 h)
      | inr h ↦ elim (T-or (eqb k 2) false h) [ inl i ↦ inr (eqb→eq k 2 i) | inr i ↦ absurd i ]
    ]

    pub standing_number : (k : ℕ) → standing n s t ≡ no_standing k → (k ≡ 1) ⊎ (k ≡ 2)
    unfolding standing
    standing_number k e = by (finding (entry_tests n s t)) refl e
      where
        by : (f : Finding) → finding (entry_tests n s t) ≡ f → stands_by f n s t ≡ no_standing k → (k ≡ 1) ⊎ (k ≡ 2)
        by pass g e = never (cc)
        by (fail j) g e = entry_number k (cc)

  -- ---- start

  pub start_number : (t : Tables) (k : ℕ) → (start n t).answer ≡ not_started k → k ≡ 1
  unfolding start
  start_number t k e = by (finding (sizes n t)) refl e
    where
      by : (f : Finding) → finding (sizes n t) ≡ f → (begun_by f n t).answer ≡ not_started k → k ≡ 1
      by pass g e = never (cc)
      by (fail j) g e =
          let f : finding (sizes n t) ≡ fail k = cc in
          elim (T-or (eqb k 1) false (number_in (1 ∷ []) (sizes n t) (sizes_follow n t) f)) [ inl h ↦ eqb→eq k 1 h | inr h ↦ absurd h ]

  -- ---- run

  each_stop : (records bytes : ℕ) (s : Session) (t : Tables) (bs : List (List ℕ)) → (each_by (feed n) records bytes s t bs).stop ≤ 13
  unfolding each_by
  each_stop records bytes s t [] = omega arith
  each_stop records bytes s t (b ∷ bs) =
      go (feed n s t b).answer refl (each_stop (records + 1) (bytes + length b) (feed n s t b).session (feed n s t b).tables bs)
    where
      go : (a : Answer) → (feed n s t b).answer ≡ a → (each_by (feed n) (records + 1) (bytes + length b) (feed n s t b).session (feed n s t b).tables bs).stop ≤ 13
          → (each_by (feed n) records bytes s t (b ∷ bs)).stop ≤ 13
      go (accepted m) e rest = rw (e, each_by) rest
      go (refused k) e rest = rw (e, each_by) (feed_number s t b k e).1

  pub run_number : (s : Session) (t : Tables) (b : List ℕ) → (run n s t b).stop ≤ 13
  unfolding run
  run_number s t b = by (finding (entry_tests n s t)) refl
    where
      by : (f : Finding) → finding (entry_tests n s t) ≡ f → (run_by f n s t b).stop ≤ 13
      by pass e = each_stop 0 0 s t (records_of b)
      by (fail k) e = elim (entry_number s t k e) [ inl h ↦ omega arith | inr h ↦ omega arith ]
