-- The ledger after a history is the ledger after what is in force of it, and all of that is accepted.
use mathlib.Core.Path.{◌≡◌, refl, ap, sym, ◌∙◌, subst}
use mathlib.Core.List.{List, [], ◌∷◌}
use Prim.Native.Nat.{ℕ, ◌<◌}
use native.Mathlib.Omega.{arith}
use lib.Dec.{ltb→lt}
use lib.ListN.{length}
use Rattle.ledger.specs.Ledger.{Ledger, withdrawn}
use Rattle.ledger.specs.Record.{Record, make, OP, WD, Made, Answer, accepted, refused, is_accepted}
use Rattle.ledger.specs.Checks.{Passed, checks, makes}
use Rattle.ledger.specs.Apply.{done}
use Rattle.ledger.specs.Bytes.{decode, apply_bytes}
use Rattle.ledger.specs.History.{after_bytes}
use Rattle.ledger.specs.Kept.{strike, entered, kept, AcceptedBytes, bytes_in_force}
use Rattle.ledger.proofs.Findings.{apply_accepted, bytes_accepted, bytes_refused}
use Rattle.ledger.specs.Legal.{Marked}
use Rattle.ledger.proofs.Withdrawal.{withdrawn_opened, withdrawn_add, marks_add, marked_done}

-- ---- what bytes do, against the record that they say

passed_level : (n : ℕ) (l : Ledger) → Passed (checks n l WD) → 0 < length l.marks
unfolding checks
passed_level n l p = ltb→lt 0 (length l.marks) p.0

module _ (n : ℕ) (l : Ledger) (b : List ℕ) (m : Made) (e : (apply_bytes n l b).answer ≡ accepted m) where
  pub when_accepted : (apply_bytes n l b).ledger ≡ done l (decode b)
  when_accepted = let same = (bytes_accepted n l b m e).1 in rw same (apply_accepted n l (decode b) m (rw same at e)).1

  pub level_open : decode b ≡ WD → 0 < length l.marks
  level_open s = passed_level n l (rw s at (apply_accepted n l (decode b) m (rw (bytes_accepted n l b m e).1 at e)).0)

-- a record that can be in force
abbrev Stands : Record → Type 0
Stands (make r) = Unit {0}
Stands OP = Unit {0}
Stands WD = ⊥

module _ (n : ℕ) where
  -- every item was accepted, and none is a WD
  Clean : List (List ℕ) → Type 0
  Clean [] = Unit {0}
  Clean (x ∷ xs) = is_accepted (apply_bytes n (after_bytes n xs) x).answer × Stands (decode x) × Clean xs

  clean_accepted : (ks : List (List ℕ)) → Clean ks → AcceptedBytes n ks
  unfolding Clean AcceptedBytes
  clean_accepted [] c = tt
  clean_accepted (x ∷ xs) c = (c.0, clean_accepted xs c.2)

  strike_clean : (ks : List (List ℕ)) → Clean ks → Clean (strike ks)
  unfolding Clean
  strike_clean [] c = tt
  strike_clean (x ∷ xs) c = go (decode x) refl (strike_clean xs c.2)
    where
      go : (r : Record) → decode x ≡ r → Clean (strike xs) → Clean (strike (x ∷ xs))
      go (make r) e rest = rw (e, strike) rest
      go OP e rest = rw (e, strike) c.2
      go WD e rest = rw (e, strike) rest

module _ (n : ℕ) where
  pub marked_after : (h : List (List ℕ)) → Marked (after_bytes n h)
  unfolding after_bytes
  marked_after [] = tt
  marked_after (x ∷ xs) = go (apply_bytes n l x).answer refl (marked_after xs)
    where
      l : Ledger
      l = after_bytes n xs

      go : (a : Answer) → (apply_bytes n l x).answer ≡ a → Marked l → Marked (apply_bytes n l x).ledger
      go (accepted m) e h = rw (when_accepted n l x m e) (marked_done l (decode x) h)
      go (refused k) e h = rw (bytes_refused n l x k e) h

  pub accepted_done : (l : Ledger) (x : List ℕ) (r : Record) → decode x ≡ r → is_accepted (apply_bytes n l x).answer → (apply_bytes n l x).ledger ≡ done l r
  accepted_done l x r s t = go (apply_bytes n l x).answer refl t
    where
      go : (a : Answer) → (apply_bytes n l x).answer ≡ a → is_accepted a → (apply_bytes n l x).ledger ≡ done l r
      go (accepted m) e t = when_accepted n l x m e ∙ ap (done l) s
      go (refused k) e t = absurd t

  strike_withdraws : (ks : List (List ℕ)) → Clean n ks → 0 < length (after_bytes n ks).marks
      → after_bytes n (strike ks) ≡ withdrawn (after_bytes n ks)
  unfolding Clean after_bytes done
  strike_withdraws [] c p = absurd (omega arith)
  strike_withdraws (x ∷ xs) c p = go (decode x) refl (strike_withdraws xs c.2)
    where
      l : Ledger
      l = after_bytes n xs

      go : (r : Record) → decode x ≡ r → (0 < length l.marks → after_bytes n (strike xs) ≡ withdrawn l)
          → after_bytes n (strike (x ∷ xs)) ≡ withdrawn (apply_bytes n l x).ledger
      go (make r) e rest =
          let same = accepted_done l x (make r) e c.0 in
          let q : 0 < length l.marks = rw (same, marks_add l (makes l.lines r)) at p in
          rw (e, strike, same, withdrawn_add l (makes l.lines r) (marked_after xs) q) (rest q)
      go OP e rest = rw (e, strike, accepted_done l x OP e c.0) (sym (withdrawn_opened l))
      go WD e rest = absurd (rw e at c.1)

  -- one item more, on a history that is all in force
  kept_clean : (x : List ℕ) (ks : List (List ℕ)) → Clean n ks → (a : Answer) → (apply_bytes n (after_bytes n ks) x).answer ≡ a
      → (after_bytes n (kept a x ks) ≡ (apply_bytes n (after_bytes n ks) x).ledger) × Clean n (kept a x ks)
  unfolding Clean after_bytes done
  kept_clean x ks c (refused k) e = (sym (bytes_refused n (after_bytes n ks) x k e), c)
  kept_clean x ks c (accepted m) e = go (decode x) refl
    where
      t : is_accepted (apply_bytes n (after_bytes n ks) x).answer
      t = subst is_accepted (sym e) tt

      go : (r : Record) → decode x ≡ r
          → (after_bytes n (entered x ks) ≡ (apply_bytes n (after_bytes n ks) x).ledger) × Clean n (entered x ks)
      go (make r) s = rw (s, entered) (refl, (t, subst Stands (sym s) tt, c))
      go OP s = rw (s, entered) (refl, (t, subst Stands (sym s) tt, c))
      go WD s =
          rw (s, entered, accepted_done (after_bytes n ks) x WD s t)
          (strike_withdraws ks c (level_open n (after_bytes n ks) x m e s), strike_clean n ks c)

  in_force_clean : (h : List (List ℕ)) → (after_bytes n (bytes_in_force n h) ≡ after_bytes n h) × Clean n (bytes_in_force n h)
  unfolding Clean bytes_in_force after_bytes
  in_force_clean [] = (refl, tt)
  in_force_clean (x ∷ h) =
      let (same, c) = in_force_clean h in
      rw same at (kept_clean x (bytes_in_force n h) c (apply_bytes n (after_bytes n (bytes_in_force n h)) x).answer refl)

  pub bytes_in_force_lem : (h : List (List ℕ)) → (after_bytes n (bytes_in_force n h) ≡ after_bytes n h) × AcceptedBytes n (bytes_in_force n h)
  bytes_in_force_lem h = let (same, c) = in_force_clean h in (same, clean_accepted n (bytes_in_force n h) c)
