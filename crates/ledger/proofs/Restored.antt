-- An accepted WD gives back exactly the ledger that stood before its OP, whatever was fed in between: refused items and inner levels too.
use mathlib.Core.Path.{◌≡◌, refl, ap, ◌∙◌}
use mathlib.Core.List.{List, [], ◌∷◌, ◌++◌}
use Prim.Native.Nat.{ℕ, zero, suc, ◌+◌, ◌<◌}
use native.Mathlib.Omega.{arith}
use lib.ListN.{length}
use Rattle.ledger.specs.Ledger.{Ledger, opened, withdrawn}
use Rattle.ledger.specs.Record.{Record, make, OP, WD, Answer, accepted, refused, is_accepted}
use Rattle.ledger.specs.Checks.{makes}
use Rattle.ledger.specs.Apply.{done}
use Rattle.ledger.specs.Bytes.{decode, apply_bytes}
use Rattle.ledger.specs.History.{after_bytes}
use Rattle.ledger.specs.Kept.{StaysOpen, ClosedLevel}
use Rattle.ledger.specs.Legal.{Marked}
use Rattle.ledger.proofs.Findings.{bytes_refused}
use Rattle.ledger.proofs.Withdrawal.{withdrawn_opened, withdrawn_add, withdrawn_levels, marks_add}
use Rattle.ledger.proofs.InForce.{when_accepted, marked_after, accepted_done}

-- ---- unwinding: withdrawn as often as levels are open above a base, a ledger is that base

unwound : ℕ → Ledger → Ledger
unwound zero l = l
unwound (suc d) l = unwound d (withdrawn l)

record Above (base l : Ledger) : Type 0 where
  more : ℕ
  levels : length l.marks ≡ length base.marks + suc more
  unwinds : unwound (suc more) l ≡ base

above_opened : (l : Ledger) → Above l (opened l)
unfolding unwound opened
above_opened l = record { more = 0; levels = omega arith; unwinds = withdrawn_opened l }

above_done : (base l : Ledger) (r : Record) → Marked l → Above base l → length base.marks < length (done l r).marks → Above base (done l r)
unfolding unwound done
above_done base l (make r) h a p =
    let x = makes l.lines r in
    record {
      more = a.more;
      levels = ap length (marks_add l x) ∙ a.levels;
      unwinds = ap (unwound a.more) (withdrawn_add l x h (omega (arith, a.levels))) ∙ a.unwinds;
    }
above_done base l OP h a p =
    record {
      more = suc a.more;
      levels = omega (arith, a.levels);
      unwinds = ap (unwound (suc a.more)) (withdrawn_opened l) ∙ a.unwinds;
    }
above_done base l WD h a p = go a.more a.levels a.unwinds
  where
    go : (d : ℕ) → length l.marks ≡ length base.marks + suc d → unwound (suc d) l ≡ base → Above base (withdrawn l)
    go zero e u = absurd (omega (arith, withdrawn_levels l (omega arith)))
    go (suc d) e u = record { more = d; levels = omega (arith, withdrawn_levels l (omega arith)); unwinds = u }

module _ (n : ℕ) where
  above_after : (h : List (List ℕ)) (o : List ℕ) → decode o ≡ OP → is_accepted (apply_bytes n (after_bytes n h) o).answer → (xs : List (List ℕ))
      → StaysOpen n (length (after_bytes n h).marks) (o ∷ h) xs → Above (after_bytes n h) (after_bytes n (xs ++ (o ∷ h)))
  unfolding after_bytes StaysOpen done
  above_after h o s t [] st = rw (accepted_done n (after_bytes n h) o OP s t) (above_opened (after_bytes n h))
  above_after h o s t (x ∷ xs) st = go (apply_bytes n l x).answer refl (above_after h o s t xs st.1)
    where
      l : Ledger
      l = after_bytes n (xs ++ (o ∷ h))

      go : (a : Answer) → (apply_bytes n l x).answer ≡ a → Above (after_bytes n h) l → Above (after_bytes n h) (apply_bytes n l x).ledger
      go (accepted m) e a =
          let same = when_accepted n l x m e in
          rw same (above_done (after_bytes n h) l (decode x) (marked_after n (xs ++ (o ∷ h))) a (rw same at st.0))
      go (refused k) e a = rw (bytes_refused n l x k e) a

  pub withdrawal_restores : (h : List (List ℕ)) (o : List ℕ) (xs : List (List ℕ)) (w : List ℕ) → ClosedLevel n h o xs w → after_bytes n (w ∷ (xs ++ (o ∷ h))) ≡ after_bytes n h
  unfolding after_bytes unwound done
  withdrawal_restores h o xs w c =
      let l = after_bytes n (xs ++ (o ∷ h)) in
      let a = above_after h o c.opens c.opening xs c.stays in
      let none : a.more ≡ 0 = omega (arith, a.levels, c.last) in
      accepted_done n l w WD c.closes c.closing ∙ (rw none at a.unwinds)
