-- What is in force of a history is exactly what remains of it when the struck out positions go, and nothing else remains.
use mathlib.Core.Path.{◌≡◌, refl, ap, sym, subst}
use mathlib.Core.Logic.{◌⊎◌, inl, inr}
use mathlib.Core.List.{List, [], ◌∷◌, ◌++◌}
use Prim.Native.Nat.{ℕ, suc, ◌≤◌, ◌<◌}
use native.Mathlib.Omega.{arith}
use native.Mathlib.Decide.{dec_le}
use lib.ListN.{length}
use Rattle.ints.proofs.Bools.{never}
use Rattle.ledger.specs.Ledger.{Ledger}
use Rattle.ledger.specs.Record.{Record, make, OP, WD, Made, Answer, accepted, refused, is_accepted}
use Rattle.ledger.specs.Checks.{makes}
use Rattle.ledger.specs.Apply.{done}
use Rattle.ledger.specs.Bytes.{decode, apply_bytes}
use Rattle.ledger.specs.History.{after_bytes, AcceptedAfter, OpAt, LastOp, StrikesOut, refusal, withdrawal, StruckOut}
use Rattle.ledger.specs.History.{Remains, none, goes, stays, InForce, op_count, NoWD}
use Rattle.ledger.specs.Kept.{strike, entered, kept, bytes_in_force}
use Rattle.ledger.proofs.Findings.{bytes_refused}
use Rattle.ledger.proofs.Withdrawal.{withdrawn_levels, marks_add}
use Rattle.ledger.proofs.InForce.{when_accepted, level_open}

-- ---- what remains is one list only

pub remains_once : {P : ℕ → Type 0} {h ks js : List (List ℕ)} → Remains P h ks → Remains P h js → ks ≡ js
remains_once none none = refl
remains_once (goes p r) (goes q s) = remains_once r s
remains_once (goes p r) (stays q s) = absurd (q p)
remains_once (stays p r) (goes q s) = absurd (p q)
remains_once (stays {x} p r) (stays q s) = ap (λ l. x ∷ l) (remains_once r s)

-- only positions inside count
remains_same : {P Q : ℕ → Type 0} {h ks : List (List ℕ)} → ((k : ℕ) → k < length h → P k → Q k) → ((k : ℕ) → k < length h → Q k → P k)
    → Remains P h ks → Remains Q h ks
remains_same f g none = none
remains_same f g (goes {h} p r) = goes (f (length h) (omega arith) p) (remains_same (λ k l. f k (omega arith)) (λ k l. g k (omega arith)) r)
remains_same f g (stays {h} p r) =
    let here : length h < suc (length h) = omega arith in
    stays (λ q. p (g (length h) here q)) (remains_same (λ k l. f k (omega arith)) (λ k l. g k (omega arith)) r)

-- ---- a withdrawal

op_inside : (h : List (List ℕ)) (k : ℕ) → OpAt h k → k < length h
unfolding OpAt
op_inside [] k a = absurd a
op_inside (x ∷ h) k (inl e) = omega (arith, e.0)
op_inside (x ∷ h) k (inr a) = omega (arith, op_inside h k a)

-- from the last OP that remains on, all goes
record Struck (P : ℕ → Type 0) (h ks : List (List ℕ)) : Type 0 where
  from : ℕ
  last : LastOp P h from
  rest : Remains (λ k. P k ⊎ (from ≤ k)) h (strike ks)

strikes : {P : ℕ → Type 0} {h ks : List (List ℕ)} → Remains P h ks → 0 < op_count ks → Struck P h ks
unfolding op_count OpAt
strikes none c = absurd (omega arith)
strikes {P} (goes {x} {h} {ks} p r) c = go (strikes r c)
  where
    go : Struck P h ks → Struck P (x ∷ h) ks
    go s =
        record {
          from = s.from;
          last =
              record {
                opens = inr s.last.opens;
                stands = s.last.stands;
                last = λ q l a. elim a [ inl e ↦ subst P (sym e.0) p | inr b ↦ s.last.last q l b ];
              };
          rest = goes (inl p) s.rest;
        }
strikes {P} (stays {x} {h} {ks} p r) c = go (decode x) refl (strikes r)
  where
    -- x is no OP: it goes with the rest
    beyond : (decode x ≡ OP → ⊥) → Struck P h ks → Struck P (x ∷ h) ks
    beyond other s =
        record {
          from = s.from;
          last =
              record {
                opens = inr s.last.opens;
                stands = s.last.stands;
                last = λ q l a. elim a [ inl e ↦ absurd (other e.1) | inr b ↦ s.last.last q l b ];
              };
          rest = goes {h = h} (inr (omega (arith, op_inside h s.from s.last.opens))) s.rest;
        }

    -- x is an OP: it is the last
    here : decode x ≡ OP → Struck P (x ∷ h) (x ∷ ks)
    here e =
        record {
          from = length h;
          last =
              record {
                opens = inl (refl, e);
                stands = p;
                last = λ q l a. absurd (omega (arith, op_inside (x ∷ h) q a));
              };
          rest = rw (e, strike) (goes {h = h} (inr (omega arith)) (remains_same (λ k l t. inl t) (λ k l t. elim t [ inl u ↦ u | inr u ↦ absurd (omega arith) ]) r));
        }

    go : (r : Record) → decode x ≡ r → (0 < op_count ks → Struck P h ks) → Struck P (x ∷ h) (x ∷ ks)
    go (make r) e rest = let s = beyond (λ d. never (cc)) (rest (rw (e, op_count) at c)) in record { from = s.from; last = s.last; rest = rw (e, strike) s.rest }
    go OP e rest = here e
    go WD e rest = let s = beyond (λ d. never (cc)) (rest (rw (e, op_count) at c)) in record { from = s.from; last = s.last; rest = rw (e, strike) s.rest }

strike_count : (ks : List (List ℕ)) → 0 < op_count ks → suc (op_count (strike ks)) ≡ op_count ks
unfolding op_count
strike_count [] c = absurd (omega arith)
strike_count (x ∷ ks) c = go (decode x) refl (strike_count ks)
  where
    go : (r : Record) → decode x ≡ r → (0 < op_count ks → suc (op_count (strike ks)) ≡ op_count ks)
        → suc (op_count (strike (x ∷ ks))) ≡ op_count (x ∷ ks)
    go (make r) e rest = rw (e, strike, op_count) (rest (rw (e, op_count) at c))
    go OP e rest = rw (e, strike, op_count)
    go WD e rest = rw (e, strike, op_count) (rest (rw (e, op_count) at c))

strike_no_wd : (ks : List (List ℕ)) → NoWD ks → NoWD (strike ks)
unfolding NoWD
strike_no_wd [] w = tt
strike_no_wd (x ∷ ks) w = go (decode x) refl (strike_no_wd ks w.1)
  where
    go : (r : Record) → decode x ≡ r → NoWD (strike ks) → NoWD (strike (x ∷ ks))
    go (make r) e rest = rw (e, strike) rest
    go OP e rest = rw (e, strike) w.1
    go WD e rest = rw (e, strike) rest

module _ (n : ℕ) where
  struck_inside : (h : List (List ℕ)) (k : ℕ) → StruckOut n h k → k < length h
  unfolding StruckOut
  struck_inside [] k s = absurd s
  struck_inside (x ∷ h) k (inl s) = omega (arith, struck_inside h k s)
  struck_inside (x ∷ h) k (inr (refusal t e)) = omega arith
  struck_inside (x ∷ h) k (inr (withdrawal t e o l p q)) = omega arith

  -- whatever was not struck out was accepted as it was fed
  pub remaining_accepted : (later : List (List ℕ)) (x : List ℕ) (h : List (List ℕ)) → (StruckOut n (later ++ (x ∷ h)) (length h) → ⊥)
      → AcceptedAfter n h x
  unfolding StruckOut
  remaining_accepted [] x h s = go (apply_bytes n (after_bytes n h) x).answer refl
    where
      go : (a : Answer) → (apply_bytes n (after_bytes n h) x).answer ≡ a → is_accepted a
      go (accepted m) e = tt
      go (refused k) e = absurd (s (inr (refusal (λ t. subst is_accepted e t) refl)))
  remaining_accepted (y ∷ later) x h s = remaining_accepted later x h (λ t. s (inl t))

module _ (n : ℕ) where
  -- as many OPs are in force as levels are open
  pub open_levels : (h : List (List ℕ)) → op_count (bytes_in_force n h) ≡ length (after_bytes n h).marks
  unfolding bytes_in_force after_bytes op_count done
  open_levels [] = refl
  open_levels (x ∷ h) = go (apply_bytes n l x).answer refl (open_levels h)
    where
      l : Ledger
      l = after_bytes n h

      ks : List (List ℕ)
      ks = bytes_in_force n h

      by : (m : Made) → (apply_bytes n l x).answer ≡ accepted m → (r : Record) → decode x ≡ r → op_count ks ≡ length l.marks
          → op_count (entered x ks) ≡ length (apply_bytes n l x).ledger.marks
      by m e (make r) s c = rw (s, entered, op_count, when_accepted n l x m e, s, marks_add l (makes l.lines r)) c
      by m e OP s c = rw (s, entered, op_count, when_accepted n l x m e, s) (ap suc c)
      by m e WD s c =
          let p : 0 < length l.marks = level_open n l x m e s in
          rw (s, entered, when_accepted n l x m e, s) (omega (arith, strike_count ks (omega arith), withdrawn_levels l p))

      go : (a : Answer) → (apply_bytes n l x).answer ≡ a → op_count ks ≡ length l.marks
          → op_count (kept (apply_bytes n l x).answer x ks) ≡ length (apply_bytes n l x).ledger.marks
      go (accepted m) e c = rw (e) (by m e (decode x) refl c)
      go (refused k) e c = rw (e, bytes_refused n l x k e) c

  -- no WD is in force
  pub in_force_no_wd : (h : List (List ℕ)) → NoWD (bytes_in_force n h)
  unfolding bytes_in_force NoWD
  in_force_no_wd [] = tt
  in_force_no_wd (x ∷ h) = go (apply_bytes n (after_bytes n h) x).answer (in_force_no_wd h)
    where
      by : (r : Record) → decode x ≡ r → NoWD (bytes_in_force n h) → NoWD (entered x (bytes_in_force n h))
      by (make r) s w = rw (s, entered) ((λ d. never (cc)), w)
      by OP s w = rw (s, entered) ((λ d. never (cc)), w)
      by WD s w = rw (s, entered) (strike_no_wd (bytes_in_force n h) w)

      go : (a : Answer) → NoWD (bytes_in_force n h) → NoWD (kept a x (bytes_in_force n h))
      go (accepted m) w = by (decode x) refl w
      go (refused k) w = w

  -- what is in force is what remains
  pub in_force_remains : (h : List (List ℕ)) → InForce n h (bytes_in_force n h)
  unfolding StruckOut bytes_in_force
  in_force_remains [] = none
  in_force_remains (x ∷ h) = go (apply_bytes n l x).answer refl (in_force_remains h)
    where
      l : Ledger
      l = after_bytes n h

      ks : List (List ℕ)
      ks = bytes_in_force n h

      P : ℕ → Type 0
      P = StruckOut n h

      Now : ℕ → Type 0
      Now k = StrikesOut n P h x k

      -- x strikes out nothing before it
      same : ((k : ℕ) → k < length h → Now k → ⊥) → Remains P h ks → Remains (λ k. P k ⊎ Now k) h ks
      same not r = remains_same (λ k i t. inl t) (λ k i t. elim t [ inl u ↦ u | inr u ↦ absurd (not k i u) ]) r

      outside : P (length h) → ⊥
      outside s = omega (arith, struck_inside n h (length h) s)

      only_itself : (is_accepted (apply_bytes n l x).answer → ⊥) → (k : ℕ) → k < length h → Now k → ⊥
      only_itself not k i (refusal t e) = omega arith
      only_itself not k i (withdrawal t s o m p q) = not t

      nothing : is_accepted (apply_bytes n l x).answer → (decode x ≡ WD → ⊥) → (k : ℕ) → Now k → ⊥
      nothing a not k (refusal t e) = t a
      nothing a not k (withdrawal t s o m p q) = not s

      adds : is_accepted (apply_bytes n l x).answer → (decode x ≡ WD → ⊥) → Remains P h ks → Remains (λ k. P k ⊎ Now k) (x ∷ h) (x ∷ ks)
      adds a not r = stays {h = h} (λ t. elim t [ inl u ↦ outside u | inr u ↦ nothing a not (length h) u ]) (same (λ k i. nothing a not k) r)

      -- the last OP is one only
      from : is_accepted (apply_bytes n l x).answer → (o : ℕ) → LastOp P h o → (k : ℕ) → Now k → o ≤ k
      from a o last k (refusal t e) = absurd (t a)
      from a o last k (withdrawal t s o' last' p q) =
          elim (dec_le o k) [
            | yes i ↦ i
            | no i ↦ absurd (last.stands (last'.last o (omega arith) last.opens))
          ]

      withdraws : is_accepted (apply_bytes n l x).answer → decode x ≡ WD → Struck P h ks → Remains (λ k. P k ⊎ Now k) (x ∷ h) (strike ks)
      withdraws a s c =
          goes {h = h} (inr (withdrawal a s c.from c.last (omega (arith, op_inside h c.from c.last.opens)) (omega arith)))
          (remains_same
          (λ k i t. elim t [ inl u ↦ inl u | inr u ↦ inr (withdrawal a s c.from c.last u (omega arith)) ])
          (λ k i t. elim t [ inl u ↦ inl u | inr u ↦ inr (from a c.from c.last k u) ])
          c.rest)

      by : (m : Made) → (apply_bytes n l x).answer ≡ accepted m → (r : Record) → decode x ≡ r → Remains P h ks
          → Remains (λ k. P k ⊎ Now k) (x ∷ h) (entered x ks)
      by m e (make r) s t = rw (s, entered) (adds (subst is_accepted (sym e) tt) (λ d. never (cc)) t)
      by m e OP s t = rw (s, entered) (adds (subst is_accepted (sym e) tt) (λ d. never (cc)) t)
      by m e WD s t =
          rw (s, entered)
          (withdraws (subst is_accepted (sym e) tt) s
          (strikes t (omega (arith, level_open n l x m e s, open_levels h))))

      go : (a : Answer) → (apply_bytes n l x).answer ≡ a → Remains P h ks → Remains (λ k. P k ⊎ Now k) (x ∷ h) (kept (apply_bytes n l x).answer x ks)
      go (accepted m) e r = rw e (by m e (decode x) refl r)
      go (refused k) e r =
          let not : is_accepted (apply_bytes n l x).answer → ⊥ = λ t. subst is_accepted e t in
          rw e (goes {h = h} (inr (refusal not refl)) (same (only_itself not) r))

  -- every WD is struck out as it is fed
  wd_goes : (x : List ℕ) (h : List (List ℕ)) → decode x ≡ WD → StruckOut n (x ∷ h) (length h)
  unfolding StruckOut
  wd_goes x h s = go (apply_bytes n l x).answer refl
    where
      l : Ledger
      l = after_bytes n h

      go : (a : Answer) → (apply_bytes n l x).answer ≡ a → StruckOut n (x ∷ h) (length h)
      go (accepted m) e =
          let c = strikes (in_force_remains h) (omega (arith, level_open n l x m e s, open_levels h)) in
          inr
          (withdrawal (subst is_accepted (sym e) tt) s c.from c.last (omega (arith, op_inside h c.from c.last.opens)) (omega arith))
      go (refused k) e = inr (refusal (λ t. subst is_accepted e t) refl)

  -- whatever was not struck out is no WD
  pub remaining_no_wd : (later : List (List ℕ)) (x : List ℕ) (h : List (List ℕ)) → (StruckOut n (later ++ (x ∷ h)) (length h) → ⊥) → decode x ≡ WD → ⊥
  unfolding StruckOut
  remaining_no_wd [] x h not s = not (wd_goes x h s)
  remaining_no_wd (y ∷ later) x h not s = remaining_no_wd later x h (λ t. not (inl t)) s

  -- and nothing else remains
  pub in_force_only : (h ks : List (List ℕ)) → InForce n h ks → ks ≡ bytes_in_force n h
  in_force_only h ks r = remains_once r (in_force_remains h)
