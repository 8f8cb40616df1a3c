-- What a list of tests finds, and what a record did where it was accepted and where it was refused, as a record and as bytes.
-- A proof about acceptance begins here.
use mathlib.Core.Path.{◌≡◌, refl, ap}
use mathlib.Core.Bool.{Bool, true, false, cond}
use mathlib.Core.List.{List, [], ◌∷◌, ◌++◌}
use Prim.Native.Nat.{ℕ}
use lib.Dec.{T}
use Rattle.ints.specs.Tests.{all}
use Rattle.ints.proofs.Bools.{never, T→true, T_and}
use Rattle.ledger.specs.Ledger.{Ledger}
use Rattle.ledger.specs.Record.{Record, make, OP, WD, Made, accepted, refused}
use Rattle.ledger.specs.Checks.{Check, tests, makes, room, checks, Passed}
use Rattle.ledger.specs.Apply.{Finding, pass, fail, finding, Outcome, judged, apply, done, made}
use Rattle.ledger.specs.Settles.{proposed_by, proposed, stored, settles}
use Rattle.ledger.specs.Bytes.{shape, decode, apply_bytes}

-- ---- a list of tests

pub pass→passed : (cs : List Check) → finding cs ≡ pass → Passed cs
unfolding finding
pass→passed [] e = tt
pass→passed (c ∷ cs) e = go c.passes e (pass→passed cs)
  where
    go : (b : Bool) → cond b (finding cs) (fail c.number) ≡ pass → (finding cs ≡ pass → Passed cs) → T b × Passed cs
    go true f rest = (tt, rest f)
    go false f rest = never (cc)

pub passed→pass : (cs : List Check) → Passed cs → finding cs ≡ pass
unfolding finding
passed→pass [] p = refl
passed→pass (c ∷ cs) p = simp (T→true c.passes p.0, passed→pass cs p.1)

pub pass_append : (cs ds : List Check) → finding cs ≡ pass → finding (cs ++ ds) ≡ finding ds
unfolding finding
pass_append [] ds e = refl
pass_append (c ∷ cs) ds e = let p = pass→passed (c ∷ cs) e in simp (T→true c.passes p.0, pass_append cs ds (passed→pass cs p.1))

pub fail_append : (cs ds : List Check) (k : ℕ) → finding cs ≡ fail k → finding (cs ++ ds) ≡ fail k
unfolding finding
fail_append [] ds k e = cc
fail_append (c ∷ cs) ds k e = go c.passes e (fail_append cs ds k)
  where
    go : (b : Bool) → cond b (finding cs) (fail c.number) ≡ fail k → (finding cs ≡ fail k → finding (cs ++ ds) ≡ fail k)
        → cond b (finding (cs ++ ds)) (fail c.number) ≡ fail k
    go true f rest = rest f
    go false f rest = f

pub passed_front : (cs ds : List Check) → Passed (cs ++ ds) → Passed cs
passed_front [] ds p = tt
passed_front (c ∷ cs) ds p = (p.0, passed_front cs ds p.1)

pub passed_back : (cs ds : List Check) → Passed (cs ++ ds) → Passed ds
passed_back [] ds p = p
passed_back (c ∷ cs) ds p = passed_back cs ds p.1

-- a list of tests refuses with none but its numbers
pub finding_number : (p : ℕ → Bool) (cs : List Check) {j : ℕ} → T (all (λ c. p c.number) cs) → finding cs ≡ fail j → T (p j)
unfolding finding
finding_number p [] t e = never (cc)
finding_number p (c ∷ cs) {j} t e =
    let (first, others) = T_and (p c.number) (all (λ d. p d.number) cs) t in
    go c.passes e first (finding_number p cs others)
  where
    go : (b : Bool) → cond b (finding cs) (fail c.number) ≡ fail j → T (p c.number) → (finding cs ≡ fail j → T (p j)) → T (p j)
    go true e h rest = rest e
    go false e h rest = let s : c.number ≡ j = cc in rw (← s) h

-- ---- what is judged by a finding

judged_accepted : (f : Finding) (l : Ledger) (o : Outcome) (m : Made) → (judged f l o).answer ≡ accepted m → (f ≡ pass) × (judged f l o ≡ o)
judged_accepted pass l o m e = (refl, refl)
judged_accepted (fail k) l o m e = (cc, cc)

judged_refused : (f : Finding) (l : Ledger) (o : Outcome) (k : ℕ) → (o.answer ≡ refused k → o.ledger ≡ l)
    → (judged f l o).answer ≡ refused k → (judged f l o).ledger ≡ l
judged_refused pass l o k same e = same e
judged_refused (fail j) l o k same e = refl

-- what the ledger has, and the outcome's ledger has where the tests pass, the ledger has after the judgement
pub judged_keeps : (P : Ledger → Type 0) (cs : List Check) (l : Ledger) (o : Outcome) → P l → (Passed cs → P o.ledger)
    → P (judged (finding cs) l o).ledger
unfolding finding
judged_keeps P [] l o has f = f tt
judged_keeps P (c ∷ cs) l o has f = go c.passes (λ t. judged_keeps P cs l o has (λ ts. f (t, ts)))
  where
    go : (b : Bool) → (T b → P (judged (finding cs) l o).ledger) → P (judged (cond b (finding cs) (fail c.number)) l o).ledger
    go true rest = rest tt
    go false rest = has

-- ---- a record, on a ledger of forms of n unknowns

pub by_checks : (n : ℕ) (l : Ledger) (r : Record)
    → apply n l r ≡ judged (finding (checks n l r)) l (record { answer = accepted (made l r); ledger = done l r })
unfolding apply
by_checks n l r = refl

-- the tests of its rule come first, and what the rule makes is then settled by those of the ledger
pub in_two_steps : (n : ℕ) (l : Ledger) (r : Record) → apply n l r ≡ settles l (proposed n l.forms l.lines r)
unfolding apply proposed settles stored
in_two_steps n l (make q) = by (finding (tests n l.forms l.lines q)) refl
  where
    by : (f : Finding) → finding (tests n l.forms l.lines q) ≡ f
        → judged (finding (checks n l (make q))) l (record { answer = accepted (made l (make q)); ledger = done l (make q) })
        ≡ settles l (proposed_by f (makes l.lines q))
    by pass e = rw (pass_append (tests n l.forms l.lines q) (room l (makes l.lines q)) e)
    by (fail k) e = rw (fail_append (tests n l.forms l.lines q) (room l (makes l.lines q)) k e)
in_two_steps n l OP = refl
in_two_steps n l WD = refl

-- what the ledger has, and an accepted record leaves, the ledger has after any record
pub apply_keeps : (P : Ledger → Type 0) (n : ℕ) (l : Ledger) (r : Record) → P l → (Passed (checks n l r) → P (done l r)) → P (apply n l r).ledger
apply_keeps P n l r has f = rw (by_checks n l r) (judged_keeps P (checks n l r) l _ has f)

module _ (n : ℕ) (l : Ledger) (r : Record) where
  pub accepted_exactly : Passed (checks n l r) → apply n l r ≡ record { answer = accepted (made l r); ledger = done l r }
  accepted_exactly p = rw (by_checks n l r, passed→pass (checks n l r) p)

  accepted_passed : (m : Made) → (apply n l r).answer ≡ accepted m → Passed (checks n l r)
  accepted_passed m e = pass→passed (checks n l r) (judged_accepted (finding (checks n l r)) l _ m (rw (by_checks n l r) at e)).0

  pub apply_accepted : (m : Made) → (apply n l r).answer ≡ accepted m → Passed (checks n l r) × ((apply n l r).ledger ≡ done l r) × (m ≡ made l r)
  apply_accepted m e =
      let p = accepted_passed m e in
      let same = accepted_exactly p in
      (p, ap (λ (o : Outcome). o.ledger) same, (cc))

  pub apply_refused : (k : ℕ) → (apply n l r).answer ≡ refused k → (apply n l r).ledger ≡ l
  apply_refused k e = rw (by_checks n l r) (judged_refused (finding (checks n l r)) l _ k (λ f. cc) (rw (by_checks n l r) at e))

-- ---- bytes

module _ (n : ℕ) (l : Ledger) (b : List ℕ) where
  pub bytes_accepted : (m : Made) → (apply_bytes n l b).answer ≡ accepted m → Passed (shape b) × (apply_bytes n l b ≡ apply n l (decode b))
  unfolding apply_bytes
  bytes_accepted m e = let (p, same) = judged_accepted (finding (shape b)) l (apply n l (decode b)) m e in (pass→passed (shape b) p, same)

  pub bytes_refused : (k : ℕ) → (apply_bytes n l b).answer ≡ refused k → (apply_bytes n l b).ledger ≡ l
  unfolding apply_bytes
  bytes_refused k e = judged_refused (finding (shape b)) l (apply n l (decode b)) k (apply_refused n l (decode b) k) e
