-- The tests of a record stand in the order of their numbers, and bytes are refused with a number exactly when a test with it fails and all that
-- are made before it pass.
use mathlib.Core.Path.{◌≡◌, refl, sym, ap, ◌∙◌}
use mathlib.Core.Bool.{Bool, true, false, not, ◌&&◌, ◌||◌, cond}
use mathlib.Core.Logic.Iff
use mathlib.Core.Logic.{◌↔◌, inl, inr}
use mathlib.Core.List.{List, [], ◌∷◌, ◌++◌}
use Prim.Native.Nat.{ℕ}
use lib.Dec.{T, eqb, eqb→eq, eqb_refl, leb}
use lib.ListN.{length}
use Rattle.ints.specs.Tests.{all, any}
use Rattle.ints.proofs.Bools.{never, T_and, and_T, T-or, or_left, or_right, T→true, true→T}
use Rattle.ints.proofs.Lists.{all_agree, all_implies}
use Rattle.ledger.specs.Literals.{holds}
use Rattle.ledger.specs.Ledger.{Ledger}
use Rattle.ledger.specs.Record.{Record, Made, accepted, refused}
use Rattle.ledger.specs.Checks.{Check, ◌else◌, checks}
use Rattle.ledger.specs.Apply.{Finding, pass, fail, finding, judged, apply, done, made}
use Rattle.ledger.specs.Bytes.{Bearing, unknown, bears, mark_of, shape_of, shape, decode, apply_bytes}
use Rattle.ledger.specs.Numbers.{shape_order, record_order, follow, Given, earlier, fails_with, FirstOf}
use Rattle.ledger.proofs.RuleLaws.{checks_follow}
use Rattle.ledger.proofs.Findings.{passed→pass, pass_append, fail_append, finding_number, by_checks}

-- ---- tests that follow an order

pub follow_later : (n : ℕ) (ns : List ℕ) (cs : List Check) → T (follow ns cs) → T (follow (n ∷ ns) cs)
unfolding follow
follow_later n ns [] t = tt
follow_later n ns (c ∷ cs) t = or_right (eqb c.number n && follow (n ∷ ns) cs) (follow ns (c ∷ cs)) t

pub follow_append : (ns ms : List ℕ) (cs ds : List Check) → T (follow ns cs) → T (follow ms ds) → T (follow (ns ++ ms) (cs ++ ds))
unfolding follow
follow_append [] ms [] ds t u = u
follow_append [] ms (c ∷ cs) ds t u = absurd t
follow_append (n ∷ ns) ms [] ds t u = follow_later n (ns ++ ms) ds (follow_append ns ms [] ds tt u)
follow_append (n ∷ ns) ms (c ∷ cs) ds t u =
    let same = eqb c.number n in
    let more = follow (n ∷ (ns ++ ms)) (cs ++ ds) in
    let later = follow (ns ++ ms) (c ∷ (cs ++ ds)) in
    elim (T-or (same && follow (n ∷ ns) cs) (follow ns (c ∷ cs)) t) [
      | inl h ↦ let (e, r) = T_and same (follow (n ∷ ns) cs) h in or_left (same && more) later (and_T same more e (follow_append (n ∷ ns) ms cs ds r u))
      | inr h ↦ or_right (same && more) later (follow_append ns ms (c ∷ cs) ds h u)
    ]

-- every test has a number of the order
follow_in : (ns : List ℕ) (cs : List Check) → T (follow ns cs) → T (all (λ c. holds c.number ns) cs)
unfolding follow
follow_in ns [] t = tt
follow_in [] (c ∷ cs) t = absurd t
follow_in (n ∷ ns) (c ∷ cs) t =
    let same = eqb c.number n in
    elim (T-or (same && follow (n ∷ ns) cs) (follow ns (c ∷ cs)) t) [
      | inl h ↦
          let (e, r) = T_and same (follow (n ∷ ns) cs) h in
          and_T (same || holds c.number ns) (all (λ d. holds d.number (n ∷ ns)) cs) (or_left same (holds c.number ns) e) (follow_in (n ∷ ns) cs r)
      | inr h ↦
          all_implies (λ d. holds d.number ns) (λ d. holds d.number (n ∷ ns)) (λ d. or_right (eqb d.number n) (holds d.number ns)) (c ∷ cs)
          (follow_in ns (c ∷ cs) h)
    ]

-- so that no other is given
pub number_in : (ns : List ℕ) (cs : List Check) {k : ℕ} → T (follow ns cs) → finding cs ≡ fail k → T (holds k ns)
number_in ns cs t = finding_number (λ k. holds k ns) cs (follow_in ns cs t)

-- a number of the order passes what all of them pass
pub holds_all : (p : ℕ → Bool) (ns : List ℕ) (k : ℕ) → T (all p ns) → T (holds k ns) → T (p k)
holds_all p [] k t h = absurd h
holds_all p (n ∷ ns) k t h =
    let (first, others) = T_and (p n) (all p ns) t in
    elim (T-or (eqb k n) (holds k ns) h) [ inl i ↦ rw (eqb→eq k n i) first | inr i ↦ holds_all p ns k others i ]

-- ---- the number given

given_found : (k : ℕ) (cs : List Check) → finding cs ≡ fail k → Given k cs
unfolding finding
given_found k [] e = never (cc)
given_found k (c ∷ cs) e = go c.passes refl e (given_found k cs)
  where
    go : (b : Bool) → c.passes ≡ b → cond b (finding cs) (fail c.number) ≡ fail k → (finding cs ≡ fail k → Given k cs) → Given k (c ∷ cs)
    go true p f rest =
        let g = rest f in
        record {
          before = c ∷ g.before;
          test = g.test;
          after = g.after;
          made = ap (λ ds. c ∷ ds) g.made;
          passed = (true→T p, g.passed);
          fails = g.fails;
          number = g.number;
        }
    go false p f rest = record { before = []; test = c; after = cs; made = refl; passed = tt; fails = p; number = cc }

found_given : (k : ℕ) (cs : List Check) → Given k cs → finding cs ≡ fail k
unfolding finding
found_given k cs g =
    let last : finding (g.test ∷ g.after) ≡ fail k = rw (g.fails, g.number) in
    ap finding g.made ∙ pass_append g.before (g.test ∷ g.after) (passed→pass g.before g.passed) ∙ last

pub given_exactly : (k : ℕ) (cs : List Check) → finding cs ≡ fail k ↔ Given k cs
given_exactly k cs = (given_found k cs, found_given k cs)

-- ---- the number given by the order alone

any_all : {A : Type 0} (p q : A → Bool) → ((x : A) → T (p x) → T (q x) → ⊥) → (xs : List A) → T (any p xs) → T (all q xs) → ⊥
any_all p q f [] s t = s
any_all p q f (x ∷ xs) s t =
    let (h, rest) = T_and (q x) (all q xs) t in
    elim (T-or (p x) (any p xs) s) [ inl k ↦ f x k h | inr k ↦ any_all p q f xs k rest ]

all_pass : {A : Type 0} (p : A → Bool) → ((x : A) → T (p x)) → (xs : List A) → T (all p xs)
all_pass p f [] = tt
all_pass p f (x ∷ xs) = and_T (p x) (all p xs) (f x) (all_pass p f xs)

-- the test passes, if its number comes before k
abbrev as_earlier : List ℕ → ℕ → Check → Bool
as_earlier ns k c = not (holds c.number (earlier k ns)) || c.passes

module _ (n : ℕ) (ns : List ℕ) (k : ℕ) where
  none_earlier : eqb n k ≡ true → (c : Check) → T (as_earlier (n ∷ ns) k c)
  unfolding earlier
  none_earlier e c = simp e tt

  first_earlier : eqb n k ≡ false → (c : Check) → c.number ≡ n → as_earlier (n ∷ ns) k c ≡ c.passes
  unfolding earlier
  first_earlier e c same = simp (e, same, T→true (eqb n n) (eqb_refl n))

  -- a test with the first number of the order, before the others
  module _ (c : Check) (cs : List Check) (same : c.number ≡ n) (rest : finding cs ≡ fail k ↔ FirstOf (n ∷ ns) k cs) where
    abbrev others : Bool
    others = all (as_earlier (n ∷ ns) k) cs

    passing : c.passes ≡ true → (finding cs ≡ fail k ↔ FirstOf (n ∷ ns) k (c ∷ cs))
    passing p = (λ e. more (rest.0 e), λ g. rest.1 (less g))
      where
        more : FirstOf (n ∷ ns) k cs → FirstOf (n ∷ ns) k (c ∷ cs)
        more g =
            record {
              fails = or_right (fails_with k c) (any (fails_with k) cs) g.fails;
              passed = and_T (as_earlier (n ∷ ns) k c) others (or_right (not (holds c.number (earlier k (n ∷ ns)))) c.passes (true→T p)) g.passed;
            }

        less : FirstOf (n ∷ ns) k (c ∷ cs) → FirstOf (n ∷ ns) k cs
        less g =
            record {
              fails =
                  elim (T-or (fails_with k c) (any (fails_with k) cs) g.fails) [
                    | inl h ↦ absurd (rw p at (T_and (eqb c.number k) (not c.passes) h).1)
                    | inr h ↦ h
                  ];
              passed = (T_and (as_earlier (n ∷ ns) k c) others g.passed).1;
            }

    failing : c.passes ≡ false → (fail c.number ≡ fail k ↔ FirstOf (n ∷ ns) k (c ∷ cs))
    failing p = (to, from)
      where
        to : fail c.number ≡ fail k → FirstOf (n ∷ ns) k (c ∷ cs)
        to e =
            let is : c.number ≡ k = cc in
            let first : eqb n k ≡ true = T→true (eqb n k) (rw (sym same ∙ is) (eqb_refl k)) in
            record {
              fails = or_left (fails_with k c) (any (fails_with k) cs) (rw (is, p, T→true (eqb k k) (eqb_refl k)) tt);
              passed = all_pass (as_earlier (n ∷ ns) k) (none_earlier first) (c ∷ cs);
            }

        from : FirstOf (n ∷ ns) k (c ∷ cs) → fail c.number ≡ fail k
        from g = go (eqb n k) refl
          where
            go : (b : Bool) → eqb n k ≡ b → fail c.number ≡ fail k
            go true e = ap fail (same ∙ eqb→eq n k (true→T e))
            go false e = absurd (rw (first_earlier e c same, p) at (T_and (as_earlier (n ∷ ns) k c) others g.passed).0)

    first_here : finding (c ∷ cs) ≡ fail k ↔ FirstOf (n ∷ ns) k (c ∷ cs)
    unfolding finding
    first_here = go c.passes refl
      where
        go : (b : Bool) → c.passes ≡ b → cond b (finding cs) (fail c.number) ≡ fail k ↔ FirstOf (n ∷ ns) k (c ∷ cs)
        go true p = passing p
        go false p = failing p

  -- no test has the first number of the order
  module _ (cs : List Check) (new : T (not (holds n ns))) (known : T (all (λ c. holds c.number ns) cs)) where
    none_known : n ≡ k → T (any (fails_with k) cs) → ⊥
    none_known e s =
        any_all (fails_with k) (λ c. holds c.number ns)
        (λ c f t.
        let is = eqb→eq c.number k (T_and (eqb c.number k) (not c.passes) f).0 in
        let there : T (holds n ns) = rw (e ∙ sym is) t in
        absurd (rw (T→true (holds n ns) there) at new))
        cs s known

    same_earlier : eqb n k ≡ false → all (as_earlier (n ∷ ns) k) cs ≡ all (as_earlier ns k) cs
    unfolding earlier
    same_earlier e = all_agree (λ c. holds c.number ns) (as_earlier (n ∷ ns) k) (as_earlier ns k) same cs known
      where
        same : (c : Check) → T (holds c.number ns) → as_earlier (n ∷ ns) k c ≡ as_earlier ns k c
        same c t = go (eqb c.number n) refl
          where
            go : (b : Bool) → eqb c.number n ≡ b → as_earlier (n ∷ ns) k c ≡ as_earlier ns k c
            go true f = absurd (rw (← eqb→eq c.number n (true→T f), T→true (holds c.number ns) t) at new)
            go false f = rw (e, cond, f)

    first_later : {P : Type 0} → (P ↔ FirstOf ns k cs) → (P ↔ FirstOf (n ∷ ns) k cs)
    first_later {P} (to, from) = go (eqb n k) refl
      where
        go : (b : Bool) → eqb n k ≡ b → (P ↔ FirstOf (n ∷ ns) k cs)
        go true e =
            let is = eqb→eq n k (true→T e) in
            (λ p. absurd (none_known is (to p).fails), λ g. absurd (none_known is g.fails))
        go false e = (
          λ p. record { fails = (to p).fails; passed = rw (same_earlier e) (to p).passed },
          λ g. from (record { fails = g.fails; passed = rw (same_earlier e) at g.passed }),
        )

-- no number stands twice
distinct : List ℕ → Bool
distinct [] = true
distinct (n ∷ ns) = not (holds n ns) && distinct ns

-- tests that follow an order in which no number stands twice give the number of the first in that order that fails
first_exactly : (ns : List ℕ) (k : ℕ) → T (distinct ns) → (cs : List Check) → T (follow ns cs) → (finding cs ≡ fail k ↔ FirstOf ns k cs)
unfolding finding distinct follow
first_exactly ns k d [] t = (λ e. never (cc), λ g. absurd g.fails)
first_exactly [] k d (c ∷ cs) t = absurd t
first_exactly (n ∷ ns) k d (c ∷ cs) t =
    let (new, others) = T_and (not (holds n ns)) (distinct ns) d in
    elim (T-or (eqb c.number n && follow (n ∷ ns) cs) (follow ns (c ∷ cs)) t) [
      | inl h ↦
          let (e, rest) = T_and (eqb c.number n) (follow (n ∷ ns) cs) h in
          first_here n ns k c cs (eqb→eq c.number n e) (first_exactly (n ∷ ns) k d cs rest)
      | inr h ↦ first_later n ns k (c ∷ cs) new (follow_in ns (c ∷ cs) h) (first_exactly ns k others (c ∷ cs) h)
    ]

-- ---- what is refused, by its tests

judged_number : (f : Finding) (l d : Ledger) (m : Made) (k : ℕ) → (judged f l (record { answer = accepted m; ledger = d })).answer ≡ refused k ↔ f ≡ fail k
judged_number pass l d m k = (λ e. cc, λ e. cc)
judged_number (fail i) l d m k = (λ e. cc, λ e. cc)

-- ---- a record

module _ (n : ℕ) (l : Ledger) (r : Record) (k : ℕ) where
  pub apply_found : (apply n l r).answer ≡ refused k ↔ finding (checks n l r) ≡ fail k
  apply_found = rw (by_checks n l r) (judged_number (finding (checks n l r)) l (done l r) (made l r) k)

  pub record_given : (apply n l r).answer ≡ refused k ↔ FirstOf record_order k (checks n l r)
  unfolding distinct
  record_given = Iff.trans apply_found (first_exactly record_order k tt (checks n l r) (checks_follow n l r))

-- ---- bytes

pub shape_follow : (b : List ℕ) → T (follow shape_order (shape b))
unfolding follow shape
shape_follow b = go (mark_of b)
  where
    go : (m : Bearing) → T (follow shape_order ((leb 2 (length b) else 3) ∷ shape_of b m))
    go unknown = tt
    go (bears m) = tt

module _ (n : ℕ) (l : Ledger) (b : List ℕ) where
  abbrev pub byte_tests : List Check
  byte_tests = shape b ++ checks n l (decode b)

  pub bytes_follow : T (follow (shape_order ++ record_order) byte_tests)
  bytes_follow = follow_append shape_order record_order (shape b) (checks n l (decode b)) (shape_follow b) (checks_follow n l (decode b))

  -- the tests of the shape and then those of the record, in one list
  pub by_tests : apply_bytes n l b ≡ judged (finding byte_tests) l (record { answer = accepted (made l (decode b)); ledger = done l (decode b) })
  unfolding apply_bytes
  by_tests = by (finding (shape b)) refl
    where
      by : (f : Finding) → finding (shape b) ≡ f
          → judged f l (apply n l (decode b)) ≡ judged (finding byte_tests) l (record { answer = accepted (made l (decode b)); ledger = done l (decode b) })
      by pass e = rw (pass_append (shape b) (checks n l (decode b)) e) (by_checks n l (decode b))
      by (fail k) e = rw (fail_append (shape b) (checks n l (decode b)) k e)

  pub bytes_found : (k : ℕ) → (apply_bytes n l b).answer ≡ refused k ↔ finding byte_tests ≡ fail k
  bytes_found k = rw by_tests (judged_number (finding byte_tests) l (done l (decode b)) (made l (decode b)) k)
