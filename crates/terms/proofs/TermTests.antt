-- Sums on cells in order: the tests that the rules on sums share are tests of the cells, what passes them may be summed, and what is left to test is
-- the sum.
use mathlib.Core.Path.{◌≡◌, refl, sym, ap, ◌∙◌}
use mathlib.Core.Bool.{Bool, true, false, ◌&&◌, ◌||◌, cond}
use mathlib.Core.List.{List, [], ◌∷◌, ◌++◌}
use Prim.Native.Nat.{ℕ, ◌+◌, ◌*◌, ◌<◌}
use borrow.Author.Tests.{le-leb}
use lib.Dec.{T, ltb, ltb→lt}
use lib.IntN.{ℤ}
use lib.ListN.{length, get_or}
use Rattle.ints.specs.Tests.{eq_z, between, all}
use Rattle.ints.proofs.Bools.{T_and, and_T, T→true}
use Rattle.ints.proofs.Lists.{all_at, all_implies, all_agree, all_map, all_and}
use Rattle.rows.specs.Form.{Form, form_at, in_range, legal_multiplier, at_most, is_zero, is_divided}
use Rattle.rows.specs.Sum.{Term, summed}
use Rattle.rows.specs.Summable.{row_at, terms, summand, Summable, Picked}
use Rattle.rows.specs.Conditions.{farkas, clash}
use Rattle.literals.specs.Lists.{Low}
use Rattle.ledger.specs.Literals.{ascending}
use Rattle.ledger.specs.Ledger.{nth_form, nth_row}
use Rattle.ledger.specs.Record.{FK, CL}
use Rattle.ledger.specs.Checks.{Check, ◌else◌, form_in, forms_of, divisor_is, first_divisor, tests}
use Rattle.ledger.specs.Apply.{Finding, pass, fail, finding}
use Rattle.ledger.proofs.Findings.{pass→passed}
use Rattle.rules.specs.Held.{FormsHeld}
use Rattle.rules.specs.Read.{forms_in}
use Rattle.rules.proofs.HeldLaws.{Finds, form_count, form_is, form_legal, form_inside, in_force, picked}
use Rattle.rules.proofs.FieldLaws.{fails_first, others_decide, low_form}
use Rattle.terms.specs.Picks.{Paired, term_allowed, shared}
use Rattle.terms.proofs.TermParts.{forms_terms, first_divisor_lem, sum_agrees, legal_small, legal_numbers, at_most_or_zero, divided}

-- the divisor of the first form
abbrev pub modulus : ℕ → List ℤ → List ℕ → ℤ
modulus n cells ps = (form_at n cells (get_or ps 0 0)).divisor

abbrev pub has_divisor : ℕ → List ℤ → ℤ → ℕ → Bool
has_divisor n cells d f = eq_z (form_at n cells f).divisor d

-- ---- findings

-- two tests with the same number
both : (a b : Bool) (x y : Finding) → cond a (cond b x y) y ≡ cond (a && b) x y
both true b x y = refl
both false b x y = refl

where_holds : (b : Bool) (x y z : Finding) → (T b → x ≡ y) → cond b x z ≡ cond b y z
where_holds true x y z f = f tt
where_holds false x y z f = refl

module _ {n many : ℕ} {cells : List ℤ} (h : FormsHeld n many cells) {ps : List ℕ} {ms : List ℤ} (p : Paired ps ms) where
  abbrev pub ts : List Term
  ts = terms ps ms

  abbrev pub fs : List Form
  fs = forms_in n many cells

  -- ---- the forms of the terms, in force, are read from the cells

  abbrev in_force_lem : Term → Bool
  in_force_lem u = ltb u.form many

  all_in_force : T (in_force many ps) → T (all in_force_lem ts)
  all_in_force k = rw (← all_map (λ f. ltb f many) (λ u. u.form) ts, forms_terms ps ms p.paired) k

  form_read : (u : Term) → T (in_force_lem u) → nth_form fs u.form ≡ form_at n cells u.form
  form_read u k = form_is h u.form (ltb→lt _ _ k)

  sum_read : T (in_force many ps) → summed n (nth_row fs) ts ≡ summed n (row_at n cells) ts
  sum_read k = sum_agrees in_force_lem (nth_row fs) (row_at n cells) (λ u i. ap (λ (f : Form). f.row) (form_read u i)) _ ts (all_in_force k)

  -- ---- the tests

  module _ (kind_is : ℤ → Bool) (low high : ℤ) (ranged : (k : ℤ) → kind_is k ≡ between low high k) where
    abbrev kind_is_lem : Term → Bool
    kind_is_lem u = kind_is (nth_form fs u.form).kind

    abbrev multiplier_is : Term → Bool
    multiplier_is u = legal_multiplier (nth_form fs u.form).kind u.multiplier

    -- the shared tests, on the ledger
    abbrev on_ledger : List Check
    on_ledger =
        (all (form_in fs) (forms_of ts) else 8)
        ∷ (ascending (forms_of ts) else 9)
        ∷ (all kind_is_lem ts else 10)
        ∷ (all multiplier_is ts else 10)
        ∷ []

    allowed_read : T (in_force many ps) → all kind_is_lem ts && all multiplier_is ts ≡ all (term_allowed n cells low high) ts
    allowed_read k =
        all_and kind_is_lem multiplier_is ts
        ∙ all_agree in_force_lem (λ u. kind_is_lem u && multiplier_is u) (term_allowed n cells low high)
        (λ u i. rw (form_read u i, ranged (form_at n cells u.form).kind)) ts (all_in_force k)

    shared_read : finding (shared n many cells low high ps ms) ≡ finding on_ledger
    unfolding finding
    shared_read =
        let forms : all (form_in fs) ps ≡ in_force many ps = ap (λ (k : ℕ). all (λ f. ltb f k) ps) (form_count h) in
        rw (forms_terms ps ms p.paired, forms)
        (sym (where_holds (in_force many ps) _ _ _
        (λ k. ap (λ (v : Finding). cond (ascending ps) v (fail 9))
        (both (all kind_is_lem ts) (all multiplier_is ts) pass (fail 10)
        ∙ ap (λ (b : Bool). cond b pass (fail 10)) (allowed_read k)))))

    -- they fail, or what is tested behind them decides

    shared_fails : (cs : List Check) {k : ℕ} → fail k ≡ finding (shared n many cells low high ps ms) → fail k ≡ finding (on_ledger ++ cs)
    shared_fails cs e = fails_first on_ledger cs (e ∙ shared_read)

    shared_passes : (cs : List Check) → pass ≡ finding (shared n many cells low high ps ms) → {w : Finding} → w ≡ finding cs → w ≡ finding (on_ledger ++ cs)
    shared_passes cs e d = others_decide on_ledger cs (e ∙ shared_read) d

  -- the divisor of the first form
  modulus_read : T (in_force many ps) → first_divisor fs ts ≡ modulus n cells ps
  modulus_read k =
      first_divisor_lem fs ps ms p.some p.paired
      ∙ ap (λ (f : Form). f.divisor) (form_is h (get_or ps 0 0) (ltb→lt _ _ (all_at (λ f. ltb f many) ps 0 0 k p.some)))

  divisors_read : (d : ℤ) → T (in_force many ps) → all (divisor_is fs d) ts ≡ all (has_divisor n cells d) ps
  divisors_read d k =
      all_agree in_force_lem (divisor_is fs d) (λ u. has_divisor n cells d u.form) (λ u i. rw (form_read u i)) ts (all_in_force k)
      ∙ sym (all_map (has_divisor n cells d) (λ u. u.form) ts)
      ∙ ap (all (has_divisor n cells d)) (forms_terms ps ms p.paired)

  -- ---- what passes may be summed

  term_summand : (low high : ℤ) (u : Term) → T (in_force_lem u && term_allowed n cells low high u) → T (summand n cells u)
  term_summand low high u k =
      let form = form_at n cells u.form in
      let (i, a) = T_and (in_force_lem u) (term_allowed n cells low high u) k in
      let f : u.form < many = ltb→lt _ _ i in
      let m = (T_and (between low high form.kind) (legal_multiplier form.kind u.multiplier) a).1 in
      let inside = le-leb ((n + 3) * u.form + (n + 3)) (length cells) (form_inside h u.form f).inside in
      let numbers = T→true (all in_range form.row) (legal_numbers n form (form_legal h u.form f)) in
      simp (inside, numbers) (legal_small form.kind u.multiplier m)

  module _ (low high : ℤ) (e : pass ≡ finding (shared n many cells low high ps ms)) where
    pass_in_force : T (in_force many ps)
    pass_in_force = (pass→passed (shared n many cells low high ps ms) (sym e)).0

    pub pass_picked : Picked n cells ps
    pass_picked = picked h ps (T→true (in_force many ps) pass_in_force)

    pub pass_summable : Summable n cells ps ms
    pass_summable =
        let is-allowed = term_allowed n cells low high in
        let q = pass→passed (shared n many cells low high ps ms) (sym e) in
        let both = and_T (all in_force_lem ts) (all is-allowed ts) (all_in_force q.0) q.1.1.0 in
        record {
          few = p.few;
          paired = p.paired;
          summands =
              all_implies (λ u. in_force_lem u && is-allowed u) (summand n cells) (term_summand low high) ts
              (rw (all_and in_force_lem is-allowed ts) at both);
        }

  -- ---- the rules

  pub farkas_fails : {k : ℕ} → fail k ≡ finding (shared n many cells at_most is_zero ps ms) → Finds n many cells (FK ts) (fail k)
  unfolding tests
  farkas_fails e = shared_fails (λ k. eq_z k at_most || eq_z k is_zero) at_most is_zero at_most_or_zero _ e

  pub farkas_decides : pass ≡ finding (shared n many cells at_most is_zero ps ms) → {w : Finding}
      → w ≡ finding ((farkas (summed n (row_at n cells) ts) else 11) ∷ []) → Finds n many cells (FK ts) w
  unfolding tests
  farkas_decides e d =
      shared_passes (λ k. eq_z k at_most || eq_z k is_zero) at_most is_zero at_most_or_zero _ e
      (rw (sum_read (pass_in_force at_most is_zero e)) d)

  pub clash_fails : {k : ℕ} → fail k ≡ finding (shared n many cells is_divided is_divided ps ms) → Finds n many cells (CL ts) (fail k)
  unfolding tests
  clash_fails e = shared_fails (λ k. eq_z k is_divided) is_divided is_divided divided _ e

  pub clash_decides : pass ≡ finding (shared n many cells is_divided is_divided ps ms) → {d : ℤ} → d ≡ modulus n cells ps → {w : Finding}
      → w ≡ finding ((all (has_divisor n cells d) ps else 10) ∷ (clash d (summed n (row_at n cells) ts) else 11) ∷ []) → Finds n many cells (CL ts) w
  unfolding tests
  clash_decides e {d} i f =
      let k = pass_in_force is_divided is_divided e in
      shared_passes (λ k. eq_z k is_divided) is_divided is_divided divided _ e
      (rw (modulus_read k ∙ sym i, divisors_read d k, sum_read k) f)

  -- where the tests pass, the literals of the forms are low
  pub low_picks : (cs : List Check) → pass ≡ finding ((all (form_in fs) (forms_of ts) else 8) ∷ cs) → Low ps
  low_picks cs e =
      let q = (pass→passed ((all (form_in fs) (forms_of ts) else 8) ∷ cs) (sym e)).0 in
      record { all = λ i l. low_form h (get_or ps i 0) (all_at (form_in fs) ps i 0 (rw (forms_terms ps ms p.paired) at q) l) }
