-- What the rules propose, from what they read: a record's fields, forms that are low enough for their literals, a test that fails or passes
-- behind others; and FM and PM.
use mathlib.Core.Path.{◌≡◌, refl, sym, ap, ap₂, subst, ◌∙◌}
use mathlib.Core.Bool.{Bool, true, false}
use mathlib.Core.List.{List, [], ◌∷◌, ◌++◌}
use Prim.Native.Nat.{ℕ, ◌≤◌, ◌<◌}
use native.Mathlib.Omega.{arith}
use lib.Dec.{T, ltb→lt}
use lib.IntN.{ℤ}
use lib.ListN.{length, take}
use lib.Seq.{take-append_seam}
use Rattle.rows.specs.Limits.{unknowns}
use Rattle.rows.specs.Row.{Row}
use Rattle.rows.specs.Form.{Form, form_of, form_at, legal}
use Rattle.rows.specs.Summable.{row_at, Inside}
use Rattle.ledger.specs.Limits.{most_forms}
use Rattle.ledger.specs.Ledger.{Line, New, nth_form, nth_row, new_form}
use Rattle.ledger.specs.Record.{Rule, make, FM, PM}
use Rattle.ledger.specs.Checks.{Check, ◌else◌, form_in, both_are, tests, makes}
use Rattle.ledger.specs.Apply.{Finding, pass, fail, finding}
use Rattle.ledger.specs.Settles.{proposes, proposed}
use Rattle.ledger.proofs.Findings.{pass→passed, pass_append, fail_append}
use Rattle.session.specs.Limits.{form_cells}
use Rattle.session.specs.Answers.{number_of, finding_of}
use Rattle.session.specs.declared.answers.Refusal.{Refusal}
use Rattle.session.specs.declared.answers.Refusal.TheVariants.{IllegalContent}
use Rattle.std.specs.Prelude.{Result, Ok, Err, IsErrAnd}
use Rattle.std.proofs.lemmas.Result.{err_from_is_err_and}
use Rattle.proposals.specs.declared.Proposal.{Proposal as Code}
use Rattle.proposals.specs.declared.Proposal.TheVariants.{Form as MakesForm, Line as Makes}
use Rattle.proposals.specs.declared.Scratch.{Scratch}
use Rattle.proposals.specs.Proposing.{premise_from, Proposes, ProposesBy}
use Rattle.proposals.proofs.Making.{refusing, proposing}
use Rattle.rules.specs.Held.{FormsHeld}
use Rattle.rules.specs.Read.{forms_in, forms_read, ProposesRule}
use Rattle.rules.specs.declared.held.Forms.{Forms}
use Rattle.rules.proofs.HeldLaws.{form_count, form_is, form_inside}
use Rattle.rules.proofs.FindingWalk.{whole, past, fails, passes}

-- ---- tests in front of others

module _ (cs ds : List Check) where
  -- they fail
  pub fails_first : {k : ℕ} → fail k ≡ finding cs → fail k ≡ finding (cs ++ ds)
  fails_first {k} e = sym (fail_append cs ds k (sym e))

  -- they pass, so that the others decide
  pub others_decide : pass ≡ finding cs → {w : Finding} → w ≡ finding ds → w ≡ finding (cs ++ ds)
  others_decide e d = d ∙ sym (pass_append cs ds (sym e))

-- ---- a refusal that is passed on

pub passed_on : (r : Result (Unit {0}) Refusal) (why : Refusal) → IsErrAnd r (λ e. e ≡ why) → {w : Finding} → fail (number_of why) ≡ w → finding_of r ≡ w
passed_on r why i d = let p = err_from_is_err_and r i in rw (p.1, p.2) d

pub refused : (f : Forms) (q : Rule) {r : Result Code Refusal} {s : Scratch} (why : Refusal) → IsErrAnd r (λ e. e ≡ why)
    → ((ls : List Line) → fail (number_of why) ≡ finding (tests unknowns (forms_read f) ls q)) → ProposesRule f q r s
refused f q {r} why i e ls = let p = err_from_is_err_and r i in rw (p.1, p.2) (refusing unknowns (forms_read f) ls q (e ls))

module _ {n many : ℕ} {cells : List ℤ} (h : FormsHeld n many cells) where
  pub low_form : (f : ℕ) → T (form_in (forms_in n many cells) f) → f < most_forms
  low_form f i = omega (arith, ltb→lt f many (rw (form_count h) at i), h.few)

  pub low_two : (a b : ℕ) (cs : List Check) {v : Finding}
      → v ≡ finding ((form_in (forms_in n many cells) a else 8) ∷ (form_in (forms_in n many cells) b else 8) ∷ cs)
      → v ≡ pass → (a < most_forms) × (b < most_forms)
  low_two a b cs e p =
      let q =
      pass→passed ((form_in (forms_in n many cells) a else 8) ∷ (form_in (forms_in n many cells) b else 8) ∷ cs)
      (sym e ∙ p) in
      (low_form a q.0, low_form b q.1.0)

  pub low_three : (a b c : ℕ) (cs : List Check) {v : Finding}
      → v ≡ finding ((form_in (forms_in n many cells) a else 8) ∷ (form_in (forms_in n many cells) b else 8) ∷ (form_in (forms_in n many cells) c else 8) ∷ cs)
      → v ≡ pass → (a < most_forms) × (b < most_forms) × (c < most_forms)
  low_three a b c cs e p =
      let q =
      pass→passed
      ((form_in (forms_in n many cells) a else 8) ∷ (form_in (forms_in n many cells) b else 8) ∷ (form_in (forms_in n many cells) c else 8) ∷ cs)
      (sym e ∙ p) in
      (low_form a q.0, low_form b q.1.0, low_form c q.1.1.0)

-- ---- two forms that passed

module _ {n many : ℕ} {cells : List ℤ} (h : FormsHeld n many cells) (j k : ℤ) (a b : ℕ)
    (e : pass ≡ finding (both_are (forms_in n many cells) j a k b)) where
  both_in : T (form_in (forms_in n many cells) a) × T (form_in (forms_in n many cells) b)
  both_in = let q = pass→passed (both_are (forms_in n many cells) j a k b) (sym e) in (q.0, q.1.0)

  pub both_below : (a < many) × (b < many)
  both_below = (ltb→lt a many (rw (form_count h) at both_in.0), ltb→lt b many (rw (form_count h) at both_in.1))

  pub both_low : (a < most_forms) × (b < most_forms)
  both_low = (low_form h a both_in.0, low_form h b both_in.1)

  pub both_inside : Inside n cells a × Inside n cells b
  both_inside = (form_inside h a both_below.0, form_inside h b both_below.1)

  -- the condition on them, or on their rows, decides

  pub then_forms : {c : Bool} {w : Finding} (test : Form → Form → Bool) → c ≡ test (form_at n cells a) (form_at n cells b)
      → w ≡ finding ((c else 11) ∷ [])
      → w ≡ finding ((test (nth_form (forms_in n many cells) a) (nth_form (forms_in n many cells) b) else 11) ∷ [])
  then_forms test g d =
      let forms = ap₂ test (form_is h a both_below.0) (form_is h b both_below.1) in
      d ∙ ap (λ (t : Bool). finding ((t else 11) ∷ [])) (g ∙ sym forms)

  pub then_rows : {c : Bool} {w : Finding} (test : Row → Row → Bool) → c ≡ test (row_at n cells a) (row_at n cells b)
      → w ≡ finding ((c else 11) ∷ [])
      → w ≡ finding ((test (nth_row (forms_in n many cells) a) (nth_row (forms_in n many cells) b) else 11) ∷ [])
  then_rows test g d = then_forms (λ x y. test x.row y.row) g d

-- ---- a rule on two forms, whose last test is a condition on them

module _ (f : Forms) (j k : ℤ) (a b : ℕ) (q : Rule) (test : Form → Form → Bool)
    (shape : (ls : List Line)
    → tests unknowns (forms_read f) ls q
    ≡ both_are (forms_read f) j a k b ++ ((test (nth_form (forms_read f) a) (nth_form (forms_read f) b) else 11) ∷ [])) where
  pub pair_refused : {r : Result Code Refusal} {s : Scratch} (why : Refusal) → IsErrAnd r (λ e. e ≡ why)
      → fail (number_of why) ≡ finding (both_are (forms_read f) j a k b) → ProposesRule f q r s
  pair_refused why i e = refused f q why i (λ ls. rw (shape ls) (fails_first (both_are (forms_read f) j a k b) _ e))

  module _ (both : pass ≡ finding (both_are (forms_read f) j a k b)) {c : Bool}
      (gave : c ≡ test (form_at unknowns f.cells.now a) (form_at unknowns f.cells.now b)) where
    found : {w : Finding} → w ≡ finding ((c else 11) ∷ []) → (ls : List Line) → w ≡ finding (tests unknowns (forms_read f) ls q)
    found d ls =
        rw (shape ls)
        (others_decide (both_are (forms_read f) j a k b) _ both (then_forms f.held j k a b both test gave d))

    pub pair_made : (v : Result (Unit {0}) Refusal) {r : Result Code Refusal} {s : Scratch} {x : New} → finding_of v ≡ finding ((c else 11) ∷ [])
        → ((ls : List Line) → x ≡ makes ls q) → ProposesBy v x r s → ProposesRule f q r s
    pair_made v e m p ls = proposing unknowns (forms_read f) ls q (found e ls) (m ls) p

-- ---- FM and PM

module _ (fs : List Form) (ls : List Line) where
  pub form_refused : {s : Scratch} (f : Form) → legal unknowns f ≡ false → Proposes (Err IllegalContent) s (proposed unknowns fs ls (make (FM f)))
  unfolding tests
  form_refused f e = refusing unknowns fs ls (FM f) (fails whole e)

  -- the form's cells stand in front of others
  pub form_made : {xs ys : List ℕ} (f : Form) (cells more : List ℤ) → length cells ≡ form_cells unknowns → form_of cells ≡ f → legal unknowns f ≡ true
      → Proposes (Ok MakesForm) (record { cells = cells ++ more; first = xs; second = ys }) (proposed unknowns fs ls (make (FM f)))
  unfolding tests makes
  form_made f cells more k d e =
      let front : take (form_cells unknowns) (cells ++ more) ≡ cells = subst (λ (n : ℕ). take n (cells ++ more) ≡ cells) k (take-append_seam cells more) in
      proposing unknowns fs ls (FM f) (passes (past whole e)) refl (record { says = ap (λ (x : List ℤ). proposes (new_form (form_of x))) front ∙ ap (λ (x : Form). proposes (new_form x)) d; fits = tt })

  pub premise_made : {s : Scratch} (k : ℕ) → k ≤ length s.second → pass ≡ finding (tests unknowns fs [] (PM (take k s.second)))
      → Proposes (Ok (Makes (premise_from k))) s (proposed unknowns fs ls (make (PM (take k s.second))))
  unfolding tests makes
  premise_made {s} k h d =
      proposing unknowns fs ls (PM (take k s.second)) d refl (record { says = refl; fits = record { first = omega arith; second = h } })
