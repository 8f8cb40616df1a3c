-- Every line in force is true wherever the premises up to it are, so that an empty one refutes the premises.
-- That is an invariant of ledgers, which each record of good shape keeps, and so every history of bytes has it.
use mathlib.Core.Path.{◌≡◌, sym}
use mathlib.Core.Bool.{and-true}
use mathlib.Core.List.{List, [], ◌∷◌, ◌++◌}
use Prim.Native.Nat.{ℕ, suc, ◌<◌}
use native.Mathlib.Omega.{arith}
use native.Mathlib.Decide.{dec_le}
use lib.Dec.{T, ltb→lt}
use lib.ListN.{length, take, get_or, length-append, length-take, get_or-append}
use lib.Seq.{get_or-take, take-take, take_all, take-append-le, take-length, take-nil}
use Rattle.ints.specs.Tests.{all}
use Rattle.ints.proofs.Bools.{T_and, and_T}
use Rattle.ints.proofs.Lists.{all_at, all_implies}
use Rattle.rows.specs.Form.{Form}
use Rattle.rows.specs.Truth.{Integers}
use Rattle.ledger.specs.Ledger.{Line, Mark, Ledger, no_form, no_line, New, new_form, new_line, add, opened, back_to, withdrawn}
use Rattle.ledger.specs.Record.{Record, make, OP, WD}
use Rattle.ledger.specs.Checks.{line_in, makes, tests, checks, Passed}
use Rattle.ledger.specs.Apply.{done, apply}
use Rattle.ledger.specs.Bytes.{shape, decode, apply_bytes}
use Rattle.ledger.specs.History.{after_bytes}
use Rattle.ledger.specs.Standing.{refuted, standing}
use Rattle.ledger.specs.Legal.{line_below, Legal}
use Rattle.ledger.specs.Truth.{line_true}
use Rattle.ledger.specs.Premises.{lines_true, chosen_true, as_premise, premises_true}
use Rattle.ints.proofs.Lists.{all_append, all_take}
use Rattle.ledger.proofs.TruthLaws.{Agree, lines_agree, premises_agree}
use Rattle.ledger.proofs.Findings.{passed_front, judged_keeps, apply_keeps}
use Rattle.ledger.proofs.LegalLaws.{named_all, legal_done, legal_fresh}
use Rattle.ledger.proofs.StandingLaws.{standing_lowest}
use Rattle.ledger.proofs.RuleLaws.{Owed, owed, parents, Brought, brought}

-- ---- the invariant

-- wherever the premises of the first lines are true, all of these lines are
abbrev pub Sound : List Form → List Line → Type 0
Sound fs ls = (k : ℕ) (ρ : Integers) → T (premises_true ρ fs (take k ls)) → T (lines_true ρ fs (take k ls))

pub record Good (n : ℕ) (l : Ledger) : Type 0 where
  pub legal : Legal n l
  pub sound : Sound l.forms l.lines

good_named : (n : ℕ) (l : Ledger) → Good n l → T (all (line_below (length l.forms)) l.lines)
good_named n l g = named_all (length l.forms) l.lines l.marks g.legal.named

-- ---- other forms

sound_agree : (fs gs : List Form) (n : ℕ) (ls : List Line) → Agree fs gs n → T (all (line_below n) ls) → Sound fs ls → Sound gs ls
sound_agree fs gs n ls same names s k ρ p =
    let first = all_take (line_below n) k ls names in
    rw (lines_agree ρ fs gs n same (take k ls) first) at (s k ρ (rw (premises_agree ρ fs gs n same (take k ls) first) p))

-- ---- one line more

sound_line : (fs : List Form) (ls : List Line) (x : Line) → Sound fs ls
    → ((ρ : Integers) → T (lines_true ρ fs ls) → T (as_premise ρ fs x) → T (line_true ρ fs x)) → Sound fs (ls ++ (x ∷ []))
sound_line fs ls x s f k ρ =
    elim (dec_le k (length ls)) [
      | yes h ↦ rw (take-append-le k ls (x ∷ []) h) (s k ρ)
      | no h ↦ rw (take_all k (ls ++ (x ∷ [])) (rw length-append (omega arith))) whole
    ]
  where
    whole : T (premises_true ρ fs (ls ++ (x ∷ []))) → T (lines_true ρ fs (ls ++ (x ∷ [])))
    whole p =
        let (before, last) = T_and (premises_true ρ fs ls) (as_premise ρ fs x) (simp (all_append, and-true) at p) in
        let lines : T (lines_true ρ fs ls) = rw (take-length ls) at (s (length ls) ρ (rw (take-length ls) before)) in
        simp (all_append, and-true) (and_T (lines_true ρ fs ls) (line_true ρ fs x) lines (f ρ lines last))

-- all lines are true, so those that are chosen among them are
chosen_true_lem : (ρ : Integers) (fs : List Form) (ls : List Line) → T (lines_true ρ fs ls) → (is : List ℕ) → T (all (line_in ls) is)
    → T (chosen_true ρ fs ls is)
chosen_true_lem ρ fs ls h =
    all_implies (line_in ls) (λ i. line_true ρ fs (get_or ls i no_line)) (λ i t. all_at (line_true ρ fs) ls i no_line h (ltb→lt i (length ls) t))

-- ---- every change keeps the invariant

sound_add : (n : ℕ) (l : Ledger) (is : List ℕ) (x : New) → Good n l → Owed n l.forms l.lines is x → Sound (add l x).forms (add l x).lines
unfolding add
sound_add n l is (new_form f) g o =
    sound_agree l.forms (l.forms ++ (f ∷ [])) (length l.forms) l.lines
    (λ i h. sym (get_or-append l.forms (f ∷ []) no_form i h)) (good_named n l g) g.sound
sound_add n l is (new_line x) g o =
    sound_line l.forms l.lines x g.sound (λ ρ h. o.holds ρ (chosen_true_lem ρ l.forms l.lines h is o.parents))

sound_take : (fs : List Form) (ls : List Line) (n : ℕ) → Sound fs ls → Sound fs (take n ls)
sound_take fs ls n s k ρ =
    elim (dec_le k n) [
      | yes h ↦ rw (take-take k n ls h) (s k ρ)
      | no h ↦ rw (take_all k (take n ls) (rw length-take (omega arith))) (s n ρ)
    ]

sound_back : (n : ℕ) (fs : List Form) (ls : List Line) (ms : List Mark)
    → Good n (record { forms = fs; lines = ls; marks = ms }) → Sound (back_to fs ls ms).forms (back_to fs ls ms).lines
sound_back n fs ls [] g = g.sound
sound_back n fs ls (m ∷ ms) g =
    sound_agree fs (take m.forms fs) m.forms (take m.lines ls) (λ i h. sym (get_or-take m.forms fs i no_form h))
    (named_all m.forms (take m.lines ls) ms g.legal.named.1) (sound_take fs ls m.lines g.sound)

sound_done : (n : ℕ) (l : Ledger) (r : Record) → Brought r → Passed (checks n l r) → Good n l → Sound (done l r).forms (done l r).lines
unfolding done checks opened withdrawn
sound_done n l (make r) few p g =
    let ts = tests n l.forms l.lines r in
    sound_add n l (parents r) (makes l.lines r) g (owed n l.forms l.lines g.legal.each r few (passed_front ts _ p))
sound_done n l OP few p g = g.sound
sound_done n l WD few p g = sound_back n l.forms l.lines l.marks g

pub good_apply : (n : ℕ) (l : Ledger) (r : Record) → Brought r → Good n l → Good n (apply n l r).ledger
good_apply n l r few g = apply_keeps (Good n) n l r g (λ p. record { legal = legal_done n l r few g.legal p; sound = sound_done n l r few p g })

pub good_apply_bytes : (n : ℕ) (l : Ledger) (b : List ℕ) → Good n l → Good n (apply_bytes n l b).ledger
unfolding apply_bytes
good_apply_bytes n l b g = judged_keeps (Good n) (shape b) l (apply n l (decode b)) g (λ p. good_apply n l (decode b) (brought b p) g)

-- ---- histories

pub good_after_bytes : (n : ℕ) (h : List (List ℕ)) → Good n (after_bytes n h)
unfolding after_bytes
good_after_bytes n [] = record { legal = legal_fresh n; sound = λ k ρ p. rw take-nil tt }
good_after_bytes n (b ∷ h) = good_apply_bytes n (after_bytes n h) b (good_after_bytes n h)

-- ---- what it says of lines, and of an empty line

module _ (n : ℕ) (l : Ledger) (g : Good n l) where
  pub good_line_true : (i : ℕ) (ρ : Integers) → i < length l.lines → T (premises_true ρ l.forms (take (suc i) l.lines))
      → T (line_true ρ l.forms (get_or l.lines i no_line))
  good_line_true i ρ h p =
      rw (get_or-take (suc i) l.lines i no_line (omega arith)) at
      (all_at (line_true ρ l.forms) (take (suc i) l.lines) i no_line (g.sound (suc i) ρ p) (rw length-take (omega arith)))

  pub good_refuted : (i : ℕ) → standing l ≡ refuted i → (ρ : Integers) → T (premises_true ρ l.forms l.lines) → ⊥
  good_refuted i e ρ p =
      let (inside, empty, _) = standing_lowest l i e in
      rw empty at (good_line_true i ρ inside (all_take (as_premise ρ l.forms) (suc i) l.lines p))

module _ (n : ℕ) where
  pub refuted_by_bytes : (h : List (List ℕ)) (i : ℕ) → standing (after_bytes n h) ≡ refuted i
      → (ρ : Integers) → T (premises_true ρ (after_bytes n h).forms (after_bytes n h).lines) → ⊥
  refuted_by_bytes h = good_refuted n (after_bytes n h) (good_after_bytes n h)
