-- What a literal says by the form that it names, and that lines say the same over any two lists of forms that agree on the forms named.
use mathlib.Core.Path.{◌≡◌, ap}
use mathlib.Core.Bool.{Bool, not, ◌||◌}
use mathlib.Core.List.{List}
use Prim.Native.Nat.{ℕ, ◌%◌, ◌<◌}
use native.Mathlib.Omega.{arith}
use lib.Dec.{T, eqb, ltb→lt}
use Rattle.ints.specs.Tests.{all}
use Rattle.rows.specs.Form.{Form}
use Rattle.rows.specs.Truth.{Integers, form_true}
use Rattle.ledger.specs.Literals.{unnegated, negated, form_named, below}
use Rattle.ledger.specs.Legal.{line_below}
use Rattle.ledger.specs.Ledger.{Line, premise, nth_form}
use Rattle.ledger.specs.Truth.{literal_true, line_true}
use Rattle.ledger.specs.Premises.{lines_true, as_premise, premises_true}
use Rattle.ints.proofs.Lists.{all_agree, any_agree}

-- ---- the form named

pub unnegated_names : (f : ℕ) → form_named (unnegated f) ≡ f
unnegated_names f = omega arith

pub negated_names : (f : ℕ) → form_named (negated f) ≡ f
negated_names f = omega arith

module _ (ρ : Integers) (fs : List Form) (f : ℕ) where
  pub unnegated_true : literal_true ρ fs (unnegated f) ≡ form_true ρ (nth_form fs f)
  unfolding literal_true
  unnegated_true = let e : unnegated f % 2 ≡ 0 = omega arith in rw (e, unnegated_names f)

  pub negated_true : literal_true ρ fs (negated f) ≡ not (form_true ρ (nth_form fs f))
  unfolding literal_true
  negated_true = let e : negated f % 2 ≡ 1 = omega arith in rw (e, negated_names f)

-- ---- only the forms named count

abbrev pub Agree : List Form → List Form → ℕ → Type 0
Agree fs gs n = (f : ℕ) → f < n → nth_form fs f ≡ nth_form gs f

module _ (ρ : Integers) (fs gs : List Form) (n : ℕ) (same : Agree fs gs n) where
  pub literal_agrees : (x : ℕ) → T (below n x) → literal_true ρ fs x ≡ literal_true ρ gs x
  unfolding literal_true
  literal_agrees x t = rw (same (form_named x) (ltb→lt (form_named x) n t))

  pub line_agrees : (x : Line) → T (line_below n x) → line_true ρ fs x ≡ line_true ρ gs x
  line_agrees x t = any_agree (below n) (literal_true ρ fs) (literal_true ρ gs) literal_agrees x.literals t

  pub premise_agrees : (x : Line) → T (line_below n x) → as_premise ρ fs x ≡ as_premise ρ gs x
  premise_agrees x t = ap (λ (b : Bool). not (eqb x.origin premise) || b) (line_agrees x t)

  pub lines_agree : (ls : List Line) → T (all (line_below n) ls) → lines_true ρ fs ls ≡ lines_true ρ gs ls
  lines_agree ls t = all_agree (line_below n) (line_true ρ fs) (line_true ρ gs) line_agrees ls t

  pub premises_agree : (ls : List Line) → T (all (line_below n) ls) → premises_true ρ fs ls ≡ premises_true ρ gs ls
  premises_agree ls t = all_agree (line_below n) (as_premise ρ fs) (as_premise ρ gs) premise_agrees ls t
