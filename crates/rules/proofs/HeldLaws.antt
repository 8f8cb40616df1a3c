-- What a judging function knows of forms and lines that are held: those that it reads are those of the ledger.
use mathlib.Core.Path.{◌≡◌, ap}
use mathlib.Core.Bool.{Bool, true}
use mathlib.Core.List.{List, []}
use Prim.Native.Nat.{ℕ, suc, ◌+◌, ◌≤◌, ◌<◌}
use native.Mathlib.Nat.{mul-le-mul_left}
use native.Mathlib.Omega.{arith}
use lib.Dec.{T, ltb, ltb→lt}
use lib.IntN.{ℤ}
use lib.ListN.{length, get_or, length-take}
use Rattle.ints.specs.Tests.{all}
use Rattle.ints.proofs.Bools.{true→T}
use Rattle.ints.proofs.Lists.{all_at, length_up_to}
use Rattle.rows.specs.Form.{form_at, legal}
use Rattle.rows.specs.Summable.{Inside, Picked}
use Rattle.ledger.specs.Limits.{most_forms, longest_line}
use Rattle.ledger.specs.Ledger.{Line, no_form, no_line, nth_form, nth_line}
use Rattle.ledger.specs.Record.{Rule}
use Rattle.ledger.specs.Checks.{tests}
use Rattle.ledger.specs.Apply.{Finding, finding}
use Rattle.session.specs.Cells.{tables, literals_at, line_at}
use Rattle.laid.proofs.ByIndex.{get_or_up_to}
use Rattle.rules.specs.Held.{FormsHeld, LinesHeld}
use Rattle.rules.specs.Read.{forms_in, lines_in}

-- what a rule's tests find on the forms that are read
abbrev pub Finds : ℕ → ℕ → List ℤ → Rule → Finding → Type 0
Finds n many cells r v = v ≡ finding (tests n (forms_in n many cells) [] r)

-- ---- forms

module _ {n many : ℕ} {cells : List ℤ} (h : FormsHeld n many cells) where
  pub form_count : length (forms_in n many cells) ≡ many
  form_count = length_up_to many (form_at n cells)

  pub form_is : (f : ℕ) → f < many → nth_form (forms_in n many cells) f ≡ form_at n cells f
  form_is f i = get_or_up_to many (form_at n cells) f no_form i

  pub form_legal : (f : ℕ) → f < many → T (legal n (form_at n cells f))
  form_legal f i = h.contents f i

  pub form_inside : (f : ℕ) → f < many → Inside n cells f
  form_inside f i =
      let few : suc f ≤ most_forms = omega (arith, h.few) in
      record { inside = omega (arith, mul-le-mul_left (n + 3) few, h.size) }

-- every picked form is in force
abbrev pub in_force : ℕ → List ℕ → Bool
in_force many ps = all (λ f. ltb f many) ps

pub picked : {n many : ℕ} {cells : List ℤ} → FormsHeld n many cells → (ps : List ℕ) → in_force many ps ≡ true → Picked n cells ps
picked {many = many} h ps k =
    record { inside = λ i l. form_inside h (get_or ps i 0) (ltb→lt _ _ (all_at (λ f. ltb f many) ps i 0 (true→T k) l)) }

-- ---- lines

module _ {many : ℕ} {pool lines : List ℕ} (h : LinesHeld many pool lines) where
  pub line_count : length (lines_in many pool lines) ≡ many
  line_count = length_up_to many (line_at (tables [] pool lines))

  pub line_is : (i : ℕ) → i < many → nth_line (lines_in many pool lines) i ≡ literals_at pool lines i
  line_is i k = ap (λ (x : Line). x.literals) (get_or_up_to many (line_at (tables [] pool lines)) i no_line k)

  pub line_few : (i : ℕ) → i < many → length (literals_at pool lines i) ≤ longest_line
  line_few i k = simp length-take (omega (arith, h.short i k))
