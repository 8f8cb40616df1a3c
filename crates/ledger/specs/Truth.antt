-- What literals and lines say of whole numbers for the unknowns, of which there may be any number.
use Rattle.std.specs.Prelude.{Bool, not, cond, ℕ, eqb}
use mathlib.Core.List.{List, [], ◌∷◌, flat_map}
use Rattle.ints.specs.Tests.{any}
use Rattle.rows.specs.Form.{Form}
use Rattle.rows.specs.Truth.{Integers, form_true}
use Rattle.ledger.specs.Literals.{form_named, is_negated}
use Rattle.ledger.specs.Ledger.{Line, premise, nth_form}

unfoldable pub literal_true : Integers → List Form → ℕ → Bool
literal_true ρ fs x = cond (is_negated x) (not (form_true ρ (nth_form fs (form_named x)))) (form_true ρ (nth_form fs (form_named x)))

-- one of the literals is true
abbrev pub line_true : Integers → List Form → Line → Bool
line_true ρ fs x = any (literal_true ρ fs) x.literals

-- the literal lists of the premises among lines, in their order
unfoldable pub premise_lists : List Line → List (List ℕ)
premise_lists ls = flat_map (λ x. cond (eqb x.origin premise) (x.literals ∷ []) []) ls
