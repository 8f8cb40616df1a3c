-- What the records among byte strings carry: an FM record its form, a PM record its list of literals. And what whole numbers satisfy.
use Rattle.std.specs.Prelude.{Bool, cond, ℕ}
use mathlib.Core.List.{List, [], ◌∷◌, flat_map}
use Rattle.ints.specs.Tests.{all, any}
use Rattle.rows.specs.Form.{Form}
use Rattle.rows.specs.Truth.{Integers}
use Rattle.ledger.specs.Record.{fm, pm, of_rule, rule_layout}
use Rattle.ledger.specs.Bytes.{has_letters, form_from, numbers_behind}
use Rattle.ledger.specs.Truth.{literal_true}

-- the forms of the FM records, in their order
unfoldable pub forms_carried : List (List ℕ) → List Form
forms_carried bs = flat_map (λ b. cond (has_letters b (of_rule fm)) (form_from b ∷ []) []) bs

-- the literal lists of the PM records, in their order
unfoldable pub lists_carried : List (List ℕ) → List (List ℕ)
lists_carried bs = flat_map (λ b. cond (has_letters b (of_rule pm)) (numbers_behind (rule_layout pm).place b ∷ []) []) bs

-- in each list a literal is true, over these forms
abbrev pub satisfied : Integers → List Form → List (List ℕ) → Bool
satisfied ρ fs xss = all (λ xs. any (literal_true ρ fs) xs) xss
