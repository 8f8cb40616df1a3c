-- Literals, and the ascending lists of them that lines are.
use Rattle.std.specs.Prelude.{Bool, true, ◌&&◌, cond, List, [], ◌∷◌, ℕ, ◌+◌, ◌*◌, ◌/◌, ◌%◌, eqb, ltb}
use Rattle.ints.specs.Tests.{all, any}

-- form f, and form f negated
abbrev pub unnegated : ℕ → ℕ
unnegated f = 2 * f

abbrev pub negated : ℕ → ℕ
negated f = 2 * f + 1

-- the form that a literal names
abbrev pub form_named : ℕ → ℕ
form_named x = x / 2

-- it names a form below n
abbrev pub below : ℕ → ℕ → Bool
below n x = ltb (form_named x) n

abbrev pub names_below : ℕ → List ℕ → Bool
names_below n xs = all (below n) xs

abbrev pub is_negated : ℕ → Bool
is_negated x = eqb (x % 2) 1

-- each above the one before
abbrev pub ascending_from : ℕ → List ℕ → Bool
ascending_from x [] = true
ascending_from x (y ∷ ys) = ltb x y && ascending_from y ys

abbrev pub ascending : List ℕ → Bool
ascending [] = true
ascending (x ∷ xs) = ascending_from x xs

abbrev pub holds : ℕ → List ℕ → Bool
holds x ys = any (eqb x) ys

-- two ascending lists in one, ascending, each literal once
abbrev pub joined : List ℕ → List ℕ → List ℕ
joined [] ys = ys
joined (x ∷ xs) [] = x ∷ xs
joined (x ∷ xs) (y ∷ ys) = cond (ltb x y) (x ∷ joined xs (y ∷ ys)) (cond (ltb y x) (y ∷ joined (x ∷ xs) ys) (x ∷ joined xs ys))

-- the literals that a rule names, in any order: ascending, each once
abbrev pub line_of : List ℕ → List ℕ
line_of [] = []
line_of (x ∷ xs) = joined (x ∷ []) (line_of xs)

abbrev pub without : ℕ → List ℕ → List ℕ
without x [] = []
without x (y ∷ ys) = cond (eqb x y) (without x ys) (y ∷ without x ys)
