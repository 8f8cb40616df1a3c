-- The tests of a record, each with the number that it refuses with, in the order in which they are made: 6, 8, 9, 10, 11, 12, 13, 7.
use Rattle.std.specs.Prelude.{Bool, ◌&&◌, ◌||◌, List, [], ◌∷◌, ◌++◌, map, ℕ, ◌+◌, T, ltb, leb, ℤ, pos, length}
use Rattle.ints.specs.Tests.{eq_z, between, all}
use Rattle.rows.specs.Limits.{largest_multiplier}
use Rattle.rows.specs.Form.{Form, at_most, is_zero, is_divided, legal, legal_multiplier}
use Rattle.rows.specs.Sum.{Term, summed}
use Rattle.rows.specs.Conditions.{same_row, is_one_minus, is_one_more, is_either, tightens, farkas, clash, divided_by, neighbours, loosens, scales}
use Rattle.ledger.specs.Limits.{most_forms, most_lines, most_literals, most_levels, longest_line}
use Rattle.ledger.specs.Literals.{unnegated, negated, form_named, ascending, holds, joined, line_of, without}
use Rattle.ledger.specs.Ledger.{Line, premise, derived, Ledger, nth_form, nth_row, nth_line, literal_count, New, new_form, new_line}
use Rattle.ledger.specs.Record.{Rule, FM, PM, RS, FK, TO, TR, EQ, TI, WK, CL, AR, LF, SU, SD}
use Rattle.ledger.specs.Record.{Record, make, OP, WD, RecordMark, layout}

-- a test, and the refusal's number where it fails
pub record Check : Type 0 where
  pub passes : Bool
  pub number : ℕ

infix 20 ◌else◌
abbrev pub ◌else◌ : Bool → ℕ → Check
◌else◌ b n = record { passes = b; number = n }

-- ---- what the tests ask

-- a number is in force when it lies below its count
abbrev pub form_in : List Form → ℕ → Bool
form_in fs f = ltb f (length fs)

abbrev pub line_in : List Line → ℕ → Bool
line_in ls i = ltb i (length ls)

abbrev pub literal_in : List Form → ℕ → Bool
literal_in fs x = form_in fs (form_named x)

abbrev pub is_kind : List Form → ℤ → ℕ → Bool
is_kind fs k f = eq_z (nth_form fs f).kind k

abbrev pub count_in : RecordMark → ℕ → Bool
count_in m n = leb (layout m).least n && leb n (layout m).most

abbrev pub forms_of : List Term → List ℕ
forms_of ts = map (λ t. t.form) ts

abbrev pub divisor_is : List Form → ℤ → Term → Bool
divisor_is fs d t = eq_z (nth_form fs t.form).divisor d

abbrev pub first_divisor : List Form → List Term → ℤ
first_divisor fs [] = pos 0
first_divisor fs (t ∷ ts) = (nth_form fs t.form).divisor

-- two forms in force, each of its kind
abbrev pub both_are : List Form → ℤ → ℕ → ℤ → ℕ → List Check
both_are fs j a k b = (form_in fs a else 8) ∷ (form_in fs b else 8) ∷ (is_kind fs j a else 10) ∷ (is_kind fs k b else 10) ∷ []

-- SU and SD: divides forms, of which the second is k times the first
abbrev pub scaling : List Form → ℕ → ℕ → ℕ → List Check
scaling fs g h k =
    both_are fs is_divided g is_divided h ++ ((leb 1 k else 10) ∷ (scales (pos k) (nth_form fs g) (nth_form fs h) else 11) ∷ [])

-- RS: the first parent less the unnegated pivot, joined with the second less the negated one
abbrev pub resolvent : List Line → ℕ → ℕ → ℕ → List ℕ
resolvent ls p i j = joined (without (unnegated p) (nth_line ls i)) (without (negated p) (nth_line ls j))

-- ---- what a rule makes where it is accepted

abbrev pub derived_line : List ℕ → New
derived_line xs = new_line (record { origin = derived; literals = xs })

unfoldable pub makes : List Line → Rule → New
makes ls (FM f) = new_form f
makes ls (PM xs) = new_line (record { origin = premise; literals = xs })
makes ls (RS p i j) = derived_line (resolvent ls p i j)
makes ls (FK ts) = derived_line (map negated (forms_of ts))
makes ls (TO a b) = derived_line (line_of (unnegated a ∷ unnegated b ∷ []))
makes ls (TR z u v) = derived_line (line_of (unnegated z ∷ unnegated u ∷ unnegated v ∷ []))
makes ls (EQ z a) = derived_line (line_of (negated z ∷ unnegated a ∷ []))
makes ls (TI a b c) = derived_line (line_of (negated a ∷ unnegated b ∷ []))
makes ls (WK z g) = derived_line (line_of (negated z ∷ unnegated g ∷ []))
makes ls (CL ts) = derived_line (map negated (forms_of ts))
makes ls (AR gs) = derived_line (line_of (map unnegated gs))
makes ls (LF g h) = derived_line (line_of (negated g ∷ unnegated h ∷ []))
makes ls (SU g h k) = derived_line (line_of (negated g ∷ unnegated h ∷ []))
makes ls (SD g h k) = derived_line (line_of (negated h ∷ unnegated g ∷ []))

-- ---- the tests of each rule, over n unknowns

unfoldable pub tests : ℕ → List Form → List Line → Rule → List Check
tests n fs ls (FM f) = (legal n f else 6) ∷ []
tests n fs ls (PM xs) = (all (literal_in fs) xs else 8) ∷ (ascending xs else 9) ∷ []
tests n fs ls (RS p i j) =
    (form_in fs p else 8)
    ∷ (line_in ls i else 8)
    ∷ (line_in ls j else 8)
    ∷ (holds (unnegated p) (nth_line ls i) else 11)
    ∷ (holds (negated p) (nth_line ls j) else 11)
    ∷ (leb (length (resolvent ls p i j)) longest_line else 12)
    ∷ []
tests n fs ls (FK ts) =
    (all (form_in fs) (forms_of ts) else 8)
    ∷ (ascending (forms_of ts) else 9)
    ∷ (all (λ t. is_kind fs at_most t.form || is_kind fs is_zero t.form) ts else 10)
    ∷ (all (λ t. legal_multiplier (nth_form fs t.form).kind t.multiplier) ts else 10)
    ∷ (farkas (summed n (nth_row fs) ts) else 11)
    ∷ []
tests n fs ls (TO a b) = both_are fs at_most a at_most b ++ ((is_one_minus (nth_row fs b) (nth_row fs a) else 11) ∷ [])
tests n fs ls (TR z u v) =
    (form_in fs z else 8)
    ∷ (form_in fs u else 8)
    ∷ (form_in fs v else 8)
    ∷ (is_kind fs is_zero z else 10)
    ∷ (is_kind fs at_most u else 10)
    ∷ (is_kind fs at_most v else 10)
    ∷ (is_one_more (nth_row fs u) (nth_row fs z) else 11)
    ∷ (is_one_minus (nth_row fs v) (nth_row fs z) else 11)
    ∷ []
tests n fs ls (EQ z a) = both_are fs is_zero z at_most a ++ ((is_either (nth_row fs a) (nth_row fs z) else 11) ∷ [])
tests n fs ls (TI a b c) =
    both_are fs at_most a at_most b
    ++ ((between (pos 1) (pos largest_multiplier) c else 10) ∷ (tightens c (nth_row fs a) (nth_row fs b) else 11) ∷ [])
tests n fs ls (WK z g) = both_are fs is_zero z is_divided g ++ ((same_row (nth_row fs z) (nth_row fs g) else 11) ∷ [])
tests n fs ls (CL ts) =
    (all (form_in fs) (forms_of ts) else 8)
    ∷ (ascending (forms_of ts) else 9)
    ∷ (all (λ t. is_kind fs is_divided t.form) ts else 10)
    ∷ (all (λ t. legal_multiplier (nth_form fs t.form).kind t.multiplier) ts else 10)
    ∷ (all (divisor_is fs (first_divisor fs ts)) ts else 10)
    ∷ (clash (first_divisor fs ts) (summed n (nth_row fs) ts) else 11)
    ∷ []
tests n fs ls (AR gs) =
    (all (form_in fs) gs else 8)
    ∷ (all (λ g. divided_by (pos (length gs)) (nth_form fs g)) gs else 10)
    ∷ (neighbours (map (nth_row fs) gs) else 11)
    ∷ []
tests n fs ls (LF g h) = both_are fs is_divided g is_divided h ++ ((loosens (nth_form fs g) (nth_form fs h) else 11) ∷ [])
tests n fs ls (SU g h k) = scaling fs g h k
tests n fs ls (SD g h k) = scaling fs g h k

-- room for what is made
unfoldable pub room : Ledger → New → List Check
room l (new_form f) = (ltb (length l.forms) most_forms else 7) ∷ []
room l (new_line x) =
    (ltb (length l.lines) most_lines else 7)
    ∷ (leb (literal_count l.lines + length x.literals) most_literals else 7)
    ∷ []

-- room for one level more
abbrev pub level_left : Ledger → List Check
level_left l = (ltb (length l.marks) most_levels else 7) ∷ []

-- a level to withdraw
abbrev pub level_open : Ledger → List Check
level_open l = (ltb 0 (length l.marks) else 13) ∷ []

-- all tests of a record
unfoldable pub checks : ℕ → Ledger → Record → List Check
unfolding tests makes room
checks n l (make r) = tests n l.forms l.lines r ++ room l (makes l.lines r)
checks n l OP = level_left l
checks n l WD = level_open l

-- every test passes
abbrev pub Passed : List Check → Type 0
Passed [] = Unit {0}
Passed (c ∷ cs) = T c.passes × Passed cs
