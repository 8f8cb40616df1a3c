-- The conditions on rows, and on forms, under which the rules of the checker make a line.
use Rattle.std.specs.Prelude.{Bool, true, false, not, ◌&&◌, ◌||◌, List, [], ◌∷◌, ℕ, suc, ℤ, pos, ◌-ℤ◌, ◌*ℤ◌}
use Rattle.std.specs.Int.Signed.{lt_z, le_z}
use Rattle.ints.specs.Tests.{eq_z, eq_zs, divides, all}
use Rattle.rows.specs.Row.{Row, constant, coefficients, scaled, shifted, minus, one_minus, one_more}
use Rattle.rows.specs.Form.{Form, is_divided}

-- WK: equal rows
abbrev pub same_row : Row → Row → Bool
same_row a b = eq_zs a b

-- TO, and v of TR: b = 1 − a
abbrev pub is_one_minus : Row → Row → Bool
is_one_minus b a = same_row b (one_minus a)

-- u of TR: u = t + 1
abbrev pub is_one_more : Row → Row → Bool
is_one_more u t = same_row u (one_more t)

-- EQ: a = t or a = −t
abbrev pub is_either : Row → Row → Bool
is_either a t = same_row a t || same_row a (minus t)

-- TI: the coefficients of a are c times those of b, and c (B − 1) < A ≤ c B
unfoldable pub tightens : ℤ → Row → Row → Bool
tightens c a b =
    eq_zs (coefficients a) (scaled c (coefficients b))
    && lt_z (c *ℤ (constant b -ℤ pos 1)) (constant a)
    && le_z (constant a) (c *ℤ constant b)

-- FK: the sum has all coefficients 0 and a constant of at least 1
unfoldable pub farkas : Row → Bool
farkas r = all (λ k. eq_z k (pos 0)) (coefficients r) && le_z (pos 1) (constant r)

-- CL: every coefficient of the sum is a multiple of d, and the constant is not
unfoldable pub clash : ℤ → Row → Bool
clash d r = all (divides d) (coefficients r) && not (divides d (constant r))

-- AR: a divides form of the divisor d
abbrev pub divided_by : ℤ → Form → Bool
divided_by d f = eq_z f.kind is_divided && eq_z f.divisor d

-- AR: each row is r plus its place, where the first of them has place i
unfoldable pub neighbours_from : ℕ → Row → List Row → Bool
neighbours_from i r [] = true
neighbours_from i r (s ∷ ss) = same_row s (shifted (pos i) r) && neighbours_from (suc i) r ss

-- AR: the row at place i, counted from 0, is the first row plus i
unfoldable pub neighbours : List Row → Bool
unfolding neighbours_from
neighbours [] = false
neighbours (r ∷ ss) = neighbours_from 1 r ss

-- LF: equal rows, and the divisor of h divides that of g
unfoldable pub loosens : Form → Form → Bool
loosens g h = same_row g.row h.row && divides h.divisor g.divisor

-- SU and SD: the row and the divisor of h are k times those of g
unfoldable pub scales : ℤ → Form → Form → Bool
scales k g h = same_row h.row (scaled k g.row) && eq_z h.divisor (k *ℤ g.divisor)
