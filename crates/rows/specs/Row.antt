-- A row is its constant and then the coefficients of unknowns 0, 1 and so on, of which there may be any number.
use Rattle.std.specs.Prelude.{List, [], ◌∷◌, ℕ, ◌+◌, ℤ, pos, negsuc, ◌+ℤ◌, ◌*ℤ◌, get_or, drop, replicate}

abbrev pub Row : Type 0
Row = List ℤ

abbrev pub constant : Row → ℤ
constant r = get_or r 0 (pos 0)

abbrev pub coefficients : Row → List ℤ
coefficients r = drop 1 r

-- the row of n unknowns that is 0 throughout
abbrev pub zero_row : ℕ → Row
zero_row n = replicate (n + 1) (pos 0)

-- m times the row
abbrev pub scaled : ℤ → Row → Row
scaled m [] = []
scaled m (k ∷ r) = (m *ℤ k) ∷ scaled m r

-- the two rows added; what one of them lacks counts as 0
abbrev pub plus : Row → Row → Row
plus [] s = s
plus (k ∷ r) [] = k ∷ r
plus (k ∷ r) (l ∷ s) = (k +ℤ l) ∷ plus r s

-- n + the row
abbrev pub shifted : ℤ → Row → Row
shifted n [] = n ∷ []
shifted n (k ∷ r) = (n +ℤ k) ∷ r

-- −r
abbrev pub minus : Row → Row
minus r = scaled (negsuc 0) r

-- 1 − r
abbrev pub one_minus : Row → Row
one_minus r = shifted (pos 1) (minus r)

-- r + 1
abbrev pub one_more : Row → Row
one_more r = shifted (pos 1) r
