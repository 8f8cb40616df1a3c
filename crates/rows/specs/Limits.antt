-- The numbers that the specification fixes for rows and forms, each with its one name.
use Rattle.std.specs.Prelude.{ℕ}

-- unknowns 0 to 11
abbrev pub unknowns : ℕ
unknowns = 12

-- the size of a constant or coefficient
abbrev pub largest_number : ℕ
largest_number = 1_000_000_000

abbrev pub largest_divisor : ℕ
largest_divisor = 65_535

-- the size of a multiplier, and of the divisor of a tightening
abbrev pub largest_multiplier : ℕ
largest_multiplier = 1_000_000

-- how many forms are summed
abbrev pub most_terms : ℕ
most_terms = 32
