-- In which order the tests of a call are made, by the numbers that they refuse with, and which of the numbers is given.
use Rattle.std.specs.Prelude.{◌≡◌, Bool, true, false, not, ◌&&◌, ◌||◌, cond, List, [], ◌∷◌, ◌++◌, ℕ, T, eqb}
use Rattle.ints.specs.Tests.{all, any}
use Rattle.ledger.specs.Literals.{holds}
use Rattle.ledger.specs.Checks.{Check, Passed}

-- ---- the order

-- fewer than 2 bytes, 3; mark, 4; count byte missing, 3; count, 5; whole length, 3
abbrev pub shape_order : List ℕ
shape_order = 3 ∷ 4 ∷ 3 ∷ 5 ∷ 3 ∷ []

abbrev pub record_order : List ℕ
record_order = 6 ∷ 8 ∷ 9 ∷ 10 ∷ 11 ∷ 12 ∷ 13 ∷ 7 ∷ []

-- first come tests with the first number, then tests with the next, and so on; of each number there may be any count of tests, or none
unfoldable pub follow : List ℕ → List Check → Bool
follow ns [] = true
follow [] (c ∷ cs) = false
follow (n ∷ ns) (c ∷ cs) = (eqb c.number n && follow (n ∷ ns) cs) || follow ns (c ∷ cs)

-- ---- the number given

-- a test with the number fails, and all that are made before it pass
pub record Given (k : ℕ) (cs : List Check) : Type 0 where
  pub before : List Check
  pub test : Check
  pub after : List Check
  pub made : cs ≡ before ++ (test ∷ after)
  pub passed : Passed before
  pub fails : test.passes ≡ false
  pub number : test.number ≡ k

-- ---- and by the order alone, where no number stands in it twice

-- the numbers that come before k
unfoldable pub earlier : ℕ → List ℕ → List ℕ
earlier k [] = []
earlier k (n ∷ ns) = cond (eqb n k) [] (n ∷ earlier k ns)

abbrev pub fails_with : ℕ → Check → Bool
fails_with k c = eqb c.number k && not c.passes

-- a test with the number fails, and every test passes whose number comes before it
pub record FirstOf (ns : List ℕ) (k : ℕ) (cs : List Check) : Type 0 where
  pub fails : T (any (fails_with k) cs)
  pub passed : T (all (λ c. not (holds c.number (earlier k ns)) || c.passes) cs)
