-- Tests of whole numbers and of lists, each a Bool that can be computed, of which every test of the checker is made; and lists by index.
use Rattle.std.specs.Prelude.{Bool, true, false, not, ◌&&◌, List, [], ◌∷◌, ◌++◌, ℕ, zero, suc, ◌%◌, eqb, ℤ, pos, negsuc, nat_abs}
use Rattle.std.specs.Int.Signed.{le_z}
use Rattle.std.specs.List.{list_all, list_any}

abbrev pub eq_z : ℤ → ℤ → Bool
eq_z (pos a) (pos b) = eqb a b
eq_z (pos a) (negsuc b) = false
eq_z (negsuc a) (pos b) = false
eq_z (negsuc a) (negsuc b) = eqb a b

-- z is a multiple of d; only 0 is a multiple of 0
abbrev pub divides : ℤ → ℤ → Bool
divides d z = eqb (nat_abs z % nat_abs d) 0

-- low ≤ z ≤ high
abbrev pub between : ℤ → ℤ → ℤ → Bool
between low high z = le_z low z && le_z z high

abbrev pub eq_zs : List ℤ → List ℤ → Bool
eq_zs [] [] = true
eq_zs [] (y ∷ ys) = false
eq_zs (x ∷ xs) [] = false
eq_zs (x ∷ xs) (y ∷ ys) = eq_z x y && eq_zs xs ys

module _ {A : Type 0} where
  abbrev pub all : (A → Bool) → List A → Bool
  all = list_all

  abbrev pub any : (A → Bool) → List A → Bool
  any = list_any

  -- f 0, f 1, up to f (n − 1)
  unfoldable pub up_to : ℕ → (ℕ → A) → List A
  up_to zero f = []
  up_to (suc n) f = up_to n f ++ (f n ∷ [])

-- no two are the same
abbrev pub different : List ℕ → Bool
different [] = true
different (x ∷ xs) = all (λ y. not (eqb x y)) xs && different xs
