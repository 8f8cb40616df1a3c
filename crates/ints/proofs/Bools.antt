-- Laws of tests: what a conjunction says, and when two tests are the same.
use mathlib.Core.Path.{◌≡◌, refl, sym, subst}
use mathlib.Core.Bool.{Bool, true, false, not, ◌&&◌, ◌||◌}
use mathlib.Core.Logic.{◌⊎◌, inl, inr}
use Prim.Native.Nat.{◌≤◌}
use native.Mathlib.Omega.{arith}
use lib.Dec.{T}
use mir.Val.{bool_byte}

pub never : {X : Type 0} → false ≡ true → X
never e = absurd (subst T (sym e) tt)

pub true→T : {b : Bool} → b ≡ true → T b
true→T e = subst T (sym e) tt

pub false→T : {b : Bool} → b ≡ false → T (not b)
false→T e = subst (λ (c : Bool). T (not c)) (sym e) tt

pub T→true : (b : Bool) → T b → b ≡ true
T→true true t = refl
T→true false t = absurd t

pub T→false : (b : Bool) → (T b → ⊥) → b ≡ false
T→false true f = absurd (f tt)
T→false false f = refl

pub T-same : (a b : Bool) → (T a → T b) → (T b → T a) → a ≡ b
T-same true true f g = refl
T-same true false f g = absurd (f tt)
T-same false true f g = absurd (g tt)
T-same false false f g = refl

pub T_and : (a b : Bool) → T (a && b) → T a × T b
T_and true b t = (tt, t)
T_and false b t = absurd t

pub and_T : (a b : Bool) → T a → T b → T (a && b)
and_T true b s t = t
and_T false b s t = absurd s

pub T-or : (a b : Bool) → T (a || b) → T a ⊎ T b
T-or true b t = inl tt
T-or false b t = inr t

pub or_left : (a b : Bool) → T a → T (a || b)
or_left true b t = tt
or_left false b t = absurd t

pub or_right : (a b : Bool) → T b → T (a || b)
or_right true b t = tt
or_right false b t = t

-- where a holds, b does
pub implies : (a b : Bool) → (T a → T b) → T (not a || b)
implies true b f = f tt
implies false b f = tt

-- a test that is taken for a number
pub at_most_one : (b : Bool) → bool_byte b ≤ 1
at_most_one true = omega arith
at_most_one false = omega arith
