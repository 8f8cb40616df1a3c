-- What rows and forms say of whole numbers for the unknowns.
use Rattle.std.specs.Prelude.{Bool, cond, List, [], ◌∷◌, ℕ, suc, ℤ, pos, ◌+ℤ◌, ◌*ℤ◌}
use Rattle.std.specs.Int.Signed.{le_z}
use Rattle.ints.specs.Tests.{eq_z, divides}
use Rattle.rows.specs.Row.{Row, constant, coefficients}
use Rattle.rows.specs.Form.{Form, at_most, is_zero}

-- a whole number for each unknown
abbrev pub Integers : Type 0
Integers = ℕ → ℤ

-- the sum of coefficient times unknown
unfoldable pub weighed : List ℤ → Integers → ℤ
weighed [] ρ = pos 0
weighed (k ∷ ks) ρ = k *ℤ ρ 0 +ℤ weighed ks (λ i. ρ (suc i))

unfoldable pub value : Row → Integers → ℤ
unfolding weighed
value r ρ = constant r +ℤ weighed (coefficients r) ρ

unfoldable pub form_true : Integers → Form → Bool
unfolding value
form_true ρ f =
    cond (eq_z f.kind at_most) (le_z (value f.row ρ) (pos 0))
    (cond (eq_z f.kind is_zero) (eq_z (value f.row ρ) (pos 0))
    (divides f.divisor (value f.row ρ)))
