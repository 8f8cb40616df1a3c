-- What it means that a whole number is divided.
use Rattle.std.specs.Prelude.{◌≡◌, ℤ, ◌*ℤ◌}

-- z is d times some whole number
unfoldable pub Multiple : ℤ → ℤ → Type 0
Multiple d z = (q : ℤ) × (z ≡ d *ℤ q)
