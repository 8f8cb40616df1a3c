-- Comparing a row with a multiple of another as the code does it, by the pairs of their cells.
use mathlib.Core.Path.{◌≡◌, refl}
use mathlib.Core.List.{List, [], ◌∷◌}
use native.Mathlib.Omega.{arith}
use lib.IntN.{ℤ, pos, ◌+ℤ◌, ◌*ℤ◌, +ℤ_idl}
use lib.ListN.{length, get_or, drop}
use mathlib.Core.Bool.{◌&&◌}
use Prim.Native.Nat.{ℕ, ◌<◌}
use Rattle.std.specs.List.{list_all, zip}
use Rattle.ints.specs.Tests.{eq_z, eq_zs}
use mir.ValLaws.{to_z-of_z}
use Rattle.rows.specs.Summable.{row_at, Inside}
use Rattle.rows.proofs.RowLaws.{tail, scaled_one, unshifted, filled}
use Rattle.rows.specs.Row.{Row, scaled, shifted}

pub pairs : (m : ℤ) (a b : Row) → length a ≡ length b
    → list_all (λ p. eq_z p.0 (pos 0 +ℤ (m *ℤ p.1))) (zip a b) ≡ eq_zs a (scaled m b)
pairs m [] [] h = refl
pairs m [] (y ∷ b) h = absurd (omega arith)
pairs m (x ∷ a) [] h = absurd (omega arith)
pairs m (x ∷ a) (y ∷ b) h = rw (+ℤ_idl (m *ℤ y), pairs m a b (omega arith)) refl

-- the constants are compared, and then the other cells
pub image : (n m x : ℤ) (xs b : Row) → 0 < length b
    → eq_zs (x ∷ xs) (shifted n (scaled m b)) ≡ eq_z x (n +ℤ (m *ℤ get_or b 0 (pos 0))) && eq_zs xs (scaled m (drop 1 b))
image n m x xs [] h = absurd (omega arith)
image n m x xs (y ∷ b) h = refl

-- a row that was read from a table has a constant
pub row_filled : {n : ℕ} {table : List ℤ} {f : ℕ} {r : Row} → Inside n table f → r ≡ row_at n table f → 0 < length r
row_filled {n} {table} {f} {r} h e = rw e (filled n table f h)

-- and 0 added to a multiple of it leaves that
pub unshifted_row : {n : ℕ} {table : List ℤ} {f : ℕ} (m : ℤ) → Inside n table f
    → shifted (pos 0) (scaled m (row_at n table f)) ≡ scaled m (row_at n table f)
unshifted_row {n} {table} {f} m h = unshifted m (row_at n table f) (filled n table f h)

-- what a comparison reads: its numbers from their bits, its rows from a table, and its cells behind the first
pub ruleset comparing = (image, tail, to_z-of_z, scaled_one, +ℤ_idl)
