-- The end of a line, by the cell that holds it.
use mathlib.Core.Path.{◌≡◌, refl, sym, ◌∙◌}
use mathlib.Core.List.{List}
use Prim.Native.Nat.{ℕ, zero, suc, ◌*◌, ◌-◌, ◌≤◌}
use native.Mathlib.Omega.{arith}
use lib.ListN.{length, get_or, get_or-eq_default}
use Rattle.session.specs.Limits.{line_cells}
use Rattle.session.specs.Cells.{end_before}

pub end_at : (lines : List ℕ) (k : ℕ) → (k ≡ 0 → ⊥) → get_or lines (line_cells * (k - 1)) 0 ≡ end_before lines k
end_at lines zero h = absurd (h refl)
end_at lines (suc k) h = let e : suc k - 1 ≡ k = omega arith in rw e

-- there is none where the table is too short for that cell
pub no_end : (lines : List ℕ) (k : ℕ) → (k ≡ 0 → ⊥) → length lines ≤ line_cells * (k - 1) → 0 ≡ end_before lines k
no_end lines k h short = sym (get_or-eq_default lines 0 short) ∙ end_at lines k h
