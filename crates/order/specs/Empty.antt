-- The lowest line that is empty, read off the ends of the lines.
use Rattle.std.specs.Prelude.{cond, List, ℕ, zero, suc, ◌+◌, eqb}
use Rattle.ledger.specs.Standing.{Standing, refuted, not_refuted}
use Rattle.session.specs.Cells.{end_before}

-- of so many lines from line i on
unfoldable pub lowest_empty : List ℕ → ℕ → ℕ → Standing
lowest_empty lines i zero = not_refuted
lowest_empty lines i (suc k) = cond (eqb (end_before lines (i + 1)) (end_before lines i)) (refuted i) (lowest_empty lines (i + 1) k)
