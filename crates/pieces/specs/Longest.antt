-- How many bytes the longest record has: of all marks, with as many counted as may be.
use Rattle.std.specs.Prelude.{ℕ, cond, List, [], ◌∷◌, map, nat_le}
use Rattle.ledger.specs.Record.{layout, marks}
use Rattle.ledger.specs.Bytes.{bytes_for}

abbrev pub greatest : List ℕ → ℕ
greatest [] = 0
greatest (x ∷ xs) = cond (nat_le x (greatest xs)) (greatest xs) x

abbrev pub longest : ℕ
longest = greatest (map (λ m. bytes_for m (layout m).most) marks)
