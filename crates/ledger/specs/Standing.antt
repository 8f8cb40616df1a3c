-- The standing of a ledger: refuted by its lowest empty line, or not refuted.
use Rattle.std.specs.Prelude.{cond, List, [], ◌∷◌, ℕ, suc, eqb, length}
use Rattle.ledger.specs.Ledger.{Line, Ledger}

pub data Standing : Type 0 where
  refuted : ℕ → Standing
  not_refuted : Standing

-- the lowest line that is empty, counted from i
unfoldable pub standing_from : ℕ → List Line → Standing
standing_from i [] = not_refuted
standing_from i (x ∷ xs) = cond (eqb (length x.literals) 0) (refuted i) (standing_from (suc i) xs)

abbrev pub standing : Ledger → Standing
standing l = standing_from 0 l.lines
