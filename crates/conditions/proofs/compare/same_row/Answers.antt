-- `conditions::compare::same_row` meets its contract.
use lib.IntN.{pos}
use Rattle.rows.proofs.RowLaws.{scaled_one}
use Rattle.conditions.proofs.RowTests.{unshifted_row}
use Rattle.conditions.proofs.compare.same_row.Goals as goal

pub returns : goal.returns
returns c = rw (unshifted_row (pos 1) c.requires.1, scaled_one) at c.matches.ensures
