-- `conditions::compare::matches` meets its contract.
use Rattle.conditions.proofs.RowTests.{row_filled}
use Rattle.conditions.proofs.compare.matches.Goals as goal

pub is_image-requires : goal.is_image-requires
is_image-requires c = row_filled c.requires.1 c.row-2.ensures
