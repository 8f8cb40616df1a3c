-- `conditions::tighten::tightens` meets its contract.
use Rattle.conditions.proofs.RowTests.{row_filled}
use Rattle.conditions.proofs.tighten.tightens.Goals as goal

pub is_tightened-requires : goal.is_tightened-requires
is_tightened-requires c = (row_filled c.requires.0 c.row.ensures, row_filled c.requires.1 c.row-2.ensures)
