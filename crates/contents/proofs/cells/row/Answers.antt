-- `contents::cells::row` meets its contract.
use Rattle.rows.specs.Limits.{unknowns}
use Rattle.rows.proofs.FormCells.{row_at_lem}
use Rattle.contents.proofs.cells.row.Goals as goal

pub returns : goal.returns
returns c = rw c.from.ensures (row_at_lem unknowns c.args.table.now c.args.f)
