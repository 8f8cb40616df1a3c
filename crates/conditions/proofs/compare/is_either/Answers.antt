-- `conditions::compare::is_either` meets its contract.
use mathlib.Core.Path.{sym, ◌∙◌}
use lib.IntN.{negsuc}
use Rattle.conditions.proofs.RowTests.{unshifted_row}
use Rattle.conditions.proofs.compare.is_either.Goals as goal

pub returns-else-same_row : goal.returns-else-same_row
returns-else-same_row c = rw (sym c.same_row.ensures ∙ c.if-same_row.false) (rw (unshifted_row (negsuc 0) c.requires.1) at c.matches.ensures)
