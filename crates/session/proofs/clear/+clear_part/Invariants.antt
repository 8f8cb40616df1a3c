-- `session::clear::clear_part` ends since half a part is shorter.
use lib.ListN.{length}
use Rattle.session.proofs.clear.+clear_part.Given as goal

abbrev pub decreases-clear_part : goal.decreases-clear_part
decreases-clear_part g l = length l.cells.now
