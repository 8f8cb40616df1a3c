-- The invariant of `session::clear::clear_at_once`: the cells so far are zero.
use mathlib.Core.Path.{◌≡◌}
use lib.ListN.{take, replicate}
use Rattle.session.proofs.clear.clear_at_once.Given as goal

abbrev pub invariant-loop-cell : goal.invariant-loop-cell
invariant-loop-cell g l = take l.cell-index l.cells ≡ replicate l.cell-index l.zero
