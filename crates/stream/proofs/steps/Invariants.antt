-- The invariant of `stream::steps`: so many records and bytes are accepted, and what is left of the stream decides the whole.
use Prim.Native.Nat.{◌-◌}
use lib.ListN.{length}
use Rattle.rows.specs.Limits.{unknowns}
use Rattle.session.specs.Cells.{tables}
use Rattle.stream.specs.Walk.{session_with}
use Rattle.stream.proofs.Running.{Underway}
use Rattle.stream.proofs.steps.Given as goal

abbrev pub invariant-loop-bytes : goal.invariant-loop-bytes
invariant-loop-bytes l =
    Underway unknowns (session_with l.initial.counts l.initial.open l.initial.marks) (tables l.initial.forms l.initial.pool l.initial.lines) l.stream l.records l.bytes (session_with l.counts l.open l.marks) (tables l.forms l.pool l.lines)

abbrev pub decreases-loop-bytes : goal.decreases-loop-bytes
decreases-loop-bytes l = length l.stream - l.bytes
