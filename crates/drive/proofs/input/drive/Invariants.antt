-- The invariant of `drive::input::drive`: what waits lies in the buffer, which keeps its length.
use Rattle.std.proofs.Common.{length, ◌≡◌, ◌≤◌}
use Rattle.drive.proofs.input.drive.Given as goal

abbrev pub invariant-loop : goal.invariant-loop
invariant-loop g l = (l.held ≤ length l.buffer) × (length l.buffer ≡ length l.fn.buffer)
