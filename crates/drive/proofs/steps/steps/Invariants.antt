-- `drive::steps::steps` takes no more bytes than the text has, and ends: each command takes some.
use Rattle.std.proofs.Common.{length, ◌≤◌}
use Rattle.drive.proofs.steps.steps.Given as goal

abbrev pub invariant-loop-command : goal.invariant-loop-command
invariant-loop-command g l = (l.used ≤ length l.text) × (length l.reader.rest.now ≤ length l.text)

abbrev pub decreases-loop-command : goal.decreases-loop-command
decreases-loop-command g l = length l.reader.rest.now
