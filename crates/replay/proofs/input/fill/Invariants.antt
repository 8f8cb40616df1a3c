-- The invariant of `replay::input::fill`: the buffer is not filled beyond its end; each read that gave bytes brings that nearer.
use Rattle.std.proofs.Common.{◌≤◌, ◌-◌}
use Rattle.replay.proofs.input.fill.Given as goal

abbrev pub invariant-loop-count : goal.invariant-loop-count
invariant-loop-count g l = l.count ≤ l.most

abbrev pub decreases-loop-count : goal.decreases-loop-count
decreases-loop-count g l = l.most - l.count
