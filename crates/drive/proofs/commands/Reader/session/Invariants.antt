-- `drive::commands::Reader::session` reads towards the end of the text.
use Rattle.std.proofs.Common.{length, ◌≤◌}
use Rattle.drive.proofs.commands.Reader.session.Given as goal

abbrev pub invariant-loop-mark : goal.invariant-loop-mark
invariant-loop-mark l = length l.self.rest.now ≤ length l.fn.self.rest.now
