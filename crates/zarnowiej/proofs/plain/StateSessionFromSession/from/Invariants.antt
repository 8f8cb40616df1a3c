-- The invariant of `plain::StateSessionFromSession::from`: the first i marks have crossed.
use mathlib.Core.Path.{◌≡◌}
use mathlib.Core.List.{map}
use lib.ListN.{length, take}
use Rattle.ledger.specs.Limits.{most_levels}
use Rattle.zarnowiej.specs.Crossing.{mark_in}
use Rattle.zarnowiej.proofs.plain.StateSessionFromSession.from.Given as goal

abbrev pub invariant-loop-i : goal.invariant-loop-i
invariant-loop-i l = (length l.marks ≡ most_levels) × (take l.i l.marks ≡ map mark_in (take l.i l.s.marks))
