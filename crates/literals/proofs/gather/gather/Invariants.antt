-- The invariant of `literals::gather::gather`: what is filled in, then what is left of the line less the literal, is the whole.
use mathlib.Core.Path.{◌≡◌}
use mathlib.Core.List.{◌++◌}
use Prim.Native.Nat.{◌≤◌}
use lib.ListN.{take, drop}
use Rattle.ledger.specs.Literals.{without}
use Rattle.literals.proofs.gather.gather.Given as goal

abbrev pub invariant-loop-x : goal.invariant-loop-x
invariant-loop-x l = record {
  few : l.count ≤ l.x-index;
  made : take l.count l.out ++ without l.less (drop l.x-index l.line) ≡ without l.less l.line;
}
