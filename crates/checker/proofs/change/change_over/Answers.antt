-- `checker::change::change_over` meets its contract.
use Rattle.records.specs.Marks.{record_mark_of}
use Rattle.checker.proofs.Settled.{seen_forms, seen_lines, settled_changes}
use Rattle.checker.proofs.change.change_over.Goals as goal

pub invariant_of-in_force : goal.invariant_of-in_force
invariant_of-in_force c = record { held = seen_forms c.requires.0 }

pub invariant_of-before : goal.invariant_of-before
invariant_of-before c = record { held = seen_lines c.requires.0 }

pub returns : goal.returns
returns c = settled_changes c.args.bytes.now (record_mark_of c.args.m) c.requires.1 c.propose-p.ensures.says c.settle.ensures
