-- `mark_of` meets its contract: what the first half knows, or else what the second does.
use Rattle.std.proofs.Common.{rules, take, drop}
use Rattle.ledger.specs.Record.{marks}
use Rattle.ledger.specs.Bytes.{mark_of}
use Rattle.records.proofs.MarkLaws.{among_both}
use Rattle.records.proofs.marks.mark_of.Goals as goal

pub returns : goal.returns
unfolding mark_of
returns c = among_both c.args.bytes.now (take 8 marks) (drop 8 marks) c.mark_among.result c.or_else.result c.mark_among.ensures (search rules)
