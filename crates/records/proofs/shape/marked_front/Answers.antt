-- `marked_front` meets its contract: it asks for the bytes that the mark and the count require.
use Rattle.std.proofs.Common.{rules}
use Rattle.records.proofs.FrontLaws.{front_no_count, front_short, front_whole}
use Rattle.records.proofs.shape.marked_front.Goals as goal

pub returns-in_err-count : goal.returns-in_err-count
returns-in_err-count c = search (rules, front_no_count)

pub returns-then-bytes-size : goal.returns-then-bytes-size
returns-then-bytes-size c =
    front_short c.args.bytes.now _ c.requires.long c.requires.marked c.in_ok-count.ensures c.bytes_for-size.ensures c.if-bytes-size.true

pub returns : goal.returns
returns c =
    front_whole c.args.bytes.now _ c.requires.long c.requires.marked c.in_ok-count.ensures c.bytes_for-size.ensures c.if-bytes-size.false
