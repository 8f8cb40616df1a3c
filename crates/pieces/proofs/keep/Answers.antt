-- `keep` meets its contract.
use Rattle.pieces.proofs.Moving.{kept_from}
use Rattle.pieces.proofs.keep.Goals as goal

pub returns : goal.returns
returns c = rw c.copy_within.ensures.after (kept_from c.args.buffer.now c.args.to c.requires c.args.from c.min-first.result c.min-first.ensures)
