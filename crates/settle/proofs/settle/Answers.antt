-- `settle::settle` meets its contract.
use mathlib.Core.Path.{refl}
use Rattle.ledger.specs.Settles.{settles}
use Rattle.settle.proofs.Tops.{seen_levels, seen_literals}
use Rattle.settle.proofs.settle.Goals as goal

pub keep_line-requires : goal.keep_line-requires
keep_line-requires c = record { pool = c.requires.0.held.exact.sized.pool_size; table = c.requires.0.held.exact.sized.line_size; few = seen_literals c.requires.0 }

pub open_level-requires : goal.open_level-requires
open_level-requires c = seen_levels c.requires.0

pub returns-in-Err : goal.returns-in-Err
unfolding settles
returns-in-Err c = λ s e h. rw c.in-Err.is (record { result = refl; place = tt })

pub returns-in-Form : goal.returns-in-Form
unfolding settles
returns-in-Form c = λ s e h. rw (c.in-Ok.is, c.in-Form.is) (c.keep_form.ensures _ _ s e h)

pub returns-in-Line : goal.returns-in-Line
unfolding settles
returns-in-Line c = λ s e h. rw (c.in-Ok.is, c.in-Line.is) (c.keep_line.ensures _ s e h)
