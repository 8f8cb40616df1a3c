-- `session::start::sized` meets its contract.
use borrow.Author.Tests.{lt-leb, le-leb}
use Rattle.session.specs.InOrder.{sizes}
use Rattle.ledger.specs.Apply.{finding}
use Rattle.session.proofs.start.sized.Goals as goal

pub returns-then-forms-lt-FORM_TABLE : goal.returns-then-forms-lt-FORM_TABLE
unfolding sizes finding
returns-then-forms-lt-FORM_TABLE c = simp (lt-leb _ _ c.if-forms-lt-FORM_TABLE.true)

pub returns-then-pool-lt-POOL : goal.returns-then-pool-lt-POOL
unfolding sizes finding
returns-then-pool-lt-POOL c = simp (le-leb _ _ c.if-forms-lt-FORM_TABLE.false, lt-leb _ _ c.if-pool-lt-POOL.true)

pub returns-then-lines-lt-LINE_TABLE : goal.returns-then-lines-lt-LINE_TABLE
unfolding sizes finding
returns-then-lines-lt-LINE_TABLE c = simp (le-leb _ _ c.if-forms-lt-FORM_TABLE.false, le-leb _ _ c.if-pool-lt-POOL.false, lt-leb _ _ c.if-lines-lt-LINE_TABLE.true)

pub returns : goal.returns
unfolding sizes finding
returns c = simp (le-leb _ _ c.if-forms-lt-FORM_TABLE.false, le-leb _ _ c.if-pool-lt-POOL.false, le-leb _ _ c.if-lines-lt-LINE_TABLE.false)
