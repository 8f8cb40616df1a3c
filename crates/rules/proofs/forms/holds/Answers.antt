-- `rules::forms::holds` meets its contract.
use Rattle.ledger.specs.Apply.{finding}
use Rattle.rules.proofs.forms.holds.Goals as goal

pub returns-then-condition : goal.returns-then-condition
unfolding finding
returns-then-condition c = rw c.if-condition.true

pub returns : goal.returns
unfolding finding
returns c = rw c.if-condition.false
