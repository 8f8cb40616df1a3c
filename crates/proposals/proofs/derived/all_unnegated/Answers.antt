-- `proposals::derived::all_unnegated` meets its contract: the literals are written, and then sorted where they lie.
use mathlib.Core.Path.{refl, ap}
use lib.ListN.{length}
use Rattle.session.specs.Answers.{finding_of}
use Rattle.proposals.proofs.Making.{unnegated_made}
use Rattle.proposals.proofs.derived.all_unnegated.Goals as goal

pub returns : goal.returns
returns c = λ cells xs.
    let a = c.args in
    let passed = c.in_ok-v.was in
    rw (c.derived.ensures, passed)
    (unnegated_made _ (length a.picks.now) _ _ _ _ _ refl (c.requires.1 (ap finding_of passed)) c.write_literals.ensures c.sort.ensures)
