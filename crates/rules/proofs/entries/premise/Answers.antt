-- `rules::entries::premise` meets its contract.
use Prim.Native.Nat.{◌≤◌}
use lib.ListN.{length}
use Rattle.std.proofs.Common.{rules}
use Rattle.std.proofs.lemmas.Result.{err_from_is_err_and}
use Rattle.rows.specs.Limits.{unknowns}
use Rattle.ledger.specs.Record.{PM}
use Rattle.ledger.specs.Checks.{tests}
use Rattle.proposals.proofs.Making.{refusing}
use Rattle.rules.proofs.FieldLaws.{premise_made}
use Rattle.rules.proofs.entries.premise.Goals as goal

pub returns-in_err-judge_premise : goal.returns-in_err-judge_premise
unfolding tests
returns-in_err-judge_premise c = λ cells xs fs ls e.
    let p = err_from_is_err_and c.from_residual.result c.from_residual.ensures.1 in
    rw (p.1, p.2, ← c.read_numbers-n.ensures.read) (refusing unknowns fs ls (PM _) (c.in_err-judge_premise.ensures fs e))

pub returns : goal.returns
returns c = λ cells xs fs ls e.
    let room : c.read_numbers-n.result ≤ length c.read_numbers-n.new.cells = search rules in
    rw (c.premise.ensures, ← c.read_numbers-n.ensures.read) (premise_made fs ls c.read_numbers-n.result room (c.in_ok-judge_premise.ensures fs e))
