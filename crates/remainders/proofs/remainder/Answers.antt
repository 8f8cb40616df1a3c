-- `remainders::remainder` meets its contract.
use mathlib.Core.Path.{refl}
use Rattle.std.proofs.Common.{rules}
use Rattle.rows.specs.Limits.{unknowns}
use Rattle.ledger.specs.Record.{AR}
use Rattle.ledger.specs.Checks.{tests, makes}
use Rattle.proposals.proofs.Making.{proposing}
use Rattle.rules.specs.Read.{forms_read}
use Rattle.remainders.proofs.Picks.{low_picks, different_picks, lent_some, lent_few}
use Rattle.remainders.proofs.remainder.Goals as goal

pub judge_remainder-v-requires : goal.judge_remainder-v-requires
judge_remainder-v-requires c = let e = c.read_numbers-n.ensures in (lent_some e c.requires, lent_few e c.requires)

pub all_unnegated-requires : goal.all_unnegated-requires
all_unnegated-requires c =
    let held = c.args.forms.held in
    let v = c.judge_remainder-v in
    (low_picks held _ v.ensures, different_picks held _ v.ensures, lent_few c.read_numbers-n.ensures c.requires, search rules)

pub returns : goal.returns
unfolding tests makes
returns c = (
  λ cells xs. rw (← c.read_numbers-n.ensures.read)
      (λ ls. proposing unknowns (forms_read c.args.forms) ls (AR _) c.judge_remainder-v.ensures refl (c.all_unnegated.ensures cells xs)),
  refl,
)
