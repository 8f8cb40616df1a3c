-- `remainders::scaling_down` meets its contract.
use mathlib.Core.Path.{refl}
use native.Mathlib.Omega.{arith}
use Rattle.rows.specs.Limits.{unknowns}
use Rattle.ledger.specs.Record.{SD}
use Rattle.ledger.specs.Checks.{tests, makes}
use Rattle.proposals.proofs.Making.{proposing}
use Rattle.rules.specs.Read.{forms_read}
use Rattle.rules.proofs.FieldLaws.{low_two}
use Rattle.remainders.proofs.scaling_down.Goals as goal

pub two-requires : goal.two-requires
unfolding tests
two-requires c = (λ e. let (g, h) = low_two c.args.forms.held _ _ _ c.judge_scaling-v.ensures e in (h, g), omega arith)

pub returns : goal.returns
unfolding tests makes
returns c = (
  rw (← c.u16_at-g.ensures, ← c.u16_at-h.ensures, ← c.u16_at-k.ensures)
      (λ ls. proposing unknowns (forms_read c.args.forms) ls (SD _ _ _) c.judge_scaling-v.ensures refl c.two.ensures.0),
  c.two.ensures.1,
)
