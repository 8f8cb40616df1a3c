-- `remainders::loosening` meets its contract.
use mathlib.Core.Path.{refl}
use native.Mathlib.Omega.{arith}
use Rattle.rows.specs.Limits.{unknowns}
use Rattle.ledger.specs.Record.{LF}
use Rattle.ledger.specs.Checks.{tests, makes}
use Rattle.proposals.proofs.Making.{proposing}
use Rattle.rules.specs.Read.{forms_read}
use Rattle.rules.proofs.FieldLaws.{low_two}
use Rattle.remainders.proofs.loosening.Goals as goal

pub two-requires : goal.two-requires
unfolding tests
two-requires c = (low_two c.args.forms.held _ _ _ c.judge_loosening-v.ensures, omega arith)

pub returns : goal.returns
unfolding tests makes
returns c = (
  rw (← c.u16_at-g.ensures, ← c.u16_at-h.ensures)
      (λ ls. proposing unknowns (forms_read c.args.forms) ls (LF _ _) c.judge_loosening-v.ensures refl c.two.ensures.0),
  c.two.ensures.1,
)
