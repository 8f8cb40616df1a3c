-- `pairs::trichotomy` meets its contract.
use mathlib.Core.Path.{refl}
use Rattle.rows.specs.Limits.{unknowns}
use Rattle.ledger.specs.Checks.{tests, makes}
use Rattle.ledger.specs.Record.{TR}
use Rattle.proposals.proofs.Making.{proposing}
use Rattle.rules.specs.Read.{forms_read}
use Rattle.rules.proofs.FieldLaws.{low_three}
use Rattle.pairs.proofs.trichotomy.Goals as goal

pub three-requires : goal.three-requires
unfolding tests
three-requires c = low_three c.args.forms.held _ _ _ _ c.judge_trichotomy-v.ensures

pub returns : goal.returns
unfolding tests makes
returns c = (
  rw (← c.u16_at-z.ensures, ← c.u16_at-u.ensures, ← c.u16_at-w.ensures)
      (λ ls. proposing unknowns (forms_read c.args.forms) ls (TR _ _ _) c.judge_trichotomy-v.ensures refl c.three.ensures.0),
  c.three.ensures.1,
)
