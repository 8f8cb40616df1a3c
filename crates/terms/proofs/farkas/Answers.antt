-- `terms::farkas` meets its contract.
use mathlib.Core.Path.{sym, ◌∙◌}
use Rattle.std.proofs.Common.{rules}
use Rattle.rows.specs.Limits.{unknowns}
use Rattle.ledger.specs.Record.{FK}
use Rattle.ledger.specs.Checks.{tests, makes}
use Rattle.proposals.proofs.Making.{proposing}
use Rattle.rules.specs.Read.{forms_read}
use Rattle.terms.proofs.TermTests.{low_picks}
use Rattle.terms.proofs.LentTerms.{lent_paired, line_of_forms}
use Rattle.terms.proofs.farkas.Goals as goal

pub invariant_of-t : goal.invariant_of-t
invariant_of-t c = record { paired = lent_paired c.read_terms-n.ensures (search rules) (search rules) c.requires }

pub all_negated-requires : goal.all_negated-requires
unfolding tests
all_negated-requires c =
    let p = lent_paired c.read_terms-n.ensures (search rules) (search rules) c.requires in
    (λ e. low_picks c.args.forms.held p _ (sym e ∙ c.judge_farkas-v.ensures), p.few, search rules)

pub returns : goal.returns
unfolding tests makes
returns c =
    let p = lent_paired c.read_terms-n.ensures (search rules) (search rules) c.requires in
    λ cells xs. rw (← c.read_terms-n.ensures.read)
    (λ ls. proposing unknowns (forms_read c.args.forms) ls (FK _) c.judge_farkas-v.ensures (line_of_forms p) (c.all_negated.ensures cells xs))
