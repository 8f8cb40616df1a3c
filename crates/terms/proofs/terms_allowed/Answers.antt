-- `terms::terms_allowed` meets its contract.
use mathlib.Core.Path.{◌∙◌}
use borrow.Author.Rules.{rules}
use borrow.Author.Tests.{tests}
use mir.ValLaws.{to_z-of_z}
use Rattle.std.proofs.lemmas.Iterator.{YieldsList-from_slice, YieldsList-from_zip}
use Rattle.std.proofs.lemmas.Iterator.Adapters.{serves_from_places}
use Rattle.std.proofs.lemmas.Iterator.Search.{all_from_yields_List}
use Rattle.rows.specs.Limits.{unknowns}
use Rattle.rows.proofs.TermLaws.{term}
use Rattle.terms.specs.Picks.{term_allowed}
use Rattle.terms.proofs.TermParts.{pairs, pair_inside}
use Rattle.terms.proofs.terms_allowed.Goals as goal

pub all-requires-clause-callable : goal.all-requires-clause-callable
all-requires-clause-callable c =
    let a = c.args in
    serves_from_places
    (YieldsList-from_zip (YieldsList-from_slice a.t.picks.now (search rules)) (YieldsList-from_slice a.t.multipliers.now (search rules)))
    (λ x q k. search rules)
    (λ x k h e. search (rules, pair_inside c.requires a.t.multipliers.now (x.0.now, x.1.now) k h e))

pub returns : goal.returns
returns c =
    let a = c.args in
    let test = term_allowed unknowns a.forms.now a.low a.high in
    all_from_yields_List (λ p. test (term p.0 p.1)) c.all.new.self _ _ c.all.ensures.ran
    (YieldsList-from_zip (YieldsList-from_slice a.t.picks.now (search rules)) (YieldsList-from_slice a.t.multipliers.now (search rules)))
    (λ x b q k. search (rules, tests, to_z-of_z))
    ∙ pairs test a.t.picks.now a.t.multipliers.now
