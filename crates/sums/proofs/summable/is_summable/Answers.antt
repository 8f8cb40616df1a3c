-- `sums::summable::is_summable` meets its contract.
use mathlib.Core.Path.{sym, ◌∙◌}
use native.Mathlib.Omega.{arith}
use borrow.Author.Rules.{rules}
use borrow.Author.Tests.{tests}
use mir.ValLaws.{to_z-of_z}
use Rattle.std.proofs.lemmas.Iterator.{YieldsList-from_slice, YieldsList-from_zip}
use Rattle.std.proofs.lemmas.Iterator.Search.{all_from_yields_List}
use Rattle.rows.specs.Limits.{unknowns}
use Rattle.rows.specs.Summable.{summand}
use Rattle.rows.proofs.TermLaws.{term, summable_is}
use Rattle.sums.proofs.SumTests.{pairs}
use Rattle.sums.proofs.summable.is_summable.Goals as goal

pub returns : goal.returns
returns c =
    let a = c.args in
    let test = summand unknowns a.table.now in
    all_from_yields_List (λ p. test (term p.0 p.1)) c.all.new.self _ _ c.all.ensures.ran
    (YieldsList-from_zip (YieldsList-from_slice a.picks.now (search rules)) (YieldsList-from_slice a.multipliers.now (search rules)))
    (λ x b q k. search (rules, tests, to_z-of_z))
    ∙ pairs test a.picks.now a.multipliers.now
    ∙ sym (summable_is unknowns a.table.now a.picks.now a.multipliers.now (omega arith) c.if-picks-multipliers.false)
