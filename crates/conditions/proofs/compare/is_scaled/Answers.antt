-- `conditions::compare::is_scaled` meets its contract.
use mathlib.Core.Path.{◌∙◌}
use borrow.Author.Rules.{rules}
use borrow.Author.Tests.{tests}
use mir.ValLaws.{to_z-of_z}
use lib.IntN.{pos, ◌+ℤ◌, ◌*ℤ◌}
use Rattle.std.proofs.lemmas.Iterator.{YieldsList-from_slice, YieldsList-from_zip}
use Rattle.std.proofs.lemmas.Iterator.Search.{all_from_yields_List}
use Rattle.ints.specs.Tests.{eq_z}
use Rattle.rows.proofs.RowLaws.{unequal}
use Rattle.conditions.proofs.RowTests.{pairs}
use Rattle.conditions.proofs.compare.is_scaled.Goals as goal

pub returns-then-a-b : goal.returns-then-a-b
returns-then-a-b c =
    let a = c.args in
    all_from_yields_List (λ p. eq_z p.0 (pos 0 +ℤ (a.m *ℤ p.1))) c.all.new.self _ _ c.all.ensures.ran
    (YieldsList-from_zip (YieldsList-from_slice a.a.now (search rules)) (YieldsList-from_slice a.b.now (search rules)))
    (λ x b q k. search (rules, tests, to_z-of_z))
    ∙ pairs a.m a.a.now a.b.now c.if-a-b.true

pub returns-else-a-b : goal.returns-else-a-b
returns-else-a-b c = let a = c.args in rw (unequal a.a.now a.m a.b.now c.if-a-b.false) (search (rules, tests))
