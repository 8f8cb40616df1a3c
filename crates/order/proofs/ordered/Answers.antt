-- `order::ordered` meets its contract: what its parts find out is what the clauses say, and a part that fails breaks a clause.
use mathlib.Core.Path.{◌≡◌, refl, sym, ◌∙◌, subst}
use mathlib.Core.Bool.{false}
use Prim.Native.Nat.{◌*◌}
use borrow.Author.Rules.{rules}
use borrow.Author.Tests.{tests}
use lib.Dec.{T, eqb}
use lib.IntN.{pos}
use lib.ListN.{drop}
use Rattle.std.proofs.lemmas.List.{take_rest}
use Rattle.std.proofs.lemmas.Iterator.{YieldsList-from_slice}
use Rattle.std.proofs.lemmas.Iterator.Search.{all_from_yields_List}
use Rattle.ints.specs.Tests.{eq_z, all}
use Rattle.ints.proofs.Bools.{true→T, T→false, T-same}
use Rattle.rows.specs.Limits.{unknowns}
use Rattle.session.specs.Limits.{form_cells, line_cells}
use Rattle.session.specs.Cells.{Tables, tables}
use Rattle.session.specs.InOrder.{order}
use Rattle.session.specs.Parts.{all_pass}
use Rattle.walk.proofs.Says.{denied}
use Rattle.order.proofs.Bridge.{Found, found, in_order}
use Rattle.order.proofs.ordered.Goals as goal
use Rattle.order.proofs.ordered.Goals.{Start, After-all, After-all-2, After-all-3}

abbrev cells : Start → Tables
cells b = tables b.args.forms.now b.args.pool.now b.args.lines.now

-- a clause fails
fails : (b : Start) → (Found unknowns b.args.s (cells b) → ⊥) → false ≡ all_pass (order unknowns b.args.s (cells b))
fails b f = sym (T→false _ (λ p. f (found unknowns b.args.s (cells b) p)))

pub returns-then-not-counts_hold : goal.returns-then-not-counts_hold
returns-then-not-counts_hold c = fails (goal.at.returns-then-not-counts_hold c).Start (λ p. denied c.if-not-counts_hold.ensures refl p.counted)

pub returns-then-not-forms_hold : goal.returns-then-not-forms_hold
returns-then-not-forms_hold c = fails (goal.at.returns-then-not-forms_hold c).Start (λ p. denied c.if-not-forms_hold.ensures refl p.contents)

pub returns-then-not-levels_hold : goal.returns-then-not-levels_hold
returns-then-not-levels_hold c = fails (goal.at.returns-then-not-levels_hold c).Start (λ p. denied c.if-not-levels_hold.ensures refl p.levels)

pub returns-then-not-marks_clear : goal.returns-then-not-marks_clear
returns-then-not-marks_clear c = fails (goal.at.returns-then-not-marks_clear c).Start (λ p. subst T (sym c.if-not-marks_clear.ensures) p.marks_zero)

-- what the last three tests find out

forms_zero : (c : After-all) → c.all.result ≡ all (λ x. eq_z x (pos 0)) (drop (form_cells unknowns * c.args.s.forms) c.args.forms.now)
forms_zero c = all_from_yields_List (λ x. eq_z x (pos 0)) _ _ _ c.all.ensures.ran (YieldsList-from_slice _ (c.iter.ensures.rest ∙ take_rest c.args.forms.now (form_cells unknowns * c.args.s.forms))) (λ x b q k. search (rules, tests))

pool_zero : (c : After-all-2) → c.all-2.result ≡ all (λ x. eqb x 0) (drop c.args.s.literals c.args.pool.now)
pool_zero c = all_from_yields_List (λ x. eqb x 0) _ _ _ c.all-2.ensures.ran (YieldsList-from_slice _ (c.iter-2.ensures.rest ∙ take_rest c.args.pool.now c.args.s.literals)) (λ x b q k. search (rules, tests))

lines_zero : (c : After-all-3) → c.all-3.result ≡ all (λ x. eqb x 0) (drop (line_cells * c.args.s.lines) c.args.lines.now)
lines_zero c = all_from_yields_List (λ x. eqb x 0) _ _ _ c.all-3.ensures.ran (YieldsList-from_slice _ (c.iter-3.ensures.rest ∙ take_rest c.args.lines.now (line_cells * c.args.s.lines))) (λ x b q k. search (rules, tests))

pub returns-then-not-all : goal.returns-then-not-all
returns-then-not-all c =
    fails (goal.at.returns-then-not-all c).Start
    (λ p. subst T (sym (forms_zero (goal.at.returns-then-not-all c).After-all) ∙ c.if-not-all.true) p.forms_zero)

pub returns-then-not-all-2 : goal.returns-then-not-all-2
returns-then-not-all-2 c =
    fails (goal.at.returns-then-not-all-2 c).Start
    (λ p. subst T (sym (pool_zero (goal.at.returns-then-not-all-2 c).After-all-2) ∙ c.if-not-all-2.true) p.pool_zero)

pub returns : goal.returns
returns c =
    let a = c.args in
    lines_zero c
    ∙ T-same _ _
    (λ u.
    in_order unknowns a.s (cells (goal.at.returns c).Start)
    (record {
      counted = c.if-not-counts_hold.ensures.yes refl;
      contents = c.if-not-forms_hold.ensures.yes refl;
      levels = c.if-not-levels_hold.ensures.yes refl;
      marks_zero = true→T (sym c.if-not-marks_clear.ensures);
      forms_zero = true→T (sym (forms_zero (goal.at.returns c).After-all) ∙ c.if-not-all.false);
      pool_zero = true→T (sym (pool_zero (goal.at.returns c).After-all-2) ∙ c.if-not-all-2.false);
      lines_zero = u;
    }))
    (λ p. (found unknowns a.s (cells (goal.at.returns c).Start) p).lines_zero)
