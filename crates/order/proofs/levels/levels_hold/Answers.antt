-- `order::levels::levels_hold` meets its contract.
use mathlib.Core.Path.{refl, sym, ap, ◌∙◌}
use Prim.Native.Nat.{ℕ, ◌+◌, ◌<◌}
use native.Mathlib.Numerals.{add-one}
use native.Mathlib.Omega.{arith}
use borrow.Author.Count.{below_more}
use Rattle.session.specs.Cells.{counts_of}
use Rattle.session.specs.Parts.{edge}
use Rattle.walk.proofs.Says.{say_yes}
use Rattle.order.specs.Levels.{LevelGood, lower}
use Rattle.order.proofs.levels.levels_hold.Goals as goal
use Rattle.order.proofs.levels.levels_hold.Goals.{Else-not-level_holds}

-- every level up to i, which has passed the test
good : (c : Else-not-level_holds) →
    let a = c.args in
    (k : ℕ) → k < c.loop-i.i + 1 → LevelGood a.pool.now a.lines.now (counts_of a.s) (lower a.s k) (edge a.s k)
good c =
    below_more _ _ c.loop-i.invariant.each
    (rw (← c.edge_at-m.ensures, ← c.loop-i.invariant.low_is, ← c.counts-here.ensures) (c.if-not-level_holds.ensures.yes refl))

pub loop-i-preserved : goal.loop-i-preserved
loop-i-preserved c =
    record {
      low_is = c.edge_at-m.ensures ∙ ap (lower c.args.s) (sym (add-one c.loop-i.i));
      first = (c.if-not-level_holds.ensures.yes refl).ends;
      each = good (goal.at.loop-i-preserved c).Else-not-level_holds;
    }

pub returns : goal.returns
returns c = say_yes (λ k h. c.loop-i.invariant.each k (omega arith))
