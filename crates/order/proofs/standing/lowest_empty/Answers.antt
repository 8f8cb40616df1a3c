-- `order::standing::lowest_empty` meets its contract.
use mathlib.Core.Path.{sym, ◌∙◌}
use native.Mathlib.Omega.{arith}
use Rattle.walk.proofs.LineWalk.{end_next}
use Rattle.order.proofs.EmptyLines.{empty_here, not_here, none_empty}
use Rattle.order.proofs.standing.lowest_empty.Goals as goal

pub returns-then-end-from : goal.returns-then-end-from
returns-then-end-from c =
    let a = c.args in
    let w = c.loop-i in
    let e = sym (end_next a.lines.now w.i) ∙ c.if-end-from.true ∙ w.invariant.begins in
    sym (empty_here a.lines.now w.i a.count c.loop-i-test.true e) ∙ w.invariant.same

pub loop-i-preserved : goal.loop-i-preserved
loop-i-preserved c =
    let a = c.args in
    let w = c.loop-i in
    let e = end_next a.lines.now w.i in
    record {
      begins = e;
      same = sym (not_here a.lines.now w.i a.count c.loop-i-test.true (λ q. c.if-end-from.false (e ∙ q ∙ sym w.invariant.begins))) ∙ w.invariant.same;
    }

pub returns : goal.returns
returns c = let w = c.loop-i in sym (none_empty c.args.lines.now w.i c.args.count (omega arith)) ∙ w.invariant.same
