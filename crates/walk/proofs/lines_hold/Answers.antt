-- `walk::lines_hold` meets its contract.
use mathlib.Core.Path.{◌≡◌, ◌∙◌}
use mathlib.Core.Bool.{false}
use Prim.Native.Nat.{suc, ◌*◌}
use native.Mathlib.Omega.{arith}
use lib.ListN.{drop}
use Rattle.walk.specs.Walk.{LineGood}
use Rattle.walk.proofs.Says.{say_no}
use Rattle.walk.proofs.LineWalk.{literals, literals_hold, literal_low, literal_high, literal_good, literals_over}
use Rattle.walk.proofs.LineWalk.{good_line, bad_literals, end_next, rising, one_more}
use Rattle.walk.proofs.lines_hold.Goals as goal
use Rattle.walk.proofs.lines_hold.Goals.{then-end-from-via-then-end-from, then-end-from-via-else-end-from+then-from-end, then-end-from-via-else-end-from+else-from-end+then-stop-end}
use Rattle.walk.proofs.lines_hold.Goals.{then-x-least-via-then-x-least, then-x-least-via-else-x-least+then-bound-x}

pub returns-then-end-from : goal.returns-then-end-from
returns-then-end-from c =
    let k = c.lines.k in
    say_no
    (λ p.
    let g = p k (omega arith) (omega arith) in
    let r = rising c.args.lines.now (suc k) c.args.m.lines (omega arith) (λ i h l. (p i (omega arith) l).rise) in
    elim c.then-end-from.branch [
      | then-end-from-via-then-end-from w ↦ omega (arith, g.rise)
      | then-end-from-via-else-end-from+then-from-end w ↦ omega (arith, g.short)
      | then-end-from-via-else-end-from+else-from-end+then-stop-end w ↦ omega arith
    ])

pub returns-then-x-least : goal.returns-then-x-least
returns-then-x-least c =
    let a = c.args in
    let k = c.lines.k in
    let i = c.loop-x.x-index in
    let n = a.m.forms in
    let xs = literals a.pool.now a.lines.now n k c.lines.from c.lines.invariant.begins in
    let wrong : literals_hold (2 * n) c.loop-x.least (drop i xs) ≡ false =
    elim c.then-x-least.branch [
      | then-x-least-via-then-x-least w ↦ literal_low (2 * n) c.loop-x.least i xs (omega arith) (omega arith)
      | then-x-least-via-else-x-least+then-bound-x w ↦ literal_high (2 * n) c.loop-x.least i xs (omega arith) (omega arith) (omega arith)
    ]
    in
    say_no
    (λ p. bad_literals a.pool.now a.lines.now n k c.lines.from c.lines.invariant.begins (c.loop-x.invariant.1 ∙ wrong) (p k (omega arith) (omega arith)))

pub loop-x-preserved : goal.loop-x-preserved
loop-x-preserved c =
    let a = c.args in
    let n = a.m.forms in
    let xs = literals a.pool.now a.lines.now n c.lines.k c.lines.from c.lines.invariant.begins in
    (c.loop-x.invariant.0, c.loop-x.invariant.1 ∙ literal_good (2 * n) c.loop-x.least c.loop-x.x-index xs (omega arith) (omega arith) (omega arith))

pub lines-preserved : goal.lines-preserved
lines-preserved c =
    let a = c.args in
    let k = c.lines.k in
    let n = a.m.forms in
    record {
      holds = c.loop-x.invariant.0;
      room = omega arith;
      begins = end_next a.lines.now k;
      good =
          one_more (LineGood a.pool.now a.lines.now n) a.low.lines k c.lines.invariant.good
          (good_line a.pool.now a.lines.now n k c.lines.from c.lines.invariant.begins (omega arith) (omega arith) (omega arith) (omega arith)
          (c.loop-x.invariant.1 ∙ literals_over (2 * n) c.loop-x.least c.loop-x.x-index _ (omega arith)));
    }
