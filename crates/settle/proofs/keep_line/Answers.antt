-- `settle::keep_line` meets its contract.
use mathlib.Core.Path.{sym, ◌∙◌}
use Prim.Native.Nat.{◌-◌, ◌≤◌, ◌<◌}
use native.Mathlib.Omega.{arith}
use borrow.Author.Tests.{ltb-true, ltb-false}
use lib.ListN.{length}
use Rattle.ledger.specs.Limits.{most_literals}
use Rattle.ledger.specs.Literals.{joined}
use Rattle.settle.proofs.OnLedger.{line_full, pool_full}
use Rattle.settle.proofs.Tops.{line_adds}
use Rattle.settle.proofs.keep_line.Goals as goal

pub returns-then-counts-ge-MOST_LINES : goal.returns-then-counts-ge-MOST_LINES
returns-then-counts-ge-MOST_LINES c = λ fs s e h. record { result = line_full h _ (rw (← e) at c.if-counts-ge-MOST_LINES.true); place = tt }

pub returns-then-longer_than : goal.returns-then-longer_than
returns-then-longer_than c = λ fs s e h. let over : most_literals - c.args.top.counts.literals < length (joined c.args.a.now c.args.b.now) = ltb-true _ _ (sym c.longer_than.ensures ∙ c.if-longer_than.true) in record { result = pool_full h _ (rw (← e) at c.if-counts-ge-MOST_LINES.false) (rw (← e) at over); place = tt }

pub returns : goal.returns
returns c = λ fs s e h. let xs = joined c.args.a.now c.args.b.now in let low : length xs ≤ most_literals - c.args.top.counts.literals = ltb-false _ _ (sym c.longer_than.ensures ∙ c.if-longer_than.false) in record { result = rw c.add_line-end.ensures.ends (line_adds h c.args.top e (record { origin = c.args.origin; literals = xs }) (omega arith) (omega (arith, low, c.requires.few)) _ _ c.add_line-end.ensures.pool c.add_line-end.ensures.lines); place = tt }
