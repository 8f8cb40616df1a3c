-- `settle::open_level` meets its contract.
use native.Mathlib.Omega.{arith}
use Rattle.settle.proofs.OnLedger.{levels_full}
use Rattle.settle.proofs.Tops.{opens_more}
use Rattle.settle.proofs.open_level.Goals as goal

pub returns-then-top-ge-MOST_LEVELS : goal.returns-then-top-ge-MOST_LEVELS
returns-then-top-ge-MOST_LEVELS c = λ t s e h. record { result = levels_full h (rw (← e) at c.if-top-ge-MOST_LEVELS.true); place = tt }

pub returns : goal.returns
returns c = λ t s e h. record { result = opens_more h c.args.top e (omega arith); place = omega arith }
