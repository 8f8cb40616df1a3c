-- `settle::close_level` meets its contract.
use mathlib.Core.Path.{◌≡◌}
use native.Mathlib.Omega.{arith}
use Rattle.std.proofs.Common.{rules}
use Rattle.session.specs.Cells.{no_mark}
use Rattle.settle.proofs.OnLedger.{no_level}
use Rattle.settle.proofs.Tops.{closes_less, seen_levels, seen_between}
use Rattle.settle.proofs.close_level.Goals as goal

pub returns-then-top-eq0 : goal.returns-then-top-eq0
returns-then-top-eq0 c = λ s e h. record { result = no_level h (rw (← e) at c.if-top-eq0.true); place = tt }

pub free_cells-requires : goal.free_cells-requires
free_cells-requires c = seen_between c.requires (omega arith)

pub returns : goal.returns
returns c = λ s e h. let none : c.default.result ≡ no_mark = search rules in rw none (record { result = closes_less h c.args.top e (omega arith) _ c.free_cells.ensures; place = omega (arith, seen_levels c.requires) })
