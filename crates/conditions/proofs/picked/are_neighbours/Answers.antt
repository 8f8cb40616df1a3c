-- `conditions::picked::are_neighbours` meets its contract: the row at place i is tested, and what is left are those behind it.
use mathlib.Core.Path.{◌≡◌, sym, ◌∙◌}
use mathlib.Core.Bool.{◌&&◌}
use mathlib.Core.List.{map}
use Prim.Native.Nat.{◌+◌}
use native.Mathlib.Omega.{arith}
use lib.ListN.{get_or, drop}
use mir.Syntax.{w32}
use mir.ValLaws.{to_z_pos}
use Rattle.rows.specs.Limits.{unknowns}
use Rattle.rows.specs.Summable.{row_at}
use Rattle.rows.specs.Conditions.{neighbours_from, neighbours}
use Rattle.rows.proofs.RowLaws.{scaled_one}
use Rattle.rows.proofs.Remainders.{neighbours_all, neighbours_step, neighbours_over}
use Rattle.conditions.proofs.picked.are_neighbours.Goals as goal
use Rattle.conditions.proofs.picked.are_neighbours.Goals.{After-matches}

pub loop-i-init : goal.loop-i-init
loop-i-init c = neighbours_all (row_at unknowns c.args.table.now) c.args.picks.now c.requires.1

tested : (c : After-matches) →
    let picks = c.args.picks.now in
    let row = row_at unknowns c.args.table.now in
    c.matches.result && neighbours_from (c.loop-i.i + 1) (row (get_or picks 0 0)) (map row (drop (c.loop-i.i + 1) picks)) ≡ neighbours (map row picks)
tested c =
    let place = to_z_pos w32 c.loop-i.i (omega arith) in
    sym (neighbours_step (row_at unknowns c.args.table.now) c.args.picks.now c.loop-i.i _ (omega arith) (sym (rw (scaled_one, place) at c.matches.ensures)))
    ∙ c.loop-i.invariant

pub returns-then-not-matches : goal.returns-then-not-matches
returns-then-not-matches c = rw c.if-not-matches.true at (tested (goal.at.returns-then-not-matches c).After-matches)

pub loop-i-preserved : goal.loop-i-preserved
loop-i-preserved c = rw c.if-not-matches.false at (tested (goal.at.loop-i-preserved c).After-matches)

pub returns : goal.returns
returns c = sym (neighbours_over (row_at unknowns c.args.table.now) c.args.picks.now c.loop-i.i _ (omega arith)) ∙ c.loop-i.invariant
