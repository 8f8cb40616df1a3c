-- `sums::sum_rows` meets its contract.
use mathlib.Core.Path.{◌≡◌, sym, ◌∙◌}
use Prim.Native.Nat.{◌*◌}
use native.Mathlib.Omega.{arith}
use borrow.Author.Rules.{rules}
use lib.IntN.{pos}
use lib.ListN.{get_or}
use mir.Syntax.{w32}
use mir.Val.{SFits}
use mir.ValLaws.{to_z-of_z}
use Rattle.rows.specs.Limits.{unknowns}
use Rattle.rows.specs.Row.{plus, scaled}
use Rattle.rows.specs.Summable.{row_at}
use Rattle.rows.proofs.TermLaws.{summand_at}
use Rattle.rows.proofs.SumLaws.{largest_term, grown, room, length_grown, sum_step, sum_over}
use Rattle.sums.proofs.sum_rows.Goals as goal

pub row-requires : goal.row-requires
row-requires c = (summand_at c.requires c.loop-i.i c.loop-i-test.true).inside

pub add_scaled-requires : goal.add_scaled-requires
add_scaled-requires c =
    let i = c.loop-i.i in
    let f : SFits w32 (get_or c.args.multipliers.now i (pos 0)) = search rules in
    simp (to_z-of_z, c.row.ensures)
    (room (summand_at c.requires i c.loop-i-test.true) c.loop-i.sums (i * largest_term) c.loop-i.invariant.1 (omega (arith, c.requires.few)) c.loop-i.invariant.0)

pub loop-i-preserved : goal.loop-i-preserved
loop-i-preserved c =
    let a = c.args in
    let i = c.loop-i.i in
    let m = get_or a.multipliers.now i (pos 0) in
    let row = row_at unknowns a.table.now (get_or a.picks.now i 0) in
    let t = summand_at c.requires i c.loop-i-test.true in
    let f : SFits w32 m = search rules in
    let e : c.add_scaled.new.sums ≡ plus c.loop-i.sums (scaled m row) =
    simp (to_z-of_z, c.row.ensures) at c.add_scaled.ensures
    in
    rw e (
      length_grown t c.loop-i.sums (i * largest_term) c.loop-i.invariant.1 c.loop-i.invariant.0,
      (λ j. omega (arith, grown t c.loop-i.sums (i * largest_term) c.loop-i.invariant.1 j)),
      sum_step (row_at unknowns a.table.now) c.loop-i.sums a.picks.now a.multipliers.now i c.requires.paired c.loop-i-test.true
          ∙ c.loop-i.invariant.2,
    )

pub returns : goal.returns
returns c =
    let a = c.args in
    sym (sum_over (row_at unknowns a.table.now) c.loop-i.sums a.picks.now a.multipliers.now c.loop-i.i c.loop-i-test.false) ∙ c.loop-i.invariant.2
