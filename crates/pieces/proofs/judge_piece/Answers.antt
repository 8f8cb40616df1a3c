-- `judge_piece` meets its contract.
use native.Mathlib.Nat.{sub-zero}
use Rattle.rows.specs.Limits.{unknowns}
use Rattle.session.specs.Cells.{tables}
use Rattle.pieces.proofs.Stepping.{stepped}
use Rattle.pieces.proofs.judge_piece.Goals as goal

pub returns : goal.returns
returns c =
    let a = c.args in
    let ran = c.run-ran in
    let entry = tables a.forms.now a.pool.now a.lines.now in
    let exit = tables ran.new.forms ran.new.pool ran.new.lines in
    stepped unknowns a.progress.session entry a.buffer.now a.count a.last ran.result exit
    c.holding-end.ensures
    (rw sub-zero at ran.ensures)
    c.keep-kept.ensures
    c.next_by.result
    c.next_by.ensures
    a.progress.records
    a.progress.bytes
    c.wrapping_add_u64.ensures.value
    c.wrapping_add_u64-2.ensures.value
