-- `sums::combine` meets its contract.
use Rattle.rows.specs.Limits.{unknowns}
use Rattle.rows.proofs.SumLaws.{small_sums}
use Rattle.sums.proofs.combine.Goals as goal

pub lowest-requires : goal.lowest-requires
lowest-requires c =
    let a = c.args in
    rw c.sum_rows.ensures (small_sums unknowns a.table.now a.picks.now a.multipliers.now c.requires)
