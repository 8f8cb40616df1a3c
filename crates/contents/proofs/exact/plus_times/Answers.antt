-- `contents::exact::plus_times` meets its contract: the product and the sum fit, so that both are read back from their bits.
use native.Mathlib.Omega.{arith}
use Rattle.std.proofs.lemmas.Grind.{common_steps}
use lib.IntN.{◌+ℤ◌, ◌*ℤ◌}
use mir.Syntax.{w64}
use mir.Val.{SFits}
use mir.ValLaws.{to_z-of_z}
use Rattle.ints.proofs.Size.{nat_abs_add, nat_abs_mul, fits_by_size}
use Rattle.contents.proofs.exact.plus_times.Goals as goal

pub returns : goal.returns
returns c =
    let s = c.args.sum in
    let p = c.args.m *ℤ c.args.k in
    let size = nat_abs_mul c.args.m c.args.k in
    let product : SFits w64 p = fits_by_size w64 p (omega (arith, size)) in
    let sum : SFits w64 (s +ℤ p) = fits_by_size w64 (s +ℤ p) (omega (arith, nat_abs_add s p, size)) in
    grind (arith, common_steps, to_z-of_z, product, sum)
