-- `contents::exact::is_affine` meets its contract: no i32 makes the sum wrap, and `==` compares the numbers.
use native.Mathlib.Omega.{arith}
use Rattle.std.proofs.lemmas.Grind.{common_steps}
use mir.ValLaws.{to_z-of_z}
use Rattle.ints.proofs.Size.{sizes, size_32, wider}
use Rattle.ints.proofs.Bits.{bits_eq_z}
use Rattle.contents.proofs.exact.is_affine.Goals as goal

pub plus_times-requires : goal.plus_times-requires
plus_times-requires c = grind (arith, common_steps, to_z-of_z, wider, size_32 c.ranges.n, sizes (size_32 c.ranges.m) (size_32 c.ranges.y))

pub returns : goal.returns
returns c = grind (arith, common_steps, to_z-of_z, bits_eq_z)
