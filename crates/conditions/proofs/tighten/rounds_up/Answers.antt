-- `conditions::tighten::rounds_up` meets its contract: the product and the lower bound fit, and c b − c is c (b − 1).
use mathlib.Core.Path.{◌≡◌, ◌∙◌}
use native.Mathlib.Omega.{arith}
use lib.IntN.{pos, neg_ℤ, ◌-ℤ◌, ◌*ℤ◌, +ℤ_idl}
use mir.Syntax.{w32, w64}
use mir.Val.{SFits}
use mir.ValLaws.{to_z-of_z}
use Rattle.std.proofs.lemmas.Grind.{common_steps}
use Rattle.ints.proofs.Polynomial.{at, ◌⊝◌, ◌⊗◌, eq_by}
use Rattle.ints.proofs.Size.{nat_abs_add, nat_abs_mul, sizes, size_32, fits_by_size, wider}
use Rattle.conditions.proofs.tighten.rounds_up.Goals as goal
use Rattle.conditions.proofs.tighten.rounds_up.Goals.{After-plus_times-p}

record Exact (t : After-plus_times-p) : Type 0 where
  product : t.plus_times-p.result ≡ t.args.c *ℤ t.args.b
  fits : SFits w64 (t.args.c *ℤ t.args.b)
  low : t.args.c *ℤ t.args.b -ℤ t.args.c ≡ t.args.c *ℤ (t.args.b -ℤ pos 1)
  low_fits : SFits w64 (t.args.c *ℤ (t.args.b -ℤ pos 1))

exact : (t : After-plus_times-p) → Exact t
exact t =
    let c = t.args.c in
    let b = t.args.b in
    let fc : SFits w32 c = t.ranges.c in
    let fb : SFits w32 b = t.ranges.b in
    record {
      product = t.plus_times-p.ensures ∙ simp to_z-of_z (+ℤ_idl (c *ℤ b));
      fits = fits_by_size w64 _ (omega (arith, nat_abs_mul c b, sizes (size_32 fc) (size_32 fb)));
      low = eq_by (at c ⊗ at b ⊝ at c) (at c ⊗ (at b ⊝ at (pos 1))) (omega arith);
      low_fits = fits_by_size w64 _ (omega (arith, nat_abs_mul c (b -ℤ pos 1), sizes (size_32 fc) (nat_abs_add b (neg_ℤ (pos 1))), size_32 fb));
    }

pub returns-then-p-from : goal.returns-then-p-from
returns-then-p-from c = let k = exact (goal.at.returns-then-p-from c).After-plus_times-p in grind (arith, common_steps, to_z-of_z, wider, k)

pub returns-else-p-from : goal.returns-else-p-from
returns-else-p-from c = let k = exact (goal.at.returns-else-p-from c).After-plus_times-p in grind (arith, common_steps, to_z-of_z, wider, k)
