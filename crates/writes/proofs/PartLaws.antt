-- Tables after a part that was lent came back cleared.
use mathlib.Core.Path.{◌≡◌}
use mathlib.Core.List.{List}
use Prim.Native.Nat.{ℕ, ◌-◌, ◌≤◌}
use native.Mathlib.Omega.{arith}
use lib.ListN.{length, take, drop, replicate, length-drop}
use lib.Seq.{length-take-le}
use borrow.Rule.Slice.PartMut.{Post-is, put_mid}
use Rattle.session.specs.Effects.{cleared}

module _ {A : Type 0} where
  -- the part from `from` to `to`, all z
  pub part_cleared : (z : A) (from to : ℕ) (xs ys : List A) → from ≤ to → to ≤ length xs
      → ys ≡ replicate (length (take (to - from) (drop from xs))) z → put_mid from (to - from) xs ys ≡ cleared z from to xs
  part_cleared z from to xs ys h g e =
      let k : to - from ≤ length (drop from xs) = simp length-drop (omega arith) in
      simp (e, length-take-le (to - from) (drop from xs) k, Post-is from to xs h)
