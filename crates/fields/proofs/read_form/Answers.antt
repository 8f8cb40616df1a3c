-- `fields::read_form` meets its contract.
use mathlib.Core.Path.{◌≡◌, refl, ◌∙◌}
use mathlib.Core.List.{List, [], ◌∷◌}
use Prim.Native.Nat.{◌≤◌, ◌+◌}
use native.Mathlib.Omega.{arith}
use borrow.Author.Rules.{rules}
use lib.IntN.{ℤ}
use lib.ListN.{length, take, set}
use mir.Syntax.{w32}
use mir.Val.{SFits}
use mir.ValLaws.{to_z-of_z}
use Rattle.std.proofs.lemmas.Grind.{common_steps}
use Rattle.std.proofs.lemmas.List.{take_more_set}
use Rattle.fields.proofs.FilledLaws.{up_to_none, up_to_more}
use Rattle.fields.proofs.read_form.Goals as goal

-- the two cells in front are written
two_set : (cs : List ℤ) (a b : ℤ) → 2 ≤ length cs → take 2 (set (set cs 0 a) 1 b) ≡ a ∷ b ∷ []
two_set [] a b h = absurd (omega arith)
two_set (x ∷ []) a b h = absurd (omega arith)
two_set (x ∷ y ∷ cs) a b h = refl

pub loop-i-init : goal.loop-i-init
loop-i-init c = rw up_to_none (two_set c.args.cells.now _ _ (omega (arith, c.requires.0)) ∙ grind (arith, common_steps, to_z-of_z))

pub loop-i-preserved : goal.loop-i-preserved
loop-i-preserved c =
    let e : 2 + (c.loop-i.i + 1) ≡ 2 + c.loop-i.i + 1 = omega arith in
    let fit : SFits w32 c.i32_at.result = search rules in
    rw (e, take_more_set c.loop-i.cells (2 + c.loop-i.i) _ (grind (arith, common_steps)), c.loop-i.invariant, to_z-of_z w32 _ fit, c.i32_at.ensures, up_to_more) refl
