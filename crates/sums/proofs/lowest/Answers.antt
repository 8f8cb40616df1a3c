-- `sums::lowest` meets its contract: `position` finds the first sum behind the constant that is no multiple.
use mathlib.Core.Path.{◌≡◌, sym, ◌∙◌}
use Prim.Native.Nat.{ℕ, ◌+◌, ◌<◌, ◌^◌}
use native.Mathlib.Omega.{arith}
use borrow.Author.Rules.{rules}
use borrow.Author.Tests.{tests}
use mathlib.Core.List.{List}
use lib.IntN.{ℤ, pos, nat_abs}
use lib.ListN.{length, get_or, take, drop, length-drop}
use lib.Seq.{take_all, get_or-drop}
use mir.Syntax.{w64}
use mir.Val.{SFits}
use Rattle.std.proofs.Common.{Iter}
use Rattle.std.specs.Slice.Iter.{iter_rest}
use Rattle.std.specs.List.{position_from}
use Rattle.std.proofs.lemmas.List.{get_or_read}
use Rattle.rows.specs.Limits.{unknowns}
use Rattle.rows.specs.Summable.{Small}
use Rattle.sums.proofs.SumTests.{stray, lowest_none, lowest_some}
use mir.ValLaws.{to_z-of_z}
use Rattle.std.proofs.lemmas.Iterator.{YieldsList, YieldsList-from_slice}
use Rattle.std.proofs.iter.Yields.{fronts}
use Rattle.std.proofs.lemmas.Iterator.Adapters.{serves_from_places, position_from-zero}
use Rattle.std.proofs.lemmas.Iterator.Search.{position_from_yields_List}
use Rattle.sums.proofs.lowest.Goals as goal
use Rattle.sums.proofs.lowest.Goals.{After-position-stray}

-- what is searched are the sums behind the constant
road : {s : Iter ℤ} (sums : List ℤ) → iter_rest s ≡ take unknowns (drop 1 sums) → length sums ≡ unknowns + 1
    → YieldsList fronts (λ x. x.now) s (drop 1 sums)
road {s} sums e l = YieldsList-from_slice (drop 1 sums) (e ∙ take_all unknowns (drop 1 sums) (omega (arith, length-drop 1 sums)))

small : {sums : List ℤ} → Small sums → (x : ℤ) (k : ℕ) → k < length (drop 1 sums) → x ≡ get_or (drop 1 sums) k x → nat_abs x < 2 ^ 63
small {sums} s x k h e = rw (get_or_read (drop 1 sums) k x h e (pos 0), get_or-drop 1 sums k (pos 0)) (s.small (1 + k))

pub position-stray-requires-clause-callable : goal.position-stray-requires-clause-callable
position-stray-requires-clause-callable c =
    serves_from_places (road c.args.sums c.iter.ensures.rest (omega arith)) (λ x q k. search rules)
    (λ x k h e. let f = small c.requires x.now k h e in search rules)

found : (c : After-position-stray) → c.position-stray.result ≡ position_from (stray c.args.modulus) 0 (drop 1 c.args.sums)
found c =
    position_from_yields_List (stray c.args.modulus) c.position-stray.new.self _ _ c.position-stray.ensures.ran (road c.args.sums c.iter.ensures.rest (omega arith))
    (λ x b q k. search (rules, tests, to_z-of_z))
    ∙ position_from-zero (stray c.args.modulus) (drop 1 c.args.sums)

pub returns-in-None : goal.returns-in-None
returns-in-None c =
    let fit : SFits w64 (get_or c.args.sums 0 (pos 0)) = search rules in
    rw (to_z-of_z w64 _ fit) (lowest_none c.args.modulus (get_or c.args.sums 0 (pos 0)) 0 (drop 1 c.args.sums) (sym c.in-None.is ∙ found (goal.at.returns-in-None c).After-position-stray))

pub returns-in-Some : goal.returns-in-Some
returns-in-Some c =
    let fit : SFits w64 (get_or c.args.sums (c.in-Some.k + 1) (pos 0)) = search rules in
    rw (to_z-of_z w64 _ fit) (lowest_some c.args.modulus (get_or c.args.sums 0 (pos 0)) c.in-Some.k c.args.sums (sym c.in-Some.is ∙ found (goal.at.returns-in-Some c).After-position-stray))
