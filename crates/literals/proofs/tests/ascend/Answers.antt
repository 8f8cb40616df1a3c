-- `literals::tests::ascend` meets its contract.
use mathlib.Core.Path.{◌≡◌, refl, sym}
use mathlib.Core.Bool.{Bool, true, false, and-false}
use mathlib.Core.List.{List, [], ◌∷◌}
use Prim.Native.Nat.{ℕ, zero, suc, ◌<◌}
use native.Mathlib.Numerals.{add-one}
use native.Mathlib.Omega.{arith}
use borrow.Author.Rules.{rules}
use lib.Dec.{ltb}
use lib.ListN.{length, get_or}
use Rattle.std.specs.List.{IsAllAdjacentAnswer}
use Rattle.std.proofs.lemmas.List.Sorted.{answers_always}
use Rattle.ledger.specs.Literals.{ascending_from, ascending}
use Rattle.literals.proofs.tests.ascend.Goals as goal

-- each is below the next
rise : (x : ℕ) (xs : List ℕ) → ((k d : ℕ) → k < length xs → true ≡ ltb (get_or (x ∷ xs) k d) (get_or xs k d)) → ascending_from x xs ≡ true
rise x [] f = refl
rise x (y ∷ ys) f = rw (← f 0 0 (omega arith)) (rise y ys (λ k d h. f (suc k) d (omega arith)))

-- one is not
fall : (x : ℕ) (xs : List ℕ) (k : ℕ) → k < length xs → false ≡ ltb (get_or (x ∷ xs) k 0) (get_or xs k 0) → ascending_from x xs ≡ false
fall x [] k h e = absurd (omega arith)
fall x (y ∷ ys) zero h e = rw (← e)
fall x (y ∷ ys) (suc k) h e = simp (fall y ys k (omega arith) e, and-false)

same : (xs : List ℕ) (r : Bool) → IsAllAdjacentAnswer (λ x y b. b ≡ ltb x y) xs r → r ≡ ascending xs
same [] true h = refl
same [] false (k, h, e) = absurd (omega arith)
same (x ∷ xs) true h = sym (rise x xs (λ k d l. rw add-one at (h k d (omega arith))))
same (x ∷ xs) false (k, h, e) = sym (fall x xs k (omega arith) (rw add-one at (e 0)))

pub returns : goal.returns
returns c = same c.args.numbers.now _ (c.is_sorted_by.ensures.cases ltb (answers_always _ _ _ (λ f a r g k. search rules)))
