-- A loop that reads f 0, f 1 and so on into a list: one step of it, and what terms two such lists make.
use mathlib.Core.Path.{◌≡◌, refl, sym, ◌∙◌}
use mathlib.Core.List.{List, [], ◌∷◌, ◌++◌}
use Prim.Native.Nat.{ℕ, zero, suc, ◌+◌}
use native.Mathlib.Numerals.{add-one}
use native.Mathlib.Omega.{arith}
use lib.IntN.{ℤ}
use lib.ListN.{length}
use Rattle.std.proofs.lemmas.List.{take_more_set}
use Rattle.ints.specs.Tests.{up_to}
use Rattle.ints.proofs.Lists.{length_up_to}
use Rattle.rows.specs.Summable.{terms}
use Rattle.rows.proofs.TermLaws.{term}

pub up_to_none : {A : Type 0} (f : ℕ → A) → up_to 0 f ≡ []
unfolding up_to
up_to_none f = refl

pub up_to_more : {A : Type 0} (n : ℕ) (f : ℕ → A) → up_to (n + 1) f ≡ up_to n f ++ (f n ∷ [])
unfolding up_to
up_to_more n f = rw (add-one n)

pub ruleset filling = (take_more_set, up_to_none, up_to_more)

-- ---- forms and multipliers side by side

terms_append : (fs : List ℕ) (ms : List ℤ) (f : ℕ) (m : ℤ) → length fs ≡ length ms
    → terms (fs ++ (f ∷ [])) (ms ++ (m ∷ [])) ≡ terms fs ms ++ (term f m ∷ [])
terms_append [] [] f m e = refl
terms_append [] (k ∷ ms) f m e = absurd (omega arith)
terms_append (g ∷ fs) [] f m e = absurd (omega arith)
terms_append (g ∷ fs) (k ∷ ms) f m e = rw (terms_append fs ms f m (omega arith))

pub terms_up_to : (n : ℕ) (f : ℕ → ℕ) (g : ℕ → ℤ) → terms (up_to n f) (up_to n g) ≡ up_to n (λ i. term (f i) (g i))
unfolding up_to
terms_up_to zero f g = refl
terms_up_to (suc n) f g = rw (terms_append (up_to n f) (up_to n g) (f n) (g n) (length_up_to n f ∙ sym (length_up_to n g)), terms_up_to n f g)
