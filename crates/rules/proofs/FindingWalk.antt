-- How a judging function walks along the tests of its rule: past those that pass, to the first that fails or to the end.
use mathlib.Core.Path.{◌≡◌, refl, sym, ◌∙◌}
use mathlib.Core.Bool.{Bool, true, false}
use mathlib.Core.List.{List, [], ◌∷◌}
use Prim.Native.Nat.{ℕ}
use lib.IntN.{ℤ}
use lib.ListN.{drop}
use Rattle.ledger.specs.Record.{Rule}
use Rattle.ledger.specs.Checks.{Check, ◌else◌, tests}
use Rattle.ledger.specs.Apply.{Finding, pass, fail, finding}
use Rattle.rules.specs.Read.{forms_in}

-- of the tests cs, ds are left: those before them passed
pub data Left : List Check → List Check → Type 0 where
  whole : {cs : List Check} → Left cs cs
  past : {cs ds : List Check} {b : Bool} {k : ℕ} → Left cs ((b else k) ∷ ds) → b ≡ true → Left cs ds

same : {cs ds : List Check} → Left cs ds → finding cs ≡ finding ds
unfolding finding
same whole = refl
same (past l h) = same l ∙ rw h

pub fails : {cs ds : List Check} {b : Bool} {k : ℕ} → Left cs ((b else k) ∷ ds) → b ≡ false → fail k ≡ finding cs
unfolding finding
fails l h = sym (same l ∙ rw h)

pub passes : {cs : List Check} → Left cs [] → pass ≡ finding cs
unfolding finding
passes l = sym (same l)

-- what is left decides
pub goes_on : {cs ds : List Check} {v : Finding} → Left cs ds → v ≡ finding ds → v ≡ finding cs
goes_on l e = e ∙ sym (same l)

-- of a rule's tests, those from the k-th on are left
abbrev pub LeftFrom : ℕ → ℕ → ℕ → List ℤ → Rule → Type 0
LeftFrom k n many cells r = let cs = tests n (forms_in n many cells) [] r in Left cs (drop k cs)
