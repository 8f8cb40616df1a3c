-- Answers that are true exactly where something holds.
use mathlib.Core.Path.{◌≡◌, refl, sym, ◌∙◌}
use mathlib.Core.Bool.{Bool, true, false}
use Rattle.ints.proofs.Bools.{never}
use Rattle.walk.specs.Walk.{Exactly}

module _ {P : Type 0} where
  pub say_yes : P → Exactly true P
  say_yes p = record { yes = λ e. p; only = λ q. refl }

  pub say_no : (P → ⊥) → Exactly false P
  say_no f = record { yes = λ e. never e; only = λ q. absurd (f q) }

  pub denied : {r : Bool} → Exactly r P → r ≡ false → P → ⊥
  denied x e p = never (sym e ∙ x.only p)
