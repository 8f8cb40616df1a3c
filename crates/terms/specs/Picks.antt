-- Picked forms and their multipliers, as the rules on sums bring them, and the tests that these rules share.
use Rattle.std.specs.Prelude.{◌≡◌, Bool, ◌&&◌, List, [], ◌∷◌, ℕ, ltb, ◌≤◌, ℤ, length}
use Rattle.ints.specs.Tests.{between, all}
use Rattle.rows.specs.Limits.{most_terms}
use Rattle.rows.specs.Form.{form_at, legal_multiplier}
use Rattle.rows.specs.Sum.{Term}
use Rattle.rows.specs.Summable.{terms}
use Rattle.ledger.specs.Literals.{ascending}
use Rattle.ledger.specs.Checks.{Check, ◌else◌}

-- a multiplier for each, and as many as a sum may have
pub record Paired (picks : List ℕ) (multipliers : List ℤ) : Type 0 where
  pub some : 1 ≤ length picks
  pub few : length picks ≤ most_terms
  pub paired : length picks ≡ length multipliers

-- a kind of this range, and a multiplier that it allows
abbrev pub allowed : ℤ → ℤ → ℤ → ℤ → Bool
allowed low high kind m = between low high kind && legal_multiplier kind m

abbrev pub term_allowed : ℕ → List ℤ → ℤ → ℤ → Term → Bool
term_allowed n cells low high t = allowed low high (form_at n cells t.form).kind t.multiplier

-- the tests by the cells: so many forms are in force, the picks ascend, and each term is allowed
abbrev pub shared : ℕ → ℕ → List ℤ → ℤ → ℤ → List ℕ → List ℤ → List Check
shared n many cells low high ps ms =
    (all (λ f. ltb f many) ps else 8) ∷ (ascending ps else 9) ∷ (all (term_allowed n cells low high) (terms ps ms) else 10) ∷ []
