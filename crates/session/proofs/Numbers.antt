-- The tests of the sizes refuse with 1 alone, and those of the order with 2.
use mathlib.Core.List.{List, [], ◌∷◌, ◌++◌}
use Prim.Native.Nat.{ℕ}
use lib.Dec.{T}
use Rattle.ledger.specs.Checks.{Check}
use Rattle.ledger.specs.Numbers.{follow}
use Rattle.ledger.proofs.Numbers.{follow_append}
use Rattle.session.specs.declared.state.Session.{Session}
use Rattle.session.specs.Cells.{Tables, named}
use Rattle.session.specs.InOrder.{sizes, order}

module _ (n : ℕ) where
  pub sizes_follow : (t : Tables) → T (follow (1 ∷ []) (sizes n t))
  unfolding follow sizes
  sizes_follow t = tt

  order_follow : (s : Session) (t : Tables) → T (follow (2 ∷ []) (order n s t))
  unfolding follow order
  order_follow s t = tt

  module _ (s : Session) (t : Tables) where
    -- what every call tests first
    abbrev pub entry_tests : List Check
    entry_tests = sizes n t ++ order n s (named n t)

    pub entry_follow : T (follow (1 ∷ 2 ∷ []) entry_tests)
    entry_follow = follow_append (1 ∷ []) (2 ∷ []) (sizes n t) (order n s (named n t)) (sizes_follow t) (order_follow s (named n t))
