-- What every call tests first: where a table is short it finds 1, where a clause fails 2, and where it passes, the tables are long enough and
-- the clauses of the order hold.
use mathlib.Core.Path.{◌≡◌, refl, sym, ◌∙◌}
use mathlib.Core.Bool.{Bool, true, false, ◌&&◌, cond}
use mathlib.Core.List.{List, [], ◌∷◌, ◌++◌}
use Prim.Native.Nat.{ℕ}
use lib.Dec.{T, eqb, eqb→eq}
use Rattle.ints.specs.Tests.{all}
use Rattle.ints.proofs.Bools.{T_and}
use Rattle.ledger.specs.Checks.{Check, Passed}
use Rattle.ledger.specs.Apply.{pass, fail, finding}
use Rattle.ledger.proofs.Findings.{pass→passed, pass_append, passed_front, passed_back}
use Rattle.session.specs.declared.state.Session.{Session}
use Rattle.session.specs.Cells.{Tables, named}
use Rattle.session.specs.Parts.{Long}
use Rattle.session.specs.InOrder.{sizes, order}
use Rattle.session.specs.Parts.{all_pass}
use Rattle.session.specs.Calls.{entry}
use Rattle.session.proofs.Clauses.{Clauses, clauses}
use Rattle.session.proofs.Starting.{sizes_long}

-- every test refuses with 2
abbrev twos : List Check → Bool
twos cs = all (λ c. eqb c.number 2) cs

first : (cs : List Check) → T (twos cs) → finding cs ≡ cond (all_pass cs) pass (fail 2)
unfolding finding all_pass
first [] t = refl
first (c ∷ cs) t = let (h, k) = T_and (eqb c.number 2) (twos cs) t in go c.passes (eqb→eq _ _ h) (first cs k)
  where
    go : (b : Bool) → c.number ≡ 2 → finding cs ≡ cond (all_pass cs) pass (fail 2)
        → cond b (finding cs) (fail c.number) ≡ cond (b && all_pass cs) pass (fail 2)
    go true e rest = rest
    go false e rest = rw e

order_finding : (n : ℕ) (s : Session) (t : Tables) → finding (order n s t) ≡ cond (all_pass (order n s t)) pass (fail 2)
unfolding order
order_finding n s t = first (order n s t) tt

module _ (n : ℕ) (s : Session) (t : Tables) where
  -- where the sizes pass, b is whether the order does
  pub entry_answer : {b : Bool} → finding (sizes n t) ≡ pass → b ≡ all_pass (order n s (named n t)) → cond b pass (fail 2) ≡ entry n s t
  entry_answer e f = rw f (sym (pass_append (sizes n t) (order n s (named n t)) e ∙ order_finding n s (named n t)))

  -- the whole passes
  module _ (e : entry n s t ≡ pass) where
    both : Passed (sizes n t ++ order n s (named n t))
    both = pass→passed (sizes n t ++ order n s (named n t)) e

    pub entry_long : Long n t
    entry_long = sizes_long n t (passed_front (sizes n t) (order n s (named n t)) both)

    pub entry_clauses : Clauses n s (named n t)
    entry_clauses = clauses (passed_back (sizes n t) (order n s (named n t)) both)
