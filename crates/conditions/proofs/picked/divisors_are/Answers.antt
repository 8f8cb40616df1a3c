-- `conditions::picked::divisors_are` meets its contract: the table has the form that is tested, as it has every picked one.
use borrow.Author.Rules.{rules}
use mathlib.Core.Path.{◌≡◌}
use Prim.Native.Nat.{ℕ, ◌<◌}
use lib.ListN.{get_or, length}
use lib.IntN.{ℤ}
use mathlib.Core.List.{List}
use Rattle.std.proofs.lemmas.List.{get_or_read}
use Rattle.std.proofs.lemmas.Iterator.{YieldsList-from_slice}
use Rattle.std.proofs.lemmas.Iterator.Adapters.{serves_from_places}
use Rattle.rows.specs.Summable.{Inside, Picked}
use Rattle.conditions.proofs.picked.divisors_are.Goals as goal

its_form : {n : ℕ} {table : List ℤ} {picks : List ℕ} → Picked n table picks → {f : ℕ} (k : ℕ) → k < length picks → f ≡ get_or picks k f
    → Inside n table f
its_form {n} {table} {picks} p {f} k h e = rw (get_or_read picks k f h e 0) (p.inside k h)

pub all-requires-clause-callable : goal.all-requires-clause-callable
all-requires-clause-callable c =
    serves_from_places (YieldsList-from_slice c.args.picks.now (search rules)) (λ x q k. search rules)
    (λ x k h e. let f = its_form c.requires k h e in search rules)
