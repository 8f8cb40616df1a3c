-- `fields::read_terms` meets its contract.
use mathlib.Core.Path.{refl}
use native.Mathlib.Omega.{arith}
use mathlib.Core.Path.{◌≡◌}
use Rattle.fields.proofs.FilledLaws.{terms_up_to}
use Rattle.fields.proofs.read_terms.Goals as goal

pub returns : goal.returns
returns c =
    let e : c.loop-i.i ≡ c.from-count.result = omega arith in
    let (f, m) = rw e at c.loop-i.invariant in
    record { few = rw c.from-count.ensures c.requires.2.few; count = c.from-count.ensures; read = rw (f, m, terms_up_to, c.from-count.ensures) refl }
