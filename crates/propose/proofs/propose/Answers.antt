-- `propose::propose` meets its contract.
use mathlib.Core.Path.{refl}
use Rattle.ledger.specs.Settles.{proposed}
use Rattle.propose.proofs.propose.Goals as goal

pub returns-in-Op : goal.returns-in-Op
unfolding proposed
returns-in-Op c = rw c.in-Op.is (record { says = refl; fits = tt })

pub returns-in-Wd : goal.returns-in-Wd
unfolding proposed
returns-in-Wd c = rw c.in-Wd.is (record { says = refl; fits = tt })
