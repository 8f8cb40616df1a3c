-- `stream::front_step` meets its contract.
use mathlib.Core.Path.{subst}
use Rattle.records.specs.Marks.{Fronted}
use Rattle.stream.proofs.Running.{wrong_front}
use Rattle.stream.proofs.front_step.Goals as goal
use Rattle.stream.proofs.front_step.Goals.{In-Ok}

pub returns-in-Err : goal.returns-in-Err
returns-in-Err c = wrong_front (subst (Fronted c.args.rest.now) c.in-Err.is c.read_front.ensures)
