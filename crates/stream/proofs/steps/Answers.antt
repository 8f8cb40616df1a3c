-- `stream::steps` meets its contract.
use mathlib.Core.Path.{◌≡◌, refl, ap, ◌∙◌}
use Rattle.std.specs.Prelude.{Ok}
use Rattle.settle.specs.declared.Change.{Change}
use native.Mathlib.Omega.{arith}
use Rattle.rows.specs.Limits.{unknowns}
use Rattle.session.specs.declared.state.Session.{Session}
use Rattle.session.specs.Cells.{Tables, tables, counts_of, mark_at}
use Rattle.laid.proofs.HeldLaws.{held_clauses}
use Rattle.settle.specs.Settling.{top_of}
use Rattle.settle.proofs.Tops.{top_is}
use Rattle.stream.specs.Walk.{session_with}
use Rattle.stream.proofs.Running.{set_out, arrives, Turn, turns}
use Rattle.stream.proofs.steps.Goals as goal
use Rattle.stream.proofs.steps.Goals.{After-front_step-step, After-last_place, At-loop-bytes}

abbrev present : At-loop-bytes → Session
present a = session_with a.loop-bytes.counts a.loop-bytes.«open» a.loop-bytes.marks

abbrev left : After-front_step-step → Tables
left c = tables c.front_step-step.new.forms c.front_step-step.new.pool c.front_step-step.new.lines

seen : (c : After-last_place) →
    let s = present (goal.at.After-last_place c).At-loop-bytes in
    top_of s ≡ record { counts = counts_of s; «open» = s.«open»; last = mark_at s c.last_place.result }
seen c = top_is (present (goal.at.After-last_place c).At-loop-bytes) refl c.last_place.ensures

turned : (c : After-front_step-step) →
    Turn unknowns (session_with c.counts-counts.result c.args.s.«open» c.args.s.marks)
    (tables c.args.forms.now c.args.pool.now c.args.lines.now)
    c.args.stream.now c.loop-bytes.records c.loop-bytes.bytes (present (goal.at.After-front_step-step c).At-loop-bytes)
    c.front_step-step.result.change c.front_step-step.result.size (left c)
turned c = turns c.loop-bytes.invariant c.loop-bytes-test.true c.front_step-step.ensures (seen (goal.at.After-front_step-step c).After-last_place)

pub offset_bounds-marks-last_place : goal.offset_bounds-marks-last_place
offset_bounds-marks-last_place c = omega (arith, c.last_place.ensures, (held_clauses c.loop-bytes.invariant.held).few_levels)

pub bounds-marks-last_place : goal.bounds-marks-last_place
bounds-marks-last_place c = omega (arith, c.last_place.ensures, (held_clauses c.loop-bytes.invariant.held).few_levels)

pub returns-in-Err : goal.returns-in-Err
returns-in-Err c = c.ended.ensures _ ∙ set_out unknowns c.args.s _ c.counts-counts.ensures _ ((turned (goal.at.returns-in-Err c).After-front_step-step).stops c.in-Err.is)

pub loop-bytes-smaller-in-Adds : goal.loop-bytes-smaller-in-Adds
loop-bytes-smaller-in-Adds c = omega (arith, (turned (goal.at.loop-bytes-smaller-in-Adds c).After-front_step-step).forward, c.loop-bytes-test.true)

pub loop-bytes-preserved-in-Adds : goal.loop-bytes-preserved-in-Adds
loop-bytes-preserved-in-Adds c = (turned (goal.at.loop-bytes-preserved-in-Adds c).After-front_step-step).goes (c.in-Ok.is ∙ ap (λ (x : Change). Ok x) c.in-Adds.is) refl

pub loop-bytes-smaller : goal.loop-bytes-smaller
loop-bytes-smaller c = omega (arith, (turned (goal.at.loop-bytes-smaller c).After-front_step-step).forward, c.loop-bytes-test.true)

pub loop-bytes-preserved : goal.loop-bytes-preserved
loop-bytes-preserved c = (turned (goal.at.loop-bytes-preserved c).After-front_step-step).goes (c.in-Ok.is ∙ ap (λ (x : Change). Ok x) c.in-Moves.is) refl

pub returns : goal.returns
returns c = c.ended-2.ensures _ ∙ set_out unknowns c.args.s _ c.counts-counts.ensures _ (arrives c.loop-bytes.invariant c.loop-bytes-test.false)
