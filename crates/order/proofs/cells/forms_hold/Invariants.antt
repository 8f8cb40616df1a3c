-- The invariant of `order::cells::forms_hold`: every form passed has a legal content.
use Prim.Native.Nat.{ℕ, ◌<◌}
use lib.Dec.{T}
use Rattle.rows.specs.Limits.{unknowns}
use Rattle.rows.specs.Form.{form_at, legal}
use Rattle.order.proofs.cells.forms_hold.Given as goal

abbrev pub invariant-loop-f : goal.invariant-loop-f
invariant-loop-f l = (k : ℕ) → k < l.f → T (legal unknowns (form_at unknowns l.forms k))
