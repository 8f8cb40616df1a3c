-- What a record does to a ledger: the first of its tests that fails refuses, and where none fails it is done.
use Rattle.std.specs.Prelude.{cond, List, [], ◌∷◌, ℕ, ◌+◌, ◌-◌, length}
use Rattle.ledger.specs.Ledger.{Ledger, New, new_form, new_line, add, opened, withdrawn}
use Rattle.ledger.specs.Record.{Record, make, OP, WD, Made, form, line, level, Answer, accepted, refused}
use Rattle.ledger.specs.Checks.{Check, makes, checks}

pub data Finding : Type 0 where
  pass : Finding
  fail : ℕ → Finding

-- the first test that fails refuses
unfoldable pub finding : List Check → Finding
finding [] = pass
finding (c ∷ cs) = cond c.passes (finding cs) (fail c.number)

pub record Outcome : Type 0 where
  pub answer : Answer
  pub ledger : Ledger

-- where it refuses, nothing changes
abbrev pub judged : Finding → Ledger → Outcome → Outcome
judged pass l o = o
judged (fail n) l o = record { answer = refused n; ledger = l }

-- ---- a record all of whose tests pass: the ledger then, and what was made

unfoldable pub done : Ledger → Record → Ledger
unfolding makes add opened withdrawn
done l (make r) = add l (makes l.lines r)
done l OP = opened l
done l WD = withdrawn l

abbrev pub numbered : Ledger → New → Made
numbered l (new_form f) = form (length l.forms)
numbered l (new_line x) = line (length l.lines)

unfoldable pub made : Ledger → Record → Made
unfolding makes
made l (make r) = numbered l (makes l.lines r)
made l OP = level (length l.marks + 1)
made l WD = level (length l.marks - 1)

-- ---- a record, on a ledger of forms of n unknowns

unfoldable pub apply : ℕ → Ledger → Record → Outcome
unfolding finding checks done made
apply n l r = judged (finding (checks n l r)) l (record { answer = accepted (made l r); ledger = done l r })
