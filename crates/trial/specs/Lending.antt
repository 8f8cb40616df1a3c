-- What a table is once the front that was lent comes back, and which counts stay over a call.
use Rattle.std.specs.Prelude.{◌≡◌, ◌++◌, drop}
use Rattle.std.specs.Borrow.{Lends, MutBor, Fml, Array, RattleType}
use Rattle.trial.specs.declared.Trial.{Trial}
use Rattle.trial.specs.contracts.table.Table.{the_row}

-- another front, and the rest and the count as they were
abbrev pub LendsFront : (t n : RattleType) → MutBor (the_row t n).Denot → MutBor (Array t 0).Denot → Fml
LendsFront t n s r = Lends (the_row t n) (Array t 0) s r (λ w. record s.now { cells = w ++ drop s.now.lent s.now.cells })

-- the counts of the cells that a call is lent are as they were
pub record LendsTheSame (t u : Trial) : Type 0 where
  pub forms : u.forms.lent ≡ t.forms.lent
  pub pool : u.pool.lent ≡ t.pool.lent
  pub lines : u.lines.lent ≡ t.lines.lent
