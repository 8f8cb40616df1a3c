-- What the proof of soundness says of lines: all are true, those of some numbers are, the premises among them are.
use Rattle.std.specs.Prelude.{Bool, not, ◌||◌, List, ℕ, eqb, get_or}
use Rattle.ints.specs.Tests.{all}
use Rattle.rows.specs.Form.{Form}
use Rattle.rows.specs.Truth.{Integers}
use Rattle.ledger.specs.Ledger.{Line, premise, no_line}
use Rattle.ledger.specs.Truth.{line_true}

abbrev pub lines_true : Integers → List Form → List Line → Bool
lines_true ρ fs ls = all (line_true ρ fs) ls

-- those of these numbers are true
abbrev pub chosen_true : Integers → List Form → List Line → List ℕ → Bool
chosen_true ρ fs ls is = all (λ i. line_true ρ fs (get_or ls i no_line)) is

-- the line is true, if it is a premise
abbrev pub as_premise : Integers → List Form → Line → Bool
as_premise ρ fs x = not (eqb x.origin premise) || line_true ρ fs x

-- all premises among the lines are true
abbrev pub premises_true : Integers → List Form → List Line → Bool
premises_true ρ fs ls = all (as_premise ρ fs) ls
