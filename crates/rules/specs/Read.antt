-- What a rule's function reads, and what it answers.
use Rattle.std.specs.Prelude.{◌≡◌, List, [], ℕ, ℤ, length, Result}
use Rattle.ints.specs.Tests.{up_to}
use Rattle.rows.specs.Limits.{unknowns}
use Rattle.rows.specs.Form.{Form, form_at}
use Rattle.ledger.specs.Ledger.{Line}
use Rattle.ledger.specs.Record.{Rule, make, RS}
use Rattle.ledger.specs.Apply.{finding}
use Rattle.ledger.specs.Settles.{proposed}
use Rattle.ledger.specs.Checks.{tests}
use Rattle.session.specs.Cells.{tables, line_at}
use Rattle.session.specs.Answers.{finding_of}
use Rattle.session.specs.declared.answers.Refusal.{Refusal}
use Rattle.proposals.specs.declared.Proposal.{Proposal}
use Rattle.proposals.specs.declared.Scratch.{Scratch}
use Rattle.proposals.specs.Proposing.{scratch_of, Proposes}
use Rattle.rules.specs.declared.held.Forms.{Forms}
use Rattle.rules.specs.declared.held.Lines.{Lines}

-- the forms that are read
abbrev pub forms_in : ℕ → ℕ → List ℤ → List Form
forms_in n many cells = up_to many (form_at n cells)

abbrev pub forms_read : Forms → List Form
forms_read f = forms_in unknowns f.count f.cells.now

-- the lines that are read
abbrev pub lines_in : ℕ → List ℕ → List ℕ → List Line
lines_in many pool lines = up_to many (line_at (tables [] pool lines))

abbrev pub lines_read : Lines → List Line
lines_read l = lines_in l.count l.pool.now l.lines.now

-- a rule on forms: the verdict is what its tests find on the forms that are read
abbrev pub Judged : Forms → Rule → Result (Unit {0}) Refusal → Type 0
Judged f r v = finding_of v ≡ finding (tests unknowns (forms_read f) [] r)

-- RS, over any forms of this number
abbrev pub Resolves : ℕ → Lines → ℕ → ℕ → ℕ → Result Proposal Refusal → Scratch → Type 0
Resolves forms l p i j r s =
    (n : ℕ) (fs : List Form) → length fs ≡ forms → Proposes r s (proposed n fs (lines_read l) (make (RS p i j)))

-- a rule on forms, beside any lines
abbrev pub ProposesRule : Forms → Rule → Result Proposal Refusal → Scratch → Type 0
ProposesRule f q r s = (ls : List Line) → Proposes r s (proposed unknowns (forms_read f) ls (make q))

-- a rule on forms that makes its line of the second list alone
abbrev pub ProposesSum : Forms → Rule → Result Proposal Refusal → Scratch → Type 0
ProposesSum f q r s = (cells : List ℤ) (xs : List ℕ) → ProposesRule f q r (scratch_of cells xs s.second)

-- FM reads no table, and PM only the count of forms
abbrev pub ProposesForm : Rule → Result Proposal Refusal → List ℤ → Type 0
ProposesForm q r cells = (xs ys : List ℕ) (fs : List Form) (ls : List Line) → Proposes r (scratch_of cells xs ys) (proposed unknowns fs ls (make q))

abbrev pub ProposesPremise : ℕ → Rule → Result Proposal Refusal → List ℕ → Type 0
ProposesPremise many q r ys =
    (cells : List ℤ) (xs : List ℕ) (fs : List Form) (ls : List Line) → length fs ≡ many
    → Proposes r (scratch_of cells xs ys) (proposed unknowns fs ls (make q))
