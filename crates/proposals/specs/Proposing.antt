-- What a proposal says, in the ledger's terms, beside the scratch that is lent for it.
use Rattle.std.specs.Prelude.{◌≡◌, List, ℕ, ◌≤◌, ◌<◌, T, pos, ℤ, length, take, replicate, Result, Ok, Err}
use Rattle.ints.specs.Tests.{different}
use Rattle.rows.specs.Limits.{unknowns, most_terms}
use Rattle.rows.specs.Form.{form_of}
use Rattle.ledger.specs.Literals.{joined}
use Rattle.ledger.specs.Limits.{most_forms, longest_line}
use Rattle.ledger.specs.Ledger.{premise, derived, New, new_form, new_line}
use Rattle.ledger.specs.Apply.{pass}
use Rattle.ledger.specs.Settles as ledger
use Rattle.session.specs.Limits.{form_cells}
use Rattle.session.specs.Answers.{number_of, finding_of}
use Rattle.session.specs.declared.answers.Refusal.{Refusal}
use Rattle.literals.specs.Lists.{Low}
use Rattle.proposals.specs.declared.Scratch.{Scratch}
use Rattle.proposals.specs.declared.NewLine.{NewLine}
use Rattle.proposals.specs.declared.Proposal.{Proposal}
use Rattle.proposals.specs.declared.Proposal.TheVariants.{Form, Line, Opens, Withdraws}

-- a scratch in which nothing is written
abbrev pub blank : Scratch
blank = record { cells = replicate most_terms (pos 0); first = replicate longest_line 0; second = replicate longest_line 0 }

-- three lists as a scratch
abbrev pub scratch_of : List ℤ → List ℕ → List ℕ → Scratch
scratch_of cells xs ys = record { cells = cells; first = xs; second = ys }

-- a derived line, and a premise, which is the second list alone
abbrev pub derived_from : ℕ → ℕ → NewLine
derived_from n m = record { origin = derived; first = n; second = m }

abbrev pub premise_from : ℕ → NewLine
premise_from m = record { origin = premise; first = 0; second = m }

abbrev pub line_from : NewLine → Scratch → List ℕ
line_from x s = joined (take x.first s.first) (take x.second s.second)

-- the cells of a form
abbrev pub cells_in : Scratch → List ℤ
cells_in s = take (form_cells unknowns) s.cells

abbrev pub proposal_of : Result Proposal Refusal → Scratch → ledger.Proposal
proposal_of (Err why) s = ledger.refuses (number_of why)
proposal_of (Ok Form) s = ledger.proposes (new_form (form_of (cells_in s)))
proposal_of (Ok (Line x)) s = ledger.proposes (new_line (record { origin = x.origin; literals = line_from x s }))
proposal_of (Ok Opens) s = ledger.opens
proposal_of (Ok Withdraws) s = ledger.withdraws

-- the lists are long enough
pub record Within (x : NewLine) (s : Scratch) : Type 0 where
  pub first : x.first ≤ length s.first
  pub second : x.second ≤ length s.second

abbrev pub Fits : Proposal → Scratch → Type 0
Fits Form s = Unit {0}
Fits (Line x) s = Within x s
Fits Opens s = Unit {0}
Fits Withdraws s = Unit {0}

abbrev pub FitsIfMade : Result Proposal Refusal → Scratch → Type 0
FitsIfMade (Err why) s = Unit {0}
FitsIfMade (Ok p) s = Fits p s

-- r is the proposal q
pub record Proposes (r : Result Proposal Refusal) (s : Scratch) (q : ledger.Proposal) : Type 0 where
  pub says : proposal_of r s ≡ q
  pub fits : FitsIfMade r s

-- ---- by a verdict

-- what is made where the verdict passes
abbrev pub ProposesBy : Result (Unit {0}) Refusal → New → Result Proposal Refusal → Scratch → Type 0
ProposesBy v x r s = Proposes r s (ledger.proposed_by (finding_of v) x)

-- where a verdict passes, forms are low enough for their literals
abbrev pub LowTwo : Result (Unit {0}) Refusal → ℕ → ℕ → Type 0
LowTwo v a b = finding_of v ≡ pass → (a < most_forms) × (b < most_forms)

abbrev pub LowThree : Result (Unit {0}) Refusal → ℕ → ℕ → ℕ → Type 0
LowThree v a b c = finding_of v ≡ pass → (a < most_forms) × (b < most_forms) × (c < most_forms)

abbrev pub LowAll : Result (Unit {0}) Refusal → List ℕ → Type 0
LowAll v picks = finding_of v ≡ pass → Low picks

-- and are all different
abbrev pub DifferentAll : Result (Unit {0}) Refusal → List ℕ → Type 0
DifferentAll v picks = finding_of v ≡ pass → T (different picks)
