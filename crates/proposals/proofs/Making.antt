-- A rule's proposal, from what its tests find: a refusal, or what it makes; and a line of forms in any order, from the list that was sorted.
use mathlib.Core.Path.{◌≡◌, refl, sym, ap, ap₂, ◌∙◌}
use mathlib.Core.List.{List, ◌++◌, map}
use Prim.Native.Nat.{ℕ, ◌+◌, ◌*◌}
use native.Mathlib.Nat.{add-zero, sub-zero}
use native.Mathlib.Omega.{arith}
use lib.Dec.{T}
use lib.IntN.{ℤ}
use lib.ListN.{length, take, length-map}
use Rattle.std.specs.Prelude.{Result, Ok, Err}
use Rattle.ints.specs.Tests.{different}
use Rattle.rows.specs.Form.{Form}
use Rattle.ledger.specs.Literals.{unnegated, line_of}
use Rattle.ledger.specs.Ledger.{Line, derived, New, new_line}
use Rattle.ledger.specs.Record.{Rule, make}
use Rattle.ledger.specs.Checks.{tests, makes, derived_line}
use Rattle.ledger.specs.Apply.{Finding, fail, finding}
use Rattle.ledger.specs.Settles.{proposes, proposed_by, proposed}
use Rattle.session.specs.Answers.{number_of}
use Rattle.session.specs.declared.answers.Refusal.{Refusal}
use Rattle.literals.specs.Sorting.{sorted}
use Rattle.literals.proofs.Filler.{front}
use Rattle.literals.proofs.SortLaws.{sorted_line}
use Rattle.ledger.proofs.LiteralLaws.{different_unnegated, length_line_of_different}
use Rattle.proposals.specs.declared.Scratch.{Scratch}
use Rattle.proposals.specs.declared.Proposal.{Proposal}
use Rattle.proposals.specs.declared.Proposal.TheVariants.{Line as Makes}
use Rattle.proposals.specs.Proposing.{derived_from, Proposes}

module _ (n : ℕ) (fs : List Form) (ls : List Line) (q : Rule) {s : Scratch} where
  pub refusing : {why : Refusal} → fail (number_of why) ≡ finding (tests n fs ls q) → Proposes (Err why) s (proposed n fs ls (make q))
  unfolding proposed
  refusing e = record { says = ap (λ (f : Finding). proposed_by f (makes ls q)) e; fits = tt }

  -- by what the tests find, and what the rule makes
  pub proposing : {r : Result Proposal Refusal} {v : Finding} {x : New} → v ≡ finding (tests n fs ls q) → x ≡ makes ls q → Proposes r s (proposed_by v x)
      → Proposes r s (proposed n fs ls (make q))
  unfolding proposed
  proposing e m p = record { says = p.says ∙ ap₂ (λ (f : Finding) (y : New). proposed_by f y) e m; fits = p.fits }

-- the forms picked are different, and their literals were written to the front of the second list and sorted there
pub unnegated_made : (cells : List ℤ) (count : ℕ) (picks xs out ys more : List ℕ) → length picks ≡ count → T (different picks)
    → take (length picks) out ≡ map (λ f. 2 * f + 0) picks → ys ≡ sorted (take count out)
    → Proposes (Ok (Makes (derived_from 0 count))) (record { cells = cells; first = xs; second = ys ++ more }) (proposes (derived_line (line_of (map unnegated picks))))
unnegated_made cells count picks xs out ys more k differ d o =
    let plain : map (λ f. 2 * f + 0) picks ≡ map unnegated picks = ap (λ (f : ℕ → ℕ). map f picks) (λ i f. add-zero (2 * f) i) in
    let line = map unnegated picks in
    let apart = different_unnegated picks differ in
    let made : ys ≡ line_of line = o ∙ ap sorted (rw k at (d ∙ plain)) ∙ sorted_line line apart in
    let many : count ≡ length ys = sym k ∙ sym (ap length made ∙ length_line_of_different line apart ∙ length-map picks unnegated) in
    let (w, b) = front ys more (ys ++ more) count many refl in
    record {
      says = ap (λ (zs : List ℕ). proposes (new_line (record { origin = derived; literals = zs }))) (rw sub-zero at b ∙ made);
      fits = record { first = omega arith; second = w };
    }
