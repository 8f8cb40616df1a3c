-- The terms that are read from a record's bytes: as the fronts of the two lists that are lent, they are pairs, and a line of their forms is what the
-- rule makes.
use mathlib.Core.Path.{◌≡◌, sym, ap, ◌∙◌}
use mathlib.Core.List.{List, map}
use Prim.Native.Nat.{ℕ}
use native.Mathlib.Omega.{arith}
use lib.IntN.{ℤ}
use lib.ListN.{length, take}
use lib.Seq.{length-take-le}
use Rattle.rows.specs.Limits.{most_terms}
use Rattle.rows.specs.Summable.{terms}
use Rattle.ledger.specs.Literals.{negated}
use Rattle.ledger.specs.Record.{behind_letters}
use Rattle.ledger.specs.Checks.{forms_of, derived_line}
use Rattle.fields.specs.Fields.{Listed, TermsRead}
use Rattle.terms.specs.Picks.{Paired}
use Rattle.terms.proofs.TermParts.{forms_terms}

pub lent_paired : {b : List ℕ} {k : ℕ} {forms : List ℕ} {multipliers : List ℤ} → TermsRead behind_letters b k forms multipliers
    → length forms ≡ most_terms → length multipliers ≡ most_terms → Listed behind_letters 6 1 most_terms b
    → Paired (take k forms) (take k multipliers)
lent_paired {b} {k} {forms} {multipliers} e f m w =
    let first : length (take k forms) ≡ k = length-take-le k forms (omega (arith, e.few, f)) in
    let second : length (take k multipliers) ≡ k = length-take-le k multipliers (omega (arith, e.few, m)) in
    record {
      some = omega (arith, first, e.count, w.some);
      few = omega (arith, first, e.few);
      paired = first ∙ sym second;
    }

pub line_of_forms : {ps : List ℕ} {ms : List ℤ} → Paired ps ms → derived_line (map negated ps) ≡ derived_line (map negated (forms_of (terms ps ms)))
line_of_forms {ps} {ms} p = ap (λ (fs : List ℕ). derived_line (map negated fs)) (sym (forms_terms ps ms p.paired))
