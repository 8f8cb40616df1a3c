-- The forms that an AR record names: what its tests say of them on the ledger, by the cells; and how they are read from the record's bytes.
use mathlib.Core.Path.{◌≡◌, refl, sym, ap, ◌∙◌}
use mathlib.Core.List.{List, [], ◌∷◌, map}
use Prim.Native.Nat.{ℕ, ◌≤◌}
use lib.Dec.{T, ltb, ltb→lt}
use lib.IntN.{ℤ, pos}
use lib.ListN.{length, get_or, take}
use Rattle.ints.specs.Tests.{eq_z, all, different}
use Rattle.ints.proofs.Bools.{T_and}
use Rattle.ints.proofs.Lists.{all_at, all_agree, length_up_to}
use Rattle.rows.specs.Form.{Form, form_at}
use Rattle.rows.specs.Summable.{row_at}
use Rattle.rows.specs.Conditions.{divided_by}
use Rattle.rows.proofs.Remainders.{divisor_says}
use Rattle.literals.specs.Lists.{Low}
use Rattle.ledger.specs.Limits.{longest_line}
use Rattle.ledger.specs.Ledger.{nth_form, nth_row}
use Rattle.ledger.specs.Record.{AR, behind_letters}
use Rattle.ledger.specs.Checks.{form_in, tests}
use Rattle.ledger.specs.Apply.{Finding, pass, finding}
use Rattle.ledger.specs.Bytes.{numbers_behind}
use Rattle.ledger.proofs.Findings.{pass→passed}
use Rattle.ledger.proofs.Remainders.{remainders_differ}
use Rattle.fields.specs.Fields.{Listed, NumbersRead}
use Rattle.rules.specs.Held.{FormsHeld}
use Rattle.rules.specs.Read.{forms_in}
use Rattle.rules.proofs.HeldLaws.{form_count, form_is, form_legal, in_force}
use Rattle.rules.proofs.FieldLaws.{low_form}

module _ {n many : ℕ} {cells : List ℤ} (h : FormsHeld n many cells) where
  -- ---- the tests, by the cells

  pub forms_read : (ps : List ℕ) → all (form_in (forms_in n many cells)) ps ≡ in_force many ps
  forms_read ps = ap (λ (k : ℕ). all (λ f. ltb f k) ps) (form_count h)

  pub divided_read : (ps : List ℕ) → T (in_force many ps) → (d : ℕ) → 1 ≤ d
      → all (λ g. divided_by (pos d) (nth_form (forms_in n many cells) g)) ps ≡ all (λ f. eq_z (form_at n cells f).divisor (pos d)) ps
  divided_read ps k d l =
      all_agree (λ f. ltb f many) (λ g. divided_by (pos d) (nth_form (forms_in n many cells) g)) (λ f. eq_z (form_at n cells f).divisor (pos d))
      (λ f i. rw (form_is h f (ltb→lt _ _ i)) (divisor_says n (form_at n cells f) d (form_legal h f (ltb→lt _ _ i)) l)) ps k

  pub rows_read : (ps : List ℕ) → T (in_force many ps) → map (nth_row (forms_in n many cells)) ps ≡ map (row_at n cells) ps
  rows_read [] k = refl
  rows_read (p ∷ ps) k =
      let (i, rest) = T_and (ltb p many) (in_force many ps) k in
      let row : nth_row (forms_in n many cells) p ≡ row_at n cells p = ap (λ (f : Form). f.row) (form_is h p (ltb→lt _ _ i)) in
      rw (row, rows_read ps rest)

  -- ---- where they pass

  module _ (ps : List ℕ) {v : Finding} (e : v ≡ finding (tests n (forms_in n many cells) [] (AR ps))) (p : v ≡ pass) where
    pub low_picks : Low ps
    unfolding tests
    low_picks =
        let q = pass→passed (tests n (forms_in n many cells) [] (AR ps)) (sym e ∙ p) in
        record { all = λ i l. low_form h (get_or ps i 0) (all_at (form_in (forms_in n many cells)) ps i 0 q.0 l) }

    pub different_picks : T (different ps)
    different_picks = remainders_differ n (forms_in n many cells) [] ps (pass→passed (tests n (forms_in n many cells) [] (AR ps)) (sym e ∙ p))

-- ---- read from bytes

module _ {b : List ℕ} {k : ℕ} {cells : List ℕ} (e : NumbersRead behind_letters b k cells) where
  pub lent : take k cells ≡ numbers_behind behind_letters b
  lent = e.read

  module _ (w : Listed behind_letters 2 1 longest_line b) where
    pub lent_some : 1 ≤ length (take k cells)
    lent_some = rw (lent, length_up_to) w.some

    pub lent_few : length (take k cells) ≤ longest_line
    lent_few = rw (lent, length_up_to) w.few
