-- What the tests of a rule say on the ledger that tables in order hold, from what was read in the cells.
use mathlib.Core.Path.{◌≡◌, sym, ap, ap₂, ◌∙◌}
use mathlib.Core.Bool.{Bool, true, false}
use mathlib.Core.List.{List}
use Prim.Native.Nat.{ℕ, ◌≤◌, ◌<◌}
use borrow.Author.Tests.{lt-ltb, le-ltb}
use lib.IntN.{ℤ}
use lib.ListN.{length}
use mir.Syntax.{w32}
use mir.Val.{of_z, SFits}
use Rattle.ints.specs.Tests.{eq_z, all}
use Rattle.ints.proofs.Bits.{bits_same, bits_differ}
use Rattle.rows.specs.Row.{Row}
use Rattle.rows.specs.Form.{Form, form_at}
use Rattle.rows.specs.Summable.{row_at}
use Rattle.ledger.specs.Literals.{names_below}
use Rattle.ledger.specs.Ledger.{nth_row}
use Rattle.ledger.specs.Checks.{form_in, literal_in, is_kind}
use Rattle.rules.specs.Held.{FormsHeld}
use Rattle.rules.specs.Read.{forms_in}
use Rattle.rules.proofs.HeldLaws.{form_count, form_is}

-- the kind k of form f was read, and its bits are compared with those of l
pub record KindRead {n many : ℕ} {cells : List ℤ} (h : FormsHeld n many cells) (f : ℕ) (k l : ℤ) : Type 0 where
  pub within : f < many
  pub read : k ≡ (form_at n cells f).kind
  pub fits : SFits w32 k
  pub other : SFits w32 l

-- a test of the rows of forms f and g gave r
pub record RowsRead {n many : ℕ} {cells : List ℤ} (h : FormsHeld n many cells) (f g : ℕ) (test : Row → Row → Bool) (r : Bool) : Type 0 where
  pub first : f < many
  pub second : g < many
  pub gave : r ≡ test (row_at n cells f) (row_at n cells g)

-- a test of the forms that literals name gave r
pub literals_in : (fs : List Form) {many : ℕ} → length fs ≡ many → (xs : List ℕ) {r : Bool} → r ≡ names_below many xs → all (literal_in fs) xs ≡ r
literals_in fs e xs d = ap (λ (m : ℕ). names_below m xs) e ∙ sym d

module _ {n many : ℕ} {cells : List ℤ} (h : FormsHeld n many cells) where
  pub in_force_lem : (f : ℕ) → f < many → form_in (forms_in n many cells) f ≡ true
  in_force_lem f i = rw (form_count h) (lt-ltb f many i)

  pub not_in_force : (f : ℕ) → many ≤ f → form_in (forms_in n many cells) f ≡ false
  not_in_force f i = rw (form_count h) (le-ltb f many i)

  row_is : (f : ℕ) → f < many → nth_row (forms_in n many cells) f ≡ row_at n cells f
  row_is f i = ap (λ (x : Form). x.row) (form_is h f i)

module _ {n many : ℕ} {cells : List ℤ} {h : FormsHeld n many cells} {f : ℕ} {k l : ℤ} (q : KindRead h f k l) where
  tested : is_kind (forms_in n many cells) l f ≡ eq_z k l
  tested = rw (form_is h f q.within, q.read)

  pub kind_is_lem : of_z w32 k ≡ of_z w32 l → is_kind (forms_in n many cells) l f ≡ true
  kind_is_lem e = tested ∙ bits_same w32 k l q.fits q.other e

  pub kind_not : (of_z w32 k ≡ of_z w32 l → ⊥) → is_kind (forms_in n many cells) l f ≡ false
  kind_not e = tested ∙ bits_differ w32 k l q.fits q.other e

pub rows_tested : {n many : ℕ} {cells : List ℤ} {h : FormsHeld n many cells} {f g : ℕ} {test : Row → Row → Bool} {r : Bool}
    → RowsRead h f g test r → test (nth_row (forms_in n many cells) f) (nth_row (forms_in n many cells) g) ≡ r
rows_tested {h = h} {f} {g} {test} q = ap₂ test (row_is h f q.first) (row_is h g q.second) ∙ sym q.gave
