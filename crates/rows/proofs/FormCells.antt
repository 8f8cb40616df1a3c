-- Where a form's kind, divisor and row lie in a table, for any number of unknowns.
use mathlib.Core.Path.{◌≡◌, sym, ap, ◌∙◌}
use mathlib.Core.List.{List, [], ◌∷◌}
use Prim.Native.Nat.{ℕ, zero, suc, ◌+◌, ◌*◌, ◌-◌}
use native.Mathlib.Nat.{add-zero}
use native.Mathlib.Omega.{arith}
use lib.IntN.{ℤ, pos}
use lib.ListN.{length, get_or, take, drop, length-take, length-drop}
use lib.Seq.{get_or-take, get_or-drop, drop-drop, take-nil}
use Rattle.rows.specs.Form.{form_at}
use Rattle.rows.specs.Summable.{row_at, Inside}

drop_take : {A : Type 0} (m k : ℕ) (l : List A) → drop m (take (m + k) l) ≡ take k (drop m l)
drop_take zero k l = let e : 0 + k ≡ k = omega arith in rw e
drop_take (suc m) k [] = let e : suc m + k ≡ suc (m + k) = omega arith in rw e (sym (take-nil k))
drop_take (suc m) k (x ∷ l) = let e : suc m + k ≡ suc (m + k) = omega arith in rw e (drop_take m k l)

module _ (n : ℕ) (table : List ℤ) (f : ℕ) where
  pub kind_at : get_or table ((n + 3) * f) (pos 0) ≡ (form_at n table f).kind
  kind_at =
      ap (λ (i : ℕ). get_or table i (pos 0)) (sym (add-zero ((n + 3) * f)))
      ∙ sym (get_or-take (n + 3) (drop ((n + 3) * f) table) 0 (pos 0) (omega arith) ∙ get_or-drop ((n + 3) * f) table 0 (pos 0))

  pub divisor_at : get_or table ((n + 3) * f + 1) (pos 0) ≡ (form_at n table f).divisor
  divisor_at = sym (get_or-take (n + 3) (drop ((n + 3) * f) table) 1 (pos 0) (omega arith) ∙ get_or-drop ((n + 3) * f) table 1 (pos 0))

  pub row_at_lem : take ((n + 3) * f + 2 + (n + 1) - ((n + 3) * f + 2)) (drop ((n + 3) * f + 2) table) ≡ row_at n table f
  row_at_lem =
      let e : (n + 3) * f + 2 + (n + 1) - ((n + 3) * f + 2) ≡ n + 1 = omega arith in
      let d : n + 3 ≡ 2 + (n + 1) = omega arith in
      rw e (sym (ap (λ (k : ℕ). drop 2 (take k (drop ((n + 3) * f) table))) d ∙ drop_take 2 (n + 1) (drop ((n + 3) * f) table) ∙ ap (take (n + 1)) (drop-drop 2 ((n + 3) * f) table)))

  pub length_row : Inside n table f → length (row_at n table f) ≡ n + 1
  length_row h =
      rw length-drop (let e : length (take (n + 3) (drop ((n + 3) * f) table)) ≡ n + 3 = simp (length-take, length-drop) (omega arith) in omega arith)
