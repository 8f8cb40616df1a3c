-- What AR asks, by the place of each form; and its line, which has one literal for each form, all different.
use mathlib.Core.Path.{◌≡◌, sym, ap, ◌∙◌}
use mathlib.Core.Bool.{Bool}
use mathlib.Core.List.{List, [], map}
use mathlib.Core.Logic.{◌↔◌}
use Prim.Native.Nat.{ℕ, ◌≤◌, ◌<◌}
use lib.Dec.{T, eqb, ltb→lt, lt→ltb}
use lib.IntN.{pos}
use lib.ListN.{length, get_or, length-map}
use Rattle.ints.specs.Tests.{eq_z, different}
use Rattle.ints.proofs.Bools.{T_and, and_T}
use Rattle.ints.proofs.Lists.{all_at, all_from}
use Rattle.ints.proofs.Order.{eq_z→eq, eq_z_refl}
use Rattle.rows.specs.Row.{shifted}
use Rattle.rows.specs.Form.{Form, is_divided}
use Rattle.rows.specs.Conditions.{divided_by}
use Rattle.rows.proofs.Remainders.{neighbours_differ, neighbours_some, neighbours_say, neighbours_from_lem}
use Rattle.ledger.specs.Literals.{unnegated, ascending, holds, line_of}
use Rattle.ledger.specs.Ledger.{Line, nth_form, nth_row, New, new_form, new_line}
use Rattle.ledger.specs.Record.{AR}
use Rattle.ledger.specs.Checks.{form_in, derived_line, makes, tests, Passed}
use Rattle.ledger.proofs.LiteralLaws.{any_line_of, ascending_line_of, length_line_of_different, different_unnegated}

abbrev literals_of : New → List ℕ
literals_of (new_form f) = []
literals_of (new_line x) = x.literals

module _ (n : ℕ) (fs : List Form) (ls : List Line) (gs : List ℕ) where
  abbrev Asked : Type 0
  Asked =
      (1 ≤ length gs)
      × ((i : ℕ) → i < length gs
      → (get_or gs i 0 < length fs)
      × ((nth_form fs (get_or gs i 0)).kind ≡ is_divided)
      × ((nth_form fs (get_or gs i 0)).divisor ≡ pos (length gs))
      × (1 ≤ i → nth_row fs (get_or gs i 0) ≡ shifted (pos i) (nth_row fs (get_or gs 0 0))))

  -- its tests pass exactly where there is a form, and each of them is in force, a divides form whose divisor is their number, and has the row of the
  -- first plus its place
  pub remainder_exactly : Passed (tests n fs ls (AR gs))
      ↔ ((1 ≤ length gs)
      × ((i : ℕ) → i < length gs
      → (get_or gs i 0 < length fs)
      × ((nth_form fs (get_or gs i 0)).kind ≡ is_divided)
      × ((nth_form fs (get_or gs i 0)).divisor ≡ pos (length gs))
      × (1 ≤ i → nth_row fs (get_or gs i 0) ≡ shifted (pos i) (nth_row fs (get_or gs 0 0)))))
  unfolding tests
  remainder_exactly = (given, passed)
    where
      divided : ℕ → Bool
      divided f = divided_by (pos (length gs)) (nth_form fs f)

      given : Passed (tests n fs ls (AR gs)) → Asked
      given (names, (kinds, (rows, _))) = (
        neighbours_some (nth_row fs) gs rows,
        λ i l.
            let (kind, divisor) = T_and (eq_z (nth_form fs (get_or gs i 0)).kind is_divided) _ (all_at divided gs i 0 kinds l) in (
              ltb→lt _ _ (all_at (form_in fs) gs i 0 names l),
              eq_z→eq _ _ kind,
              eq_z→eq _ _ divisor,
              λ h. neighbours_say (nth_row fs) gs rows i h l,
            ),
      )

      passed : Asked → Passed (tests n fs ls (AR gs))
      passed (some, each) = (
        all_from (form_in fs) gs 0 (λ i l. lt→ltb _ _ (each i l).0),
        (
          all_from divided gs 0
              (λ i l. and_T (eq_z (nth_form fs (get_or gs i 0)).kind is_divided) _ (rw (each i l).1 tt) (rw (each i l).2 (eq_z_refl (pos (length gs))))),
          (neighbours_from_lem (nth_row fs) gs some (λ i h l. (each i l).3 h), tt),
        ),
      )

  -- no form is named twice
  pub remainders_differ : Passed (tests n fs ls (AR gs)) → T (different gs)
  unfolding tests
  remainders_differ (_, (_, (rows, _))) = neighbours_differ (nth_row fs) gs rows

  -- the line that it makes has the literals of all of them and no others, ascending, as many as they are
  pub remainder_line : Passed (tests n fs ls (AR gs)) → (xs : List ℕ) → makes ls (AR gs) ≡ derived_line xs
      → (length xs ≡ length gs) × T (ascending xs) × ((x : ℕ) → holds x xs ≡ holds x (map unnegated gs))
  unfolding makes
  remainder_line p xs e =
      let line = map unnegated gs in
      let same : xs ≡ line_of line = sym (ap (λ (y : New). literals_of y) e) in
      rw same (
        length_line_of_different line (different_unnegated gs (remainders_differ p)) ∙ length-map gs unnegated,
        ascending_line_of line,
        λ x. any_line_of (eqb x) line,
      )
