-- The rules on divides forms are sound: of as many neighbours as the divisor says one is divided, a divisor of the divisor divides, and scaling
-- goes both ways. And neighbouring rows belong to different forms.
use mathlib.Core.Path.{◌≡◌, refl, ap, sym, ◌∙◌}
use mathlib.Core.Bool.{Bool, true, false, not, ◌&&◌, ◌||◌, cond}
use mathlib.Core.List.{List, [], ◌∷◌, map}
use Prim.Native.Nat.{ℕ, zero, suc, ◌+◌, ◌≤◌, ◌<◌}
use native.Mathlib.Nat.{add-zero}
use native.Mathlib.Decide.{dec_lt}
use native.Mathlib.Numerals.{add-one}
use native.Mathlib.Omega.{arith}
use borrow.Author.Tests.{ne_eqb}
use lib.Dec.{T, eqb, eqb→eq}
use lib.IntN.{ℤ, pos, ◌+ℤ◌, ◌*ℤ◌, +ℤ_idl, +ℤ_idr}
use lib.ListN.{length, get_or, drop, drop_of_length-le}
use lib.Seq.{drop-cons}
use lib.Signed.{◌≤ℤ◌}
use Rattle.ints.specs.Tests.{eq_z, divides, between, all, any, different}
use Rattle.ints.proofs.Bools.{T_and, and_T, T→false, false→T, or_left, or_right, implies}
use Rattle.ints.proofs.Parts.{add_parts, ints}
use Rattle.ints.proofs.Order.{eq_z→eq, eq_zs→eq, eq_zs_refl}
use Rattle.ints.specs.Multiples.{Multiple}
use Rattle.ints.proofs.Divides.{divides→multiple, multiple_trans, multiple_scaled, multiple_unscaled, some_multiple}
use Rattle.rows.specs.Row.{Row, constant, scaled, shifted}
use Rattle.rows.specs.Form.{Form, is_divided, in_range, legal_divisor, legal}
use Rattle.rows.specs.Limits.{largest_divisor}
use Rattle.rows.specs.Conditions.{same_row, divided_by, neighbours_from, neighbours, loosens, scales}
use Rattle.rows.specs.Truth.{Integers, value, form_true}
use Rattle.rows.proofs.Value.{value_scaled, value_shifted}
use Rattle.rows.proofs.Sound.{is_divided_lem, same_value}

-- ---- AR

module _ (ρ : Integers) (form : ℕ → Form) (d : ℤ) where
  -- a divides form whose row is r plus i is true where d divides that
  divided : (g i : ℕ) (r : Row) → T (divided_by d (form g)) → T (same_row (form g).row (shifted (pos i) r)) → Multiple d (pos i +ℤ value r ρ)
      → T (form_true ρ (form g))
  divided g i r k s m =
      let (kind, divisor) = T_and (eq_z (form g).kind is_divided) (eq_z (form g).divisor d) k in
      let e = same_value ρ (form g).row (shifted (pos i) r) s ∙ value_shifted (pos i) r ρ in
      (is_divided_lem ρ (form g) kind).1 (rw (eq_z→eq (form g).divisor d divisor, e) m)

  -- of rows that go on from place i, the form at place j is true where d divides r plus j
  at_place : (gs : List ℕ) (i j : ℕ) (r : Row) → T (all (λ g. divided_by d (form g)) gs) → T (neighbours_from i r (map (λ g. (form g).row) gs))
      → i ≤ j → j < i + length gs → Multiple d (pos j +ℤ value r ρ) → T (any (λ g. form_true ρ (form g)) gs)
  unfolding neighbours_from
  at_place [] i j r ks ns low high m = absurd (omega arith)
  at_place (g ∷ gs) i j r ks ns low high m =
      let (k, ks') = T_and (divided_by d (form g)) (all (λ g. divided_by d (form g)) gs) ks in
      let (s, ns') = T_and (same_row (form g).row (shifted (pos i) r)) (neighbours_from (suc i) r (map (λ g. (form g).row) gs)) ns in
      let rest = any (λ g. form_true ρ (form g)) gs in
      elim (dec_lt i j) [
        | yes q ↦ or_right (form_true ρ (form g)) rest (at_place gs (suc i) j r ks' ns' (omega arith) (omega arith) m)
        | no q ↦
            let e : j ≡ i = omega arith in
            or_left (form_true ρ (form g)) rest (divided g i r k s (rw e at m))
      ]

-- as many divides forms as their divisor says, with neighbouring rows
pub remainder_sound : (ρ : Integers) (form : ℕ → Form) (gs : List ℕ) → T (all (λ g. divided_by (pos (length gs)) (form g)) gs)
    → T (neighbours (map (λ g. (form g).row) gs)) → T (any (λ g. form_true ρ (form g)) gs)
unfolding neighbours
remainder_sound ρ form [] ks ns = absurd ns
remainder_sound ρ form (g ∷ gs) ks ns =
    let d = length (g ∷ gs) in
    let r = (form g).row in
    let (j, low, m) = some_multiple d (value r ρ) (omega arith) in
    let (k, ks') = T_and (divided_by (pos d) (form g)) (all (λ g. divided_by (pos d) (form g)) gs) ks in
    let rest = any (λ g. form_true ρ (form g)) gs in
    elim (dec_lt 0 j) [
      | yes q ↦ or_right (form_true ρ (form g)) rest (at_place ρ form (pos d) gs 1 j r ks' ns (omega arith) (omega arith) m)
      | no q ↦
          let e : j ≡ 0 = omega arith in
          let (kind, divisor) = T_and (eq_z (form g).kind is_divided) (eq_z (form g).divisor (pos d)) k in
          or_left (form_true ρ (form g)) rest
          ((is_divided_lem ρ (form g) kind).1 (rw (eq_z→eq (form g).divisor (pos d) divisor) (rw (e, +ℤ_idl (value r ρ)) at m)))
    ]

-- ---- LF, SU and SD

pub loosening : (ρ : Integers) (g h : Form) → T (eq_z g.kind is_divided) → T (eq_z h.kind is_divided) → T (loosens g h)
    → T (not (form_true ρ g) || form_true ρ h)
unfolding loosens
loosening ρ g h kg kh t =
    let (row, divisor) = T_and (same_row g.row h.row) (divides h.divisor g.divisor) t in
    implies (form_true ρ g) (form_true ρ h)
    (λ l. (is_divided_lem ρ h kh).1
    (multiple_trans h.divisor g.divisor _ (divides→multiple h.divisor g.divisor divisor)
    (rw (same_value ρ g.row h.row row) at ((is_divided_lem ρ g kg).0 l))))

module _ (ρ : Integers) (k : ℤ) (g h : Form) (kg : T (eq_z g.kind is_divided)) (kh : T (eq_z h.kind is_divided)) (t : T (scales k g h)) where
  scales_says : (value h.row ρ ≡ k *ℤ value g.row ρ) × (h.divisor ≡ k *ℤ g.divisor)
  unfolding scales
  scales_says =
      let (row, divisor) = T_and (same_row h.row (scaled k g.row)) (eq_z h.divisor (k *ℤ g.divisor)) t in
      (same_value ρ h.row (scaled k g.row) row ∙ value_scaled k g.row ρ, eq_z→eq h.divisor (k *ℤ g.divisor) divisor)

  pub scaling_up : T (not (form_true ρ g) || form_true ρ h)
  scaling_up =
      implies (form_true ρ g) (form_true ρ h)
      (λ l. (is_divided_lem ρ h kh).1
      (rw (scales_says.0, scales_says.1) (multiple_scaled k g.divisor (value g.row ρ) ((is_divided_lem ρ g kg).0 l))))

  pub scaling_down : pos 1 ≤ℤ k → T (not (form_true ρ h) || form_true ρ g)
  scaling_down positive =
      implies (form_true ρ h) (form_true ρ g)
      (λ l. (is_divided_lem ρ g kg).1
      (multiple_unscaled k g.divisor (value g.row ρ) positive (rw (scales_says.0, scales_says.1) at ((is_divided_lem ρ h kh).0 l))))

-- ---- neighbouring rows are all different

constant_shifted : (n : ℤ) (r : Row) → constant (shifted n r) ≡ n +ℤ constant r
constant_shifted n [] = sym (+ℤ_idr n)
constant_shifted n (k ∷ r) = refl

module _ (row : ℕ → Row) where
  constant_at : (g i : ℕ) (r : Row) → T (same_row (row g) (shifted (pos i) r)) → constant (row g) ≡ pos i +ℤ constant r
  constant_at g i r s = ap (λ (x : Row). constant x) (eq_zs→eq (row g) (shifted (pos i) r) s) ∙ constant_shifted (pos i) r

  -- a form whose place lies before them is none of them
  not_among : (x k : ℕ) (gs : List ℕ) (i : ℕ) (r : Row) → constant (row x) ≡ pos k +ℤ constant r → k < i
      → T (neighbours_from i r (map row gs)) → T (all (λ g. not (eqb x g)) gs)
  unfolding neighbours_from
  not_among x k [] i r e l ns = tt
  not_among x k (g ∷ gs) i r e l ns =
      let (s, ns') = T_and (same_row (row g) (shifted (pos i) r)) (neighbours_from (suc i) r (map row gs)) ns in
      and_T (not (eqb x g)) (all (λ g. not (eqb x g)) gs) (false→T (T→false (eqb x g) (λ t. apart (eqb→eq x g t) s))) (not_among x k gs (suc i) r e (omega arith) ns')
    where
      apart : x ≡ g → T (same_row (row g) (shifted (pos i) r)) → ⊥
      apart f s =
          let p = ap (λ (y : ℕ). constant (row y)) f in
          let q : pos k +ℤ constant r ≡ pos i +ℤ constant r = sym e ∙ p ∙ constant_at g i r s in
          omega (ints, add_parts (pos k) (constant r), add_parts (pos i) (constant r))

  different_from : (gs : List ℕ) (i : ℕ) (r : Row) → T (neighbours_from i r (map row gs)) → T (different gs)
  unfolding neighbours_from
  different_from [] i r ns = tt
  different_from (g ∷ gs) i r ns =
      let (s, ns') = T_and (same_row (row g) (shifted (pos i) r)) (neighbours_from (suc i) r (map row gs)) ns in
      and_T (all (λ h. not (eqb g h)) gs) (different gs) (not_among g i gs (suc i) r (constant_at g i r s) (omega arith) ns') (different_from gs (suc i) r ns')

  pub neighbours_differ : (gs : List ℕ) → T (neighbours (map row gs)) → T (different gs)
  unfolding neighbours
  neighbours_differ [] ns = tt
  neighbours_differ (g ∷ gs) ns =
      and_T (all (λ h. not (eqb g h)) gs) (different gs) (not_among g 0 gs 1 (row g) (sym (+ℤ_idl (constant (row g)))) (omega arith) ns)
      (different_from gs 1 (row g) ns)

-- ---- what they say by place, and that nothing more is asked

module _ (row : ℕ → Row) where
  place_says : (gs : List ℕ) (i k : ℕ) (r : Row) → T (neighbours_from i r (map row gs)) → k < length gs → row (get_or gs k 0) ≡ shifted (pos (i + k)) r
  unfolding neighbours_from
  place_says [] i k r ns l = absurd (omega arith)
  place_says (g ∷ gs) i zero r ns l =
      rw (add-zero i) (eq_zs→eq (row g) (shifted (pos i) r) (T_and (same_row (row g) (shifted (pos i) r)) (neighbours_from (suc i) r (map row gs)) ns).0)
  place_says (g ∷ gs) i (suc k) r ns l =
      let e : i + suc k ≡ suc i + k = omega arith in
      rw e (place_says gs (suc i) k r (T_and (same_row (row g) (shifted (pos i) r)) (neighbours_from (suc i) r (map row gs)) ns).1 (omega arith))

  place_given : (gs : List ℕ) (i : ℕ) (r : Row) → ((k : ℕ) → k < length gs → row (get_or gs k 0) ≡ shifted (pos (i + k)) r)
      → T (neighbours_from i r (map row gs))
  unfolding neighbours_from
  place_given [] i r f = tt
  place_given (g ∷ gs) i r f =
      and_T (same_row (row g) (shifted (pos i) r)) (neighbours_from (suc i) r (map row gs))
      (rw (f 0 (omega arith), add-zero i) (eq_zs_refl (shifted (pos i) r)))
      (place_given gs (suc i) r (λ k l. let e : suc i + k ≡ i + suc k = omega arith in rw e (f (suc k) (omega arith))))

  pub neighbours_some : (gs : List ℕ) → T (neighbours (map row gs)) → 1 ≤ length gs
  unfolding neighbours
  neighbours_some [] ns = absurd ns
  neighbours_some (g ∷ gs) ns = omega arith

  pub neighbours_say : (gs : List ℕ) → T (neighbours (map row gs)) → (i : ℕ) → 1 ≤ i → i < length gs
      → row (get_or gs i 0) ≡ shifted (pos i) (row (get_or gs 0 0))
  unfolding neighbours
  neighbours_say [] ns i h l = absurd ns
  neighbours_say (g ∷ gs) ns zero h l = absurd (omega arith)
  neighbours_say (g ∷ gs) ns (suc i) h l = let e : 1 + i ≡ suc i = omega arith in rw e at (place_says gs 1 i (row g) ns (omega arith))

  pub neighbours_from_lem : (gs : List ℕ) → 1 ≤ length gs
      → ((i : ℕ) → 1 ≤ i → i < length gs → row (get_or gs i 0) ≡ shifted (pos i) (row (get_or gs 0 0))) → T (neighbours (map row gs))
  unfolding neighbours
  neighbours_from_lem [] h f = absurd (omega arith)
  neighbours_from_lem (g ∷ gs) h f = place_given gs 1 (row g) (λ k l. let e : 1 + k ≡ suc k = omega arith in rw e (f (suc k) (omega arith) (omega arith)))

-- ---- how they are tested one by one

module _ (row : ℕ → Row) (picks : List ℕ) where
  -- against the first
  pub neighbours_all : 1 ≤ length picks → neighbours_from 1 (row (get_or picks 0 0)) (map row (drop 1 picks)) ≡ neighbours (map row picks)
  unfolding neighbours
  neighbours_all h = rw (drop-cons picks 0 0 h)

  pub neighbours_step : (i : ℕ) (r : Row) {t : Bool} → i < length picks → same_row (row (get_or picks i 0)) (shifted (pos i) r) ≡ t
      → neighbours_from i r (map row (drop i picks)) ≡ t && neighbours_from (i + 1) r (map row (drop (i + 1) picks))
  unfolding neighbours_from
  neighbours_step i r h e = rw (drop-cons picks i 0 h, add-one i, e)

  pub neighbours_over : (i : ℕ) (r : Row) → length picks ≤ i → neighbours_from i r (map row (drop i picks)) ≡ true
  unfolding neighbours_from
  neighbours_over i r h = rw (drop_of_length-le picks h)

-- ---- a legal form that has a divisor of at least 1 is a divides form

pub divisor_says : (n : ℕ) (f : Form) (d : ℕ) → T (legal n f) → 1 ≤ d
    → divided_by (pos d) f ≡ eq_z f.divisor (pos d)
unfolding legal
divisor_says n f d t h =
    let kind = between (pos 1) (pos 3) f.kind in
    let divisor = legal_divisor f.kind f.divisor in
    let (u, _) = T_and (kind && divisor && eqb (length f.row) (n + 1)) (all in_range f.row) t in
    let (v, _) = T_and (kind && divisor) (eqb (length f.row) (n + 1)) u in
    go (eq_z f.kind is_divided) (T_and kind divisor v).1
  where
    go : (b : Bool) → T (cond b (between (pos 1) (pos largest_divisor) f.divisor) (eq_z f.divisor (pos 0)))
        → b && eq_z f.divisor (pos d) ≡ eq_z f.divisor (pos d)
    go true t = refl
    go false t = rw (eq_z→eq f.divisor (pos 0) t) (sym (ne_eqb 0 d (λ e. omega arith)))
