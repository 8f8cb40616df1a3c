-- The rules on rows are sound: where a rule's condition holds, some literal of its line is true, whatever whole numbers the unknowns are.
use mathlib.Core.Path.{◌≡◌, refl, ap, sym, ◌∙◌}
use mathlib.Core.Bool.{Bool, not, ◌&&◌, ◌||◌}
use mathlib.Core.List.{List, [], ◌∷◌}
use mathlib.Core.Logic.{◌↔◌, ◌⊎◌, inl, inr}
use Prim.Native.Nat.{ℕ, suc}
use lib.Dec.{T, T_not}
use lib.IntN.{ℤ, pos, neg_ℤ, ◌+ℤ◌, ◌-ℤ◌, ◌*ℤ◌, +ℤ-neg_ℤ_cancel, *ℤ_comm, *ℤ-zero, zero-*ℤ}
use lib.Signed.{le_z, lt_z, ◌≤ℤ◌, ◌<ℤ◌, le_z_yes, lt_z_yes}
use Rattle.ints.specs.Tests.{eq_z, eq_zs, divides, all, any}
use Rattle.ints.proofs.Bools.{T_and, T-or, or_left, or_right, implies}
use Rattle.ints.proofs.Lists.{all_or_any}
use Rattle.ints.proofs.Parts.{add_parts, sub_parts, ints}
use Rattle.ints.proofs.Order.{total, mul_mono, mul_cancel, eq_z→eq, eq_zs→eq, between→le}
use Rattle.ints.specs.Multiples.{Multiple}
use Rattle.ints.proofs.Divides.{divides→multiple, multiple→divides, multiple_zero, multiple_add, multiple_mul, multiple_neg}
use Rattle.ints.proofs.Floor.{tighten, rounded_once}
use Rattle.rows.specs.Limits.{largest_multiplier}
use Rattle.rows.specs.Row.{Row, constant, coefficients, scaled, minus, one_minus, one_more}
use Rattle.rows.specs.Form.{Form, at_most, is_zero, is_divided, legal_multiplier}
use Rattle.rows.specs.Sum.{Term, summed}
use Rattle.rows.specs.Conditions.{same_row, is_one_minus, is_one_more, is_either, tightens, farkas, clash}
use Rattle.rows.specs.Truth.{Integers, weighed, value, form_true}
use Rattle.rows.proofs.Value.{weighed_scaled, value_minus, value_one_minus, value_one_more, weighed_sum, value_summed}
use Rattle.rows.proofs.Reaching.{farkas_is}

-- ---- what a form of each kind says

module _ (ρ : Integers) (f : Form) where
  pub at_most_lem : T (eq_z f.kind at_most) → T (form_true ρ f) ↔ (value f.row ρ ≤ℤ pos 0)
  unfolding form_true
  at_most_lem k = rw (eq_z→eq f.kind at_most k) (λ t. le_z_yes t, λ h. h.le)

  pub is_zero_lem : T (eq_z f.kind is_zero) → T (form_true ρ f) ↔ (value f.row ρ ≡ pos 0)
  unfolding form_true
  is_zero_lem k = rw (eq_z→eq f.kind is_zero k) (eq_z→eq (value f.row ρ) (pos 0), λ e. rw e tt)

  pub is_divided_lem : T (eq_z f.kind is_divided) → T (form_true ρ f) ↔ Multiple f.divisor (value f.row ρ)
  unfolding form_true
  is_divided_lem k = rw (eq_z→eq f.kind is_divided k) (divides→multiple f.divisor _, multiple→divides f.divisor _)

pub same_value : (ρ : Integers) (a b : Row) → T (same_row a b) → value a ρ ≡ value b ρ
same_value ρ a b t = ap (λ (r : Row). value r ρ) (eq_zs→eq a b t)

-- ---- TO and TR

-- r above 0 gives 1 − r ≤ 0, and r below 0 gives r + 1 ≤ 0

above : (ρ : Integers) (r s : Row) → T (is_one_minus s r) → pos 0 <ℤ value r ρ → value s ρ ≤ℤ pos 0
above ρ r s t h = rw (same_value ρ s (one_minus r) t, value_one_minus r ρ) (omega (ints, sub_parts (pos 1) (value r ρ)))

below : (ρ : Integers) (r s : Row) → T (is_one_more s r) → value r ρ <ℤ pos 0 → value s ρ ≤ℤ pos 0
below ρ r s t h = rw (same_value ρ s (one_more r) t, value_one_more r ρ) (omega (ints, add_parts (pos 1) (value r ρ)))

pub totality : (ρ : Integers) (a b : Form) → T (eq_z a.kind at_most) → T (eq_z b.kind at_most) → T (is_one_minus b.row a.row)
    → T (form_true ρ a || form_true ρ b)
totality ρ a b ka kb t = go (total (value a.row ρ) (pos 0))
  where
    go : (value a.row ρ ≤ℤ pos 0) ⊎ (pos 0 <ℤ value a.row ρ) → T (form_true ρ a || form_true ρ b)
    go (inl h) = or_left (form_true ρ a) (form_true ρ b) ((at_most_lem ρ a ka).1 h)
    go (inr h) = or_right (form_true ρ a) (form_true ρ b) ((at_most_lem ρ b kb).1 (above ρ a.row b.row t h))

pub trichotomy : (ρ : Integers) (z u v : Form) → T (eq_z z.kind is_zero) → T (eq_z u.kind at_most) → T (eq_z v.kind at_most)
    → T (is_one_more u.row z.row) → T (is_one_minus v.row z.row) → T (form_true ρ z || (form_true ρ u || form_true ρ v))
trichotomy ρ z u v kz ku kv s t = go (total (value z.row ρ) (pos 0)) (total (pos 0) (value z.row ρ))
  where
    x : ℤ
    x = value z.row ρ

    rest : Bool
    rest = form_true ρ u || form_true ρ v

    go : (x ≤ℤ pos 0) ⊎ (pos 0 <ℤ x) → (pos 0 ≤ℤ x) ⊎ (x <ℤ pos 0) → T (form_true ρ z || rest)
    go (inl h) (inl k) = or_left (form_true ρ z) rest ((is_zero_lem ρ z kz).1 (omega ints))
    go (inl h) (inr k) =
        or_right (form_true ρ z) rest (or_left (form_true ρ u) (form_true ρ v) ((at_most_lem ρ u ku).1 (below ρ z.row u.row s k)))
    go (inr h) k =
        or_right (form_true ρ z) rest (or_right (form_true ρ u) (form_true ρ v) ((at_most_lem ρ v kv).1 (above ρ z.row v.row t h)))

-- ---- EQ and WK

pub equation : (ρ : Integers) (z a : Form) → T (eq_z z.kind is_zero) → T (eq_z a.kind at_most) → T (is_either a.row z.row)
    → T (not (form_true ρ z) || form_true ρ a)
equation ρ z a kz ka t =
    implies (form_true ρ z) (form_true ρ a)
    (λ h. (at_most_lem ρ a ka).1 (go ((is_zero_lem ρ z kz).0 h) (T-or (same_row a.row z.row) (same_row a.row (minus z.row)) t)))
  where
    go : value z.row ρ ≡ pos 0 → T (same_row a.row z.row) ⊎ T (same_row a.row (minus z.row)) → value a.row ρ ≤ℤ pos 0
    go e (inl s) = rw (same_value ρ a.row z.row s, e) record { le = tt }
    go e (inr s) = rw (same_value ρ a.row (minus z.row) s, value_minus z.row ρ, e) record { le = tt }

pub weakening : (ρ : Integers) (z g : Form) → T (eq_z z.kind is_zero) → T (eq_z g.kind is_divided) → T (same_row z.row g.row)
    → T (not (form_true ρ z) || form_true ρ g)
weakening ρ z g kz kg t =
    implies (form_true ρ z) (form_true ρ g)
    (λ h. (is_divided_lem ρ g kg).1 (rw (← same_value ρ z.row g.row t, (is_zero_lem ρ z kz).0 h) (multiple_zero g.divisor)))

-- ---- TI

tightens_says : (c : ℤ) (a b : Row) → T (tightens c a b)
    → (coefficients a ≡ scaled c (coefficients b)) × ((c *ℤ (constant b -ℤ pos 1)) <ℤ constant a) × (constant a ≤ℤ (c *ℤ constant b))
unfolding tightens
tightens_says c a b t =
    let same = eq_zs (coefficients a) (scaled c (coefficients b)) in
    let low = lt_z (c *ℤ (constant b -ℤ pos 1)) (constant a) in
    let (p, h) = T_and (same && low) (le_z (constant a) (c *ℤ constant b)) t in
    let (s, l) = T_and same low p in
    (eq_zs→eq (coefficients a) (scaled c (coefficients b)) s, lt_z_yes l, le_z_yes h)

tightened : (ρ : Integers) (c : ℤ) (a b : Row) → T (le_z (pos 1) c) → T (tightens c a b) → value a ρ ≤ℤ pos 0 → value b ρ ≤ℤ pos 0
unfolding value
tightened ρ c a b h t l =
    let (same, low, _) = tightens_says c a b t in
    tighten c (weighed (coefficients b) ρ) (constant a) (constant b) (le_z_yes h) low (rw (same, weighed_scaled c (coefficients b) ρ) at l)

pub tightening : (ρ : Integers) (c : ℤ) (a b : Form) → T (eq_z a.kind at_most) → T (eq_z b.kind at_most) → T (le_z (pos 1) c)
    → T (tightens c a.row b.row) → T (not (form_true ρ a) || form_true ρ b)
tightening ρ c a b ka kb h t =
    implies (form_true ρ a) (form_true ρ b) (λ l. (at_most_lem ρ b kb).1 (tightened ρ c a.row b.row h t ((at_most_lem ρ a ka).0 l)))

scaled_once : (c : ℤ) → pos 1 ≤ℤ c → (ks ls : List ℤ) → scaled c ks ≡ scaled c ls → ks ≡ ls
scaled_once c h [] [] e = refl
scaled_once c h [] (l ∷ ls) e = cc
scaled_once c h (k ∷ ks) [] e = cc
scaled_once c h (k ∷ ks) (l ∷ ls) e = rw (mul_cancel c k l h (cc), scaled_once c h ks ls (cc))

-- a row and a factor tighten to one row only
pub tightens_once : (c : ℤ) (a b b' : Row) → T (le_z (pos 1) c) → T (tightens c a b) → T (tightens c a b')
    → (constant b ≡ constant b') × (coefficients b ≡ coefficients b')
tightens_once c a b b' h s t =
    let (same, low, high) = tightens_says c a b s in
    let (same', low', high') = tightens_says c a b' t in (
      rounded_once c (constant a) (constant b) (constant b') (le_z_yes h) low high low' high',
      scaled_once c (le_z_yes h) (coefficients b) (coefficients b') (sym same ∙ same'),
    )

-- ---- FK and CL

module _ (row : ℕ → Row) (ρ : Integers) (P : ℤ → Type 0) (zero_has : P (pos 0)) (sum_has : (a b : ℤ) → P a → P b → P (a +ℤ b))
    (p q s : Term → Bool) (term-has : (t : Term) → T (p t) → T (q t) → T (s t) → P (t.multiplier *ℤ value (row t.form) ρ)) where
  -- a term that passes three tests has P, and so has the sum of such terms
  weighed_sum_has : (ts : List Term) → T (all p ts) → T (all q ts) → T (all s ts) → P (weighed_sum row ρ ts)
  unfolding weighed_sum
  weighed_sum_has [] ps qs ss = zero_has
  weighed_sum_has (t ∷ ts) ps qs ss =
      let (p₁, ps') = T_and (p t) (all p ts) ps in
      let (q₁, qs') = T_and (q t) (all q ts) qs in
      let (s₁, ss') = T_and (s t) (all s ts) ss in
      sum_has _ _ (term-has t p₁ q₁ s₁) (weighed_sum_has ts ps' qs' ss')

  -- where the sum has not P and the first two tests pass throughout, the third fails somewhere
  some_fails : (n : ℕ) (ts : List Term) → T (all p ts) → T (all q ts) → (P (value (summed n row ts) ρ) → ⊥) → T (any (λ t. not (s t)) ts)
  some_fails n ts ps qs f = go (all_or_any s ts)
    where
      go : T (all s ts) ⊎ T (any (λ t. not (s t)) ts) → T (any (λ t. not (s t)) ts)
      go (inl ss) = absurd (f (rw (value_summed n row ts ρ) (weighed_sum_has ts ps qs ss)))
      go (inr h) = h

weighed_multiple : (d : ℤ) (ks : List ℤ) (ρ : Integers) → T (all (divides d) ks) → Multiple d (weighed ks ρ)
unfolding weighed
weighed_multiple d [] ρ t = multiple_zero d
weighed_multiple d (k ∷ ks) ρ t =
    let (h, rest) = T_and (divides d k) (all (divides d) ks) t in
    multiple_add d (k *ℤ ρ 0) _ (multiple_mul d k (ρ 0) (divides→multiple d k h)) (weighed_multiple d ks (λ i. ρ (suc i)) rest)

term_at_most : (ρ : Integers) (f : Form) (m : ℤ) → T (eq_z f.kind at_most || eq_z f.kind is_zero) → T (legal_multiplier f.kind m)
    → T (form_true ρ f) → (m *ℤ value f.row ρ) ≤ℤ pos 0
unfolding legal_multiplier
term_at_most ρ f m k l t = go (T-or (eq_z f.kind at_most) (eq_z f.kind is_zero) k)
  where
    go : T (eq_z f.kind at_most) ⊎ T (eq_z f.kind is_zero) → (m *ℤ value f.row ρ) ≤ℤ pos 0
    go (inl a) =
        let (positive, _) = between→le (pos 1) (pos largest_multiplier) m (rw (eq_z→eq f.kind at_most a) at l) in
        rw (*ℤ-zero m) at (mul_mono m (omega ints) ((at_most_lem ρ f a).0 t))
    go (inr z) = rw ((is_zero_lem ρ f z).0 t, *ℤ-zero m) record { le = tt }

term_multiple : (ρ : Integers) (d : ℤ) (f : Form) (m : ℤ) → T (eq_z f.kind is_divided) → T (eq_z f.divisor d)
    → T (form_true ρ f) → Multiple d (m *ℤ value f.row ρ)
term_multiple ρ d f m k e t =
    rw (*ℤ_comm m (value f.row ρ)) (multiple_mul d _ m (rw (eq_z→eq f.divisor d e) at ((is_divided_lem ρ f k).0 t)))

-- a row that FK takes is never at most 0
farkas_refutes : (ρ : Integers) (r : Row) → T (farkas r) → value r ρ ≤ℤ pos 0 → ⊥
unfolding value Multiple
farkas_refutes ρ r t h =
    let (zeros, one) = T_and (all (divides (pos 0)) (coefficients r)) (le_z (pos 1) (constant r)) (rw farkas_is at t) in
    let (q, e) = weighed_multiple (pos 0) (coefficients r) ρ zeros in
    let least : pos 1 ≤ℤ constant r = le_z_yes one in
    omega (ints, add_parts (constant r) (weighed (coefficients r) ρ), e ∙ zero-*ℤ q)

-- a row that CL takes is never a multiple of d
clash_refutes : (ρ : Integers) (d : ℤ) (r : Row) → T (clash d r) → Multiple d (value r ρ) → ⊥
unfolding value clash
clash_refutes ρ d r t h =
    let (multiples, odd) = T_and (all (divides d) (coefficients r)) (not (divides d (constant r))) t in
    let w = weighed (coefficients r) ρ in
    let minus-w = multiple_neg d w (weighed_multiple d (coefficients r) ρ multiples) in
    let m : Multiple d (constant r) = rw (+ℤ-neg_ℤ_cancel (constant r) w) at (multiple_add d (constant r +ℤ w) (neg_ℤ w) h minus-w) in
    T_not (divides d (constant r)) odd (multiple→divides d (constant r) m)

module _ (ρ : Integers) (n : ℕ) (form : ℕ → Form) (ts : List Term) where
  pub farkas_sound : T (all (λ t. eq_z (form t.form).kind at_most || eq_z (form t.form).kind is_zero) ts)
      → T (all (λ t. legal_multiplier (form t.form).kind t.multiplier) ts) → T (farkas (summed n (λ f. (form f).row) ts))
      → T (any (λ t. not (form_true ρ (form t.form))) ts)
  farkas_sound ks ms h =
      some_fails (λ f. (form f).row) ρ (λ v. v ≤ℤ pos 0) (record { le = tt }) (λ a b i j. omega (ints, add_parts a b))
      (λ t. eq_z (form t.form).kind at_most || eq_z (form t.form).kind is_zero)
      (λ t. legal_multiplier (form t.form).kind t.multiplier)
      (λ t. form_true ρ (form t.form))
      (λ t. term_at_most ρ (form t.form) t.multiplier) n ts ks ms (farkas_refutes ρ _ h)

  pub clash_sound : (d : ℤ) → T (all (λ t. eq_z (form t.form).kind is_divided) ts) → T (all (λ t. eq_z (form t.form).divisor d) ts)
      → T (clash d (summed n (λ f. (form f).row) ts)) → T (any (λ t. not (form_true ρ (form t.form))) ts)
  clash_sound d ks ds h =
      some_fails (λ f. (form f).row) ρ (Multiple d) (multiple_zero d) (multiple_add d)
      (λ t. eq_z (form t.form).kind is_divided)
      (λ t. eq_z (form t.form).divisor d)
      (λ t. form_true ρ (form t.form))
      (λ t. term_multiple ρ d (form t.form) t.multiplier) n ts ks ds (clash_refutes ρ d _ h)
