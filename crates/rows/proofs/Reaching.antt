-- What the answer to a sum says of the summed row: with the constant, that every coefficient is a multiple of the modulus, and with
-- a coefficient, that this is the lowest that is not. FK and CL are judged by that answer alone.
use mathlib.Core.Path.{◌≡◌, refl, fun_ext}
use mathlib.Core.Bool.{Bool, true, false, not, ◌&&◌, cond}
use mathlib.Core.List.{List, [], ◌∷◌}
use Prim.Native.Nat.{ℕ, zero, suc, ◌+◌, ◌<◌}
use native.Mathlib.Omega.{arith}
use lib.IntN.{ℤ, pos}
use lib.ListN.{length, get_or}
use lib.Signed.{le_z}
use Rattle.ints.specs.Tests.{divides, all}
use Rattle.ints.proofs.Bools.{never}
use Rattle.ints.proofs.Divides.{divides_zero}
use Rattle.rows.specs.declared.Reached.TheVariants.{Coefficient, Constant}
use Rattle.rows.specs.Row.{Row, constant, coefficients}
use Rattle.rows.specs.Summable.{lowest, reached}
use Rattle.rows.specs.Conditions.{farkas, clash}

lowest_constant : (d y : ℤ) (n : ℕ) (ks : List ℤ) (z : ℤ) → lowest d y n ks ≡ Constant z → (all (divides d) ks ≡ true) × (y ≡ z)
unfolding lowest
lowest_constant d y n [] z e = (refl, cc)
lowest_constant d y n (k ∷ ks) z e = go (divides d k) e (lowest_constant d y (suc n) ks z)
  where
    go : (b : Bool) → cond b (lowest d y (suc n) ks) (Coefficient n k) ≡ Constant z
        → (lowest d y (suc n) ks ≡ Constant z → (all (divides d) ks ≡ true) × (y ≡ z)) → (b && all (divides d) ks ≡ true) × (y ≡ z)
    go true f rest = rest f
    go false f rest = (cc, cc)

pub reached_constant : (d : ℤ) (r : Row) (z : ℤ) → reached d r ≡ Constant z → (all (divides d) (coefficients r) ≡ true) × (constant r ≡ z)
reached_constant d r z e = lowest_constant d (constant r) 0 (coefficients r) z e

-- k is the lowest unknown whose coefficient is no multiple of d, and s is that coefficient
pub record Stray (d : ℤ) (ks : List ℤ) (k : ℕ) (s : ℤ) : Type 0 where
  pub inside : k < length ks
  pub here : get_or ks k (pos 0) ≡ s
  pub stray : divides d s ≡ false
  pub below : (j : ℕ) → j < k → divides d (get_or ks j (pos 0)) ≡ true
  pub not_all : all (divides d) ks ≡ false

lowest_coefficient : (d y : ℤ) (n : ℕ) (ks : List ℤ) (k : ℕ) (s : ℤ) → lowest d y n ks ≡ Coefficient k s
    → (i : ℕ) × (k ≡ i + n) × Stray d ks i s
unfolding lowest
lowest_coefficient d y n [] k s e = never (cc)
lowest_coefficient d y n (x ∷ ks) k s e = go (divides d x) refl e (lowest_coefficient d y (suc n) ks k s)
  where
    go : (b : Bool) → divides d x ≡ b → cond b (lowest d y (suc n) ks) (Coefficient n x) ≡ Coefficient k s
        → (lowest d y (suc n) ks ≡ Coefficient k s → (i : ℕ) × (k ≡ i + suc n) × Stray d ks i s) → (i : ℕ) × (k ≡ i + n) × Stray d (x ∷ ks) i s
    go true t f rest =
        let (i, e, h) = rest f in (
          suc i,
          omega arith,
          record {
            inside = omega arith;
            here = h.here;
            stray = h.stray;
            below = elim [ zero ↦ λ l. t | suc j ↦ λ l. h.below j (omega arith) ];
            not_all = rw t h.not_all;
          },
        )
    go false t f rest =
        let m : n ≡ k = cc in
        let q : x ≡ s = cc in
        (0, omega arith, record { inside = omega arith; here = q; stray = rw q at t; below = λ j l. absurd (omega arith); not_all = rw t })

pub reached_coefficient : (d : ℤ) (r : Row) (k : ℕ) (s : ℤ) → reached d r ≡ Coefficient k s → Stray d (coefficients r) k s
reached_coefficient d r k s e =
    let (i, is, h) = lowest_coefficient d (constant r) 0 (coefficients r) k s e in
    let same : i ≡ k = omega arith in
    rw same at h

-- ---- FK

pub farkas_is : (r : Row) → farkas r ≡ (all (divides (pos 0)) (coefficients r) && le_z (pos 1) (constant r))
unfolding farkas
farkas_is r = rw (fun_ext divides_zero)

pub farkas_reached : (r : Row) (z : ℤ) → reached (pos 0) r ≡ Constant z → farkas r ≡ le_z (pos 1) z
farkas_reached r z e = let h = reached_constant (pos 0) r z e in rw (farkas_is, h.0, h.1)

pub farkas_stray : (r : Row) (k : ℕ) (s : ℤ) → reached (pos 0) r ≡ Coefficient k s → farkas r ≡ false
farkas_stray r k s e = rw (farkas_is, (reached_coefficient (pos 0) r k s e).not_all)

-- ---- CL

pub clash_reached : (d : ℤ) (r : Row) (z : ℤ) → reached d r ≡ Constant z → clash d r ≡ not (divides d z)
unfolding clash
clash_reached d r z e = let h = reached_constant d r z e in rw (h.0, h.1)

pub clash_stray : (d : ℤ) (r : Row) (k : ℕ) (s : ℤ) → reached d r ≡ Coefficient k s → clash d r ≡ false
unfolding clash
clash_stray d r k s e = rw (reached_coefficient d r k s e).not_all
