-- The record at the front of a stream: all the bytes, where they are too few for a mark, bear none, or their count is wrong or missing; else
-- the bytes that its mark and its count require, which have the right shape where they are there.
use mathlib.Core.Path.{◌≡◌, refl, ◌∙◌}
use mathlib.Core.Bool.{Bool, true, false, cond, and-false}
use mathlib.Core.List.{List, [], ◌∷◌}
use Prim.Native.Nat.{ℕ, zero, suc, ◌≤◌, ◌<◌}
use native.Mathlib.Omega.{arith}
use native.Mathlib.Nat.{mul-zero, add-zero}
use borrow.Author.Tests.{eq-eqb, ne_eqb, lt-ltb, le-ltb, lt-leb, le-leb}
use lib.Dec.{T, ltb→lt, eqb→eq}
use lib.ListN.{length, take}
use lib.Seq.{length-take-le, get_or-take}
use Rattle.ledger.specs.Record.{RecordMark, layout}
use Rattle.ledger.specs.Checks.{count_in, Passed}
use Rattle.ledger.specs.Apply.{pass, fail, finding}
use Rattle.ledger.specs.Bytes.{unknown, bears, mark_of, bytes_for, count_from, shape_of, shape}
use Rattle.ledger.specs.Split.{front}
use Rattle.ledger.specs.Run.{Misshapen, Requires}
use Rattle.ledger.proofs.LayoutLaws.{two_letters, count_behind, list_behind}

-- ---- no mark

-- no letter is 0
no_mark_lem : (b : List ℕ) → length b < 2 → mark_of b ≡ unknown
unfolding mark_of
no_mark_lem [] h = refl
no_mark_lem (x ∷ []) h = simp and-false
no_mark_lem (x ∷ y ∷ b) h = absurd (omega arith)

module _ (b : List ℕ) where
  pub too_few : length b < 2 → Misshapen b 3
  unfolding front shape finding
  too_few h = record { all = rw (no_mark_lem b h) (omega arith); failed = rw (lt-leb 2 (length b) h) }

  pub none_known : 2 ≤ length b → mark_of b ≡ unknown → Misshapen b 4
  unfolding front shape finding
  none_known h e = record { all = rw e (omega arith); failed = rw (le-leb 2 (length b) h, e) }

-- ---- a mark

pub same_mark_lem : (n : ℕ) (b : List ℕ) → 2 ≤ n → mark_of (take n b) ≡ mark_of b
unfolding mark_of
same_mark_lem zero b h = absurd (omega arith)
same_mark_lem (suc zero) b h = absurd (omega arith)
same_mark_lem (suc (suc n)) [] h = refl
same_mark_lem (suc (suc n)) (x ∷ []) h = refl
same_mark_lem (suc (suc n)) (x ∷ y ∷ b) h = refl

module _ (b : List ℕ) (m : RecordMark) (e : mark_of b ≡ bears m) (h : 2 ≤ length b) where
  -- ---- no count

  module _ (u : (layout m).counted ≡ false) where
    fixed_short : length b < (layout m).bytes → finding (shape b) ≡ fail 3
    unfolding shape finding
    fixed_short l = simp (le-leb 2 (length b) h, e, u, mul-zero, add-zero, ne_eqb (length b) (layout m).bytes (λ d. omega arith))

    fixed_right : (layout m).bytes ≤ length b → finding (shape (take (layout m).bytes b)) ≡ pass
    unfolding shape finding
    fixed_right l =
        let long = length-take-le (layout m).bytes b l in
        let marked = same_mark_lem (layout m).bytes b (two_letters m) ∙ e in
        simp (long, le-leb 2 (layout m).bytes (two_letters m), marked, u, mul-zero, add-zero, eq-eqb (layout m).bytes (layout m).bytes refl)

    pub requires_fixed : Requires b m (layout m).bytes
    unfolding front
    requires_fixed =
        record { known = e; two = two_letters m; front_is = simp (e, u, mul-zero, add-zero); short = fixed_short; right = fixed_right }

  -- ---- a count

  module _ (u : (layout m).counted ≡ true) where
    pub count_missing : length b ≤ (layout m).place → Misshapen b 3
    unfolding front shape finding
    count_missing l =
        record {
          all = simp (e, u) (missing (count_in m (count_from m b)));
          failed = simp (le-leb 2 (length b) h, e, u, le-ltb (layout m).place (length b) l);
        }
      where
        missing : (inside : Bool) → length b ≤ cond inside (bytes_for m (count_from m b)) (length b)
        missing true = omega (arith, list_behind m u)
        missing false = omega arith

    module _ (there : (layout m).place < length b) where
      pub count_wrong : count_in m (count_from m b) ≡ false → Misshapen b 5
      unfolding front shape finding
      count_wrong i =
          record { all = simp (e, u, i) (omega arith); failed = simp (le-leb 2 (length b) h, e, u, lt-ltb (layout m).place (length b) there, i) }

      module _ (i : count_in m (count_from m b) ≡ true) where
        required : ℕ
        required = bytes_for m (count_from m b)

        counted_short : length b < required → finding (shape b) ≡ fail 3
        unfolding shape finding required
        counted_short l =
            simp (le-leb 2 (length b) h, e, u, lt-ltb (layout m).place (length b) there, i, ne_eqb (length b) (bytes_for m (count_from m b)) (λ d. omega arith))

        behind : (layout m).place < required
        unfolding required
        behind = omega (arith, list_behind m u)

        counted_right : required ≤ length b → finding (shape (take required b)) ≡ pass
        unfolding shape finding required
        counted_right l =
            let long = length-take-le required b l in
            let two = count_behind m u in
            let marked = same_mark_lem required b (omega (arith, behind)) ∙ e in
            let same = get_or-take required b (layout m).place 0 behind in
            simp
            (long, le-leb 2 required (omega (arith, behind)), marked, u, same, lt-ltb (layout m).place required behind, i, eq-eqb required required refl)

        pub requires_counted : Requires b m (bytes_for m (count_from m b))
        unfolding front required
        requires_counted = record { known = e; two = omega (arith, two_letters m); front_is = simp (e, u, i); short = counted_short; right = counted_right }

-- ---- the bytes that are required

module _ {b : List ℕ} {m : RecordMark} {required : ℕ} (r : Requires b m required) where
  pub not_there : length b < required → Misshapen b 3
  not_there l = record { all = omega (arith, r.front_is); failed = r.short l }

-- ---- bytes of good shape

module _ (b : List ℕ) (m : RecordMark) (e : mark_of b ≡ bears m) (p : Passed (shape b)) where
  of_mark : Passed (shape_of b (bears m))
  unfolding shape
  of_mark = rw e at p.1

  pub fixed_length : (layout m).counted ≡ false → length b ≡ bytes_for m 0
  fixed_length u = eqb→eq (length b) (bytes_for m 0) (simp u at of_mark).1.1.1.0

  module _ (u : (layout m).counted ≡ true) where
    pub count_there : (layout m).place < length b
    count_there = ltb→lt (layout m).place (length b) (simp u at of_mark).1.0

    pub count_inside : T (count_in m (count_from m b))
    count_inside = (simp u at of_mark).1.1.0

    pub counted_length : length b ≡ bytes_for m (count_from m b)
    counted_length = eqb→eq (length b) (bytes_for m (count_from m b)) (simp u at of_mark).1.1.1.0
