-- A loop that writes a list to the front of a slice, one cell a turn: what is written, then what is still to come, is the whole.
use mathlib.Core.Path.{◌≡◌, refl, sym, ap, ◌∙◌}
use mathlib.Core.List.{List, [], ◌∷◌, ◌++◌, append_assoc, append-nil}
use Prim.Native.Nat.{ℕ, ◌+◌, ◌-◌, ◌≤◌, ◌<◌}
use native.Mathlib.Nat.{sub-zero}
use native.Mathlib.Numerals.{add-one}
use native.Mathlib.Omega.{arith}
use lib.ListN.{length, take, drop, set, length-append, length-set, take-append-drop}
use borrow.Rule.Slice.PartMut.{put_mid}
use lib.Seq.{length-take-le, take-suc-set, take-append_seam, drop-set-lt, drop-drop}

-- n cells of out, which was out₀, are written, and `rest` is still to come
pub record Written {A : Type 0} (out out₀ rest whole : List A) (n : ℕ) : Type 0 where
  pub same : length out ≡ length out₀
  pub low : n ≤ length out
  pub made : take n out ++ rest ≡ whole
  pub left : drop n out ≡ drop n out₀

pub write_none : {A : Type 0} (out whole : List A) → Written out out whole whole 0
write_none out whole = record { same = refl; low = omega arith; made = refl; left = refl }

module _ {A : Type 0} (out out₀ rest whole : List A) (n : ℕ) (w : Written out out₀ rest whole n) where
  pub to_come : n + length rest ≡ length whole
  to_come =
      let h = w.low in
      let e : length (take n out) ≡ n = length-take-le n out h in
      omega (arith, simp (length-append, e) at (ap length w.made))

  -- the next one is stored
  pub write_more : (v : A) (rest' : List A) → n < length out → rest ≡ v ∷ rest' → Written (set out n v) out₀ rest' whole (n + 1)
  write_more v rest' l e =
      record {
        same = simp length-set w.same;
        low = simp length-set (omega arith);
        made = simp (add-one, take-suc-set out n v l, append_assoc) (rw e at w.made);
        left =
            drop-set-lt (n + 1) out n v (omega arith)
            ∙ (sym (drop-drop 1 n out) ∙ ap (λ (l : List A). drop 1 l) w.left ∙ drop-drop 1 n out₀);
      }

  -- none is left
  pub write_all : rest ≡ [] → out ≡ whole ++ drop (length whole) out₀
  write_all e =
      let m : n ≡ length whole = omega (arith, to_come, ap length e) in
      let t : take n out ≡ whole = simp (e, append-nil) at w.made in
      sym (take-append-drop n out) ∙ simp (t, w.left) (rw m)

  -- the rest is copied at once
  pub write_rest : (xs : List A) (k : ℕ) → rest ≡ xs → k ≡ length xs → put_mid n k out xs ≡ whole ++ drop (length whole) out₀
  write_rest xs k e d =
      let m : length whole ≡ n + k = omega (arith, to_come, ap length e) in
      sym (append_assoc (take n out) xs (drop k (drop n out))) ∙ rw (m, ← w.made, e, w.left, ← drop-drop k n out₀)

-- the k cells in front, which are written, are read back
pub front : {A : Type 0} (xs more out : List A) (k : ℕ) → k ≡ length xs → out ≡ xs ++ more → (k ≤ length out) × (take (k - 0) out ≡ xs)
front xs more out k e d = rw (e, d) (rw length-append (omega arith), rw sub-zero (take-append_seam xs more))
