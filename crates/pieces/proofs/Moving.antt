-- A part of a buffer that is moved to its front is what is kept of it.
use Rattle.std.proofs.Common.{◌≡◌, ℕ, ◌+◌, ◌-◌, ◌≤◌, List, length, take, drop, sym, ap, ◌∙◌, arith, length-drop, length-take-le, drop_of_length-le, ⊎_elim, min}
use Rattle.std.proofs.lemmas.List.{drop-take}
use Rattle.std.proofs.lemmas.Bool.{cases_lt}
use Rattle.std.proofs.Math.Nat.{min-eq_left, min-eq_right}
use Rattle.std.specs.List.{copy_within}
use Rattle.pieces.specs.Parts.{Kept}

module _ (b : List ℕ) (to : ℕ) (fits : to ≤ length b) where
  long : (i : ℕ) → length (drop i (take to b)) ≡ to - i
  long i = length-drop i (take to b) ∙ ap (λ (n : ℕ). n - i) (length-take-le to b fits)

  -- from a place up to another
  kept : (first : ℕ) → first ≤ to → Kept (drop first (take to b)) b (to - first) (copy_within b first to 0)
  kept first h =
      let whole : first + (to - first) ≡ to = omega arith in
      let start : 0 + (to - first) ≡ to - first = omega arith in
      record {
        size = sym (long first);
        front = rw (long first, start, rw whole at (sym (drop-take first (to - first) b)));
      }

  -- nothing lies from a place up to one before it
  none_kept : (from : ℕ) → to ≤ from → drop from (take to b) ≡ drop to (take to b)
  none_kept from h =
      let all : length (take to b) ≡ to = length-take-le to b fits in
      drop_of_length-le (take to b) {i = from} (omega arith) ∙ sym (drop_of_length-le (take to b) {i = to} (omega arith))

  -- and so from the lesser of two places up to the second
  pub kept_from : (from first : ℕ) → first ≡ min from to → Kept (drop from (take to b)) b (to - first) (copy_within b first to 0)
  kept_from from first e =
      ⊎_elim
      (λ l. let f : first ≡ from = e ∙ min-eq_left (omega arith) in rw f (kept from (omega arith)))
      (λ l. let f : first ≡ to = e ∙ min-eq_right l in rw (none_kept from l, f) (kept to (omega arith)))
      (cases_lt from to)
