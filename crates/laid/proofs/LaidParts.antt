-- How long each part of a layout is, what it is for lists that are joined, and what a write to the cells behind it or a clearing of its
-- last cells makes of it.
use mathlib.Core.Path.{◌≡◌, refl}
use mathlib.Core.Bool.{◌&&◌}
use mathlib.Core.List.{List, [], ◌∷◌, ◌++◌, append_assoc}
use Prim.Native.Nat.{ℕ, suc, ◌+◌, ◌*◌, ◌-◌, ◌≤◌, ◌<◌}
use native.Mathlib.Nat.{add-zero, add_assoc}
use native.Mathlib.Omega.{arith}
use lib.Dec.{T, eqb, eqb→eq}
use lib.IntN.{pos}
use lib.ListN.{length, take, drop, get_or, set, replicate, length-append, length-replicate, replicate-append-replicate}
use lib.Seq.{drop_at, take-append_seam, drop-append_seam, drop-append-add, get_or-append_seam, set-append_seam}
use Rattle.ints.specs.Tests.{all, between}
use Rattle.ints.proofs.Bools.{T_and}
use Rattle.rows.specs.Form.{Form, in_range, legal_divisor, legal, cells_of}
use Rattle.ledger.specs.Ledger.{Line, literal_count, Mark as LedgerMark}
use Rattle.ledger.specs.Legal.{MarksIn}
use Rattle.session.specs.Limits.{form_cells, line_cells}
use Rattle.session.specs.Effects.{written, cleared}
use Rattle.laid.specs.Laid.{padded, forms_laid, pool_laid, lines_laid, marks_laid}

-- ---- padding

drop_replicate : {A : Type 0} (z : A) (k m : ℕ) → drop k (replicate (k + m) z) ≡ replicate m z
drop_replicate z k m = rw (← replicate-append-replicate k m z) (drop_at (replicate k z) (replicate m z) k (length-replicate k z))

module _ {A : Type 0} (z : A) (n : ℕ) where
  pub length_padded : (xs : List A) → length xs ≤ n → length (padded z n xs) ≡ n
  unfolding padded
  length_padded xs h = simp (length-append, length-replicate) (omega arith)

  module _ (xs ys whole : List A) (joined : whole ≡ xs ++ ys) (fits : length whole ≤ n) where
    both : length whole ≡ length xs + length ys
    both = rw joined (length-append xs ys)

    pub padded_written : (at : ℕ) → length xs ≡ at → padded z n whole ≡ written at ys (padded z n xs)
    unfolding padded
    padded_written at e =
        let left : n - length xs ≡ length ys + (n - length whole) = omega (arith, both) in
        rw (← e, take-append_seam, drop-append-add, left, drop_replicate, joined, append_assoc)

    pub padded_cleared : (from to : ℕ) → length xs ≡ from → length whole ≡ to → padded z n xs ≡ cleared z from to (padded z n whole)
    unfolding padded
    padded_cleared from to e d =
        let left : n - length xs ≡ length whole - length xs + (n - length whole) = omega (arith, both) in
        rw (← e, ← d, drop-append_seam, replicate-append-replicate, ← left, joined, append_assoc, take-append_seam)

  module _ (xs : List A) (y : A) (fits : length xs < n) where
    left : n - length xs ≡ suc (n - (length xs + 1))
    left = omega arith

    pub padded_set : padded z n (xs ++ (y ∷ [])) ≡ set (padded z n xs) (length xs) y
    unfolding padded
    padded_set = rw (length-append, append_assoc, left, set-append_seam)

    pub padded_unset : padded z n xs ≡ set (padded z n (xs ++ (y ∷ []))) (length xs) z
    unfolding padded
    padded_unset = rw (length-append, append_assoc, left, set-append_seam)

    pub get_or_padded : (d : A) → get_or (padded z n (xs ++ (y ∷ []))) (length xs) d ≡ y
    unfolding padded
    get_or_padded d = rw append_assoc (get_or-append_seam xs y _ d)

-- ---- forms

pub legal_row : (n : ℕ) (f : Form) → T (legal n f) → length f.row ≡ n + 1
unfolding legal
legal_row n f t =
    let heads = between (pos 1) (pos 3) f.kind && legal_divisor f.kind f.divisor in
    let long = eqb (length f.row) (n + 1) in
    eqb→eq (length f.row) (n + 1) (T_and heads long (T_and (heads && long) (all in_range f.row) t).0).1

pub length_cells : (n : ℕ) (f : Form) → length f.row ≡ n + 1 → length (cells_of f) ≡ form_cells n
length_cells n f e = omega arith

pub forms_append : (fs gs : List Form) → forms_laid (fs ++ gs) ≡ forms_laid fs ++ forms_laid gs
unfolding forms_laid
forms_append [] gs = refl
forms_append (f ∷ fs) gs = rw (forms_append fs gs, append_assoc)

pub length_forms : (n : ℕ) (fs : List Form) → T (all (legal n) fs) → length (forms_laid fs) ≡ form_cells n * length fs
unfolding forms_laid
length_forms n [] t = omega arith
length_forms n (f ∷ fs) t =
    let (h, k) = T_and (legal n f) (all (legal n) fs) t in
    rw (length-append (cells_of f) (forms_laid fs)) (omega (arith, length_cells n f (legal_row n f h), length_forms n fs k))

-- ---- lines

pub pool_append : (ls ks : List Line) → pool_laid (ls ++ ks) ≡ pool_laid ls ++ pool_laid ks
unfolding pool_laid
pool_append [] ks = refl
pool_append (x ∷ ls) ks = rw (pool_append ls ks, append_assoc)

pub length_pool : (ls : List Line) → length (pool_laid ls) ≡ literal_count ls
unfolding pool_laid
length_pool [] = refl
length_pool (x ∷ ls) = rw (length-append, length_pool ls)

pub lines_append : (e : ℕ) (ls ks : List Line) → lines_laid e (ls ++ ks) ≡ lines_laid e ls ++ lines_laid (e + literal_count ls) ks
unfolding lines_laid
lines_append e [] ks = rw add-zero
lines_append e (x ∷ ls) ks = rw (lines_append (e + length x.literals) ls ks, add_assoc)

pub length_lines : (e : ℕ) (ls : List Line) → length (lines_laid e ls) ≡ line_cells * length ls
unfolding lines_laid
length_lines e [] = refl
length_lines e (x ∷ ls) = omega (arith, length_lines (e + length x.literals) ls)

-- ---- marks

pub length_marks : (ls : List Line) (ms : List LedgerMark) → length (marks_laid ls ms) ≡ length ms
unfolding marks_laid
length_marks ls [] = refl
length_marks ls (m ∷ ms) = rw length-append (omega (arith, length_marks ls ms))

-- marks within n lines are laid alike over any lines that have the same first n
pub marks_agree : (ls ks : List Line) (ms : List LedgerMark) (f n : ℕ) → MarksIn f n ms
    → ((i : ℕ) → i ≤ n → take i ls ≡ take i ks) → marks_laid ls ms ≡ marks_laid ks ms
unfolding marks_laid
marks_agree ls ks [] f n h same = refl
marks_agree ls ks (m ∷ ms) f n h same =
    rw (same m.lines h.1, marks_agree ls ks ms m.forms m.lines h.2 (λ i q. same i (omega (arith, h.1))))
