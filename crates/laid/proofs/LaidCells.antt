-- The cells of each form and of each line of a layout, whatever stands behind it.
use mathlib.Core.Path.{◌≡◌, refl, ◌∙◌}
use mathlib.Core.List.{List, [], ◌∷◌, ◌++◌, append_assoc}
use Prim.Native.Nat.{ℕ, zero, suc, ◌+◌, ◌*◌, ◌≤◌, ◌<◌}
use native.Mathlib.Omega.{arith}
use lib.Dec.{T}
use lib.IntN.{ℤ}
use lib.ListN.{length, get_or, take, drop}
use lib.Seq.{take-take, take_at, take-append_seam, drop-append-add}
use Rattle.ints.specs.Tests.{all}
use Rattle.ints.proofs.Bools.{T_and}
use Rattle.rows.specs.Form.{Form, cells_of, cells_at, legal}
use Rattle.ledger.specs.Ledger.{Line, no_form, no_line, literal_count}
use Rattle.ledger.proofs.LegalLaws.{literals_take}
use Rattle.session.specs.Limits.{line_cells, form_cells}
use Rattle.session.specs.Cells.{origin_at}
use Rattle.laid.specs.Laid.{forms_laid, pool_laid, lines_laid}
use Rattle.laid.proofs.LaidParts.{legal_row, length_cells}

pub cells_at_lem : (n : ℕ) (fs : List Form) (z : List ℤ) (i : ℕ) → T (all (legal n) fs) → i < length fs
    → cells_at n (forms_laid fs ++ z) i ≡ cells_of (get_or fs i no_form)
unfolding forms_laid
cells_at_lem n [] z i t h = absurd (omega arith)
cells_at_lem n (f ∷ fs) z zero t h =
    let e = length_cells n f (legal_row n f (T_and (legal n f) (all (legal n) fs) t).0) in
    let q : form_cells n * 0 ≡ 0 = omega arith in
    rw (q, append_assoc) (take_at (cells_of f) (forms_laid fs ++ z) (form_cells n) e)
cells_at_lem n (f ∷ fs) z (suc i) t h =
    let (legal, rest) = T_and (legal n f) (all (legal n) fs) t in
    let e = length_cells n f (legal_row n f legal) in
    let q : form_cells n * suc i ≡ length (cells_of f) + form_cells n * i = omega arith in
    rw (q, append_assoc, drop-append-add (cells_of f)) (cells_at_lem n fs z i rest (omega arith))

-- ---- literals

pub count_next : (ls : List Line) (i : ℕ) → i < length ls
    → literal_count (take (suc i) ls) ≡ literal_count (take i ls) + length (get_or ls i no_line).literals
count_next [] i h = absurd (omega arith)
count_next (x ∷ xs) zero h = omega arith
count_next (x ∷ xs) (suc i) h = omega (arith, count_next xs i (omega arith))

pub count_rises : (ls : List Line) (a b : ℕ) → a ≤ b → literal_count (take a ls) ≤ literal_count (take b ls)
count_rises ls a b h = rw (take-take a b ls h) at (literals_take a (take b ls))

pub literals_at_lem : (ls : List Line) (z : List ℕ) (i : ℕ) → i < length ls
    → take (length (get_or ls i no_line).literals) (drop (literal_count (take i ls)) (pool_laid ls ++ z)) ≡ (get_or ls i no_line).literals
unfolding pool_laid
literals_at_lem [] z i h = absurd (omega arith)
literals_at_lem (x ∷ xs) z zero h = rw (append_assoc, take-append_seam)
literals_at_lem (x ∷ xs) z (suc i) h = rw (append_assoc, drop-append-add) (literals_at_lem xs z i (omega arith))

-- ---- lines that stand behind lines that end at e

pub end_at : (ls : List Line) (z : List ℕ) (e i : ℕ) → i < length ls
    → get_or (lines_laid e ls ++ z) (line_cells * i) 0 ≡ e + literal_count (take (suc i) ls)
unfolding lines_laid
end_at [] z e i h = absurd (omega arith)
end_at (x ∷ xs) z e zero h = omega arith
end_at (x ∷ xs) z e (suc i) h =
    let q : line_cells * suc i ≡ suc (suc (line_cells * i)) = omega arith in
    rw q (end_at xs z (e + length x.literals) i (omega arith) ∙ omega arith)

pub origin_at_lem : (ls : List Line) (z : List ℕ) (e i : ℕ) → i < length ls → origin_at (lines_laid e ls ++ z) i ≡ (get_or ls i no_line).origin
unfolding lines_laid
origin_at_lem [] z e i h = absurd (omega arith)
origin_at_lem (x ∷ xs) z e zero h = refl
origin_at_lem (x ∷ xs) z e (suc i) h =
    let q : line_cells * suc i + 1 ≡ suc (suc (line_cells * i + 1)) = omega arith in
    rw q (origin_at_lem xs z (e + length x.literals) i (omega arith))
