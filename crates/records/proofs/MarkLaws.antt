-- The first of a list of marks whose letters the bytes begin with, and the table in two halves.
use mathlib.Core.Path.{◌≡◌, refl, sym, ap, ◌∙◌}
use mathlib.Core.Bool.{Bool, true, false, cond}
use mathlib.Core.List.{List, [], ◌∷◌, ◌++◌, map}
use Prim.Native.Nat.{ℕ}
use Rattle.std.specs.Prelude.{Option, None, Some, MatchOption}
use Rattle.std.specs.List.{find}
use Rattle.ledger.specs.Record as ledger
use Rattle.ledger.specs.Bytes as bytes
use Rattle.ledger.specs.Bytes.{unknown, bears, has_letters, first_of, mark_of}
use Rattle.records.specs.declared.marks.RecordMark.{RecordMark}
use Rattle.records.specs.Marks.{record_mark_of, bearing_of}

-- what is found among marks of the code is the first of the ledger's
pub among : (b : List ℕ) (ms : List RecordMark) → bearing_of (find (λ m. has_letters b (record_mark_of m)) ms) ≡ first_of b (map record_mark_of ms)
among b [] = refl
among b (m ∷ ms) = go (has_letters b (record_mark_of m)) (among b ms)
  where
    rest : Option RecordMark
    rest = find (λ m. has_letters b (record_mark_of m)) ms

    go : (t : Bool) → bearing_of rest ≡ first_of b (map record_mark_of ms)
        → bearing_of (cond t (Some m) rest) ≡ cond t (bears (record_mark_of m)) (first_of b (map record_mark_of ms))
    go true e = refl
    go false e = e

-- the first bearing, or where it knows no mark the second
abbrev either : bytes.Bearing → bytes.Bearing → bytes.Bearing
either unknown y = y
either (bears m) y = bears m

halves : (b : List ℕ) (xs ys : List ledger.RecordMark) → first_of b (xs ++ ys) ≡ either (first_of b xs) (first_of b ys)
halves b [] ys = refl
halves b (x ∷ xs) ys = go (has_letters b x) (halves b xs ys)
  where
    go : (t : Bool) → first_of b (xs ++ ys) ≡ either (first_of b xs) (first_of b ys)
        → cond t (bears x) (first_of b (xs ++ ys)) ≡ either (cond t (bears x) (first_of b xs)) (first_of b ys)
    go true e = refl
    go false e = e

-- what is found in the first list, or else in the second
pub among_both : (b : List ℕ) (xs ys : List ledger.RecordMark) (r q : Option RecordMark) → bearing_of r ≡ first_of b xs
    → MatchOption r (bearing_of q ≡ first_of b ys) (λ m. q ≡ Some m) → bearing_of q ≡ first_of b (xs ++ ys)
among_both b xs ys None q e f = f ∙ ap (λ x. either x (first_of b ys)) e ∙ sym (halves b xs ys)
among_both b xs ys (Some m) q e f = ap bearing_of f ∙ ap (λ x. either x (first_of b ys)) e ∙ sym (halves b xs ys)
