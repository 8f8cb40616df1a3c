-- A ledger that is refuted has an empty line, the lowest of which its standing tells, and one that is not refuted has none.
use mathlib.Core.Path.{◌≡◌, refl}
use mathlib.Core.Bool.{Bool, true, false, not, cond}
use mathlib.Core.List.{List, [], ◌∷◌}
use Prim.Native.Nat.{ℕ, zero, suc, ◌+◌, ◌<◌}
use native.Mathlib.Omega.{arith}
use lib.Dec.{T, eqb, eqb→eq}
use lib.ListN.{length}
use Rattle.ledger.specs.Ledger.{Line, Ledger, nth_line}
use Rattle.ledger.specs.Standing.{refuted, not_refuted, standing_from, standing}

empty : (xs : List ℕ) → T (eqb (length xs) 0) → xs ≡ []
empty [] t = refl
empty (x ∷ xs) t = absurd (omega (arith, eqb→eq))

filled : (xs : List ℕ) → T (not (eqb (length xs) 0)) → 0 < length xs
filled [] t = absurd t
filled (x ∷ xs) t = omega arith

-- none of the first n lines is empty
abbrev pub Filled : List Line → ℕ → Type 0
Filled ls n = (i : ℕ) → i < n → 0 < length (nth_line ls i)

filled_more : (x : Line) (ls : List Line) (n : ℕ) → 0 < length x.literals → Filled ls n → Filled (x ∷ ls) (suc n)
filled_more x ls n h f zero l = h
filled_more x ls n h f (suc i) l = f i (omega arith)

abbrev pub LowestEmpty : List Line → ℕ → Type 0
LowestEmpty ls i = (i < length ls) × (nth_line ls i ≡ []) × Filled ls i

lowest_from : (k n : ℕ) (ls : List Line) → standing_from k ls ≡ refuted n → (i : ℕ) × (n ≡ k + i) × LowestEmpty ls i
unfolding standing_from
lowest_from k n [] e = absurd (let z : ◌≡◌ {A = ℕ} 0 1 = cc in omega arith)
lowest_from k n (x ∷ ls) e = go (eqb (length x.literals) 0) (empty x.literals) (filled x.literals) (lowest_from (suc k) n ls) e
  where
    go : (b : Bool) → (T b → x.literals ≡ []) → (T (not b) → 0 < length x.literals)
        → (standing_from (suc k) ls ≡ refuted n → (i : ℕ) × (n ≡ suc k + i) × LowestEmpty ls i)
        → cond b (refuted k) (standing_from (suc k) ls) ≡ refuted n → (i : ℕ) × (n ≡ k + i) × LowestEmpty (x ∷ ls) i
    go true f g rest e = let same : k ≡ n = cc in (0, omega arith, (omega arith, f tt, λ i h. absurd (omega arith)))
    go false f g rest e =
        let (i, same, (inside, is_empty, below)) = rest e in
        (suc i, omega arith, (omega arith, is_empty, filled_more x ls i (g tt) below))

none_from : (k : ℕ) (ls : List Line) → standing_from k ls ≡ not_refuted → Filled ls (length ls)
unfolding standing_from
none_from k [] e = λ i h. absurd (omega arith)
none_from k (x ∷ ls) e = go (eqb (length x.literals) 0) (filled x.literals) (none_from (suc k) ls) e
  where
    go : (b : Bool) → (T (not b) → 0 < length x.literals) → (standing_from (suc k) ls ≡ not_refuted → Filled ls (length ls))
        → cond b (refuted k) (standing_from (suc k) ls) ≡ not_refuted → Filled (x ∷ ls) (suc (length ls))
    go true g rest e = absurd (let z : ◌≡◌ {A = ℕ} 0 1 = cc in omega arith)
    go false g rest e = filled_more x ls (length ls) (g tt) (rest e)

pub standing_lowest : (l : Ledger) (i : ℕ) → standing l ≡ refuted i → LowestEmpty l.lines i
standing_lowest l n e =
    let (i, same, lowest) = lowest_from 0 n l.lines e in
    let at : n ≡ i = omega arith in
    rw at lowest

pub standing_none : (l : Ledger) → standing l ≡ not_refuted → Filled l.lines (length l.lines)
standing_none l = none_from 0 l.lines
