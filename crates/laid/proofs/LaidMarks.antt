-- The marks laid out: each stands at its level's number, so that a legal ledger's marks rise, lie within the counts and bound what lines name.
use mathlib.Core.Path.{◌≡◌, refl, ap, sym, ◌∙◌, subst}
use mathlib.Core.List.{List, [], ◌∷◌, ◌++◌, append_assoc}
use Prim.Native.Nat.{ℕ, suc, ◌≤◌, ◌<◌}
use native.Mathlib.Omega.{arith}
use native.Mathlib.Decide.{dec_lt}
use lib.Dec.{T}
use lib.ListN.{length, get_or, take, get_or-append}
use lib.Seq.{length-take-le, get_or-take, get_or_at}
use Rattle.ints.proofs.Lists.{all_at}
use Rattle.ledger.specs.Literals.{names_below}
use Rattle.ledger.specs.Ledger.{Line, no_line, literal_count, Mark as LedgerMark}
use Rattle.ledger.specs.Legal.{line_below, MarksIn, Named}
use Rattle.ledger.proofs.LegalLaws.{named_all}
use Rattle.session.specs.declared.state.Mark.{Mark}
use Rattle.session.specs.Cells.{no_mark, down_from}
use Rattle.laid.specs.Laid.{mark_laid, marks_laid}
use Rattle.laid.proofs.ByIndex.{down_from_agree}
use Rattle.laid.proofs.LaidParts.{length_marks}

-- without the literal count
abbrev pub bare : Mark → LedgerMark
bare m = record { forms = m.forms; lines = m.lines }

-- laid over the lines ls, before any other cells z
module _ (ls : List Line) (z : List Mark) where
  abbrev pub laid_mark : List LedgerMark → ℕ → Mark
  laid_mark ms k = get_or (marks_laid ls ms ++ z) k no_mark

  -- the last mark stands at its level's number, and the others as if it were not there
  mark_last : (m : LedgerMark) (ms : List LedgerMark) → laid_mark (m ∷ ms) (length ms) ≡ mark_laid ls m
  unfolding marks_laid
  mark_last m ms =
      rw (append_assoc (marks_laid ls ms) (mark_laid ls m ∷ []) z) (get_or_at (marks_laid ls ms) (mark_laid ls m) z no_mark (length ms) (length_marks ls ms))

  mark_under : (m : LedgerMark) (ms : List LedgerMark) (k : ℕ) → k < length ms → laid_mark (m ∷ ms) k ≡ laid_mark ms k
  unfolding marks_laid
  mark_under m ms k h =
      let q : k < length (marks_laid ls ms) = rw (length_marks ls ms) h in
      rw (append_assoc (marks_laid ls ms) (mark_laid ls m ∷ []) z)
      (get_or-append (marks_laid ls ms) (mark_laid ls m ∷ z) no_mark k q ∙ sym (get_or-append (marks_laid ls ms) z no_mark k q))

  -- what holds of the last mark and of the others holds of each
  mark_by : (P : Mark → Type 0) (m : LedgerMark) (ms : List LedgerMark) (k : ℕ) → k < length (m ∷ ms) → P (mark_laid ls m)
      → (k < length ms → P (laid_mark ms k)) → P (laid_mark (m ∷ ms) k)
  mark_by P m ms k h f g =
      elim (dec_lt k (length ms)) [
        | yes q ↦ subst P (sym (mark_under m ms k q)) (g q)
        | no q ↦ (let e : length ms ≡ k = omega arith in subst P (sym (rw e at (mark_last m ms))) f)
      ]

  pub marks_read : (ms : List LedgerMark) → down_from (length ms) (λ k. bare (laid_mark ms k)) ≡ ms
  unfolding down_from
  marks_read [] = refl
  marks_read (m ∷ ms) =
      let under = down_from_agree (length ms) (λ k. bare (laid_mark (m ∷ ms) k)) (λ k. bare (laid_mark ms k)) (λ k q. ap bare (mark_under m ms k q)) in
      rw (mark_last m ms, under, marks_read ms)

  pub mark_counts : (ms : List LedgerMark) (f n : ℕ) → MarksIn f n ms → (k : ℕ) → k < length ms
      → ((laid_mark ms k).forms ≤ f) × ((laid_mark ms k).lines ≤ n) × ((laid_mark ms k).literals ≡ literal_count (take (laid_mark ms k).lines ls))
  mark_counts [] f n h k q = absurd (omega arith)
  mark_counts (m ∷ ms) f n h k q =
      mark_by (λ (x : Mark). (x.forms ≤ f) × (x.lines ≤ n) × (x.literals ≡ literal_count (take x.lines ls))) m ms k q (h.0, h.1, refl)
      (λ r. let w = mark_counts ms m.forms m.lines h.2 k r in (omega arith, omega arith, w.2))

  pub mark_rises : (ms : List LedgerMark) (f n : ℕ) → MarksIn f n ms → (k : ℕ) → suc k < length ms
      → ((laid_mark ms k).forms ≤ (laid_mark ms (suc k)).forms) × ((laid_mark ms k).lines ≤ (laid_mark ms (suc k)).lines)
  mark_rises [] f n h k q = absurd (omega arith)
  mark_rises (m ∷ ms) f n h k q =
      rw (mark_under m ms k (omega arith))
      (mark_by (λ (x : Mark). ((laid_mark ms k).forms ≤ x.forms) × ((laid_mark ms k).lines ≤ x.lines)) m ms (suc k) q
      (let w = mark_counts ms m.forms m.lines h.2 k (omega arith) in (w.0, w.1))
      (mark_rises ms m.forms m.lines h.2 k))

  -- of lines ks that are named so, of which each mark down leaves the first
  pub mark_names : (ms : List LedgerMark) (n : ℕ) (ks : List Line) → MarksIn n (length ks) ms → Named n ks ms → (k : ℕ) → k < length ms
      → (i : ℕ) → i < (laid_mark ms k).lines → T (names_below (laid_mark ms k).forms (get_or ks i no_line).literals)
  mark_names [] n ks h u k q = absurd (omega arith)
  mark_names (m ∷ ms) n ks h u k q =
      let first = take m.lines ks in
      let d : length first ≡ m.lines = length-take-le m.lines ks h.1 in
      let same : (i : ℕ) → i < m.lines → get_or first i no_line ≡ get_or ks i no_line = λ i v. get_or-take m.lines ks i no_line v in
      let above : k < length ms → (laid_mark ms k).lines ≤ m.lines = λ r. (mark_counts ms m.forms m.lines h.2 k r).1 in
      mark_by (λ (x : Mark). (i : ℕ) → i < x.lines → T (names_below x.forms (get_or ks i no_line).literals)) m ms k q
      (λ i v. rw (same i v) at (all_at (line_below m.forms) first i no_line (named_all m.forms first ms u.1) (omega arith)))
      (λ r i v. rw (same i (omega (arith, above r))) at (mark_names ms m.forms first (rw d h.2) u.1 k r i v))
