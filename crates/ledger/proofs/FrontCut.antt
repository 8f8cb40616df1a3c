-- The record at the front of some bytes, with more bytes behind them: it is there whole, or misshapen whatever follows, or it takes more bytes to
-- tell, and then they are fewer than the longest record has.
use mathlib.Core.Path.{subst, ◌≡◌, refl, sym, ◌∙◌}
use mathlib.Core.Bool.{Bool, true, false}
use mathlib.Core.List.{List, [], ◌∷◌, ◌++◌, append-nil}
use Prim.Native.Nat.{ℕ, ◌≤◌, ◌<◌}
use native.Mathlib.Decide.{dec_lt}
use native.Mathlib.Omega.{arith}
use lib.ListN.{length, length-append, get_or-append}
use lib.Seq.{take_all, take-append-le}
use Rattle.ints.proofs.Bools.{true→T}
use Rattle.ledger.specs.Ledger.{Ledger}
use Rattle.ledger.specs.Record.{Record, RecordMark, refused, layout}
use Rattle.ledger.specs.Checks.{count_in, checks}
use Rattle.ledger.specs.Apply.{pass, fail, finding, apply}
use Rattle.ledger.specs.Bytes.{Bearing, unknown, bears, mark_of, bytes_for, count_from, shape, decode, apply_bytes}
use Rattle.ledger.specs.Numbers.{record_order}
use Rattle.ledger.specs.Split.{front}
use Rattle.ledger.specs.Run.{Misshapen, Requires}
use Rattle.ledger.proofs.RunLaws.{front_record}
use Rattle.ledger.proofs.Numbers.{number_in, apply_found}
use Rattle.ledger.proofs.RuleLaws.{checks_follow}
use Rattle.ledger.proofs.LayoutLaws.{longest_record, in_longest, count_most, list_behind}
use Rattle.ledger.proofs.FrontLaws.{too_few, none_known, requires_fixed, count_missing, count_wrong, requires_counted, not_there}

-- ---- marks and their layouts

pub mark_behind : (b c : List ℕ) → 2 ≤ length b → mark_of (b ++ c) ≡ mark_of b
unfolding mark_of
mark_behind [] c h = absurd (omega arith)
mark_behind (x ∷ []) c h = absurd (omega arith)
mark_behind (x ∷ y ∷ b) c h = refl

-- ---- the record at the front, with bytes behind it

-- b holds all of its front record; or that record is misshapen whatever follows b; or it takes more bytes to tell
pub data Cut (b : List ℕ) : Type 0 where
  whole : finding (shape (front_record b)) ≡ pass → front b ≤ length b → ((c : List ℕ) → front (b ++ c) ≡ front b) → Cut b
  wrong : (k : ℕ) → (k ≡ 3 → ⊥) → ((c : List ℕ) → finding (shape (front_record (b ++ c))) ≡ fail k) → Cut b
  short : Misshapen b 3 → length b < longest_record → Cut b

pub misshapen : {b : List ℕ} {k : ℕ} → Misshapen b k → finding (shape (front_record b)) ≡ fail k
misshapen {b} w = rw (take_all (front b) b w.all) w.failed

module _ (b : List ℕ) (h : 2 ≤ length b) where
  longer : (c : List ℕ) → 2 ≤ length (b ++ c)
  longer c = rw length-append (omega arith)

  cut_unknown : mark_of b ≡ unknown → Cut b
  cut_unknown e = wrong 4 (λ z. omega arith) (λ c. misshapen (none_known (b ++ c) (longer c) (mark_behind b c h ∙ e)))

  module _ (m : RecordMark) (e : mark_of b ≡ bears m) where
    behind : (c : List ℕ) → mark_of (b ++ c) ≡ bears m
    behind c = mark_behind b c h ∙ e

    -- so many bytes are required, whatever follows
    cut_required : (n : ℕ) → Requires b m n → ((c : List ℕ) → front (b ++ c) ≡ n) → n ≤ longest_record → Cut b
    cut_required n r same few = elim (dec_lt (length b) n) [
      | yes q ↦ short (not_there r q) (omega arith)
      | no q ↦
          let g : n ≤ length b = omega arith in
          whole (rw r.front_is (r.right g)) (rw r.front_is g) (λ c. same c ∙ sym r.front_is)
    ]

    cut_fixed : (layout m).counted ≡ false → Cut b
    cut_fixed u =
        cut_required (layout m).bytes (requires_fixed b m e h u) (λ c. (requires_fixed (b ++ c) m (behind c) (longer c) u).front_is)
        (omega (arith, in_longest m 0 (omega arith)))

    module _ (u : (layout m).counted ≡ true) where
      cut_before_count : length b ≤ (layout m).place → Cut b
      cut_before_count l = short (count_missing b m e h u l) (omega (arith, list_behind m u, in_longest m 0 (omega arith)))

      module _ (there : (layout m).place < length b) where
        same_count : (c : List ℕ) → count_from m (b ++ c) ≡ count_from m b
        same_count c = get_or-append b c 0 (layout m).place there

        still_there : (c : List ℕ) → (layout m).place < length (b ++ c)
        still_there c = rw length-append (omega arith)

        cut_counted : (p : Bool) → count_in m (count_from m b) ≡ p → Cut b
        cut_counted true i =
            cut_required (bytes_for m (count_from m b)) (requires_counted b m e h u there i)
            (λ c. (requires_counted (b ++ c) m (behind c) (longer c) u (still_there c) (rw (same_count c) i)).front_is ∙ rw (same_count c))
            (in_longest m (count_from m b) (count_most m (count_from m b) (true→T i)))
        cut_counted false i =
            wrong 5 (λ z. omega arith)
            (λ c. misshapen (count_wrong (b ++ c) m (behind c) (longer c) u (still_there c) (rw (same_count c) i)))

    cut_marked : (p : Bool) → (layout m).counted ≡ p → Cut b
    cut_marked true u = elim (dec_lt (layout m).place (length b)) [
      | yes q ↦ cut_counted u q (count_in m (count_from m b)) refl
      | no q ↦ cut_before_count u (omega arith)
    ]
    cut_marked false u = cut_fixed u

pub cut : (b : List ℕ) → Cut b
cut b = elim (dec_lt (length b) 2) [
  | yes q ↦ short (too_few b q) (omega arith)
  | no q ↦ go (mark_of b) refl (omega arith)
]
  where
    go : (v : Bearing) → mark_of b ≡ v → 2 ≤ length b → Cut b
    go unknown e h = cut_unknown b h e
    go (bears m) e h = cut_marked b h m e (layout m).counted refl

-- ---- a refusal, with bytes behind it

module _ (n : ℕ) (l : Ledger) where
  pub failed : (b : List ℕ) {k : ℕ} → finding (shape b) ≡ fail k → (apply_bytes n l b).answer ≡ refused k
  unfolding apply_bytes
  failed b e = rw e

  pub still_refused : (b c : List ℕ) {k : ℕ} → (k ≡ 3 → ⊥) → (apply_bytes n l (front_record b)).answer ≡ refused k
      → (apply_bytes n l (front_record (b ++ c))).answer ≡ refused k
  still_refused b c {k} other e = elim (cut b) [
    | whole p h same ↦ rw (same c, take-append-le (front b) b c h) e
    | wrong j f p ↦ let q = failed (front_record b) (rw append-nil at (p [])) in failed (front_record (b ++ c)) (p c) ∙ cc
    | short w h ↦ let q = failed (front_record b) (misshapen w) in absurd (other (cc))
  ]

-- ---- only the shape refuses with 3

apply_beyond : (n : ℕ) (l : Ledger) (r : Record) → (apply n l r).answer ≡ refused 3 → ⊥
apply_beyond n l r e = number_in record_order (checks n l r) (checks_follow n l r) ((apply_found n l r 3).0 e)

module _ (n : ℕ) (l : Ledger) where
  pub three_is_short : (b : List ℕ) → (apply_bytes n l (front_record b)).answer ≡ refused 3 → length b < longest_record
  unfolding apply_bytes
  three_is_short b e = elim (cut b) [
    | whole p h same ↦ absurd (apply_beyond n l (decode (front_record b)) (rw p at e))
    | wrong j f p ↦
        let Failed : List ℕ → Type 0 = λ (x : List ℕ). finding (shape (front_record x)) ≡ fail j in
        let here : Failed b = subst Failed (append-nil b) (p []) in
        let q = failed n l (front_record b) here in
        absurd (f (cc))
    | short p h ↦ h
  ]
