-- A stream may be cut into pieces anywhere: what a run on a ledger accepts of a front part it accepts of the whole and goes on from there, and a
-- record that it refuses there with another number than 3 it refuses in the whole too. Where it stops with 3, less is left than the longest
-- record has.
use Rattle.std.proofs.Common.{◌≡◌, ℕ, zero, suc, ◌+◌, ◌<◌, ◌≤◌, ◌⊎◌, List, [], ◌∷◌, ◌++◌, length, get_or, drop, sym, refl, ap, ◌∙◌, subst, inl, inr, append-nil, add-zero, add_assoc, arith, length-drop, length-take-le, take_all, drop-drop}
use lib.Seq.{take-append-le, drop-append-le}
use Rattle.ints.proofs.Bools.{never}
use Rattle.ledger.specs.Ledger.{Ledger}
use Rattle.ledger.specs.Record.{Made, Answer, accepted, refused}
use Rattle.ledger.specs.Bytes.{apply_bytes}
use Rattle.ledger.specs.Split.{front, split, records_of}
use Rattle.ledger.specs.Run.{Run, run_from, run}
use Rattle.ledger.proofs.RunLaws.{front_record, front_positive, split_covers, records_step, never_zero, run_on, run_stops, run_stops_at_first_bad}
use Rattle.pieces.specs.Longest.{longest}
use Rattle.ledger.proofs.FrontCut.{whole, wrong, short, cut, misshapen, failed, still_refused, three_is_short}

-- ---- a run over a front part

-- of the run r over a, from k records and c bytes on: the bytes of a that it takes, that with b behind a it goes on after them, and why it ends
record Parted (n k c : ℕ) (l : Ledger) (a : List ℕ) (r : Run) : Type 0 where
  taken : ℕ
  within : taken ≤ length a
  counted : r.bytes ≡ c + taken
  few : r.records ≤ k + taken
  on : (b : List ℕ) → run_from n k c l (records_of (a ++ b)) ≡ run_from n r.records r.bytes r.ledger (records_of (drop taken a ++ b))
  end : (r.stop ≡ 0) ⊎ ((taken < length a) × ((apply_bytes n r.ledger (front_record (drop taken a))).answer ≡ refused r.stop))

module _ (n k c : ℕ) (l : Ledger) where
  nothing_left : Parted n k c l [] (run_from n k c l (records_of []))
  unfolding run_from split
  nothing_left = record { taken = 0; within = omega arith; counted = omega arith; few = omega arith; on = λ b. refl; end = inl refl }

  module _ (x : ℕ) (a : List ℕ) where
    abbrev size : ℕ
    size = front (x ∷ a)

    abbrev first : List ℕ
    first = front_record (x ∷ a)

    abbrev others : List ℕ
    others = drop size (x ∷ a)

    abbrev after : Ledger
    after = (apply_bytes n l first).ledger

    one_more : Parted n (k + 1) (c + length first) after others (run_from n (k + 1) (c + length first) after (records_of others))
        → Parted n k c l (x ∷ a) (run_from n k c l (records_of (x ∷ a)))
    one_more rest = rw (records_step x a) (by (apply_bytes n l first).answer refl)
      where
        -- where the front record is accepted
        taken_on : {m : Made} → (apply_bytes n l first).answer ≡ accepted m → size ≤ length (x ∷ a) → ((b : List ℕ) → front (x ∷ a ++ b) ≡ size)
            → Parted n k c l (x ∷ a) (run_from n (k + 1) (c + length first) after (records_of others))
        taken_on e h same =
            let s = length-take-le size (x ∷ a) h in
            let t = length-drop size (x ∷ a) in
            record {
              taken = size + rest.taken;
              within = omega arith;
              counted = omega arith;
              few = omega (arith, front_positive x a);
              on = λ b.
                  rw (records_step x (a ++ b), same b, take-append-le size (x ∷ a) b h, drop-append-le size (x ∷ a) b h)
                  (run_on n k c l first (records_of (others ++ b)) e ∙ rest.on b ∙ rw drop-drop);
              end = elim rest.end [ inl z ↦ inl z | inr z ↦ inr (omega arith, rw drop-drop at z.1) ];
            }

        by : (v : Answer) → (apply_bytes n l first).answer ≡ v → Parted n k c l (x ∷ a) (run_from n k c l (first ∷ records_of others))
        by (refused i) e =
            rw (run_stops n k c l first (records_of others) e)
            (record { taken = 0; within = omega arith; counted = omega arith; few = omega arith; on = λ b. refl; end = inr (omega arith, e) })
        by (accepted m) e = elim (cut (x ∷ a)) [
          | whole p h same ↦ rw (run_on n k c l first (records_of others) e) (taken_on e h same)
          | wrong i other p ↦ let q = failed n l first (rw append-nil at (p [])) in never (cc)
          | short w h ↦ let q = failed n l first (misshapen w) in never (cc)
        ]

parted : (j n k c : ℕ) (l : Ledger) (a : List ℕ) → length a ≤ j → Parted n k c l a (run_from n k c l (records_of a))
parted zero n k c l [] h = nothing_left n k c l
parted zero n k c l (x ∷ a) h = absurd (omega arith)
parted (suc j) n k c l [] h = nothing_left n k c l
parted (suc j) n k c l (x ∷ a) h =
    one_more n k c l x a (parted j n _ _ _ (others n k c l x a) (rw (length-drop (front (x ∷ a)) (x ∷ a)) (omega (arith, front_positive x a))))

-- a run ends at a front record that is refused with another number than 3, whatever follows
ends : (n k c : ℕ) (l : Ledger) (a b : List ℕ) {i : ℕ} → 0 < length a → (i ≡ 3 → ⊥) → (apply_bytes n l (front_record a)).answer ≡ refused i
    → run_from n k c l (records_of (a ++ b)) ≡ record { records = k; bytes = c; stop = i; ledger = l }
ends n k c l [] b h other e = absurd (omega arith)
ends n k c l (x ∷ a) b h other e = rw (records_step x (a ++ b)) (run_stops n k c l _ _ (still_refused n l (x ∷ a) b other e))

-- ---- a run over pieces

module _ (n : ℕ) (l : Ledger) (a : List ℕ) where
  run_parted : Parted n 0 0 l a (run n l a)
  run_parted = parted (length a) n 0 0 l a (omega arith)

  taken_counted : run_parted.taken ≡ (run n l a).bytes
  taken_counted = let p = run_parted in omega arith

-- a run accepts no more than there is, and no record without bytes
pub accepts_within : (n : ℕ) (l : Ledger) (a : List ℕ) → let r = run n l a in (r.records ≤ r.bytes) × (r.bytes ≤ length a)
accepts_within n l a = let p = run_parted n l a in (omega arith, omega arith)

-- what a run accepts of a front part it accepts of the whole, and goes on from there
pub in_pieces : (n : ℕ) (l : Ledger) (a b : List ℕ)
    → let r = run n l a in run n l (a ++ b) ≡ run_from n r.records r.bytes r.ledger (records_of (drop r.bytes a ++ b))
in_pieces n l a b = rw (taken_counted n l a) at ((run_parted n l a).on b)

-- a run where so many records and bytes were counted before
abbrev pub counting : ℕ → ℕ → Run → Run
counting k c r = record { records = k + r.records; bytes = c + r.bytes; stop = r.stop; ledger = r.ledger }

counted_from : (n k c i d : ℕ) (l : Ledger) (bs : List (List ℕ)) → run_from n (k + i) (c + d) l bs ≡ counting k c (run_from n i d l bs)
unfolding run_from
counted_from n k c i d l [] = refl
counted_from n k c i d l (b ∷ bs) =
    by (apply_bytes n l b).answer refl (counted_from n k c (i + 1) (d + length b) (apply_bytes n l b).ledger bs)
  where
    after : Ledger
    after = (apply_bytes n l b).ledger

    by : (v : Answer) → (apply_bytes n l b).answer ≡ v
        → run_from n (k + (i + 1)) (c + (d + length b)) after bs ≡ counting k c (run_from n (i + 1) (d + length b) after bs)
        → run_from n (k + i) (c + d) l (b ∷ bs) ≡ counting k c (run_from n i d l (b ∷ bs))
    by (accepted m) e rest =
        run_on n (k + i) (c + d) l b bs e
        ∙ rw (run_on n i d l b bs e, add_assoc k i 1, add_assoc c d (length b)) rest
    by (refused j) e rest = run_stops n (k + i) (c + d) l b bs e ∙ ap (counting k c) (sym (run_stops n i d l b bs e))

-- so totals add up from piece to piece
pub totals_add : (n : ℕ) (l : Ledger) (a b : List ℕ) → let r = run n l a in
    run n l (a ++ b) ≡ counting r.records r.bytes (run n r.ledger (drop r.bytes a ++ b))
totals_add n l a b =
    let r = run n l a in
    let rest = records_of (drop r.bytes a ++ b) in
    let added = counted_from n r.records r.bytes 0 0 r.ledger rest in
    in_pieces n l a b ∙ subst (λ (k : ℕ). run_from n k r.bytes r.ledger rest ≡ counting r.records r.bytes (run_from n 0 0 r.ledger rest)) (add-zero r.records)
    (subst (λ (c : ℕ). run_from n (r.records + 0) c r.ledger rest ≡ counting r.records r.bytes (run_from n 0 0 r.ledger rest)) (add-zero r.bytes) added)

-- a record that is refused with another number than 3 is refused whatever follows it
pub final : (n : ℕ) (l : Ledger) (a b : List ℕ) → let r = run n l a in (r.stop ≡ 0 → ⊥) → (r.stop ≡ 3 → ⊥) → run n l (a ++ b) ≡ r
final n l a b some other =
    let p = run_parted n l a in
    let r = run n l a in
    elim p.end [
      | inl z ↦ absurd (some z)
      | inr z ↦ p.on b ∙ ends n r.records r.bytes r.ledger (drop p.taken a) b (omega (arith, length-drop p.taken a)) other z.1
    ]

-- where a run stops with 3, less is left than the longest record has
pub unfinished : (n : ℕ) (l : Ledger) (a : List ℕ) → let r = run n l a in r.stop ≡ 3 → length a < r.bytes + longest
unfinished n l a e =
    let p = run_parted n l a in
    elim p.end [
      | inl z ↦ absurd (omega arith)
      | inr z ↦
          let h = three_is_short n (run n l a).ledger (drop p.taken a) (z.1 ∙ ap refused e) in
          omega (arith, length-drop p.taken a)
    ]

-- where a run comes to the end, nothing is left
pub finished : (n : ℕ) (l : Ledger) (a : List ℕ) → let r = run n l a in r.stop ≡ 0 → r.bytes ≡ length a
finished n l a e =
    let r = run n l a in
    let stops = run_stops_at_first_bad n l a in
    elim stops.end [
      | inl z ↦ stops.bytes ∙ rw (take_all r.records (records_of a) (omega arith), split_covers a)
      | inr z ↦ absurd (omega (arith, never_zero n r.ledger (get_or (records_of a) r.records []) z.1))
    ]
