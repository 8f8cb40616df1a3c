-- Records of good shape that are joined to a stream are split again where they were joined, and a run over a stream that ends inside a record
-- accepts those before it and stops there with 3.
use mathlib.Core.Path.{◌≡◌, refl, sym, ap, ◌∙◌}
use mathlib.Core.Bool.{Bool, true, false}
use mathlib.Core.List.{List, [], ◌∷◌, ◌++◌, flatten, append_assoc, append-nil}
use Prim.Native.Nat.{ℕ, suc, ◌+◌, ◌≤◌, ◌<◌}
use native.Mathlib.Nat.{mul-zero, add-zero, zero-add}
use native.Mathlib.Omega.{arith}
use lib.Dec.{leb→le}
use lib.ListN.{length, take, drop, length-append, take-append-drop, drop_of_length-le, get_or-append}
use lib.Seq.{take_all, take-append_seam, drop-append_seam, length-take-le}
use Rattle.ints.proofs.Bools.{never, T→true}
use Rattle.ledger.specs.Ledger.{Ledger}
use Rattle.ledger.specs.Record.{Answer, accepted, refused, is_accepted, RecordMark, layout}
use Rattle.ledger.specs.Checks.{count_in, Passed}
use Rattle.ledger.specs.Apply.{fail, finding}
use Rattle.ledger.specs.Bytes.{Bearing, unknown, bears, mark_of, bytes_for, count_from, shape_of, shape, apply_bytes}
use Rattle.ledger.specs.Split.{front, split, records_of, AllShaped}
use Rattle.ledger.specs.Run.{Misshapen, run_from, run, fed_all, AllAccepted}
use Rattle.ledger.proofs.Findings.{passed→pass, bytes_accepted}
use Rattle.ledger.proofs.RunLaws.{records_step, run_on, run_stops}
use Rattle.ledger.proofs.FrontLaws.{requires_fixed, requires_counted, fixed_length, count_there, count_inside, counted_length}
use Rattle.ledger.proofs.FrontCut.{mark_behind, whole, wrong, short, cut, failed}

-- ---- a record of good shape, with bytes behind it

module _ (b : List ℕ) (p : Passed (shape b)) where
  two : 2 ≤ length b
  unfolding shape
  two = leb→le 2 (length b) p.0

  module _ (c : List ℕ) where
    longer : 2 ≤ length (b ++ c)
    longer = rw length-append (omega (arith, two))

    module _ (m : RecordMark) (e : mark_of b ≡ bears m) where
      behind : mark_of (b ++ c) ≡ bears m
      behind = mark_behind b c two ∙ e

      front_marked : (u : Bool) → (layout m).counted ≡ u → front (b ++ c) ≡ length b
      front_marked false u =
          (requires_fixed (b ++ c) m behind longer u).front_is ∙ omega (arith, fixed_length b m e p u, mul-zero (layout m).each)
      front_marked true u =
          let there = count_there b m e p u in
          let same : count_from m (b ++ c) ≡ count_from m b = get_or-append b c 0 (layout m).place there in
          let inside : count_in m (count_from m (b ++ c)) ≡ true = rw same (T→true (count_in m (count_from m b)) (count_inside b m e p u)) in
          (requires_counted (b ++ c) m behind longer u (rw length-append (omega arith)) inside).front_is
          ∙ ap (bytes_for m) same
          ∙ sym (counted_length b m e p u)

    -- it is the front record
    pub front_whole : front (b ++ c) ≡ length b
    unfolding shape
    front_whole = go (mark_of b) refl p.1
      where
        go : (v : Bearing) → mark_of b ≡ v → Passed (shape_of b v) → front (b ++ c) ≡ length b
        go unknown e q = absurd q.0
        go (bears m) e q = front_marked m e (layout m).counted refl

-- bytes whose front record is b
first_record : (b c : List ℕ) → 0 < length b → front (b ++ c) ≡ length b → records_of (b ++ c) ≡ b ∷ records_of c
first_record [] c h e = absurd (omega arith)
first_record (x ∷ b) c h e = records_step x (b ++ c) ∙ rw (e, take-append_seam (x ∷ b) c, drop-append_seam (x ∷ b) c)

-- records of good shape, whatever follows them
pub split_joined : (bs : List (List ℕ)) → AllShaped bs → (c : List ℕ) → records_of (flatten bs ++ c) ≡ bs ++ records_of c
unfolding AllShaped flatten
split_joined [] p c = refl
split_joined (b ∷ bs) (p, ps) c =
    rw append_assoc
    (first_record b (flatten bs ++ c) (omega (arith, two b p)) (front_whole b p (flatten bs ++ c)) ∙ ap (λ rs. b ∷ rs) (split_joined bs ps c))

pub records_joined : (bs : List (List ℕ)) → AllShaped bs → records_of (flatten bs) ≡ bs
unfolding split
records_joined bs p = ap records_of (sym (append-nil (flatten bs))) ∙ split_joined bs p [] ∙ append-nil bs

-- ---- a stream that ends inside a record

module _ (b : List ℕ) (p : Passed (shape b)) (k : ℕ) (some : 0 < k) (less : k < length b) where
  abbrev part : List ℕ
  part = take k b

  part_length : length part ≡ k
  part_length = length-take-le k b (omega arith)

  front_all : front b ≡ length b
  front_all = rw append-nil at (front_whole b p [])

  pub part_misshapen : Misshapen part 3
  part_misshapen = elim (cut part) [
    | whole q h same ↦
        let e : front b ≡ front part = rw (take-append-drop k b) at (same (drop k b)) in
        absurd (omega (arith, front_all, part_length))
    | wrong j other f ↦
        let e : finding (shape b) ≡ fail j = rw (take-append-drop k b, take_all (front b) b (omega (arith, front_all))) at (f (drop k b)) in
        let good = passed→pass (shape b) p in
        never (cc)
    | short w h ↦ w
  ]

  pub part_alone : records_of part ≡ part ∷ []
  unfolding split
  part_alone = go part part_misshapen.all (omega (arith, part_length))
    where
      go : (a : List ℕ) → length a ≤ front a → 0 < length a → records_of a ≡ a ∷ []
      go [] h s = absurd (omega arith)
      go (x ∷ a) h s = records_step x a ∙ rw (take_all (front (x ∷ a)) (x ∷ a) h, drop_of_length-le (x ∷ a) h)

  pub ends_inside : (bs : List (List ℕ)) → AllShaped bs → records_of (flatten bs ++ take k b) ≡ bs ++ (take k b ∷ [])
  ends_inside bs q = split_joined bs q part ∙ ap (λ rs. bs ++ rs) part_alone

  pub part_refused : (n : ℕ) (l : Ledger) → (apply_bytes n l (take k b)).answer ≡ refused 3
  part_refused n l = failed n l part part_misshapen.failed

-- ---- a run

accepted_shaped : (n : ℕ) (l : Ledger) (bs : List (List ℕ)) → AllAccepted n l bs → AllShaped bs
unfolding AllAccepted AllShaped
accepted_shaped n l [] a = tt
accepted_shaped n l (b ∷ bs) (a, rest) = (go (apply_bytes n l b).answer refl a, accepted_shaped n (apply_bytes n l b).ledger bs rest)
  where
    go : (r : Answer) → (apply_bytes n l b).answer ≡ r → is_accepted r → Passed (shape b)
    go (accepted m) e t = (bytes_accepted n l b m e).0
    go (refused k) e t = absurd t

-- records that are accepted are counted
run_through : (n k c : ℕ) (l : Ledger) (bs cs : List (List ℕ)) → AllAccepted n l bs
    → run_from n k c l (bs ++ cs) ≡ run_from n (k + length bs) (c + length (flatten bs)) (fed_all n l bs) cs
unfolding AllAccepted fed_all flatten
run_through n k c l [] cs a = rw (add-zero k, add-zero c)
run_through n k c l (b ∷ bs) cs (a, rest) =
    go (apply_bytes n l b).answer refl a (run_through n (k + 1) (c + length b) (apply_bytes n l b).ledger bs cs rest)
  where
    next : Ledger
    next = (apply_bytes n l b).ledger

    go : (r : Answer) → (apply_bytes n l b).answer ≡ r → is_accepted r
        → run_from n (k + 1) (c + length b) next (bs ++ cs) ≡ run_from n (k + 1 + length bs) (c + length b + length (flatten bs)) (fed_all n next bs) cs
        → run_from n k c l (b ∷ (bs ++ cs)) ≡ run_from n (k + suc (length bs)) (c + length (b ++ flatten bs)) (fed_all n next bs) cs
    go (accepted m) e t on =
        let records : k + 1 + length bs ≡ k + suc (length bs) = omega arith in
        let bytes : c + length b + length (flatten bs) ≡ c + length (b ++ flatten bs) = omega (arith, length-append b (flatten bs)) in
        run_on n k c l b (bs ++ cs) e ∙ on ∙ rw (records, bytes)
    go (refused j) e t on = absurd t

-- what is accepted is counted, and the stream ends inside the record behind it
pub stops_inside : (n : ℕ) (l : Ledger) (bs : List (List ℕ)) → AllAccepted n l bs
    → (b : List ℕ) → Passed (shape b) → (k : ℕ) → 0 < k → k < length b
    → run n l (flatten bs ++ take k b) ≡ record { records = length bs; bytes = length (flatten bs); stop = 3; ledger = fed_all n l bs }
stops_inside n l bs a b p k some less =
    let end = fed_all n l bs in
    ap (run_from n 0 0 l) (ends_inside b p k some less bs (accepted_shaped n l bs a))
    ∙ (rw (zero-add (length bs), zero-add (length (flatten bs))) at (run_through n 0 0 l bs (take k b ∷ []) a))
    ∙ run_stops n (length bs) (length (flatten bs)) end (take k b) [] (part_refused b p k some less n end)
