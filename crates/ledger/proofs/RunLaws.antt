-- A stream is cut into its records and nothing is lost; a run feeds them until the first that is refused, and counts those before it,
-- of which all that they made stays.
use mathlib.Core.Path.{◌≡◌, refl, sym, ap, subst, ◌∙◌}
use mathlib.Core.Bool.{Bool, true, false, cond}
use mathlib.Core.List.{List, [], ◌∷◌, ◌++◌, flatten, reverse, reverse_aux}
use mathlib.Core.Logic.{inl, inr}
use Prim.Native.Nat.{ℕ, zero, suc, ◌+◌, ◌≤◌, ◌<◌}
use native.Mathlib.Omega.{arith}
use lib.Dec.{T}
use lib.ListN.{length, take, drop, length-append, length-drop, take-append-drop}
use Rattle.ledger.specs.Ledger.{Ledger, fresh}
use Rattle.ledger.specs.Record.{Made, Answer, accepted, refused, is_accepted, layout}
use Rattle.ledger.specs.Checks.{count_in}
use Rattle.ledger.specs.Bytes.{Bearing, unknown, bears, mark_of, bytes_for, count_from, apply_bytes}
use Rattle.ledger.specs.Split.{front_bytes, front, split, records_of}
use Rattle.ledger.specs.Run.{Run, run_from, run, fed_all, AllAccepted, Stops}
use Rattle.ledger.specs.Literals.{holds}
use Rattle.ledger.specs.Numbers.{shape_order, record_order}
use Rattle.ledger.specs.History.{after_bytes}
use Rattle.ledger.specs.Kept.{AcceptedBytes}
use Rattle.ledger.proofs.LayoutLaws.{two_letters}
use Rattle.ledger.proofs.Numbers.{number_in, byte_tests, bytes_follow, bytes_found}

-- ---- the records of a stream

-- a record has a byte at least
pub front_positive : (x : ℕ) (b : List ℕ) → 1 ≤ front (x ∷ b)
unfolding front
front_positive x b = go (mark_of (x ∷ b))
  where
    either : (p : Bool) (i j : ℕ) → 1 ≤ i → 1 ≤ j → 1 ≤ cond p i j
    either true i j h k = h
    either false i j h k = k

    go : (m : Bearing) → 1 ≤ front_bytes (x ∷ b) m
    go unknown = omega arith
    go (bears m) =
        let some : (n : ℕ) → 1 ≤ bytes_for m n = λ n. omega (arith, two_letters m) in
        either (layout m).counted _ _ (either (count_in m (count_from m (x ∷ b))) _ _ (some _) (omega arith)) (some 0)

abbrev pub front_record : List ℕ → List ℕ
front_record b = take (front b) b

abbrev after_front : List ℕ → List ℕ
after_front b = drop (front b) b

after_shorter : (x : ℕ) (b : List ℕ) (k : ℕ) → length (x ∷ b) ≤ suc k → length (after_front (x ∷ b)) ≤ k
after_shorter x b k h = rw (length-drop (front (x ∷ b)) (x ∷ b)) (omega (arith, front_positive x b))

split_joins : (k : ℕ) (b : List ℕ) → length b ≤ k → flatten (split k b) ≡ b
unfolding flatten split
split_joins zero [] h = refl
split_joins zero (x ∷ b) h = absurd (omega arith)
split_joins (suc k) [] h = refl
split_joins (suc k) (x ∷ b) h =
    ap (λ r. front_record (x ∷ b) ++ r) (split_joins k (after_front (x ∷ b)) (after_shorter x b k h)) ∙ take-append-drop (front (x ∷ b)) (x ∷ b)

-- the records of a stream, joined, are the stream
pub split_covers : (b : List ℕ) → flatten (records_of b) ≡ b
split_covers b = split_joins (length b) b (omega arith)

any_fuel : (j k : ℕ) (b : List ℕ) → length b ≤ j → length b ≤ k → split j b ≡ split k b
unfolding split
any_fuel zero zero b h i = refl
any_fuel zero (suc k) [] h i = refl
any_fuel zero (suc k) (x ∷ b) h i = absurd (omega arith)
any_fuel (suc j) zero [] h i = refl
any_fuel (suc j) zero (x ∷ b) h i = absurd (omega arith)
any_fuel (suc j) (suc k) [] h i = refl
any_fuel (suc j) (suc k) (x ∷ b) h i =
    ap (λ r. front_record (x ∷ b) ∷ r) (any_fuel j k (after_front (x ∷ b)) (after_shorter x b j h) (after_shorter x b k i))

-- any number that is not too small gives the same records
pub fuel_enough : (k : ℕ) (b : List ℕ) → length b ≤ k → split k b ≡ split (length b) b
fuel_enough k b h = any_fuel k (length b) b h (omega arith)

-- the front record, and then the records of what is left
pub records_step : (x : ℕ) (b : List ℕ) → records_of (x ∷ b) ≡ take (front (x ∷ b)) (x ∷ b) ∷ records_of (drop (front (x ∷ b)) (x ∷ b))
unfolding split
records_step x b = ap (λ r. front_record (x ∷ b) ∷ r) (fuel_enough (length b) (after_front (x ∷ b)) (after_shorter x b (length b) (omega arith)))

-- ---- no refusal has the number 0

pub never_zero : (n : ℕ) (l : Ledger) (b : List ℕ) {k : ℕ} → (apply_bytes n l b).answer ≡ refused k → 0 < k
never_zero n l b {k} e = positive k (number_in (shape_order ++ record_order) (byte_tests n l b) (bytes_follow n l b) ((bytes_found n l b k).0 e))
  where
    positive : (k : ℕ) → T (holds k (shape_order ++ record_order)) → 0 < k
    positive zero t = absurd t
    positive (suc k) t = omega arith

-- ---- a run

module _ (n k c : ℕ) (l : Ledger) (b : List ℕ) (bs : List (List ℕ)) where
  -- the run from b on, by the answer to b
  next : Answer → Run
  next a =
      elim a [
        | accepted m ↦ run_from n (k + 1) (c + length b) (apply_bytes n l b).ledger bs
        | refused j ↦ record { records = k; bytes = c; stop = j; ledger = l }
      ]

  pub run_on : {m : Made} → (apply_bytes n l b).answer ≡ accepted m
      → run_from n k c l (b ∷ bs) ≡ run_from n (k + 1) (c + length b) (apply_bytes n l b).ledger bs
  unfolding run_from next
  run_on e = ap next e

  pub run_stops : {j : ℕ} → (apply_bytes n l b).answer ≡ refused j
      → run_from n k c l (b ∷ bs) ≡ record { records = k; bytes = c; stop = j; ledger = l }
  unfolding run_from next
  run_stops e = ap next e

-- the same run, where k records and c bytes were counted before
record Counted (k c : ℕ) (s r : Run) : Type 0 where
  records : r.records ≡ k + s.records
  bytes : r.bytes ≡ c + s.bytes
  stop : r.stop ≡ s.stop
  ledger : r.ledger ≡ s.ledger

StopsFrom : ℕ → ℕ → ℕ → Ledger → List (List ℕ) → Type 0
StopsFrom n k c l bs = (s : Run) × Counted k c s (run_from n k c l bs) × Stops n l bs s

stops_from : (n k c : ℕ) (l : Ledger) (bs : List (List ℕ)) → StopsFrom n k c l bs
unfolding StopsFrom flatten AllAccepted fed_all
stops_from n k c l [] =
    unfold run_from in (
      record { records = 0; bytes = 0; stop = 0; ledger = l },
      record { records = omega arith; bytes = omega arith; stop = refl; ledger = refl },
      record { good = tt; ledger = refl; bytes = refl; end = inl (refl, refl) },
    )
stops_from n k c l (b ∷ bs) = go (apply_bytes n l b).answer refl (stops_from n (k + 1) (c + length b) (apply_bytes n l b).ledger bs)
  where
    go : (a : Answer) → (apply_bytes n l b).answer ≡ a
        → StopsFrom n (k + 1) (c + length b) (apply_bytes n l b).ledger bs → StopsFrom n k c l (b ∷ bs)
    go (accepted m) e (s, counted, stops) = (
      record { records = suc s.records; bytes = length b + s.bytes; stop = s.stop; ledger = s.ledger },
      rw (run_on n k c l b bs e) (record { records = omega arith; bytes = omega arith; stop = counted.stop; ledger = counted.ledger }),
      record {
        good = (subst is_accepted (sym e) tt, stops.good);
        ledger = stops.ledger;
        bytes = rw length-append (ap (λ t. length b + t) stops.bytes);
        end = elim stops.end [ inl h ↦ inl (h.0, ap suc h.1) | inr h ↦ inr (omega arith, h.1) ];
      },
    )
    go (refused j) e rest = (
      record { records = 0; bytes = 0; stop = j; ledger = l },
      rw (run_stops n k c l b bs e) (record { records = omega arith; bytes = omega arith; stop = refl; ledger = refl }),
      record { good = tt; ledger = refl; bytes = refl; end = inr (omega arith, e) },
    )

same_run : (s r : Run) → Counted 0 0 s r → s ≡ r
same_run s r h = λ i. record { records = e i; bytes = f i; stop = sym h.stop i; ledger = sym h.ledger i }
  where
    e : s.records ≡ r.records
    e = omega arith

    f : s.bytes ≡ r.bytes
    f = omega arith

pub stops_at_first_bad : (n : ℕ) (l : Ledger) (bs : List (List ℕ)) → Stops n l bs (run_from n 0 0 l bs)
unfolding StopsFrom
stops_at_first_bad n l bs =
    let (s, counted, stops) = stops_from n 0 0 l bs in
    subst (Stops n l bs) (same_run s (run_from n 0 0 l bs) counted) stops

-- for a stream
pub run_stops_at_first_bad : (n : ℕ) (l : Ledger) (b : List ℕ) → Stops n l (records_of b) (run n l b)
run_stops_at_first_bad n l b = stops_at_first_bad n l (records_of b)

-- ---- histories

pub fed_after : (n : ℕ) (h bs : List (List ℕ)) → fed_all n (after_bytes n h) bs ≡ after_bytes n (reverse_aux bs h)
unfolding fed_all after_bytes
fed_after n h [] = refl
fed_after n h (b ∷ bs) = fed_after n (b ∷ h) bs

-- what is fed to a fresh ledger is a history, which has the latest first
pub fed_is_history : (n : ℕ) (bs : List (List ℕ)) → fed_all n fresh bs ≡ after_bytes n (reverse bs)
unfolding after_bytes
fed_is_history n bs = fed_after n [] bs

-- a history that was accepted, fed from its first record on
pub accepted_back : (n : ℕ) (h bs : List (List ℕ)) → AcceptedBytes n (reverse_aux bs h) → AllAccepted n (after_bytes n h) bs × AcceptedBytes n h
unfolding AllAccepted AcceptedBytes after_bytes
accepted_back n h [] a = (tt, a)
accepted_back n h (b ∷ bs) a = let (rest, (first, before)) = accepted_back n (b ∷ h) bs a in ((first, rest), before)
