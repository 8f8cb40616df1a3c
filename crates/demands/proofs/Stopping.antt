-- A run stops at its first bad record: what it counts, what it leaves and where it ends.
use mathlib.Core.Path.{◌≡◌, refl, sym, ap, subst}
use mathlib.Core.Logic.{inl, inr}
use mathlib.Core.List.{List, [], ◌∷◌, flatten}
use Prim.Native.Nat.{ℕ, suc, ◌+◌}
use native.Mathlib.Omega.{arith}
use lib.ListN.{length, length-append}
use Rattle.ledger.specs.Record.{Answer, accepted, refused, is_accepted}
use Rattle.ledger.specs.Apply.{Finding, pass, fail}
use Rattle.ledger.specs.Split.{records_of}
use Rattle.session.specs.declared.state.Session.{Session}
use Rattle.session.specs.Cells.{Tables}
use Rattle.session.specs.Calls.{entry}
use Rattle.laid.specs.Result.{Result}
use Rattle.checker.specs.Feed.{feed}
use Rattle.checker.proofs.FeedLaws.{refused_unchanged}
use Rattle.stream.specs.Run.{Totals, totals, each_by, run_by, run}
use Rattle.stream.proofs.Running.{each_on, each_stops}
use Rattle.demands.specs.History.{state, called_all, EachAccepted, Stops, Leaves}

-- the same run, where k records and c bytes were counted before
record Counted (k c : ℕ) (q r : Totals) : Type 0 where
  records : r.records ≡ k + q.records
  bytes : r.bytes ≡ c + q.bytes
  stop : r.stop ≡ q.stop
  session : r.session ≡ q.session
  tables : r.tables ≡ q.tables

module _ (n : ℕ) where
  StopsFrom : ℕ → ℕ → Session → Tables → List (List ℕ) → Type 0
  StopsFrom k c s t bs = (q : Totals) × Counted k c q (each_by (feed n) k c s t bs) × Stops n (state s t) bs q

  stops_from : (k c : ℕ) (s : Session) (t : Tables) (bs : List (List ℕ)) → StopsFrom k c s t bs
  unfolding StopsFrom flatten EachAccepted called_all
  stops_from k c s t [] =
      unfold each_by in (
        totals 0 0 0 s t,
        record { records = omega arith; bytes = omega arith; stop = refl; session = refl; tables = refl },
        record { good = tt; leaves = refl; bytes = refl; end = inl (refl, refl) },
      )
  stops_from k c s t (b ∷ bs) = go r.answer refl (stops_from (k + 1) (c + length b) r.session r.tables bs)
    where
      r : Result
      r = feed n s t b

      go : (a : Answer) → r.answer ≡ a → StopsFrom (k + 1) (c + length b) r.session r.tables bs → StopsFrom k c s t (b ∷ bs)
      go (accepted m) e (q, counted, stops) = (
        totals (suc q.records) (length b + q.bytes) q.stop q.session q.tables,
        rw (each_on (feed n) k c s t b bs (λ i. record { answer = e i; session = r.session; tables = r.tables }))
            (record {
              records = omega (arith, counted.records);
              bytes = omega (arith, counted.bytes);
              stop = counted.stop;
              session = counted.session;
              tables = counted.tables;
            }),
        record {
          good = (subst is_accepted (sym e) tt, stops.good);
          leaves = stops.leaves;
          bytes = rw length-append (ap (λ i. length b + i) stops.bytes);
          end = elim stops.end [ inl h ↦ inl (h.0, ap suc h.1) | inr h ↦ inr (omega arith, h.1) ];
        },
      )
      go (refused j) e rest = (
        totals 0 0 j s t,
        rw (each_stops (feed n) k c s t b bs (refused_unchanged n s t b j e))
            (record { records = omega arith; bytes = omega arith; stop = refl; session = refl; tables = refl }),
        record { good = tt; leaves = refl; bytes = refl; end = inr (omega arith, e) },
      )

same_run : (q r : Totals) → Counted 0 0 q r → q ≡ r
same_run q r h = λ i. totals (e i) (f i) (sym h.stop i) (sym h.session i) (sym h.tables i)
  where
    e : q.records ≡ r.records
    e = omega (arith, h.records)

    f : q.bytes ≡ r.bytes
    f = omega (arith, h.bytes)

each_stops_first : (n : ℕ) (s : Session) (t : Tables) (bs : List (List ℕ)) → Stops n (state s t) bs (each_by (feed n) 0 0 s t bs)
unfolding StopsFrom
each_stops_first n s t bs =
    let (q, counted, stops) = stops_from n 0 0 s t bs in subst (Stops n (state s t) bs) (same_run q (each_by (feed n) 0 0 s t bs) counted) stops

module _ (n : ℕ) (s : Session) (t : Tables) (b : List ℕ) where
  -- a run that is not refused 1 or 2
  pub run_stops_at_first_bad : entry n s t ≡ pass → Stops n (state s t) (records_of b) (run n s t b)
  unfolding run
  run_stops_at_first_bad e = rw e (each_stops_first n s t (records_of b))

  pub run_leaves : Leaves n (state s t) (records_of b) (run n s t b)
  unfolding run called_all flatten
  run_leaves = by (entry n s t)
    where
      by : (f : Finding) → Leaves n (state s t) (records_of b) (run_by f n s t b)
      by pass =
          let h = each_stops_first n s t (records_of b) in
          record {
            some = elim h.end [ inl e ↦ omega (arith, e.1) | inr e ↦ omega (arith, e.0) ];
            leaves = h.leaves;
            bytes = h.bytes;
          }
      by (fail k) = record { some = omega arith; leaves = refl; bytes = refl }
