-- Bytes that bear a mark, judged by their count: their shape, and the record at the front of a stream, which is whole where the bytes are there
-- that its mark and its count require.
use mathlib.Core.Path.{◌≡◌, refl, ◌∙◌}
use mathlib.Core.Bool.{Bool, true, false}
use mathlib.Core.List.{List, [], ◌∷◌}
use Prim.Native.Nat.{ℕ, ◌≤◌, ◌<◌}
use native.Mathlib.Nat.{mul-zero, add-zero}
use borrow.Author.Tests.{lt-ltb, le-ltb, le-leb}
use lib.Dec.{eqb}
use lib.ListN.{length}
use Rattle.ledger.specs.Record.{RecordMark, layout}
use Rattle.ledger.specs.Checks.{◌else◌}
use Rattle.ledger.specs.Apply.{finding, fail}
use Rattle.ledger.specs.Bytes.{bears, mark_of, bytes_for, shape_of, shape}
use Rattle.ledger.specs.Run.{Misshapen, Requires}
use Rattle.ledger.proofs.FrontLaws.{same_mark_lem, not_there, count_missing, count_wrong, requires_fixed, requires_counted}
use Rattle.records.specs.Marks.{Whole, Counts, NoCount, missing, outside}

-- ---- the shape

module _ {b : List ℕ} {m : RecordMark} where
  pub shape_no_count : {k : ℕ} → NoCount b m k → finding (shape_of b (bears m)) ≡ fail k
  unfolding finding
  shape_no_count (missing u l) = simp (u, le-ltb (layout m).place (length b) l)
  shape_no_count (outside u l i) = simp (u, lt-ltb (layout m).place (length b) l, i)

  pub shape_count : {n : ℕ} → Counts b m n → finding (shape_of b (bears m)) ≡ finding ((eqb (length b) (bytes_for m n) else 3) ∷ [])
  unfolding finding
  shape_count {n} c = go (layout m).counted refl
    where
      go : (t : Bool) → (layout m).counted ≡ t → finding (shape_of b (bears m)) ≡ finding ((eqb (length b) (bytes_for m n) else 3) ∷ [])
      go true u = rw c.is (simp (u, lt-ltb (layout m).place (length b) (c.there u), c.inside u))
      go false u = rw c.is (simp u)

module _ (b : List ℕ) (m : RecordMark) (h : 2 ≤ length b) (e : mark_of b ≡ bears m) where
  pub shape_marked : finding (shape b) ≡ finding (shape_of b (bears m))
  unfolding shape finding
  shape_marked = rw (le-leb 2 (length b) h, e)

  -- ---- the front record

  pub front_no_count : {k : ℕ} → NoCount b m k → Misshapen b k
  front_no_count (missing u l) = count_missing b m e h u l
  front_no_count (outside u l i) = count_wrong b m e h u l i

  front_count : {n : ℕ} → Counts b m n → Requires b m (bytes_for m n)
  front_count {n} c = go (layout m).counted refl
    where
      go : (t : Bool) → (layout m).counted ≡ t → Requires b m (bytes_for m n)
      go true u = rw c.is (simp u (requires_counted b m e h u (c.there u) (c.inside u)))
      go false u = rw c.is (simp (u, mul-zero, add-zero) (requires_fixed b m e h u))

  pub front_short : {n size : ℕ} → Counts b m n → size ≡ bytes_for m n → length b < size → Misshapen b 3
  front_short c z l = not_there (front_count c) (rw z at l)

  pub front_whole : {n size : ℕ} → Counts b m n → size ≡ bytes_for m n → size ≤ length b → Whole b m size
  front_whole {n} c z l =
      let r = front_count c in
      let there = rw z at l in
      rw z
      (record {
        within = there;
        taken = rw r.front_is;
        record_of = record { shaped = r.right there; bearing = same_mark_lem (bytes_for m n) b r.two ∙ e };
      })
