-- What bytes of the right shape say: what the readers of fields ask.
use mathlib.Core.Path.{◌≡◌}
use mathlib.Core.Bool.{true, false}
use mathlib.Core.List.{List}
use Prim.Native.Nat.{ℕ}
use lib.ListN.{length}
use Rattle.ledger.specs.Record.{RecordMark, layout}
use Rattle.ledger.specs.Checks.{Passed}
use Rattle.ledger.specs.Apply.{pass, finding}
use Rattle.ledger.specs.Bytes.{bears, mark_of, bytes_for, count_from, shape}
use Rattle.ledger.proofs.Findings.{pass→passed}
use Rattle.ledger.proofs.LayoutLaws.{count_least, count_most, list_behind}
use Rattle.ledger.proofs.FrontLaws.{fixed_length, count_inside, counted_length}
use Rattle.fields.specs.Fields.{Listed}

module _ (b : List ℕ) (m : RecordMark) (e : mark_of b ≡ bears m) (p : finding (shape b) ≡ pass) where
  passed : Passed (shape b)
  passed = pass→passed (shape b) p

  pub fixed_whole : (layout m).counted ≡ false → length b ≡ bytes_for m 0
  fixed_whole = fixed_length b m e passed

  pub counted_whole : (layout m).counted ≡ true → Listed (layout m).place (layout m).each (layout m).least (layout m).most b
  counted_whole u =
      record {
        some = count_least m (count_from m b) (count_inside b m e passed u);
        few = count_most m (count_from m b) (count_inside b m e passed u);
        long = rw (← list_behind m u) (counted_length b m e passed u);
      }
