-- What the code's marks and layouts are, in the ledger's terms.
use Rattle.std.specs.Prelude.{◌≡◌, true, false, cond, Option, None, Some, Result, Ok, Err, List, ℕ, ◌<◌, ◌≤◌, length, take}
use Rattle.ledger.specs.Record as ledger
use Rattle.ledger.specs.Checks.{count_in}
use Rattle.ledger.specs.Apply.{pass, fail, finding}
use Rattle.ledger.specs.Bytes as bytes
use Rattle.ledger.specs.Split.{front}
use Rattle.ledger.specs.Run.{Misshapen}
use Rattle.session.specs.Answers.{number_of}
use Rattle.records.specs.declared.marks.RecordMark.{RecordMark}
use Rattle.records.specs.declared.marks.RecordMark.TheVariants.{Rule, Op, Wd}
use Rattle.records.specs.declared.marks.RuleMark.{RuleMark}
use Rattle.records.specs.declared.marks.RuleMark.TheVariants.{Fm, Pm, Rs, Fk, To, Tr, Eq, Ti, Wk, Cl, Ar, Lf, Su, Sd}
use Rattle.session.specs.declared.answers.Refusal.{Refusal}
use Rattle.records.specs.declared.marks.Counting.{Counting}
use Rattle.records.specs.declared.marks.Layout.{Layout}
use Rattle.records.specs.declared.shape.Front.{Front}

abbrev pub rule_mark_of : RuleMark → ledger.RuleMark
rule_mark_of Fm = ledger.fm
rule_mark_of Pm = ledger.pm
rule_mark_of Rs = ledger.rs
rule_mark_of Fk = ledger.fk
rule_mark_of To = ledger.to
rule_mark_of Tr = ledger.tr
rule_mark_of Eq = ledger.eq
rule_mark_of Ti = ledger.ti
rule_mark_of Wk = ledger.wk
rule_mark_of Cl = ledger.cl
rule_mark_of Ar = ledger.ar
rule_mark_of Lf = ledger.lf
rule_mark_of Su = ledger.su
rule_mark_of Sd = ledger.sd

abbrev pub record_mark_of : RecordMark → ledger.RecordMark
record_mark_of (Rule m) = ledger.of_rule (rule_mark_of m)
record_mark_of Op = ledger.op
record_mark_of Wd = ledger.wd

abbrev pub bearing_of : Option RecordMark → bytes.Bearing
bearing_of None = bytes.unknown
bearing_of (Some m) = bytes.bears (record_mark_of m)

-- the layout with these letters and bytes, and with this count or none
abbrev pub with_counting : ℕ → ℕ → ℕ → Option Counting → ledger.Layout
with_counting a b n None = ledger.fixed a b n
with_counting a b n (Some c) =
    record { first = a; second = b; counted = true; place = c.place; least = c.least; most = c.most; bytes = n; each = c.each }

abbrev pub layout_of : Layout → ledger.Layout
layout_of l = with_counting l.first l.second l.bytes l.counting

-- bytes of the right shape that bear the mark
pub record OfMark (b : List ℕ) (m : ledger.RecordMark) : Type 0 where
  pub shaped : finding (bytes.shape b) ≡ pass
  pub bearing : bytes.mark_of b ≡ bytes.bears m

-- r is what the shape of the bytes b is found to be, and where it is right, the mark that they bear
abbrev pub Shaped : List ℕ → Result RecordMark Refusal → Type 0
Shaped b (Err why) = finding (bytes.shape b) ≡ fail (number_of why)
Shaped b (Ok m) = OfMark b (record_mark_of m)

-- the record that begins the bytes b and bears the mark has the count n, within its range; or it counts nothing, and n is 0
pub record Counts (b : List ℕ) (m : ledger.RecordMark) (n : ℕ) : Type 0 where
  pub there : (ledger.layout m).counted ≡ true → (ledger.layout m).place < length b
  pub inside : (ledger.layout m).counted ≡ true → count_in m (bytes.count_from m b) ≡ true
  pub is : n ≡ cond (ledger.layout m).counted (bytes.count_from m b) 0

-- it has a count, which is missing, 3, or outside its range, 5
pub data NoCount (b : List ℕ) (m : ledger.RecordMark) : ℕ → Type 0 where
  missing : (ledger.layout m).counted ≡ true → length b ≤ (ledger.layout m).place → NoCount b m 3
  outside : (ledger.layout m).counted ≡ true → (ledger.layout m).place < length b → count_in m (bytes.count_from m b) ≡ false → NoCount b m 5

-- r is the count of the record that begins the bytes b and bears the mark, or why it has none
abbrev pub Counted : List ℕ → ledger.RecordMark → Result ℕ Refusal → Type 0
Counted b m (Err why) = NoCount b m (number_of why)
Counted b m (Ok n) = Counts b m n

-- the front record of the bytes b bears the mark, and has so many bytes of them
pub record Whole (b : List ℕ) (m : ledger.RecordMark) (size : ℕ) : Type 0 where
  pub within : size ≤ length b
  pub taken : take size b ≡ take (front b) b
  pub record_of : OfMark (take size b) m

-- r is the front record of the bytes b
abbrev pub Fronted : List ℕ → Result Front Refusal → Type 0
Fronted b (Err why) = Misshapen b (number_of why)
Fronted b (Ok f) = Whole b (record_mark_of f.mark) f.size
