-- The table of marks, each line tested once: every record has its two letters, a count stands behind them, what has no count says nothing of one,
-- and no record is too long.
use mathlib.Core.Path.{◌≡◌}
use mathlib.Core.Bool.{true, not, ◌&&◌, ◌||◌}
use Prim.Native.Nat.{ℕ, ◌+◌, ◌*◌, ◌≤◌, ◌<◌}
use native.Mathlib.Omega.{arith}
use native.Mathlib.Nat.{mul-le-mul_left, mul-le-mul_right}
use lib.Dec.{T, eqb, leb, leb→le, eqb→eq}
use Rattle.ints.proofs.Bools.{T_and}
use Rattle.rows.specs.Limits.{most_terms}
use Rattle.ledger.specs.Record.{RuleMark, fm, pm, rs, fk, to, tr, eq, ti, wk, cl, ar, lf, su, sd, RecordMark, of_rule, op, wd, Layout, layout}
use Rattle.ledger.specs.Checks.{count_in}
use Rattle.ledger.specs.Bytes.{bytes_for}

-- the bytes of the longest record: a sum with all the terms that it may have
abbrev pub longest_record : ℕ
longest_record = 3 + 6 * most_terms

abbrev Sensible : Layout → Type 0
Sensible l =
    T (leb 2 l.bytes)
    × T (leb l.bytes longest_record)
    × T (leb l.each 6)
    × T (leb (l.bytes + l.each * l.most) longest_record)
    × T (not l.counted || (leb 2 l.place && eqb l.bytes (l.place + 1)))
    × T (l.counted || eqb (l.place + l.least + l.most + l.each) 0)

of_rule_lem : (m : RuleMark) → Sensible (layout (of_rule m))
of_rule_lem fm = (tt, tt, tt, tt, tt, tt)
of_rule_lem pm = (tt, tt, tt, tt, tt, tt)
of_rule_lem rs = (tt, tt, tt, tt, tt, tt)
of_rule_lem fk = (tt, tt, tt, tt, tt, tt)
of_rule_lem to = (tt, tt, tt, tt, tt, tt)
of_rule_lem tr = (tt, tt, tt, tt, tt, tt)
of_rule_lem eq = (tt, tt, tt, tt, tt, tt)
of_rule_lem ti = (tt, tt, tt, tt, tt, tt)
of_rule_lem wk = (tt, tt, tt, tt, tt, tt)
of_rule_lem cl = (tt, tt, tt, tt, tt, tt)
of_rule_lem ar = (tt, tt, tt, tt, tt, tt)
of_rule_lem lf = (tt, tt, tt, tt, tt, tt)
of_rule_lem su = (tt, tt, tt, tt, tt, tt)
of_rule_lem sd = (tt, tt, tt, tt, tt, tt)

sensible : (m : RecordMark) → Sensible (layout m)
sensible (of_rule m) = of_rule_lem m
sensible op = (tt, tt, tt, tt, tt, tt)
sensible wd = (tt, tt, tt, tt, tt, tt)

-- a record begins with two letters
pub two_letters : (m : RecordMark) → 2 ≤ (layout m).bytes
two_letters m = leb→le 2 (layout m).bytes (sensible m).0

-- the length of a record does not wrap, whatever its count is
pub few_bytes : (m : RecordMark) (n : ℕ) → n < 256 → bytes_for m n < 2048
few_bytes m n h =
    let narrow = leb→le (layout m).each 6 (sensible m).2 in
    omega (arith, leb→le (layout m).bytes longest_record (sensible m).1, mul-le-mul_right n narrow)

-- no record is longer than the longest
pub in_longest : (m : RecordMark) (n : ℕ) → n ≤ (layout m).most → bytes_for m n ≤ longest_record
in_longest m n h =
    omega (arith, leb→le ((layout m).bytes + (layout m).each * (layout m).most) longest_record (sensible m).3, mul-le-mul_left (layout m).each h)

pub count_least : (m : RecordMark) (n : ℕ) → T (count_in m n) → (layout m).least ≤ n
count_least m n t = leb→le (layout m).least n (T_and (leb (layout m).least n) (leb n (layout m).most) t).0

pub count_most : (m : RecordMark) (n : ℕ) → T (count_in m n) → n ≤ (layout m).most
count_most m n t = leb→le n (layout m).most (T_and (leb (layout m).least n) (leb n (layout m).most) t).1

-- a count stands behind the letters, and what it counts behind it
module _ (m : RecordMark) (u : (layout m).counted ≡ true) where
  placed : T (leb 2 (layout m).place) × T (eqb (layout m).bytes ((layout m).place + 1))
  placed = T_and (leb 2 (layout m).place) (eqb (layout m).bytes ((layout m).place + 1)) (simp u at (sensible m).4)

  pub count_behind : 2 ≤ (layout m).place
  count_behind = leb→le 2 (layout m).place placed.0

  pub list_behind : (layout m).bytes ≡ (layout m).place + 1
  list_behind = eqb→eq (layout m).bytes ((layout m).place + 1) placed.1
