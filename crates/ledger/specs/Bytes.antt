-- Records as bytes: their shape, and what they say.
use Rattle.std.specs.Prelude.{Bool, true, false, not, ◌&&◌, ◌||◌, cond, List, [], ◌∷◌, ℕ, ◌+◌, ◌*◌, ◌-◌, eqb, leb, ltb, ℤ, pos, negsuc, length, get_or}
use Rattle.ints.specs.Tests.{up_to}
use Rattle.rows.specs.Form.{Form}
use Rattle.rows.specs.Sum.{Term}
use Rattle.ledger.specs.Limits.{carried}
use Rattle.ledger.specs.Ledger.{Ledger}
use Rattle.ledger.specs.Record.{Rule, FM, PM, RS, FK, TO, TR, EQ, TI, WK, CL, AR, LF, SU, SD, Record, make, OP, WD}
use Rattle.ledger.specs.Record.{RuleMark, fm, pm, rs, fk, to, tr, eq, ti, wk, cl, ar, lf, su, sd}
use Rattle.ledger.specs.Record.{RecordMark, of_rule, op, wd, rule_layout, layout, marks}
use Rattle.ledger.specs.Checks.{Check, ◌else◌, count_in}
use Rattle.ledger.specs.Apply.{finding, Outcome, judged, apply}

-- ---- numbers, little endian

abbrev pub byte_at : List ℕ → ℕ → ℕ
byte_at b i = get_or b i 0

abbrev pub u16_at : List ℕ → ℕ → ℕ
u16_at b i = byte_at b i + 256 * byte_at b (i + 1)

abbrev pub signed : ℕ → ℤ
signed n = cond (ltb n 0x8000_0000) (pos n) (negsuc (0xffff_ffff - n))

abbrev pub i32_at : List ℕ → ℕ → ℤ
i32_at b i = signed (u16_at b i + 65536 * u16_at b (i + 2))

-- ---- the mark

pub data Bearing : Type 0 where
  unknown : Bearing
  bears : RecordMark → Bearing

abbrev pub has_letters : List ℕ → RecordMark → Bool
has_letters b m = eqb (byte_at b 0) (layout m).first && eqb (byte_at b 1) (layout m).second

abbrev pub first_of : List ℕ → List RecordMark → Bearing
first_of b [] = unknown
first_of b (m ∷ ms) = cond (has_letters b m) (bears m) (first_of b ms)

unfoldable pub mark_of : List ℕ → Bearing
mark_of b = first_of b marks

-- the bytes that a mark and a count require
abbrev pub bytes_for : RecordMark → ℕ → ℕ
bytes_for m n = (layout m).bytes + (layout m).each * n

-- the count of a record that bears the mark
abbrev pub count_from : RecordMark → List ℕ → ℕ
count_from m b = byte_at b (layout m).place

-- ---- shape: fewer than 2 bytes, 3; mark, 4; count byte missing, 3; count, 5; whole length, 3

abbrev pub shape_of : List ℕ → Bearing → List Check
shape_of b unknown = (false else 4) ∷ []
shape_of b (bears m) =
    (true else 4)
    ∷ (not (layout m).counted || ltb (layout m).place (length b) else 3)
    ∷ (not (layout m).counted || count_in m (count_from m b) else 5)
    ∷ (eqb (length b) (bytes_for m (cond (layout m).counted (count_from m b) 0)) else 3)
    ∷ []

unfoldable pub shape : List ℕ → List Check
unfolding mark_of
shape b = (leb 2 (length b) else 3) ∷ shape_of b (mark_of b)

-- ---- fields

abbrev pub form_from : List ℕ → Form
form_from b = record { kind = pos (byte_at b 2); divisor = pos (u16_at b 3); row = up_to (carried + 1) (λ i. i32_at b (5 + 4 * i)) }

-- as many numbers as the count at place p says, from right behind it on
abbrev pub numbers_behind : ℕ → List ℕ → List ℕ
numbers_behind p b = up_to (byte_at b p) (λ i. u16_at b (p + 1 + 2 * i))

-- and terms
abbrev pub terms_behind : ℕ → List ℕ → List Term
terms_behind p b = up_to (byte_at b p) (λ i. record { form = u16_at b (p + 1 + 6 * i); multiplier = i32_at b (p + 3 + 6 * i) })

abbrev pub rule_from : List ℕ → RuleMark → Rule
rule_from b fm = FM (form_from b)
rule_from b pm = PM (numbers_behind (rule_layout pm).place b)
rule_from b rs = RS (u16_at b 2) (u16_at b 4) (u16_at b 6)
rule_from b fk = FK (terms_behind (rule_layout fk).place b)
rule_from b to = TO (u16_at b 2) (u16_at b 4)
rule_from b tr = TR (u16_at b 2) (u16_at b 4) (u16_at b 6)
rule_from b eq = EQ (u16_at b 2) (u16_at b 4)
rule_from b ti = TI (u16_at b 2) (u16_at b 4) (i32_at b 6)
rule_from b wk = WK (u16_at b 2) (u16_at b 4)
rule_from b cl = CL (terms_behind (rule_layout cl).place b)
rule_from b ar = AR (numbers_behind (rule_layout ar).place b)
rule_from b lf = LF (u16_at b 2) (u16_at b 4)
rule_from b su = SU (u16_at b 2) (u16_at b 4) (u16_at b 6)
rule_from b sd = SD (u16_at b 2) (u16_at b 4) (u16_at b 6)

abbrev pub fields : List ℕ → RecordMark → Record
fields b (of_rule m) = make (rule_from b m)
fields b op = OP
fields b wd = WD

-- bytes with an unknown mark are refused before their fields are read
abbrev pub decode_as : List ℕ → Bearing → Record
decode_as b unknown = OP
decode_as b (bears m) = fields b m

unfoldable pub decode : List ℕ → Record
unfolding mark_of
decode b = decode_as b (mark_of b)

-- a record of bytes, on a ledger of forms of n unknowns
unfoldable pub apply_bytes : ℕ → Ledger → List ℕ → Outcome
unfolding finding shape decode apply
apply_bytes n l b = judged (finding (shape b)) l (apply n l (decode b))
