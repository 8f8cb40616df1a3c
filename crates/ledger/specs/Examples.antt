-- The starred examples of the specification and its sample proof file, and for each mark a record that is accepted and one for each number
-- that it can be refused with, in bytes, as one list. One claim, closed by computing, says that the definitions give what is expected of each.
use Rattle.std.specs.Prelude.{Bool, true, false, ◌&&◌, ℕ, ◌+◌, ◌-◌, ◌/◌, ◌%◌, T, eqb, ℤ, pos, negsuc, length, take, replicate}
use mathlib.Core.List.{List, [], ◌∷◌, ◌++◌, map, flat_map}
use Rattle.ints.specs.Tests.{eq_z, eq_zs, up_to, all}
use Rattle.rows.specs.Limits.{unknowns}
use Rattle.rows.specs.Row.{Row}
use Rattle.rows.specs.Form.{Form, form_of, legal, legal_multiplier}
use Rattle.rows.specs.Sum.{Term, summed_onto}
use Rattle.rows.specs.Conditions.{tightens, farkas, clash, neighbours_from, neighbours, loosens, scales}
use Rattle.ledger.specs.Ledger.{Line, Mark, Ledger, fresh, literal_count, opened}
use Rattle.ledger.specs.Record.{Answer, accepted, refused, Made, form, line, level}
use Rattle.ledger.specs.Apply.{Outcome}
use Rattle.ledger.specs.Bytes.{apply_bytes}
use Rattle.ledger.specs.Run.{Run, run_from, run}
use Rattle.ledger.specs.Split.{split}
use Rattle.ledger.specs.Standing.{Standing, refuted, not_refuted, standing_from, standing}

-- ---- what an example says

pub data Expected : Type 0 where
  -- the record is refused with this number
  refuses : ℕ → Expected
  -- it makes the form of this number, which has these cells
  makes_form : ℕ → List ℤ → Expected
  -- it makes the line of this number, which has this origin and these literals
  makes_line : (number origin : ℕ) → List ℕ → Expected
  -- it opens a level, and so many are open then
  opens : (levels : ℕ) → Expected
  -- it closes a level, and so many are open then; it leaves the ledger that these records leave
  closes : (levels : ℕ) → List (List ℕ) → Expected

-- bytes, and what is expected of them
pub record Try : Type 0 where
  pub bytes : List ℕ
  pub expected : Expected

infix 20 ◌gives◌
abbrev pub ◌gives◌ : List ℕ → Expected → Try
◌gives◌ b e = record { bytes = b; expected = e }

pub data Example : Type 0 where
  -- after these records, all accepted, each of the tries gives what is expected of it
  after : (before : List (List ℕ)) → List Try → Example
  -- a proof file of these bytes has these numbers printed
  replays : (file printed : List ℕ) → Example

-- ---- what the definitions find, and what is expected

-- how many records were accepted, and the ledger then
pub record Fed : Type 0 where
  pub accepted : ℕ
  pub ledger : Ledger

abbrev pub more : Answer → ℕ
more (accepted m) = 1
more (refused k) = 0

unfoldable pub fed_from : ℕ → Ledger → List (List ℕ) → Fed
unfolding apply_bytes
fed_from k l [] = record { accepted = k; ledger = l }
fed_from k l (b ∷ bs) = let o = apply_bytes unknowns l b in fed_from (k + more o.answer) o.ledger bs

abbrev pub ledger_by : List (List ℕ) → Ledger
ledger_by bs = (fed_from 0 fresh bs).ledger

abbrev pub outcome : Answer → Ledger → Outcome
outcome a l = record { answer = a; ledger = l }

abbrev pub hoped : Ledger → Expected → Outcome
hoped l (refuses k) = outcome (refused k) l
hoped l (makes_form k cells) = outcome (accepted (form k)) (record { forms = l.forms ++ (form_of cells ∷ []); lines = l.lines; marks = l.marks })
hoped l (makes_line k o xs) =
    outcome (accepted (line k)) (record { forms = l.forms; lines = l.lines ++ (record { origin = o; literals = xs } ∷ []); marks = l.marks })
hoped l (opens k) = outcome (accepted (level k)) (opened l)
hoped l (closes k bs) = outcome (accepted (level k)) (ledger_by bs)

abbrev pub refuted_line : Standing → List ℕ
refuted_line (refuted i) = i ∷ []
refuted_line not_refuted = []

-- the numbers in the order in which they are printed; the last one is there only where a line refutes
abbrev pub printed_of : Run → List ℕ
printed_of r =
    let l = r.ledger in
    r.records
    ∷ r.bytes
    ∷ length l.forms
    ∷ length l.lines
    ∷ literal_count l.lines
    ∷ length l.marks
    ∷ r.stop
    ∷ refuted_line (standing l)

-- ---- how it is decided

module _ {A : Type 0} (same : A → A → Bool) where
  abbrev pub same_lists : List A → List A → Bool
  same_lists [] [] = true
  same_lists [] (y ∷ ys) = false
  same_lists (x ∷ xs) [] = false
  same_lists (x ∷ xs) (y ∷ ys) = same x y && same_lists xs ys

abbrev pub same_form : Form → Form → Bool
same_form f g = eq_z f.kind g.kind && eq_z f.divisor g.divisor && eq_zs f.row g.row

abbrev pub same_line : Line → Line → Bool
same_line x y = eqb x.origin y.origin && same_lists eqb x.literals y.literals

abbrev pub same_mark : Mark → Mark → Bool
same_mark m o = eqb m.forms o.forms && eqb m.lines o.lines

abbrev pub same_ledger : Ledger → Ledger → Bool
same_ledger l k =
    same_lists same_form l.forms k.forms
    && same_lists same_line l.lines k.lines
    && same_lists same_mark l.marks k.marks

abbrev pub same_made : Made → Made → Bool
same_made (form f) (form g) = eqb f g
same_made (form f) (line j) = false
same_made (form f) (level k) = false
same_made (line i) (form g) = false
same_made (line i) (line j) = eqb i j
same_made (line i) (level k) = false
same_made (level n) (form g) = false
same_made (level n) (line j) = false
same_made (level n) (level k) = eqb n k

abbrev pub same_answer : Answer → Answer → Bool
same_answer (accepted m) (accepted o) = same_made m o
same_answer (accepted m) (refused k) = false
same_answer (refused j) (accepted o) = false
same_answer (refused j) (refused k) = eqb j k

abbrev pub same_outcome : Outcome → Outcome → Bool
same_outcome o p = same_answer o.answer p.answer && same_ledger o.ledger p.ledger

unfoldable pub meets : Ledger → Try → Bool
unfolding apply_bytes fed_from
meets l t = same_outcome (apply_bytes unknowns l t.bytes) (hoped l t.expected)

unfoldable pub holds : Example → Bool
unfolding fed_from meets run_from split standing_from
holds (after bs ts) = let f = fed_from 0 fresh bs in eqb f.accepted (length bs) && all (meets f.ledger) ts
holds (replays file numbers) = same_lists eqb (printed_of (run unknowns fresh file)) numbers

-- ---- numbers in bytes

-- minus n, where n is not 0
abbrev pub minus : ℕ → ℤ
minus n = negsuc (n - 1)

abbrev pub le16 : ℕ → List ℕ
le16 n = n % 256 ∷ n / 256 ∷ []

-- a whole number in 32 bits
abbrev pub bits : ℤ → ℕ
bits (pos n) = n
bits (negsuc n) = 0xffff_ffff - n

abbrev pub le32 : ℤ → List ℕ
le32 z = le16 (bits z % 65536) ++ le16 (bits z / 65536)

-- ---- records in bytes: the mark's two letters, and then the fields

-- c + a x + b y
abbrev pub row : (c a b : ℤ) → Row
row c a b = c ∷ a ∷ b ∷ replicate 10 (pos 0)

unfoldable pub fm_bytes : (kind divisor : ℕ) → Row → List ℕ
unfolding flat_map
fm_bytes k d r = (70 ∷ 77 ∷ k ∷ le16 d) ++ flat_map le32 r

abbrev pub at_most_zero : Row → List ℕ
at_most_zero r = fm_bytes 1 0 r

abbrev pub equal_to_zero : Row → List ℕ
equal_to_zero r = fm_bytes 2 0 r

abbrev pub divided_by : ℕ → Row → List ℕ
divided_by d r = fm_bytes 3 d r

unfoldable pub pm_bytes : List ℕ → List ℕ
unfolding flat_map
pm_bytes xs = 80 ∷ 77 ∷ length xs ∷ flat_map le16 xs

abbrev pub rs_bytes : (pivot first second : ℕ) → List ℕ
rs_bytes p i j = 82 ∷ 83 ∷ (le16 p ++ le16 i ++ le16 j)

-- a form's number, and how many times its row is taken
abbrev pub term : ℕ → ℤ → Term
term f m = record { form = f; multiplier = m }

abbrev pub term_bytes : Term → List ℕ
term_bytes t = le16 t.form ++ le32 t.multiplier

unfoldable pub fk_bytes : List Term → List ℕ
unfolding flat_map
fk_bytes ts = 70 ∷ 75 ∷ length ts ∷ flat_map term_bytes ts

unfoldable pub cl_bytes : List Term → List ℕ
unfolding flat_map
cl_bytes ts = 67 ∷ 76 ∷ length ts ∷ flat_map term_bytes ts

abbrev pub to_bytes : (a b : ℕ) → List ℕ
to_bytes a b = 84 ∷ 79 ∷ (le16 a ++ le16 b)

abbrev pub tr_bytes : (z u v : ℕ) → List ℕ
tr_bytes z u v = 84 ∷ 82 ∷ (le16 z ++ le16 u ++ le16 v)

abbrev pub eq_bytes : (z a : ℕ) → List ℕ
eq_bytes z a = 69 ∷ 81 ∷ (le16 z ++ le16 a)

abbrev pub ti_bytes : (a b : ℕ) → ℤ → List ℕ
ti_bytes a b c = 84 ∷ 73 ∷ (le16 a ++ le16 b ++ le32 c)

abbrev pub wk_bytes : (z g : ℕ) → List ℕ
wk_bytes z g = 87 ∷ 75 ∷ (le16 z ++ le16 g)

unfoldable pub ar_bytes : List ℕ → List ℕ
unfolding flat_map
ar_bytes gs = 65 ∷ 82 ∷ length gs ∷ flat_map le16 gs

abbrev pub lf_bytes : (g h : ℕ) → List ℕ
lf_bytes g h = 76 ∷ 70 ∷ (le16 g ++ le16 h)

abbrev pub su_bytes : (g h k : ℕ) → List ℕ
su_bytes g h k = 83 ∷ 85 ∷ (le16 g ++ le16 h ++ le16 k)

abbrev pub sd_bytes : (g h k : ℕ) → List ℕ
sd_bytes g h k = 83 ∷ 68 ∷ (le16 g ++ le16 h ++ le16 k)

abbrev pub op_bytes : List ℕ
op_bytes = 79 ∷ 80 ∷ []

abbrev pub wd_bytes : List ℕ
wd_bytes = 87 ∷ 68 ∷ []

-- ---- forms

-- f0 to f4: 3x − 2, x, 1 − x, −x and x − 1, each at most 0
abbrev pub f0 : Row
f0 = row (minus 2) (pos 3) (pos 0)

abbrev pub f1 : Row
f1 = row (pos 0) (pos 1) (pos 0)

abbrev pub f2 : Row
f2 = row (pos 1) (minus 1) (pos 0)

abbrev pub f3 : Row
f3 = row (pos 0) (minus 1) (pos 0)

abbrev pub f4 : Row
f4 = row (minus 1) (pos 1) (pos 0)

abbrev pub five : List (List ℕ)
five = map at_most_zero (f0 ∷ f1 ∷ f2 ∷ f3 ∷ f4 ∷ [])

-- and behind them
abbrev pub panel : List (List ℕ)
panel =
    five
    -- 5: x = 0
    ++ (equal_to_zero (row (pos 0) (pos 1) (pos 0))
    -- 6: x + 1 ≤ 0
    ∷ at_most_zero (row (pos 1) (pos 1) (pos 0))
    -- 7: 4 divides x
    ∷ divided_by 4 (row (pos 0) (pos 1) (pos 0))
    -- 8: 2 divides 2x − 2y − 1, which is odd
    ∷ divided_by 2 (row (minus 1) (pos 2) (minus 2))
    -- 9: 2 divides 2x − 2y − 4, which is even
    ∷ divided_by 2 (row (minus 4) (pos 2) (minus 2))
    -- 10: 3 divides x
    ∷ divided_by 3 (row (pos 0) (pos 1) (pos 0))
    -- 11: 0 = 0
    ∷ equal_to_zero (row (pos 0) (pos 0) (pos 0))
    -- 12: 1 ≤ 0
    ∷ at_most_zero (row (pos 1) (pos 0) (pos 0))
    ∷ [])

-- x is the socket of a lead, and sockets come in blocks of four
abbrev pub sockets : List (List ℕ)
sockets =
    -- 0: 1 divides x
    divided_by 1 (row (pos 0) (pos 1) (pos 0))
    -- 1 to 4: 4 divides x + 2, x, x + 3, x + 1
    ∷ divided_by 4 (row (pos 2) (pos 1) (pos 0))
    ∷ divided_by 4 (row (pos 0) (pos 1) (pos 0))
    ∷ divided_by 4 (row (pos 3) (pos 1) (pos 0))
    ∷ divided_by 4 (row (pos 1) (pos 1) (pos 0))
    -- 5 and 6: 12 divides x, 5 divides x
    ∷ divided_by 12 (row (pos 0) (pos 1) (pos 0))
    ∷ divided_by 5 (row (pos 0) (pos 1) (pos 0))
    -- 7: 12 divides 3x
    ∷ divided_by 12 (row (pos 0) (pos 3) (pos 0))
    -- 8: x = 0
    ∷ equal_to_zero (row (pos 0) (pos 1) (pos 0))
    -- 9: 4 divides x + 4
    ∷ divided_by 4 (row (pos 4) (pos 1) (pos 0))
    -- 10 and 11: 2 divides the two largest constants
    ∷ divided_by 2 (row (pos 999999999) (pos 0) (pos 0))
    ∷ divided_by 2 (row (pos 1000000000) (pos 0) (pos 0))
    -- 12 and 13: 1 divides 65,537, and 65,535 divides −1, which 65,535 times 65,537 is in 32 bits
    ∷ divided_by 1 (row (pos 65537) (pos 0) (pos 0))
    ∷ divided_by 65535 (row (minus 1) (pos 0) (pos 0))
    -- 14 and 15: 256 divides x and 257x; 257 times 256 is 256 in 16 bits
    ∷ divided_by 256 (row (pos 0) (pos 1) (pos 0))
    ∷ divided_by 256 (row (pos 0) (pos 257) (pos 0))
    -- 16 and 17: 255 divides x, and 65,535 divides 257x
    ∷ divided_by 255 (row (pos 0) (pos 1) (pos 0))
    ∷ divided_by 65535 (row (pos 0) (pos 257) (pos 0))
    ∷ []

-- x ≤ 0, so many times
abbrev pub forms : ℕ → List (List ℕ)
forms n = replicate n (at_most_zero f1)

-- the literals from one number up to another
abbrev pub literals : (from to : ℕ) → List ℕ
literals a b = up_to (b - a) (λ i. a + i)

-- x ≤ 0 or 1 ≤ x, line 0; not both 3x ≤ 2 and 1 ≤ x, line 1
abbrev pub two_lines : List (List ℕ)
two_lines = panel ++ (to_bytes 1 2 ∷ fk_bytes (term 0 (pos 1) ∷ term 2 (pos 3) ∷ []) ∷ [])

-- 3x − 2 ≤ 0 and 1 − x ≤ 0 are premises; that not both hold is derived, and resolved with each
abbrev pub sample : List ℕ
sample =
    at_most_zero f0
    ++ at_most_zero f2
    ++ pm_bytes (0 ∷ [])
    ++ pm_bytes (2 ∷ [])
    ++ fk_bytes (term 0 (pos 1) ∷ term 1 (pos 3) ∷ [])
    ++ rs_bytes 0 0 2
    ++ rs_bytes 1 1 3

-- ---- the examples

-- those that the specification marks with a star
abbrev pub starred : List Example
starred =
    after five
    -- 3x ≤ 2 gives x ≤ 0
    ((ti_bytes 0 1 (pos 3) gives makes_line 0 2 (1 ∷ 2 ∷ []))
    -- and x ≤ 1 as well, but that is not the tightest, and the rule gives no other
    ∷ (ti_bytes 0 4 (pos 3) gives refuses 11)
    -- 3x − 2 and three times 1 − x are 1 in sum, so they are not both at most 0
    ∷ (fk_bytes (term 0 (pos 1) ∷ term 2 (pos 3) ∷ []) gives makes_line 0 2 (1 ∷ 5 ∷ []))
    -- x and −x are 0 in sum, which is no contradiction
    ∷ (fk_bytes (term 1 (pos 1) ∷ term 3 (pos 1) ∷ []) gives refuses 11)
    -- x ≤ 0 or 1 ≤ x
    ∷ (to_bytes 1 2 gives makes_line 0 2 (2 ∷ 4 ∷ []))
    -- x is not 1 − x
    ∷ (to_bytes 1 1 gives refuses 11)
    ∷ (pm_bytes [] gives makes_line 0 1 [])
    ∷ [])
    -- the line of the totality and the one of the sum, resolved on 1 − x
    ∷ after two_lines ((rs_bytes 2 0 1 gives makes_line 2 2 (1 ∷ 2 ∷ [])) ∷ [])
    -- a line with both signs of the pivot, resolved with itself, is made again: each parent loses one of the signs
    ∷ after (five ++ (pm_bytes (0 ∷ 1 ∷ []) ∷ [])) ((rs_bytes 0 0 0 gives makes_line 1 2 (0 ∷ 1 ∷ [])) ∷ [])
    ∷ after panel
    -- 0 = 0, 1 ≤ 0 or 1 ≤ 0: the literal that is named twice stands there once
    ((tr_bytes 11 12 12 gives makes_line 0 2 (22 ∷ 24 ∷ []))
    ∷ (cl_bytes (term 8 (pos 1) ∷ []) gives makes_line 0 2 (17 ∷ []))
    ∷ (cl_bytes (term 9 (pos 1) ∷ []) gives refuses 11)
    ∷ [])
    -- a level that is withdrawn leaves nothing behind, and there is none to withdraw then
    ∷ after (five ++ (op_bytes ∷ pm_bytes (0 ∷ 3 ∷ []) ∷ [])) ((wd_bytes gives closes 0 five) ∷ [])
    ∷ after (five ++ (op_bytes ∷ pm_bytes (0 ∷ 3 ∷ []) ∷ wd_bytes ∷ [])) ((wd_bytes gives refuses 13) ∷ [])
    -- a premise may be false, and then refutes
    ∷ replays (pm_bytes []) (1 ∷ 3 ∷ 0 ∷ 1 ∷ 0 ∷ 0 ∷ 0 ∷ 0 ∷ [])
    ∷ replays sample (7 ∷ 155 ∷ 2 ∷ 5 ∷ 5 ∷ 0 ∷ 0 ∷ 4 ∷ [])
    ∷ replays [] (0 ∷ 0 ∷ 0 ∷ 0 ∷ 0 ∷ 0 ∷ 0 ∷ [])
    ∷ []

-- for each mark
abbrev pub by_mark : List Example
by_mark =
    after []
    -- fewer than two bytes
    (([] gives refuses 3)
    ∷ ((70 ∷ []) gives refuses 3)
    -- letters that are no mark
    ∷ ((88 ∷ 88 ∷ []) gives refuses 4)
    ∷ ((70 ∷ 70 ∷ 0 ∷ []) gives refuses 4)
    ∷ (divided_by 65535 (row (pos 1000000000) (minus 1000000000) (pos 7)) gives makes_form 0 (pos 3 ∷ pos 65535 ∷ row (pos 1000000000) (minus 1000000000) (pos 7)))
    ∷ (equal_to_zero (minus 1 ∷ up_to 12 (λ i. pos i)) gives makes_form 0 (pos 2 ∷ pos 0 ∷ minus 1 ∷ up_to 12 (λ i. pos i)))
    ∷ (at_most_zero f0 gives makes_form 0 (pos 1 ∷ pos 0 ∷ f0))
    -- a byte missing, a byte too many
    ∷ (take 56 (at_most_zero f0) gives refuses 3)
    ∷ ((at_most_zero f0 ++ (0 ∷ [])) gives refuses 3)
    -- kind, divisor, constant and coefficient
    ∷ (fm_bytes 0 0 f0 gives refuses 6)
    ∷ (fm_bytes 4 0 f0 gives refuses 6)
    ∷ (fm_bytes 1 1 f0 gives refuses 6)
    ∷ (fm_bytes 3 0 f0 gives refuses 6)
    ∷ (at_most_zero (row (pos 1000000001) (pos 0) (pos 0)) gives refuses 6)
    ∷ (at_most_zero (row (pos 0) (minus 1000000001) (pos 0)) gives refuses 6)
    ∷ [])
    ∷ after panel
    ((pm_bytes (0 ∷ 3 ∷ 25 ∷ []) gives makes_line 0 1 (0 ∷ 3 ∷ 25 ∷ []))
    ∷ ((80 ∷ 77 ∷ []) gives refuses 3)
    ∷ (take 6 (pm_bytes (0 ∷ 3 ∷ [])) gives refuses 3)
    ∷ ((pm_bytes (0 ∷ []) ++ (0 ∷ [])) gives refuses 3)
    ∷ (pm_bytes (literals 0 33) gives refuses 5)
    ∷ (pm_bytes (0 ∷ 26 ∷ []) gives refuses 8)
    ∷ (pm_bytes (26 ∷ 0 ∷ []) gives refuses 8)
    ∷ (pm_bytes (3 ∷ 0 ∷ []) gives refuses 9)
    ∷ (pm_bytes (3 ∷ 3 ∷ []) gives refuses 9)
    -- x + 1 ≤ 0 and x = 0: an equation may be taken a negative number of times
    ∷ (fk_bytes (term 5 (minus 1) ∷ term 6 (pos 1) ∷ []) gives makes_line 0 2 (11 ∷ 13 ∷ []))
    ∷ (fk_bytes (term 12 (pos 1000000) ∷ []) gives makes_line 0 2 (25 ∷ []))
    ∷ ((70 ∷ 75 ∷ []) gives refuses 3)
    ∷ (take 8 (fk_bytes (term 12 (pos 1) ∷ [])) gives refuses 3)
    ∷ (fk_bytes [] gives refuses 5)
    ∷ (fk_bytes (replicate 33 (term 12 (pos 1))) gives refuses 5)
    ∷ (fk_bytes (term 13 (pos 1) ∷ []) gives refuses 8)
    ∷ (fk_bytes (term 7 (pos 1) ∷ term 13 (pos 1) ∷ []) gives refuses 8)
    ∷ (fk_bytes (term 2 (pos 3) ∷ term 0 (pos 1) ∷ []) gives refuses 9)
    ∷ (fk_bytes (term 12 (pos 1) ∷ term 12 (pos 1) ∷ []) gives refuses 9)
    -- a divides form; at-most forms taken a negative number of times, never and too often; equations never and too often
    ∷ (fk_bytes (term 7 (pos 1) ∷ []) gives refuses 10)
    ∷ (fk_bytes (term 12 (minus 1) ∷ []) gives refuses 10)
    ∷ (fk_bytes (term 12 (pos 0) ∷ []) gives refuses 10)
    ∷ (fk_bytes (term 12 (pos 1000001) ∷ []) gives refuses 10)
    ∷ (fk_bytes (term 5 (pos 0) ∷ []) gives refuses 10)
    ∷ (fk_bytes (term 5 (minus 1000001) ∷ []) gives refuses 10)
    -- a coefficient is left, the constant is negative
    ∷ (fk_bytes (term 6 (pos 1) ∷ []) gives refuses 11)
    ∷ (fk_bytes (term 3 (pos 1) ∷ term 4 (pos 1) ∷ []) gives refuses 11)
    -- an odd number less three times an even one
    ∷ (cl_bytes (term 8 (pos 1) ∷ term 9 (minus 3) ∷ []) gives makes_line 0 2 (17 ∷ 19 ∷ []))
    ∷ ((67 ∷ 76 ∷ []) gives refuses 3)
    ∷ (take 8 (cl_bytes (term 8 (pos 1) ∷ [])) gives refuses 3)
    ∷ (cl_bytes [] gives refuses 5)
    ∷ (cl_bytes (replicate 33 (term 8 (pos 1))) gives refuses 5)
    ∷ (cl_bytes (term 13 (pos 1) ∷ []) gives refuses 8)
    ∷ (cl_bytes (term 9 (pos 1) ∷ term 8 (pos 1) ∷ []) gives refuses 9)
    ∷ (cl_bytes (term 8 (pos 1) ∷ term 8 (pos 1) ∷ []) gives refuses 9)
    -- a form of another kind, no multiple, too many, unequal divisors
    ∷ (cl_bytes (term 5 (pos 1) ∷ []) gives refuses 10)
    ∷ (cl_bytes (term 8 (pos 0) ∷ []) gives refuses 10)
    ∷ (cl_bytes (term 8 (pos 1000001) ∷ []) gives refuses 10)
    ∷ (cl_bytes (term 8 (pos 1) ∷ term 10 (pos 1) ∷ []) gives refuses 10)
    -- a coefficient is no multiple
    ∷ (cl_bytes (term 7 (pos 1) ∷ []) gives refuses 11)
    ∷ (to_bytes 2 1 gives makes_line 0 2 (2 ∷ 4 ∷ []))
    ∷ (take 5 (to_bytes 1 2) gives refuses 3)
    ∷ (to_bytes 13 2 gives refuses 8)
    ∷ (to_bytes 1 13 gives refuses 8)
    ∷ (to_bytes 5 2 gives refuses 10)
    ∷ (to_bytes 1 5 gives refuses 10)
    ∷ (to_bytes 1 4 gives refuses 11)
    ∷ (tr_bytes 5 6 2 gives makes_line 0 2 (4 ∷ 10 ∷ 12 ∷ []))
    ∷ (take 7 (tr_bytes 5 6 2) gives refuses 3)
    ∷ (tr_bytes 13 6 2 gives refuses 8)
    ∷ (tr_bytes 5 13 2 gives refuses 8)
    ∷ (tr_bytes 5 6 13 gives refuses 8)
    ∷ (tr_bytes 1 6 2 gives refuses 10)
    ∷ (tr_bytes 5 5 2 gives refuses 10)
    ∷ (tr_bytes 5 6 5 gives refuses 10)
    ∷ (tr_bytes 5 1 2 gives refuses 11)
    ∷ (tr_bytes 5 6 6 gives refuses 11)
    -- x ≤ 0 where x = 0, and −x ≤ 0 too
    ∷ (eq_bytes 5 1 gives makes_line 0 2 (2 ∷ 11 ∷ []))
    ∷ (eq_bytes 5 3 gives makes_line 0 2 (6 ∷ 11 ∷ []))
    ∷ (take 5 (eq_bytes 5 1) gives refuses 3)
    ∷ (eq_bytes 13 1 gives refuses 8)
    ∷ (eq_bytes 5 13 gives refuses 8)
    ∷ (eq_bytes 1 1 gives refuses 10)
    ∷ (eq_bytes 5 5 gives refuses 10)
    ∷ (eq_bytes 5 4 gives refuses 11)
    ∷ (ti_bytes 1 1 (pos 1) gives makes_line 0 2 (2 ∷ 3 ∷ []))
    ∷ (take 9 (ti_bytes 0 1 (pos 3)) gives refuses 3)
    ∷ (ti_bytes 13 1 (pos 3) gives refuses 8)
    ∷ (ti_bytes 0 13 (pos 3) gives refuses 8)
    ∷ (ti_bytes 5 1 (pos 1) gives refuses 10)
    ∷ (ti_bytes 1 5 (pos 1) gives refuses 10)
    ∷ (ti_bytes 12 12 (pos 1000001) gives refuses 10)
    ∷ (ti_bytes 0 1 (pos 0) gives refuses 10)
    ∷ (ti_bytes 0 1 (minus 3) gives refuses 10)
    -- another coefficient; 3x ≤ 2 does not give x ≤ −1; and a constant that is too large, by the largest number
    ∷ (ti_bytes 0 3 (pos 3) gives refuses 11)
    ∷ (ti_bytes 0 6 (pos 3) gives refuses 11)
    ∷ (ti_bytes 12 12 (pos 1000000) gives makes_line 0 2 (24 ∷ 25 ∷ []))
    ∷ (wk_bytes 5 7 gives makes_line 0 2 (11 ∷ 14 ∷ []))
    ∷ (take 5 (wk_bytes 5 7) gives refuses 3)
    ∷ (wk_bytes 13 7 gives refuses 8)
    ∷ (wk_bytes 5 13 gives refuses 8)
    ∷ (wk_bytes 7 7 gives refuses 10)
    ∷ (wk_bytes 5 1 gives refuses 10)
    ∷ (wk_bytes 5 8 gives refuses 11)
    ∷ [])
    ∷ after two_lines
    ((take 7 (rs_bytes 2 0 1) gives refuses 3)
    ∷ (rs_bytes 13 0 1 gives refuses 8)
    ∷ (rs_bytes 2 2 1 gives refuses 8)
    ∷ (rs_bytes 2 0 2 gives refuses 8)
    -- the first line lacks the pivot, the second lacks it negated
    ∷ (rs_bytes 0 0 1 gives refuses 11)
    ∷ (rs_bytes 1 0 1 gives refuses 11)
    ∷ (op_bytes gives opens 1)
    ∷ ((79 ∷ 80 ∷ 0 ∷ []) gives refuses 3)
    ∷ ((87 ∷ 68 ∷ 0 ∷ []) gives refuses 3)
    ∷ (wd_bytes gives refuses 13)
    ∷ [])
    -- 32 literals and 33
    ∷ after (forms 18 ++ (pm_bytes (0 ∷ literals 2 33) ∷ pm_bytes (1 ∷ 33 ∷ []) ∷ pm_bytes (1 ∷ 33 ∷ 34 ∷ []) ∷ []))
    ((rs_bytes 0 0 1 gives makes_line 3 2 (literals 2 34))
    ∷ (rs_bytes 0 0 2 gives refuses 12)
    ∷ [])
    ∷ after sockets
    -- whatever x is, 1 divides it; and 4 divides x, x + 1, x + 2 or x + 3, whose literals ascend
    ((ar_bytes (0 ∷ []) gives makes_line 0 2 (0 ∷ []))
    ∷ (ar_bytes (2 ∷ 4 ∷ 1 ∷ 3 ∷ []) gives makes_line 0 2 (2 ∷ 4 ∷ 6 ∷ 8 ∷ []))
    ∷ (ar_bytes (10 ∷ 11 ∷ []) gives makes_line 0 2 (20 ∷ 22 ∷ []))
    ∷ ((65 ∷ 82 ∷ []) gives refuses 3)
    ∷ (take 10 (ar_bytes (2 ∷ 4 ∷ 1 ∷ 3 ∷ [])) gives refuses 3)
    ∷ ((ar_bytes (0 ∷ []) ++ (0 ∷ [])) gives refuses 3)
    ∷ (ar_bytes [] gives refuses 5)
    ∷ (ar_bytes (replicate 33 0) gives refuses 5)
    ∷ (ar_bytes (18 ∷ []) gives refuses 8)
    ∷ (ar_bytes (8 ∷ 4 ∷ 1 ∷ 18 ∷ []) gives refuses 8)
    -- a form of another kind, another divisor, fewer forms than the divisor says
    ∷ (ar_bytes (2 ∷ 4 ∷ 1 ∷ 8 ∷ []) gives refuses 10)
    ∷ (ar_bytes (2 ∷ 4 ∷ 1 ∷ 5 ∷ []) gives refuses 10)
    ∷ (ar_bytes (2 ∷ 4 ∷ 1 ∷ []) gives refuses 10)
    -- x + 4 for x + 3, rows in another order, a form named twice, a constant that would be too large
    ∷ (ar_bytes (2 ∷ 4 ∷ 1 ∷ 9 ∷ []) gives refuses 11)
    ∷ (ar_bytes (4 ∷ 2 ∷ 1 ∷ 3 ∷ []) gives refuses 11)
    ∷ (ar_bytes (2 ∷ 4 ∷ 1 ∷ 1 ∷ []) gives refuses 11)
    ∷ (ar_bytes (11 ∷ 10 ∷ []) gives refuses 11)
    -- 12 divides x, so 4 does
    ∷ (lf_bytes 5 2 gives makes_line 0 2 (4 ∷ 11 ∷ []))
    ∷ (lf_bytes 2 2 gives makes_line 0 2 (4 ∷ 5 ∷ []))
    ∷ (take 5 (lf_bytes 5 2) gives refuses 3)
    ∷ (lf_bytes 18 2 gives refuses 8)
    ∷ (lf_bytes 5 18 gives refuses 8)
    ∷ (lf_bytes 8 2 gives refuses 10)
    ∷ (lf_bytes 5 8 gives refuses 10)
    -- 5 does not divide 12, nor 12 divide 4; and another row
    ∷ (lf_bytes 5 6 gives refuses 11)
    ∷ (lf_bytes 2 5 gives refuses 11)
    ∷ (lf_bytes 5 4 gives refuses 11)
    -- 12 divides 3x where 4 divides x, and the other way round
    ∷ (su_bytes 2 7 3 gives makes_line 0 2 (5 ∷ 14 ∷ []))
    ∷ (sd_bytes 2 7 3 gives makes_line 0 2 (4 ∷ 15 ∷ []))
    ∷ (su_bytes 16 17 257 gives makes_line 0 2 (33 ∷ 34 ∷ []))
    ∷ (sd_bytes 16 17 257 gives makes_line 0 2 (32 ∷ 35 ∷ []))
    ∷ (su_bytes 2 2 1 gives makes_line 0 2 (4 ∷ 5 ∷ []))
    ∷ (sd_bytes 2 2 1 gives makes_line 0 2 (4 ∷ 5 ∷ []))
    ∷ (take 7 (su_bytes 2 7 3) gives refuses 3)
    ∷ (take 7 (sd_bytes 2 7 3) gives refuses 3)
    ∷ (su_bytes 18 7 3 gives refuses 8)
    ∷ (su_bytes 2 18 3 gives refuses 8)
    ∷ (sd_bytes 18 7 3 gives refuses 8)
    ∷ (sd_bytes 2 18 3 gives refuses 8)
    ∷ (su_bytes 8 7 3 gives refuses 10)
    ∷ (su_bytes 2 8 3 gives refuses 10)
    ∷ (su_bytes 2 7 0 gives refuses 10)
    ∷ (sd_bytes 8 7 3 gives refuses 10)
    ∷ (sd_bytes 2 8 3 gives refuses 10)
    ∷ (sd_bytes 2 7 0 gives refuses 10)
    -- another factor, the forms the other way round, a row alone and a divisor alone that are so many times the other
    ∷ (su_bytes 2 7 2 gives refuses 11)
    ∷ (sd_bytes 2 7 2 gives refuses 11)
    ∷ (su_bytes 7 2 3 gives refuses 11)
    ∷ (sd_bytes 7 2 3 gives refuses 11)
    ∷ (su_bytes 5 7 3 gives refuses 11)
    ∷ (su_bytes 2 5 3 gives refuses 11)
    -- products that would be right if they wrapped
    ∷ (su_bytes 12 13 65535 gives refuses 11)
    ∷ (su_bytes 14 15 257 gives refuses 11)
    ∷ [])
    -- 32 forms, written from the last to the first
    ∷ after (up_to 32 (λ i. divided_by 32 (row (pos (31 - i)) (pos 1) (pos 0))))
    ((ar_bytes (up_to 32 (λ i. 31 - i)) gives makes_line 0 2 (up_to 32 (λ i. i + i)))
    ∷ [])
    -- levels in levels
    ∷ after (two_lines ++ (op_bytes ∷ pm_bytes [] ∷ op_bytes ∷ []))
    ((op_bytes gives opens 3)
    ∷ (wd_bytes gives closes 1 (two_lines ++ (op_bytes ∷ pm_bytes [] ∷ [])))
    ∷ [])
    ∷ []

-- where there is no room
abbrev pub full : List Example
full =
    after (forms 255)
    ((at_most_zero f1 gives makes_form 255 (pos 1 ∷ pos 0 ∷ f1))
    ∷ [])
    ∷ after (forms 256)
    ((at_most_zero f1 gives refuses 7)
    ∷ (pm_bytes (511 ∷ []) gives makes_line 0 1 (511 ∷ []))
    ∷ [])
    -- 511 lines, and 512
    ∷ after (two_lines ++ replicate 509 (pm_bytes []))
    ((to_bytes 1 2 gives makes_line 511 2 (2 ∷ 4 ∷ []))
    ∷ [])
    ∷ after (two_lines ++ replicate 510 (pm_bytes []))
    ((pm_bytes [] gives refuses 7)
    ∷ (rs_bytes 2 0 1 gives refuses 7)
    ∷ (fk_bytes (term 12 (pos 1) ∷ []) gives refuses 7)
    ∷ (to_bytes 1 2 gives refuses 7)
    ∷ (tr_bytes 5 6 2 gives refuses 7)
    ∷ (eq_bytes 5 1 gives refuses 7)
    ∷ (ti_bytes 0 1 (pos 3) gives refuses 7)
    ∷ (wk_bytes 5 7 gives refuses 7)
    ∷ (cl_bytes (term 8 (pos 1) ∷ []) gives refuses 7)
    ∷ (op_bytes gives opens 1)
    ∷ [])
    ∷ after (sockets ++ replicate 512 (pm_bytes []))
    ((ar_bytes (0 ∷ []) gives refuses 7)
    ∷ (lf_bytes 5 2 gives refuses 7)
    ∷ (su_bytes 2 7 3 gives refuses 7)
    ∷ (sd_bytes 2 7 3 gives refuses 7)
    ∷ [])
    -- 4,095 literals, and 4,096
    ∷ after (forms 16 ++ replicate 127 (pm_bytes (literals 0 32)) ++ (pm_bytes (literals 0 31) ∷ []))
    ((pm_bytes (31 ∷ []) gives makes_line 128 1 (31 ∷ []))
    ∷ (pm_bytes (30 ∷ 31 ∷ []) gives refuses 7)
    ∷ [])
    ∷ after (forms 16 ++ replicate 128 (pm_bytes (literals 0 32)))
    ((pm_bytes [] gives makes_line 128 1 [])
    ∷ (pm_bytes (0 ∷ []) gives refuses 7)
    ∷ [])
    -- seven levels, and eight
    ∷ after (replicate 7 op_bytes)
    ((op_bytes gives opens 8)
    ∷ [])
    ∷ after (replicate 8 op_bytes)
    ((op_bytes gives refuses 7)
    ∷ (wd_bytes gives closes 7 (replicate 7 op_bytes))
    ∷ [])
    ∷ []

-- proof files that stop
abbrev pub stopped : List Example
stopped =
    -- inside a record, at a bad one, at letters that are no mark
    replays (op_bytes ++ take 4 (pm_bytes (0 ∷ []))) (1 ∷ 2 ∷ 0 ∷ 0 ∷ 0 ∷ 1 ∷ 3 ∷ [])
    ∷ replays (pm_bytes [] ++ wd_bytes ++ op_bytes) (1 ∷ 3 ∷ 0 ∷ 1 ∷ 0 ∷ 0 ∷ 13 ∷ 0 ∷ [])
    ∷ replays (op_bytes ++ (1 ∷ 2 ∷ op_bytes)) (1 ∷ 2 ∷ 0 ∷ 0 ∷ 0 ∷ 1 ∷ 4 ∷ [])
    ∷ replays (fk_bytes []) (0 ∷ 0 ∷ 0 ∷ 0 ∷ 0 ∷ 0 ∷ 5 ∷ [])
    ∷ []

abbrev pub examples : List Example
examples = starred ++ by_mark ++ full ++ stopped

pub all_hold : T (all holds examples)
unfolding holds fm_bytes pm_bytes fk_bytes cl_bytes ar_bytes flat_map legal legal_multiplier tightens farkas clash neighbours_from neighbours loosens scales summed_onto up_to
all_hold = tt
