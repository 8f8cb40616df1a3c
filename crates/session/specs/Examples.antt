-- Sessions and tables in order and out of it, as one list: one for each clause of what in order means, and for each table that is too short. One claim,
-- closed by computing, says that they are found so; and two say which counts pass.
use Rattle.std.specs.Prelude.{Bool, not, ℕ, ◌+◌, ◌*◌, ◌-◌, T, eqb, ℤ, pos, negsuc, length, take, set, get_or, replicate}
use mathlib.Core.List.{List, [], ◌∷◌, ◌++◌, flat_map}
use Rattle.ints.specs.Tests.{up_to, all}
use Rattle.rows.specs.Limits.{unknowns}
use Rattle.rows.specs.Form.{legal}
use Rattle.ledger.specs.Apply.{Finding, pass, fail, finding}
use Rattle.session.specs.declared.state.Mark.{Mark}
use Rattle.session.specs.declared.state.Session.{Session}
use Rattle.session.specs.declared.answers.Refusal.{Refusal}
use Rattle.session.specs.declared.answers.Refusal.TheVariants.{ShortTable, NotInOrder, WrongLength, UnknownMark, CountOutside, IllegalContent, NoRoom, NotInForce, NotAscending, NotAllowed, ConditionFails, LineTooLong, NoLevelOpen}
use Rattle.session.specs.Answers.{number_of}
use Rattle.session.specs.Cells.{Tables, tables, fresh_session}
use Rattle.session.specs.InOrder.{all_below, not_above, sizes, order}
use Rattle.session.specs.Calls.{entry, zero_tables}

-- a session and its tables, and 0 where they are in order, or else the number of the refusal
pub record Example : Type 0 where
  pub session : Session
  pub tables : Tables
  pub number : ℕ

abbrev pub is_found : ℕ → Finding → Bool
is_found k pass = eqb k 0
is_found k (fail j) = eqb k j

unfoldable pub holds : Example → Bool
unfolding finding sizes order
holds e = is_found e.number (entry unknowns e.session e.tables)

-- ---- a session of two forms, three lines and one level

abbrev pub mark : (forms lines literals : ℕ) → Mark
mark f n l = record { forms = f; lines = n; literals = l }

-- the counts, and the marks of the open levels
abbrev pub session : (forms lines literals : ℕ) → List Mark → Session
session f n l ms = record { forms = f; lines = n; literals = l; «open» = length ms; marks = ms ++ replicate (8 - length ms) (mark 0 0 0) }

-- the cells in use, and then 0
abbrev pub cells : List ℤ → List ℕ → List ℕ → Tables
cells f p l = tables (f ++ replicate (3840 - length f) (pos 0)) (p ++ replicate (4096 - length p) 0) (l ++ replicate (1024 - length l) 0)

-- x at most 0
abbrev pub at_most_zero : List ℤ
at_most_zero = pos 1 ∷ pos 0 ∷ pos 0 ∷ pos 1 ∷ replicate 11 (pos 0)

-- 2 divides 2x − 1
abbrev pub two_divides : List ℤ
two_divides = pos 3 ∷ pos 2 ∷ negsuc 0 ∷ pos 2 ∷ replicate 11 (pos 0)

abbrev pub two_forms : List ℤ
two_forms = at_most_zero ++ two_divides

-- a premise of two literals, a derived line of one, and an empty premise
abbrev pub literals : List ℕ
literals = 0 ∷ 3 ∷ 2 ∷ []

abbrev pub lines : List ℕ
lines = 2 ∷ 1 ∷ 3 ∷ 2 ∷ 3 ∷ 1 ∷ []

-- the level was opened behind the first line
abbrev pub counts : Session
counts = session 2 3 3 (mark 2 1 2 ∷ [])

abbrev pub whole : Tables
whole = cells two_forms literals lines

-- ---- the examples

abbrev pub fits : Session → Tables → Example
fits s t = record { session = s; tables = t; number = 0 }

abbrev pub fails : Session → Tables → Example
fails s t = record { session = s; tables = t; number = 2 }

abbrev pub short : Tables → Example
short t = record { session = counts; tables = t; number = 1 }

-- 17 forms, and so many lines of so many literals, each from 0 on
abbrev pub many : (count each : ℕ) → Tables
many n k =
    cells (flat_map (λ f. f) (replicate 17 at_most_zero)) (flat_map (λ i. up_to k (λ j. j)) (up_to n (λ i. i)))
    (flat_map (λ i. (k * i + k) ∷ 1 ∷ []) (up_to n (λ i. i)))

abbrev pub examples : List Example
examples =
    fits counts whole
    -- what a start gives
    ∷ fits fresh_session (zero_tables unknowns)
    -- a table too short, and tables that are longer, with anything in what is longer
    ∷ short (tables (take 3839 whole.forms) whole.pool whole.lines)
    ∷ short (tables whole.forms (take 4095 whole.pool) whole.lines)
    ∷ short (tables whole.forms whole.pool (take 1023 whole.lines))
    ∷ fits counts (tables (whole.forms ++ (pos 7 ∷ [])) (whole.pool ++ (7 ∷ [])) (whole.lines ++ (7 ∷ [])))
    -- counts beyond their limits
    ∷ fails (session 257 0 0 []) (cells [] [] [])
    ∷ fails (session 0 513 0 []) (cells [] [] [])
    ∷ fails (session 0 0 4097 []) (cells [] [] [])
    ∷ fails (session 0 0 0 (replicate 9 (mark 0 0 0))) (cells [] [] [])
    -- a form of no kind
    ∷ fails counts (cells (set two_forms 15 (pos 4)) literals lines)
    -- ends that fall; that rise by 33; the last is not the literal count
    ∷ fails (session 2 3 1 []) (cells two_forms (0 ∷ []) (1 ∷ 1 ∷ 0 ∷ 1 ∷ 1 ∷ 1 ∷ []))
    ∷ fails (session 17 1 33 []) (many 1 33)
    ∷ fails (session 2 3 2 []) (cells two_forms literals lines)
    ∷ fails (session 2 0 1 []) (cells two_forms (0 ∷ []) [])
    -- an origin that is none
    ∷ fails counts (cells two_forms literals (set lines 1 0))
    ∷ fails counts (cells two_forms literals (set lines 3 3))
    -- literals that do not ascend, and that name no form
    ∷ fails counts (cells two_forms (3 ∷ 0 ∷ 2 ∷ []) lines)
    ∷ fails counts (cells two_forms (3 ∷ 3 ∷ 2 ∷ []) lines)
    ∷ fails counts (cells two_forms (0 ∷ 3 ∷ 4 ∷ []) lines)
    -- marks that rise; that fall, in each count; that exceed the counts
    ∷ fits (session 2 3 3 (mark 1 0 0 ∷ mark 2 1 2 ∷ mark 2 3 3 ∷ [])) whole
    ∷ fails (session 2 3 3 (mark 2 1 2 ∷ mark 1 1 2 ∷ [])) (cells two_forms (0 ∷ 1 ∷ 2 ∷ []) lines)
    ∷ fails (session 2 3 3 (mark 2 3 3 ∷ mark 2 2 3 ∷ [])) whole
    ∷ fails (session 2 3 3 (mark 2 2 3 ∷ mark 2 3 2 ∷ [])) whole
    ∷ fails (session 2 3 3 (mark 3 1 2 ∷ [])) whole
    ∷ fails (session 2 2 3 (mark 2 3 3 ∷ [])) (cells two_forms literals (take 4 lines))
    -- a mark's literal count is not the end of the line before it
    ∷ fails (session 2 3 3 (mark 2 1 1 ∷ [])) whole
    ∷ fails (session 2 3 3 (mark 2 0 1 ∷ [])) whole
    -- a line below a mark names a form that is not
    ∷ fails (session 2 3 3 (mark 1 1 2 ∷ [])) whole
    -- cells and marks above the counts
    ∷ fails counts (cells (two_forms ++ (pos 1 ∷ [])) literals lines)
    ∷ fails counts (cells two_forms (literals ++ (1 ∷ [])) lines)
    ∷ fails counts (cells two_forms literals (lines ++ (1 ∷ [])))
    ∷ fails (record { forms = 2; lines = 3; literals = 3; «open» = 0; marks = mark 1 0 0 ∷ replicate 7 (mark 0 0 0) }) whole
    ∷ fails (record { forms = 2; lines = 3; literals = 3; «open» = 0; marks = mark 0 1 0 ∷ replicate 7 (mark 0 0 0) }) whole
    ∷ fails (record { forms = 2; lines = 3; literals = 3; «open» = 0; marks = replicate 7 (mark 0 0 0) ++ (mark 0 0 1 ∷ []) }) whole
    ∷ []

abbrev pub refusals : List Refusal
refusals =
    ShortTable
    ∷ NotInOrder
    ∷ WrongLength
    ∷ UnknownMark
    ∷ CountOutside
    ∷ IllegalContent
    ∷ NoRoom
    ∷ NotInForce
    ∷ NotAscending
    ∷ NotAllowed
    ∷ ConditionFails
    ∷ LineTooLong
    ∷ NoLevelOpen
    ∷ []

-- ---- what is found

pub all_hold : T (all holds examples)
unfolding holds all_below not_above legal flat_map up_to
all_hold = tt

-- the first four tests ask of the counts that they are within their limits: at these they pass, and one beyond they fail

pub at_limits : T (all (λ c. c.passes) (take 4 (order unknowns (session 256 512 4096 (replicate 8 (mark 0 0 0))) whole)))
unfolding order
at_limits = tt

pub beyond_limits : T (all (λ c. not c.passes) (take 4 (order unknowns (session 257 513 4097 (replicate 9 (mark 0 0 0))) whole)))
unfolding order
beyond_limits = tt

-- the refusals in the order of their numbers
pub numbers : T (all (λ k. eqb (number_of (get_or refusals k ShortTable)) (k + 1)) (up_to 13 (λ i. i)))
unfolding up_to
numbers = tt
