-- The examples of the ledger on session and cells: what feed, run and standing are expected to give for each, from a start on.
use Rattle.std.specs.Prelude.{◌≡◌, ◌⊎◌, List, [], ◌∷◌, map, ℕ, ◌+◌, ◌*◌, length}
use Rattle.rows.specs.Limits.{unknowns}
use Rattle.ledger.specs.Record.{accepted, refused, form, line, level}
use Rattle.ledger.specs.Apply.{pass}
use Rattle.ledger.specs.Standing.{refuted, not_refuted}
use Rattle.ledger.specs.Examples.{Expected, refuses, makes_form, makes_line, opens, closes, Try, Example, after, replays}
use Rattle.session.specs.Cells.{Tables, tables}
use Rattle.session.specs.Effects.{written, with_form, with_line, with_level}
use Rattle.session.specs.Calls.{entry, Stands, stands, no_standing, standing}
use Rattle.session.specs.Examples as Damaged
use Rattle.laid.specs.Result.{Result, unchanged}
use Rattle.checker.specs.Feed.{feed}
use Rattle.stream.specs.Run.{Totals, totals, run}
use Rattle.demands.specs.History.{fed, State, begun, called_all, EachAccepted}

-- the answer, the session and every cell that are expected of a record fed to s, where t was lent to the start: a form has 15 cells, a line 2
abbrev pub hoped_cells : Tables → State → Expected → Result
hoped_cells t s (refuses k) = record { answer = refused k; session = s.session; tables = s.tables }
hoped_cells t s (makes_form k cells) =
    record {
      answer = accepted (form k);
      session = with_form s.session;
      tables = tables (written (15 * s.session.forms) cells s.tables.forms) s.tables.pool s.tables.lines;
    }
hoped_cells t s (makes_line k o xs) =
    let end = s.session.literals + length xs in
    record {
      answer = accepted (line k);
      session = with_line s.session (length xs);
      tables =
          tables s.tables.forms (written s.session.literals xs s.tables.pool)
          (written (2 * s.session.lines) (end ∷ o ∷ []) s.tables.lines);
    }
hoped_cells t s (opens k) = record { answer = accepted (level k); session = with_level s.session; tables = s.tables }
hoped_cells t s (closes k bs) =
    let then = called_all unknowns (begun unknowns t) (map fed bs) in
    record { answer = accepted (level k); session = then.session; tables = then.tables }

abbrev pub AllMeet : Tables → State → List Try → Type 0
AllMeet t s [] = Unit {0}
AllMeet t s (x ∷ xs) = (feed unknowns s.session s.tables x.bytes ≡ hoped_cells t s x.expected) × AllMeet t s xs

abbrev pub refuted_line : Stands → List ℕ
refuted_line (stands (refuted i)) = i ∷ []
refuted_line (stands not_refuted) = []
refuted_line (no_standing k) = []

-- the numbers in the order in which they are printed
abbrev pub printed : Totals → List ℕ
printed r =
    r.records
    ∷ r.bytes
    ∷ r.session.forms
    ∷ r.session.lines
    ∷ r.session.literals
    ∷ r.session.«open»
    ∷ r.stop
    ∷ refuted_line (standing unknowns r.session r.tables)

abbrev pub HoldsOnCells : Tables → Example → Type 0
HoldsOnCells t (after bs ts) =
    EachAccepted unknowns (begun unknowns t) bs × AllMeet t (called_all unknowns (begun unknowns t) (map fed bs)) ts
HoldsOnCells t (replays file numbers) = printed (run unknowns (begun unknowns t).session (begun unknowns t).tables file) ≡ numbers

abbrev pub AllHoldOnCells : Tables → List Example → Type 0
AllHoldOnCells t [] = Unit {0}
AllHoldOnCells t (e ∷ es) = HoldsOnCells t e × AllHoldOnCells t es

-- ---- sessions and tables out of order

-- every call on it is refused with the number, whatever the bytes are, and changes nothing
abbrev pub Refuses : Damaged.Example → Type 0
Refuses e =
    (b : List ℕ)
    → (feed unknowns e.session e.tables b ≡ unchanged e.number e.session e.tables)
    × (run unknowns e.session e.tables b ≡ totals 0 0 e.number e.session e.tables)
    × (standing unknowns e.session e.tables ≡ no_standing e.number)

-- or it is in order, where the number is 0
abbrev pub AllJudged : List Damaged.Example → Type 0
AllJudged [] = Unit {0}
AllJudged (e ∷ es) = (((e.number ≡ 0) × (entry unknowns e.session e.tables ≡ pass)) ⊎ Refuses e) × AllJudged es
