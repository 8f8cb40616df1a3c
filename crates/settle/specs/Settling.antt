-- What settling a proposal does on tables that are cut to their named cells and in order: the answer, the session and every cell afterwards.
use Rattle.std.specs.Prelude.{◌≡◌, List, ℕ, ◌≤◌, ◌<◌, ℤ, length, set, Result, Ok, Err}
use Rattle.rows.specs.Form.{form_of}
use Rattle.ledger.specs.Limits.{most_literals, most_levels}
use Rattle.ledger.specs.Ledger.{Line, new_form, new_line}
use Rattle.ledger.specs.Record.{Answer, accepted, refused, level}
use Rattle.ledger.specs.Apply.{Outcome}
use Rattle.ledger.specs.Settles.{stored, Proposal, settles}
use Rattle.session.specs.declared.state.Session.{Session}
use Rattle.session.specs.Limits.{pool_table, line_table}
use Rattle.session.specs.Cells.{Tables, tables, counts_of, ledger_of}
use Rattle.session.specs.Effects.{last_mark}
use Rattle.session.specs.declared.state.Mark.{Mark}
use Rattle.session.specs.declared.answers.Refusal.{Refusal}
use Rattle.session.specs.Answers.{number_of, made_of}
use Rattle.laid.specs.Result as laid
use Rattle.laid.specs.Result.{settled}
use Rattle.laid.specs.Held.{Held}
use Rattle.settle.specs.declared.Change.{Change}
use Rattle.settle.specs.declared.Change.TheVariants.{Adds, Moves}
use Rattle.settle.specs.declared.Levels.{Levels}
use Rattle.settle.specs.declared.Top.{Top}

-- ---- what the code gives, in these terms

abbrev pub with_counts : Session → Mark → Session
with_counts s m = record { forms = m.forms; lines = m.lines; literals = m.literals; «open» = s.«open»; marks = s.marks }

abbrev pub with_levels : Session → Levels → Session
with_levels s to =
    record {
      forms = to.counts.forms;
      lines = to.counts.lines;
      literals = to.counts.literals;
      «open» = to.«open»;
      marks = set s.marks to.at to.mark;
    }

-- a refusal changes nothing
abbrev pub after : Session → Result Change Refusal → Session
after s (Err why) = s
after s (Ok (Adds made m)) = with_counts s m
after s (Ok (Moves to)) = with_levels s to

abbrev pub answer_by : Result Change Refusal → Answer
answer_by (Err why) = refused (number_of why)
answer_by (Ok (Adds made m)) = accepted (made_of made)
answer_by (Ok (Moves to)) = accepted (level to.«open»)

-- a mark that changes is one of the session's
abbrev pub InPlace : Result Change Refusal → Type 0
InPlace (Err why) = Unit {0}
InPlace (Ok (Adds made m)) = Unit {0}
InPlace (Ok (Moves to)) = to.at < most_levels

abbrev pub result_by : Session → Result Change Refusal → Tables → laid.Result
result_by s c t = record { answer = answer_by c; session = after s c; tables = t }

-- the change, with the cells t', is this outcome
pub record Gives (n : ℕ) (s : Session) (t : Tables) (o : Outcome) (c : Result Change Refusal) (t' : Tables) : Type 0 where
  pub result : result_by s c t' ≡ settled n s t o
  pub place : InPlace c

-- ---- what is seen of a session

abbrev pub top_of : Session → Top
top_of s = record { counts = counts_of s; «open» = s.«open»; last = last_mark s }

-- it is the top of a session that is held with these tables
pub record Seen (n : ℕ) (top : Top) (t : Tables) : Type 0 where
  pub session : Session
  pub seen : top_of session ≡ top
  pub held : Held n session t

-- the change settles the proposal, on whichever session has this top
abbrev pub Settles : ℕ → Top → Tables → Proposal → Result Change Refusal → Tables → Type 0
Settles n top t p c t' = (s : Session) → top_of s ≡ top → Held n s t → Gives n s t (settles (ledger_of n s t) p) c t'

-- ---- the parts: each says what it does beside any cells that it does not see

abbrev pub KeepsForm : ℕ → Top → List ℤ → List ℤ → Result Change Refusal → List ℤ → Type 0
KeepsForm n top fs cells c fs' =
    (ps ls : List ℕ) (s : Session) → let t = tables fs ps ls in
    top_of s ≡ top → Held n s t → Gives n s t (stored (ledger_of n s t) (new_form (form_of cells))) c (tables fs' ps ls)

abbrev pub KeepsLine : ℕ → Top → List ℕ → List ℕ → Line → Result Change Refusal → List ℕ → List ℕ → Type 0
KeepsLine n top ps ls x c ps' ls' =
    (fs : List ℤ) (s : Session) → let t = tables fs ps ls in
    top_of s ≡ top → Held n s t → Gives n s t (stored (ledger_of n s t) (new_line x)) c (tables fs ps' ls')

-- the tables of lines have room for the literals that are counted
pub record LineTables (top : Top) (ps ls : List ℕ) : Type 0 where
  pub pool : length ps ≡ pool_table
  pub table : length ls ≡ line_table
  pub few : top.counts.literals ≤ most_literals
