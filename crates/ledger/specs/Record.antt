-- Records with their fields, the marks that they bear, and what is answered.
use Rattle.std.specs.Prelude.{Bool, true, false, List, [], ◌∷◌, ◌++◌, map, ℕ, ◌+◌, ℤ}
use Rattle.rows.specs.Limits.{most_terms}
use Rattle.rows.specs.Form.{Form}
use Rattle.rows.specs.Sum.{Term}
use Rattle.ledger.specs.Limits.{longest_line}

-- the records that make a form or a line
pub data Rule : Type 0 where
  FM : Form → Rule
  PM : List ℕ → Rule
  RS : (pivot first second : ℕ) → Rule
  FK : List Term → Rule
  TO : (a b : ℕ) → Rule
  TR : (z u v : ℕ) → Rule
  EQ : (z a : ℕ) → Rule
  TI : (a b : ℕ) (c : ℤ) → Rule
  WK : (z g : ℕ) → Rule
  CL : List Term → Rule
  AR : List ℕ → Rule
  LF : (g h : ℕ) → Rule
  SU : (g h k : ℕ) → Rule
  SD : (g h k : ℕ) → Rule

pub data Record : Type 0 where
  make : Rule → Record
  OP : Record
  WD : Record

-- ---- the answer: what was made, or the number of the refusal

-- a form or a line by its number, or the count of open levels
pub data Made : Type 0 where
  form : ℕ → Made
  line : ℕ → Made
  level : ℕ → Made

pub data Answer : Type 0 where
  accepted : Made → Answer
  refused : ℕ → Answer

abbrev pub is_accepted : Answer → Type 0
is_accepted (accepted m) = Unit {0}
is_accepted (refused n) = ⊥

-- ---- marks: how records of each look in bytes

-- the marks of the rules
pub data RuleMark : Type 0 where
  fm pm rs fk to tr eq ti wk cl ar lf su sd : RuleMark

pub data RecordMark : Type 0 where
  of_rule : RuleMark → RecordMark
  op wd : RecordMark

-- two letters; a count with its place and its range, or none; and the bytes: all of them at count 0, and how many more for each that is counted
pub record Layout : Type 0 where
  pub first : ℕ
  pub second : ℕ
  pub counted : Bool
  pub place : ℕ
  pub least : ℕ
  pub most : ℕ
  pub bytes : ℕ
  pub each : ℕ

abbrev pub fixed : ℕ → ℕ → ℕ → Layout
fixed a b n = record { first = a; second = b; counted = false; place = 0; least = 0; most = 0; bytes = n; each = 0 }

-- what is counted stands right behind the count
abbrev pub counting : ℕ → ℕ → ℕ → ℕ → ℕ → ℕ → Layout
counting a b place least most each =
    record { first = a; second = b; counted = true; place = place; least = least; most = most; bytes = place + 1; each = each }

-- the place right behind the two letters
abbrev pub behind_letters : ℕ
behind_letters = 2

-- the letters by their ASCII numbers
abbrev pub rule_layout : RuleMark → Layout
rule_layout fm = fixed 70 77 57
rule_layout pm = counting 80 77 behind_letters 0 longest_line 2
rule_layout rs = fixed 82 83 8
rule_layout fk = counting 70 75 behind_letters 1 most_terms 6
rule_layout to = fixed 84 79 6
rule_layout tr = fixed 84 82 8
rule_layout eq = fixed 69 81 6
rule_layout ti = fixed 84 73 10
rule_layout wk = fixed 87 75 6
rule_layout cl = counting 67 76 behind_letters 1 most_terms 6
rule_layout ar = counting 65 82 behind_letters 1 longest_line 2
rule_layout lf = fixed 76 70 6
rule_layout su = fixed 83 85 8
rule_layout sd = fixed 83 68 8

abbrev pub layout : RecordMark → Layout
layout (of_rule m) = rule_layout m
layout op = fixed 79 80 2
layout wd = fixed 87 68 2

abbrev pub rule_marks : List RuleMark
rule_marks = fm ∷ pm ∷ rs ∷ fk ∷ to ∷ tr ∷ eq ∷ ti ∷ wk ∷ cl ∷ ar ∷ lf ∷ su ∷ sd ∷ []

abbrev pub marks : List RecordMark
marks = map of_rule rule_marks ++ (op ∷ wd ∷ [])
