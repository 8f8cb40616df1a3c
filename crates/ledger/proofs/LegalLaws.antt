-- Every accepted record of good shape keeps a ledger legal, so that every history of bytes leaves a legal one.
use mathlib.Core.Path.{◌≡◌}
use mathlib.Core.Bool.{and-true}
use mathlib.Core.List.{List, [], ◌∷◌, ◌++◌}
use Prim.Native.Nat.{ℕ, zero, suc, ◌+◌, ◌≤◌, ◌<◌}
use native.Mathlib.Decide.{dec_lt}
use native.Mathlib.Omega.{arith}
use lib.Dec.{T, ltb→lt, lt→ltb, leb→le}
use lib.ListN.{length, take, get_or, length-append, get_or-append}
use lib.Seq.{get_or_at, get_or-take, length-take-le, take-length, take-append-le}
use Rattle.ints.specs.Tests.{all}
use Rattle.ints.proofs.Bools.{and_T}
use Rattle.ints.proofs.Lists.{all_at, all_append, all_take, all_implies}
use Rattle.rows.specs.Form.{Form, legal}
use Rattle.ledger.specs.Limits.{most_forms, most_lines, most_literals, most_levels}
use Rattle.ledger.specs.Literals.{below}
use Rattle.ledger.specs.Ledger.{Line, Mark, Ledger, fresh, no_line, literal_count}
use Rattle.ledger.specs.Ledger.{New, new_form, new_line, add, opened, back_to, withdrawn}
use Rattle.ledger.specs.Record.{Record, make, OP, WD}
use Rattle.ledger.specs.Checks.{makes, tests, room, checks, Passed}
use Rattle.ledger.specs.Apply.{done, apply}
use Rattle.ledger.specs.Bytes.{shape, decode, apply_bytes}
use Rattle.ledger.specs.History.{after_bytes}
use Rattle.ledger.specs.Legal.{line_below, LegalLine, MarksIn, Named, Legal}
use Rattle.ledger.proofs.Findings.{passed_front, passed_back, judged_keeps, apply_keeps}
use Rattle.ledger.proofs.Withdrawal.{marked_add, marked_done}
use Rattle.ledger.proofs.RuleLaws.{Brought, brought, LegalNew, owed}

pub literals_append : (ls ks : List Line) → literal_count (ls ++ ks) ≡ literal_count ls + literal_count ks
literals_append [] ks = omega arith
literals_append (x ∷ ls) ks = omega (arith, literals_append ls ks)

pub literals_take : (n : ℕ) (ls : List Line) → literal_count (take n ls) ≤ literal_count ls
literals_take zero ls = omega arith
literals_take (suc n) [] = omega arith
literals_take (suc n) (x ∷ ls) = omega (arith, literals_take n ls)

-- ---- the forms that lines name

pub named_all : (n : ℕ) (ls : List Line) (ms : List Mark) → Named n ls ms → T (all (line_below n) ls)
named_all n ls [] h = h
named_all n ls (m ∷ ms) h = h.0

pub below_more : (n m : ℕ) → n ≤ m → (x : Line) → T (line_below n x) → T (line_below m x)
below_more n m h x = all_implies (below n) (below m) (λ y t. omega (arith, ltb→lt, lt→ltb)) x.literals

names_more : (n m : ℕ) → n ≤ m → (ls : List Line) → T (all (line_below n) ls) → T (all (line_below m) ls)
names_more n m h = all_implies (line_below n) (line_below m) (below_more n m h)

pub named_more : (n m : ℕ) (ls : List Line) (ms : List Mark) → n ≤ m → Named n ls ms → Named m ls ms
named_more n m ls [] h t = names_more n m h ls t
named_more n m ls (_ ∷ _) h t = (names_more n m h ls t.0, t.1)

pub named_line : (n : ℕ) (ls : List Line) (x : Line) (ms : List Mark) (f : ℕ) → MarksIn f (length ls) ms → Named n ls ms → T (line_below n x)
    → Named n (ls ++ (x ∷ [])) ms
named_line n ls x [] f k t u = simp (all_append, and-true) (and_T (all (line_below n) ls) (line_below n x) t u)
named_line n ls x (m ∷ ms) f k t u = (
  simp (all_append, and-true) (and_T (all (line_below n) ls) (line_below n x) t.0 u),
  rw (take-append-le m.lines ls (x ∷ []) k.1) t.1,
)

-- ---- one form or line more

each_more : {A : Type 0} (P : A → Type 0) (xs : List A) (x d : A) → ((i : ℕ) → i < length xs → P (get_or xs i d)) → P x
    → (i : ℕ) → i < length (xs ++ (x ∷ [])) → P (get_or (xs ++ (x ∷ [])) i d)
each_more P xs x d f p i h =
    elim (dec_lt i (length xs)) [
      | yes q ↦ rw (get_or-append xs (x ∷ []) d i q) (f i q)
      | no q ↦ rw (get_or_at xs x [] d i (omega (arith, length-append xs (x ∷ [])))) p
    ]

pub legal_more : (k m : ℕ) (x : Line) → k ≤ m → LegalLine k x → LegalLine m x
legal_more k m x h g =
    record {
      origin = g.origin;
      short = g.short;
      ascends = g.ascends;
      names = below_more k m h x g.names;
    }

pub legal_add : (n : ℕ) (l : Ledger) (x : New) → Legal n l → Passed (room l x) → LegalNew n (length l.forms) x → Legal n (add l x)
unfolding add room
legal_add n l (new_form f) g (r, _) w =
    let more : length (l.forms ++ (f ∷ [])) ≡ length l.forms + 1 = length-append l.forms (f ∷ []) in
    record {
      few_forms = omega (arith, ltb→lt (length l.forms) most_forms r);
      few_lines = g.few_lines;
      few_literals = g.few_literals;
      few_levels = g.few_levels;
      contents = simp (all_append, and-true) (and_T (all (legal n) l.forms) (legal n f) g.contents w);
      each = λ i h. legal_more (length l.forms) _ _ (omega arith) (g.each i h);
      marked = marked_add l (new_form f) g.marked;
      named = named_more (length l.forms) _ l.lines l.marks (omega arith) g.named;
    }
legal_add n l (new_line x) g (r, (s, _)) w =
    record {
      few_forms = g.few_forms;
      few_lines = omega (arith, length-append l.lines (x ∷ []), ltb→lt (length l.lines) most_lines r);
      few_literals = omega (arith, literals_append l.lines (x ∷ []), leb→le (literal_count l.lines + length x.literals) most_literals s);
      few_levels = g.few_levels;
      contents = g.contents;
      each = each_more (LegalLine (length l.forms)) l.lines x no_line g.each w;
      marked = marked_add l (new_line x) g.marked;
      named = named_line (length l.forms) l.lines x l.marks _ g.marked g.named w.names;
    }

-- ---- one level more, one level less

pub legal_opened : (n : ℕ) (l : Ledger) → Legal n l → length l.marks < most_levels → Legal n (opened l)
unfolding done opened
legal_opened n l g h =
    record {
      few_forms = g.few_forms;
      few_lines = g.few_lines;
      few_literals = g.few_literals;
      few_levels = h;
      contents = g.contents;
      each = g.each;
      marked = marked_done l OP g.marked;
      named = (named_all (length l.forms) l.lines l.marks g.named, rw (take-length l.lines) g.named);
    }

legal_back : (n : ℕ) (fs : List Form) (ls : List Line) (ms : List Mark) → Legal n (record { forms = fs; lines = ls; marks = ms })
    → Legal n (back_to fs ls ms)
unfolding done withdrawn
legal_back n fs ls [] g = g
legal_back n fs ls (m ∷ ms) g =
    let (a, b, _) = g.marked in
    let forms = length-take-le m.forms fs a in
    let lines = length-take-le m.lines ls b in
    let names = named_all m.forms (take m.lines ls) ms g.named.1 in
    record {
      few_forms = omega (arith, g.few_forms);
      few_lines = omega (arith, g.few_lines);
      few_literals = omega (arith, literals_take m.lines ls, g.few_literals);
      few_levels = omega (arith, g.few_levels);
      contents = all_take (legal n) m.forms fs g.contents;
      each =
          λ i h.
          let x = get_or-take m.lines ls i no_line (omega arith) in
          let w = g.each i (omega arith) in
          rw (forms, x)
          (record {
            origin = w.origin;
            short = w.short;
            ascends = w.ascends;
            names = rw x at (all_at (line_below m.forms) (take m.lines ls) i no_line names h);
          });
      marked = marked_done (record { forms = fs; lines = ls; marks = m ∷ ms }) WD g.marked;
      named = rw forms g.named.1;
    }

pub legal_withdrawn : (n : ℕ) (l : Ledger) → Legal n l → Legal n (withdrawn l)
unfolding withdrawn
legal_withdrawn n l g = legal_back n l.forms l.lines l.marks g

-- ---- records, bytes, histories

pub legal_done : (n : ℕ) (l : Ledger) (r : Record) → Brought r → Legal n l → Passed (checks n l r) → Legal n (done l r)
unfolding done checks
legal_done n l (make r) few g p =
    let ts = tests n l.forms l.lines r in
    legal_add n l (makes l.lines r) g (passed_back ts _ p) (owed n l.forms l.lines g.each r few (passed_front ts _ p)).legal
legal_done n l OP few g p = legal_opened n l g (ltb→lt (length l.marks) most_levels p.0)
legal_done n l WD few g p = legal_withdrawn n l g

pub legal_apply : (n : ℕ) (l : Ledger) (r : Record) → Brought r → Legal n l → Legal n (apply n l r).ledger
legal_apply n l r few g = apply_keeps (Legal n) n l r g (legal_done n l r few g)

pub legal_apply_bytes : (n : ℕ) (l : Ledger) (b : List ℕ) → Legal n l → Legal n (apply_bytes n l b).ledger
unfolding apply_bytes
legal_apply_bytes n l b g = judged_keeps (Legal n) (shape b) l (apply n l (decode b)) g (λ p. legal_apply n l (decode b) (brought b p) g)

pub legal_fresh : (n : ℕ) → Legal n fresh
legal_fresh n =
    record {
      few_forms = omega arith;
      few_lines = omega arith;
      few_literals = omega arith;
      few_levels = omega arith;
      contents = tt;
      each = λ i h. absurd (omega arith);
      marked = tt;
      named = tt;
    }

pub legal_after_bytes : (n : ℕ) (h : List (List ℕ)) → Legal n (after_bytes n h)
unfolding after_bytes
legal_after_bytes n [] = legal_fresh n
legal_after_bytes n (b ∷ h) = legal_apply_bytes n (after_bytes n h) b (legal_after_bytes n h)
