-- A withdrawal gives back the ledger as its level opened: the marks lie within the counts, so what was added since lies above the last.
use mathlib.Core.Path.{◌≡◌, refl}
use mathlib.Core.List.{List, [], ◌∷◌, ◌++◌}
use Prim.Native.Nat.{ℕ, suc, ◌≤◌, ◌<◌}
use native.Mathlib.Omega.{arith}
use lib.ListN.{length, length-append}
use lib.Seq.{take-length, take-append-le, length-take-le}
use Rattle.rows.specs.Form.{Form}
use Rattle.ledger.specs.Ledger.{Line, Mark, Ledger, New, new_form, new_line, add, opened, back_to, withdrawn}
use Rattle.ledger.specs.Record.{Record, make, OP, WD}
use Rattle.ledger.specs.Checks.{makes}
use Rattle.ledger.specs.Apply.{done}
use Rattle.ledger.specs.Legal.{MarksIn, Marked}

-- ---- what a withdrawal undoes

pub withdrawn_opened : (l : Ledger) → withdrawn (opened l) ≡ l
unfolding opened withdrawn
withdrawn_opened l = simp take-length

pub marks_add : (l : Ledger) (x : New) → (add l x).marks ≡ l.marks
unfolding add
marks_add l (new_form f) = refl
marks_add l (new_line x) = refl

back_form : (fs : List Form) (ls : List Line) (ms : List Mark) (f : Form)
    → MarksIn (length fs) (length ls) ms → 0 < length ms → back_to (fs ++ (f ∷ [])) ls ms ≡ back_to fs ls ms
back_form fs ls [] f h p = absurd (omega arith)
back_form fs ls (m ∷ ms) f h p = let k : m.forms ≤ length fs = h.0 in rw take-append-le

back_line : (fs : List Form) (ls : List Line) (ms : List Mark) (x : Line)
    → MarksIn (length fs) (length ls) ms → 0 < length ms → back_to fs (ls ++ (x ∷ [])) ms ≡ back_to fs ls ms
back_line fs ls [] x h p = absurd (omega arith)
back_line fs ls (m ∷ ms) x h p = let k : m.lines ≤ length ls = h.1 in rw take-append-le

back_levels : (fs : List Form) (ls : List Line) (ms : List Mark) → 0 < length ms → suc (length (back_to fs ls ms).marks) ≡ length ms
back_levels fs ls [] p = absurd (omega arith)
back_levels fs ls (m ∷ ms) p = refl

pub withdrawn_levels : (l : Ledger) → 0 < length l.marks → suc (length (withdrawn l).marks) ≡ length l.marks
unfolding withdrawn
withdrawn_levels l p = back_levels l.forms l.lines l.marks p

pub withdrawn_add : (l : Ledger) (x : New) → Marked l → 0 < length l.marks → withdrawn (add l x) ≡ withdrawn l
unfolding add withdrawn
withdrawn_add l (new_form f) h p = back_form l.forms l.lines l.marks f h p
withdrawn_add l (new_line x) h p = back_line l.forms l.lines l.marks x h p

-- ---- the marks stay within the counts

marks_mono : (ms : List Mark) (f n f' n' : ℕ) → f ≤ f' → n ≤ n' → MarksIn f n ms → MarksIn f' n' ms
marks_mono [] f n f' n' p q h = tt
marks_mono (m ∷ ms) f n f' n' p q h = (omega arith, omega arith, h.2)

pub marked_add : (l : Ledger) (x : New) → Marked l → Marked (add l x)
unfolding add
marked_add l (new_form f) h = marks_mono l.marks _ _ _ _ (simp length-append (omega arith)) (omega arith) h
marked_add l (new_line x) h = marks_mono l.marks _ _ _ _ (omega arith) (simp length-append (omega arith)) h

marked_back : (fs : List Form) (ls : List Line) (ms : List Mark) → MarksIn (length fs) (length ls) ms → Marked (back_to fs ls ms)
marked_back fs ls [] h = tt
marked_back fs ls (m ∷ ms) h = rw (length-take-le m.forms fs h.0, length-take-le m.lines ls h.1) h.2

pub marked_done : (l : Ledger) (r : Record) → Marked l → Marked (done l r)
unfolding done
marked_done l (make r) h = marked_add l (makes l.lines r) h
marked_done l OP h = (omega arith, omega arith, h)
marked_done l WD h = marked_back l.forms l.lines l.marks h
