-- What the claim about the examples says, as equations.
use mathlib.Core.Path.{◌≡◌, refl, sym, ap, subst}
use mathlib.Core.Bool.{Bool, ◌&&◌}
use mathlib.Core.List.{List, [], ◌∷◌}
use Prim.Native.Nat.{ℕ, suc, ◌+◌, ◌≤◌}
use native.Mathlib.Omega.{arith}
use lib.Dec.{T, eqb, eqb→eq}
use lib.IntN.{ℤ, pos, negsuc}
use lib.ListN.{length}
use Rattle.ints.specs.Tests.{eq_z, eq_zs}
use Rattle.ints.proofs.Bools.{T_and}
use Rattle.rows.specs.Limits.{unknowns}
use Rattle.rows.specs.Form.{Form}
use Rattle.ledger.specs.Ledger.{Line, Mark, Ledger}
use Rattle.ledger.specs.Record.{Made, form, line, level, Answer, accepted, refused, is_accepted}
use Rattle.ledger.specs.Apply.{Outcome}
use Rattle.ledger.specs.Bytes.{apply_bytes}
use Rattle.ledger.specs.Run.{fed_all, AllAccepted}
use Rattle.ledger.specs.Examples.{more, fed_from, same_lists, same_form, same_line, same_mark, same_ledger, same_made, same_answer, same_outcome}

-- ---- what is found the same is equal

same_lists_lem : {A : Type 0} (same : A → A → Bool) → ((x y : A) → T (same x y) → x ≡ y) → (xs ys : List A) → T (same_lists same xs ys) → xs ≡ ys
same_lists_lem same is [] [] t = refl
same_lists_lem same is [] (y ∷ ys) t = absurd t
same_lists_lem same is (x ∷ xs) [] t = absurd t
same_lists_lem same is (x ∷ xs) (y ∷ ys) t =
    let (h, r) = T_and (same x y) (same_lists same xs ys) t in λ i. is x y h i ∷ same_lists_lem same is xs ys r i

pub same_numbers : (xs ys : List ℕ) → T (same_lists eqb xs ys) → xs ≡ ys
same_numbers = same_lists_lem eqb eqb→eq

same-Z : (a b : ℤ) → T (eq_z a b) → a ≡ b
same-Z (pos a) (pos b) t = ap pos (eqb→eq a b t)
same-Z (pos a) (negsuc b) t = absurd t
same-Z (negsuc a) (pos b) t = absurd t
same-Z (negsuc a) (negsuc b) t = ap negsuc (eqb→eq a b t)

same-Zs : (xs ys : List ℤ) → T (eq_zs xs ys) → xs ≡ ys
same-Zs [] [] t = refl
same-Zs [] (y ∷ ys) t = absurd t
same-Zs (x ∷ xs) [] t = absurd t
same-Zs (x ∷ xs) (y ∷ ys) t = let (h, r) = T_and (eq_z x y) (eq_zs xs ys) t in λ i. same-Z x y h i ∷ same-Zs xs ys r i

same_form_lem : (f g : Form) → T (same_form f g) → f ≡ g
same_form_lem f g t =
    let (r, rows) = T_and (eq_z f.kind g.kind && eq_z f.divisor g.divisor) (eq_zs f.row g.row) t in
    let (k, d) = T_and (eq_z f.kind g.kind) (eq_z f.divisor g.divisor) r in
    λ i. record {
      kind = same-Z f.kind g.kind k i;
      divisor = same-Z f.divisor g.divisor d i;
      row = same-Zs f.row g.row rows i;
    }

same_line_lem : (x y : Line) → T (same_line x y) → x ≡ y
same_line_lem x y t =
    let (o, xs) = T_and (eqb x.origin y.origin) (same_lists eqb x.literals y.literals) t in
    λ i. record { origin = eqb→eq x.origin y.origin o i; literals = same_numbers x.literals y.literals xs i }

same_mark_lem : (m o : Mark) → T (same_mark m o) → m ≡ o
same_mark_lem m o t =
    let (f, l) = T_and (eqb m.forms o.forms) (eqb m.lines o.lines) t in
    λ i. record { forms = eqb→eq m.forms o.forms f i; lines = eqb→eq m.lines o.lines l i }

same_ledger_lem : (l k : Ledger) → T (same_ledger l k) → l ≡ k
same_ledger_lem l k t =
    let forms = same_lists same_form l.forms k.forms in
    let lines = same_lists same_line l.lines k.lines in
    let (r, m) = T_and (forms && lines) (same_lists same_mark l.marks k.marks) t in
    let (f, x) = T_and forms lines r in
    λ i. record {
      forms = same_lists_lem same_form same_form_lem l.forms k.forms f i;
      lines = same_lists_lem same_line same_line_lem l.lines k.lines x i;
      marks = same_lists_lem same_mark same_mark_lem l.marks k.marks m i;
    }

same_made_lem : (m o : Made) → T (same_made m o) → m ≡ o
same_made_lem (form f) (form g) t = ap form (eqb→eq f g t)
same_made_lem (form f) (line j) t = absurd t
same_made_lem (form f) (level k) t = absurd t
same_made_lem (line i) (form g) t = absurd t
same_made_lem (line i) (line j) t = ap line (eqb→eq i j t)
same_made_lem (line i) (level k) t = absurd t
same_made_lem (level n) (form g) t = absurd t
same_made_lem (level n) (line j) t = absurd t
same_made_lem (level n) (level k) t = ap level (eqb→eq n k t)

same_answer_lem : (a b : Answer) → T (same_answer a b) → a ≡ b
same_answer_lem (accepted m) (accepted o) t = ap accepted (same_made_lem m o t)
same_answer_lem (accepted m) (refused k) t = absurd t
same_answer_lem (refused j) (accepted o) t = absurd t
same_answer_lem (refused j) (refused k) t = ap refused (eqb→eq j k t)

pub same_outcome_lem : (o p : Outcome) → T (same_outcome o p) → o ≡ p
same_outcome_lem o p t =
    let (a, l) = T_and (same_answer o.answer p.answer) (same_ledger o.ledger p.ledger) t in
    λ i. record { answer = same_answer_lem o.answer p.answer a i; ledger = same_ledger_lem o.ledger p.ledger l i }

-- ---- what is fed one after the other

pub fed_same : (k : ℕ) (l : Ledger) (bs : List (List ℕ)) → (fed_from k l bs).ledger ≡ fed_all unknowns l bs
unfolding fed_from fed_all
fed_same k l [] = refl
fed_same k l (b ∷ bs) = fed_same (k + more (apply_bytes unknowns l b).answer) (apply_bytes unknowns l b).ledger bs

fed_at_most : (k : ℕ) (l : Ledger) (bs : List (List ℕ)) → (fed_from k l bs).accepted ≤ k + length bs
unfolding fed_from
fed_at_most k l [] = omega arith
fed_at_most k l (b ∷ bs) =
    let o = apply_bytes unknowns l b in
    omega (arith, one o.answer, fed_at_most (k + more o.answer) o.ledger bs)
  where
    one : (a : Answer) → more a ≤ 1
    one (accepted m) = omega arith
    one (refused j) = omega arith

-- as many are accepted as there are, so each is
pub fed_accepted : (k : ℕ) (l : Ledger) (bs : List (List ℕ)) → (fed_from k l bs).accepted ≡ k + length bs → AllAccepted unknowns l bs
unfolding fed_from AllAccepted
fed_accepted k l [] e = tt
fed_accepted k l (b ∷ bs) e = go (apply_bytes unknowns l b).answer refl e (fed_accepted (k + 1) l' bs)
  where
    l' : Ledger
    l' = (apply_bytes unknowns l b).ledger

    go : (a : Answer) → (apply_bytes unknowns l b).answer ≡ a → (fed_from (k + more a) l' bs).accepted ≡ k + suc (length bs)
        → ((fed_from (k + 1) l' bs).accepted ≡ k + 1 + length bs → AllAccepted unknowns l' bs) → AllAccepted unknowns l (b ∷ bs)
    go (accepted m) f g rest = (subst is_accepted (sym f) tt, rest (omega (arith, g)))
    go (refused j) f g rest = absurd (omega (arith, g, fed_at_most (k + 0) l' bs))
