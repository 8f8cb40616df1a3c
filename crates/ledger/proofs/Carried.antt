-- The forms in force are those that the FM records in force carry, and the premises in force those of the PM records in force.
-- So if a history is refuted, no whole numbers satisfy what its records in force carry.
use mathlib.Core.Path.{◌≡◌, refl, ap, sym, subst, ◌∙◌}
use mathlib.Core.Bool.{Bool, true, false, cond, not, ◌&&◌, ◌||◌}
use mathlib.Core.List.{List, [], ◌∷◌, ◌++◌, flat_map, reverse, reverse-cons, append-nil, append_assoc}
use Prim.Native.Nat.{ℕ}
use lib.Dec.{T, eqb, eqb→eq}
use lib.ListN.{drop}
use Rattle.ints.proofs.Bools.{T_and}
use native.Mathlib.Omega.{arith}
use Rattle.ints.specs.Tests.{all, any}
use Rattle.rows.specs.Form.{Form}
use Rattle.rows.specs.Truth.{Integers}
use Rattle.ledger.specs.Ledger.{Line, premise, Ledger, New, new_form, new_line, add, opened}
use Rattle.ledger.specs.Record.{Record, make, OP, WD}
use Rattle.ledger.specs.Record.{fm, pm, RecordMark, of_rule, rule_layout, marks}
use Rattle.ledger.specs.Checks.{makes}
use Rattle.ledger.specs.Apply.{done}
use Rattle.ledger.specs.Bytes.{byte_at, bears, has_letters, first_of, form_from, numbers_behind, fields, decode_as, decode}
use Rattle.ledger.specs.Truth.{literal_true, premise_lists}
use Rattle.ledger.specs.Premises.{premises_true}
use Rattle.ledger.specs.History.{after_bytes, NoWD}
use Rattle.ledger.specs.Kept.{AcceptedBytes, bytes_in_force}
use Rattle.ledger.specs.Carried.{forms_carried, lists_carried, satisfied}
use Rattle.ledger.proofs.InForce.{accepted_done, bytes_in_force_lem}
use Rattle.ledger.proofs.StruckOut.{in_force_no_wd}

flat_map_append : {A B : Type 0} (f : A → List B) (xs ys : List A) → flat_map f (xs ++ ys) ≡ flat_map f xs ++ flat_map f ys
unfolding flat_map
flat_map_append f [] ys = refl
flat_map_append f (x ∷ xs) ys = rw (flat_map_append f xs ys) (sym (append_assoc (f x) (flat_map f xs) (flat_map f ys)))

-- one item more, the latest
flat_map_latest : {A B : Type 0} (f : A → List B) (x : A) (xs : List A) → flat_map f (reverse (x ∷ xs)) ≡ flat_map f (reverse xs) ++ f x
unfolding flat_map
flat_map_latest f x xs = ap (flat_map f) (reverse-cons x xs) ∙ flat_map_append f (reverse xs) (x ∷ []) ∙ rw append-nil

-- ---- what the record carries that bytes say

form_in : New → List Form
form_in (new_form f) = f ∷ []
form_in (new_line x) = []

list_in : New → List (List ℕ)
list_in (new_form f) = []
list_in (new_line x) = premise_lists (x ∷ [])

-- what is seen of what a rule makes of these lines, and of no other record
carried_by : {A : Type 0} → (New → List A) → List Line → Record → List A
carried_by f ls (make r) = f (makes ls r)
carried_by f ls OP = []
carried_by f ls WD = []

abbrev is_none : {A : Type 0} → List A → Bool
is_none [] = true
is_none (x ∷ xs) = false

none : {A : Type 0} (xs : List A) → T (is_none xs) → xs ≡ []
none [] t = refl
none (x ∷ xs) t = absurd t

module _ {A : Type 0} (f : New → List A) (ls : List Line) (b : List ℕ) where
  -- records of the mark carry nothing
  abbrev bare : RecordMark → Bool
  bare m = is_none (carried_by f ls (fields b m))

  -- nor does then the first of such marks that the bytes bear
  first_bare : (ms : List RecordMark) → T (all bare ms) → carried_by f ls (decode_as b (first_of b ms)) ≡ []
  unfolding carried_by
  first_bare [] p = refl
  first_bare (m ∷ ms) p = let (this, rest) = T_and (bare m) (all bare ms) p in go (has_letters b m) (none (carried_by f ls (fields b m)) this) (first_bare ms rest)
    where
      go : (h : Bool) → carried_by f ls (fields b m) ≡ [] → carried_by f ls (decode_as b (first_of b ms)) ≡ []
          → carried_by f ls (decode_as b (cond h (bears m) (first_of b ms))) ≡ []
      go true e r = e
      go false e r = r

form_says : (ls : List Line) (b : List ℕ) → carried_by form_in ls (decode b) ≡ cond (has_letters b (of_rule fm)) (form_from b ∷ []) []
unfolding decode carried_by form_in makes
form_says ls b = go (has_letters b (of_rule fm)) (first_bare form_in ls b (drop 1 marks) tt)
  where
    go : (h : Bool) → carried_by form_in ls (decode_as b (first_of b (drop 1 marks))) ≡ []
        → carried_by form_in ls (decode_as b (cond h (bears (of_rule fm)) (first_of b (drop 1 marks)))) ≡ cond h (form_from b ∷ []) []
    go true e = refl
    go false e = e

letters_apart : (b : List ℕ) → T (has_letters b (of_rule fm)) → T (has_letters b (of_rule pm)) → ⊥
letters_apart b f p =
    let is = eqb→eq (byte_at b 0) 70 (T_and (eqb (byte_at b 0) 70) _ f).0 in
    let no = eqb→eq (byte_at b 0) 80 (T_and (eqb (byte_at b 0) 80) _ p).0 in
    omega arith

list_says : (ls : List Line) (b : List ℕ) → carried_by list_in ls (decode b) ≡ cond (has_letters b (of_rule pm)) (numbers_behind (rule_layout pm).place b ∷ []) []
unfolding decode carried_by list_in makes premise_lists flat_map
list_says ls b = go (has_letters b (of_rule fm)) refl (has_letters b (of_rule pm)) refl (first_bare list_in ls b (drop 2 marks) tt)
  where
    go : (h : Bool) → has_letters b (of_rule fm) ≡ h → (k : Bool) → has_letters b (of_rule pm) ≡ k → carried_by list_in ls (decode_as b (first_of b (drop 2 marks))) ≡ []
        → carried_by list_in ls (decode_as b (cond h (bears (of_rule fm)) (cond k (bears (of_rule pm)) (first_of b (drop 2 marks)))))
        ≡ cond k (numbers_behind (rule_layout pm).place b ∷ []) []
    go true e true g r = absurd (letters_apart b (subst T (sym e) tt) (subst T (sym g) tt))
    go true e false g r = refl
    go false e true g r = refl
    go false e false g r = r

-- ---- one record more

module _ (l : Ledger) where
  form_added : (x : New) → (add l x).forms ≡ l.forms ++ form_in x
  unfolding add form_in
  form_added (new_form f) = refl
  form_added (new_line x) = sym (append-nil l.forms)

  list_added : (x : New) → premise_lists (add l x).lines ≡ premise_lists l.lines ++ list_in x
  unfolding add list_in premise_lists
  list_added (new_form f) = sym (append-nil (premise_lists l.lines))
  list_added (new_line x) = flat_map_append _ l.lines (x ∷ [])

  forms_done : (r : Record) → (r ≡ WD → ⊥) → (done l r).forms ≡ l.forms ++ carried_by form_in l.lines r
  unfolding done opened carried_by
  forms_done (make r) w = form_added (makes l.lines r)
  forms_done OP w = sym (append-nil l.forms)
  forms_done WD w = absurd (w refl)

  premises_done : (r : Record) → (r ≡ WD → ⊥) → premise_lists (done l r).lines ≡ premise_lists l.lines ++ carried_by list_in l.lines r
  unfolding done opened carried_by
  premises_done (make r) w = list_added (makes l.lines r)
  premises_done OP w = sym (append-nil (premise_lists l.lines))
  premises_done WD w = absurd (w refl)

-- ---- accepted bytes with no WD among them

module _ (n : ℕ) where
  accepted_carried : (ks : List (List ℕ)) → AcceptedBytes n ks → NoWD ks
      → ((after_bytes n ks).forms ≡ forms_carried (reverse ks)) × (premise_lists (after_bytes n ks).lines ≡ lists_carried (reverse ks))
  unfolding after_bytes AcceptedBytes NoWD forms_carried lists_carried premise_lists flat_map
  accepted_carried [] a w = (refl, refl)
  accepted_carried (b ∷ ks) a w =
      let l = after_bytes n ks in
      let (f, p) = accepted_carried ks a.1 w.1 in
      let same = accepted_done n l b (decode b) refl a.0 in (
        ap (λ (m : Ledger). m.forms) same
            ∙ forms_done l (decode b) w.0
            ∙ (λ i. f i ++ form_says l.lines b i)
            ∙ sym (flat_map_latest _ b ks),
        ap (λ (m : Ledger). premise_lists m.lines) same
            ∙ premises_done l (decode b) w.0
            ∙ (λ i. p i ++ list_says l.lines b i)
            ∙ sym (flat_map_latest _ b ks),
      )

  -- ---- a history, and the bytes in force of it, the first first

  module _ (h : List (List ℕ)) where
    pub forms_carried_lem : (after_bytes n h).forms ≡ forms_carried (reverse (bytes_in_force n h))
    forms_carried_lem =
        let (same, a) = bytes_in_force_lem n h in
        ap (λ (m : Ledger). m.forms) (sym same) ∙ (accepted_carried (bytes_in_force n h) a (in_force_no_wd n h)).0

    pub premises_carried : premise_lists (after_bytes n h).lines ≡ lists_carried (reverse (bytes_in_force n h))
    premises_carried =
        let (same, a) = bytes_in_force_lem n h in
        ap (λ (m : Ledger). premise_lists m.lines) (sym same) ∙ (accepted_carried (bytes_in_force n h) a (in_force_no_wd n h)).1

-- the premises among lines are true where their literal lists are satisfied
pub premises_satisfied : (ρ : Integers) (fs : List Form) (ls : List Line) → premises_true ρ fs ls ≡ satisfied ρ fs (premise_lists ls)
unfolding premise_lists flat_map
premises_satisfied ρ fs [] = refl
premises_satisfied ρ fs (x ∷ ls) = go (eqb x.origin premise) (premises_satisfied ρ fs ls)
  where
    go : (b : Bool) → premises_true ρ fs ls ≡ satisfied ρ fs (premise_lists ls)
        → (not b || any (literal_true ρ fs) x.literals) && premises_true ρ fs ls ≡ satisfied ρ fs (cond b (x.literals ∷ []) [] ++ premise_lists ls)
    go true e = rw e
    go false e = e
