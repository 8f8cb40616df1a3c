-- What is shown rule by rule: in which order a rule's tests stand; how much it lists, and which lines it draws on; and where its tests pass, that what
-- it makes is legal, and true where the lines that it draws on are.
use mathlib.Core.Path.{◌≡◌, refl, ap, ◌∙◌}
use mathlib.Core.Bool.{Bool, true, false, not, ◌&&◌, ◌||◌, or-false}
use mathlib.Core.List.{List, [], ◌∷◌, map}
use Prim.Native.Nat.{ℕ, ◌≤◌, ◌<◌}
use native.Mathlib.Omega.{arith}
use lib.Dec.{T, leb, ltb→lt, leb→le}
use lib.IntN.{pos}
use lib.ListN.{length, get_or, length-map}
use lib.Signed.{le_z, le_z_yes}
use Rattle.ints.specs.Tests.{all, any}
use Rattle.ints.proofs.Lists.{length_up_to}
use Rattle.ints.proofs.Bools.{T_and, and_T, or_left, or_right}
use Rattle.rows.specs.Limits.{largest_multiplier}
use Rattle.rows.specs.Form.{Form, legal}
use Rattle.rows.specs.Sum.{Term}
use Rattle.rows.specs.Truth.{Integers, form_true}
use Rattle.rows.proofs.Sound.{totality, trichotomy, equation, weakening, tightening, farkas_sound, clash_sound}
use Rattle.rows.proofs.Remainders.{remainder_sound, loosening, scaling_up, scaling_down}
use Rattle.ledger.specs.Limits.{longest_line}
use Rattle.ledger.specs.Literals.{unnegated, negated, ascending, line_of, without, below}
use Rattle.ledger.specs.Ledger.{Line, no_line, nth_form, nth_line, New, new_form, new_line, Ledger}
use Rattle.ledger.specs.Record.{Rule, FM, PM, RS, FK, TO, TR, EQ, TI, WK, CL, AR, LF, SU, SD, Record, make, OP, WD}
use Rattle.ledger.specs.Checks.{form_in, line_in, forms_of, first_divisor, resolvent, derived_line, makes, tests, Passed, checks}
use Rattle.ledger.specs.Record.{fm, pm, rs, fk, to, tr, eq, ti, wk, cl, ar, lf, su, sd, of_rule, op, wd}
use Rattle.ledger.specs.Numbers.{record_order, follow}
use Rattle.ledger.specs.Bytes.{Bearing, unknown, bears, mark_of, count_from, shape_of, shape, decode_as, decode}
use Rattle.ledger.proofs.LayoutLaws.{count_most}
use Rattle.ledger.specs.Legal.{LegalLine}
use Rattle.ledger.specs.Truth.{literal_true, line_true}
use Rattle.ledger.specs.Premises.{chosen_true, as_premise}
use Rattle.ints.proofs.Lists.{all_map, any_map}
use Rattle.ledger.proofs.LiteralLaws.{any_joined, any_line_of, any_without, all_joined, all_line_of, all_without}
use Rattle.ledger.proofs.LiteralLaws.{ascending_joined, ascending_line_of, ascending_without, ascending_negated, length_line_of}
use Rattle.ledger.proofs.TruthLaws.{unnegated_names, negated_names, unnegated_true, negated_true}

-- ---- in which order its tests stand

pub checks_follow : (n : ℕ) (l : Ledger) (r : Record) → T (follow record_order (checks n l r))
unfolding follow checks
checks_follow n l (make (FM f)) = tt
checks_follow n l (make (PM xs)) = tt
checks_follow n l (make (RS p i j)) = tt
checks_follow n l (make (FK ts)) = tt
checks_follow n l (make (TO a b)) = tt
checks_follow n l (make (TR z u v)) = tt
checks_follow n l (make (EQ z a)) = tt
checks_follow n l (make (TI a b c)) = tt
checks_follow n l (make (WK z g)) = tt
checks_follow n l (make (CL ts)) = tt
checks_follow n l (make (AR gs)) = tt
checks_follow n l (make (LF g h)) = tt
checks_follow n l (make (SU g h k)) = tt
checks_follow n l (make (SD g h k)) = tt
checks_follow n l OP = tt
checks_follow n l WD = tt

-- ---- what it lists and draws on

-- how many literals or terms a rule lists
abbrev pub listed : Rule → ℕ
listed (FM f) = 0
listed (PM xs) = length xs
listed (RS p i j) = 0
listed (FK ts) = length ts
listed (TO a b) = 0
listed (TR z u v) = 0
listed (EQ z a) = 0
listed (TI a b c) = 0
listed (WK z g) = 0
listed (CL ts) = length ts
listed (AR gs) = length gs
listed (LF g h) = 0
listed (SU g h k) = 0
listed (SD g h k) = 0

abbrev pub Brought : Record → Type 0
Brought (make r) = listed r ≤ longest_line
Brought OP = Unit {0}
Brought WD = Unit {0}

-- bytes of good shape list no more literals or terms than a line may have literals
pub brought : (b : List ℕ) → Passed (shape b) → Brought (decode b)
unfolding shape decode
brought b p = go (mark_of b) p.1
  where
    go : (m : Bearing) → Passed (shape_of b m) → Brought (decode_as b m)
    go unknown q = tt
    go (bears op) q = tt
    go (bears wd) q = tt
    go (bears (of_rule fm)) q = omega arith
    go (bears (of_rule pm)) q = rw length_up_to (count_most (of_rule pm) (count_from (of_rule pm) b) q.1.1.0)
    go (bears (of_rule rs)) q = omega arith
    go (bears (of_rule fk)) q = rw length_up_to (count_most (of_rule fk) (count_from (of_rule fk) b) q.1.1.0)
    go (bears (of_rule to)) q = omega arith
    go (bears (of_rule tr)) q = omega arith
    go (bears (of_rule eq)) q = omega arith
    go (bears (of_rule ti)) q = omega arith
    go (bears (of_rule wk)) q = omega arith
    go (bears (of_rule cl)) q = rw length_up_to (count_most (of_rule cl) (count_from (of_rule cl) b) q.1.1.0)
    go (bears (of_rule ar)) q = rw length_up_to (count_most (of_rule ar) (count_from (of_rule ar) b) q.1.1.0)
    go (bears (of_rule lf)) q = omega arith
    go (bears (of_rule su)) q = omega arith
    go (bears (of_rule sd)) q = omega arith

-- the lines that a rule draws on
abbrev pub parents : Rule → List ℕ
parents (FM f) = []
parents (PM xs) = []
parents (RS p i j) = i ∷ j ∷ []
parents (FK ts) = []
parents (TO a b) = []
parents (TR z u v) = []
parents (EQ z a) = []
parents (TI a b c) = []
parents (WK z g) = []
parents (CL ts) = []
parents (AR gs) = []
parents (LF g h) = []
parents (SU g h k) = []
parents (SD g h k) = []

-- ---- what is owed for what it makes

-- over n unknowns and k forms
abbrev pub LegalNew : ℕ → ℕ → New → Type 0
LegalNew n k (new_form f) = T (legal n f)
LegalNew n k (new_line x) = LegalLine k x

-- a line that is made is true; that a premise is true is granted
abbrev pub TrueNew : Integers → List Form → New → Type 0
TrueNew ρ fs (new_form f) = Unit {0}
TrueNew ρ fs (new_line x) = T (as_premise ρ fs x) → T (line_true ρ fs x)

-- what is owed for what is made of the lines numbered is: it is legal, and true where these lines are, which are in force
pub record Owed (n : ℕ) (fs : List Form) (ls : List Line) (is : List ℕ) (x : New) : Type 0 where
  pub legal : LegalNew n (length fs) x
  pub parents : T (all (line_in ls) is)
  pub holds : (ρ : Integers) → T (chosen_true ρ fs ls is) → TrueNew ρ fs x

-- every line is legal, of so many forms
abbrev pub LegalLines : ℕ → List Line → Type 0
LegalLines k ls = (i : ℕ) → i < length ls → LegalLine k (get_or ls i no_line)

module _ (n : ℕ) (fs : List Form) (ls : List Line) where
  line_owed : (xs : List ℕ) → length xs ≤ longest_line → T (all (below (length fs)) xs) → ((ρ : Integers) → T (any (literal_true ρ fs) xs))
      → Owed n fs ls [] (derived_line (line_of xs))
  line_owed xs few names is_true =
      record {
        legal =
            record {
              origin = tt;
              short = omega (arith, length_line_of xs);
              ascends = ascending_line_of xs;
              names = all_line_of (below (length fs)) xs names;
            };
        parents = tt;
        holds = λ ρ _ _. rw (any_line_of (literal_true ρ fs) xs) (is_true ρ);
      }

  pair_owed : (x y : ℕ) → T (below (length fs) x) → T (below (length fs) y) → ((ρ : Integers) → T (literal_true ρ fs x || literal_true ρ fs y))
      → Owed n fs ls [] (derived_line (line_of (x ∷ y ∷ [])))
  pair_owed x y x_in y_in is_true =
      let b = below (length fs) in
      line_owed (x ∷ y ∷ []) (omega arith) (and_T (b x) (b y && true) x_in (and_T (b y) true y_in tt)) (λ ρ. rw or-false (is_true ρ))

  -- the line of a sum, of which no more terms are asked than a line may have literals
  negated_owed : (ts : List Term) → length ts ≤ longest_line → T (all (form_in fs) (forms_of ts)) → T (ascending (forms_of ts))
      → ((ρ : Integers) → T (any (λ t. not (form_true ρ (nth_form fs t.form))) ts)) → Owed n fs ls [] (derived_line (map negated (forms_of ts)))
  negated_owed ts few names ascends is_true =
      record {
        legal =
            record {
              origin = tt;
              short = simp length-map few;
              ascends = ascending_negated (forms_of ts) ascends;
              names = rw (all_map (below (length fs)) negated (forms_of ts)) (simp negated_names names);
            };
        parents = tt;
        holds = λ ρ _ _. simp (any_map, negated_true) (is_true ρ);
      }

  resolvent_owed : (p i j : ℕ) → T (line_in ls i) → T (line_in ls j) → T (leb (length (resolvent ls p i j)) longest_line)
      → LegalLines (length fs) ls → Owed n fs ls (i ∷ j ∷ []) (derived_line (resolvent ls p i j))
  resolvent_owed p i j i_in j_in short each =
      record {
        legal =
            record {
              origin = tt;
              short = leb→le _ longest_line short;
              ascends =
                  ascending_joined first second (ascending_without (unnegated p) (nth_line ls i) legal_i.ascends)
                  (ascending_without (negated p) (nth_line ls j) legal_j.ascends);
              names =
                  all_joined b first second (all_without b (unnegated p) (nth_line ls i) legal_i.names)
                  (all_without b (negated p) (nth_line ls j) legal_j.names);
            };
        parents = and_T (line_in ls i) (line_in ls j && true) i_in (and_T (line_in ls j) true j_in tt);
        holds =
            λ ρ h _.
            rw (any_joined (literal_true ρ fs) first second)
            (one_stays ρ (form_true ρ (nth_form fs p)) refl (both ρ h).0 (T_and (is_true ρ j) true (both ρ h).1).0);
      }
    where
      b : ℕ → Bool
      b = below (length fs)

      first : List ℕ
      first = without (unnegated p) (nth_line ls i)

      second : List ℕ
      second = without (negated p) (nth_line ls j)

      legal_i : LegalLine (length fs) (get_or ls i no_line)
      legal_i = each i (ltb→lt i (length ls) i_in)

      legal_j : LegalLine (length fs) (get_or ls j no_line)
      legal_j = each j (ltb→lt j (length ls) j_in)

      is_true : Integers → ℕ → Bool
      is_true ρ k = line_true ρ fs (get_or ls k no_line)

      both : (ρ : Integers) → T (chosen_true ρ fs ls (i ∷ j ∷ [])) → T (is_true ρ i) × T (is_true ρ j && true)
      both ρ h = T_and (is_true ρ i) (is_true ρ j && true) h

      -- the pivot has one truth, so that one of the two literals taken out is false
      one_stays : (ρ : Integers) (pivot : Bool) → form_true ρ (nth_form fs p) ≡ pivot → T (any (literal_true ρ fs) (nth_line ls i))
          → T (any (literal_true ρ fs) (nth_line ls j)) → T (any (literal_true ρ fs) first || any (literal_true ρ fs) second)
      one_stays ρ true e u v =
          or_right (any (literal_true ρ fs) first) (any (literal_true ρ fs) second)
          (rw (any_without (literal_true ρ fs) (negated p) (nth_line ls j) (negated_true ρ fs p ∙ ap not e)) v)
      one_stays ρ false e u v =
          or_left (any (literal_true ρ fs) first) (any (literal_true ρ fs) second)
          (rw (any_without (literal_true ρ fs) (unnegated p) (nth_line ls i) (unnegated_true ρ fs p ∙ e)) u)

module _ (n : ℕ) (fs : List Form) (ls : List Line) (each : LegalLines (length fs) ls) where
  pub owed : (r : Rule) → Brought (make r) → Passed (tests n fs ls r) → Owed n fs ls (parents r) (makes ls r)
  unfolding makes tests
  owed (FM f) few (content, _) = record { legal = content; parents = tt; holds = λ ρ _. tt }
  owed (PM xs) few (names, (ascends, _)) =
      record {
        legal = record { origin = tt; short = few; ascends = ascends; names = names };
        parents = tt;
        holds = λ ρ _ p. p;
      }
  owed (RS p i j) few (_, (i_in, (j_in, (_, (_, (short, _)))))) = resolvent_owed n fs ls p i j i_in j_in short each
  owed (FK ts) few (names, (ascends, (kinds, (multipliers, (sum, _))))) =
      negated_owed n fs ls ts few names ascends (λ ρ. farkas_sound ρ n (nth_form fs) ts kinds multipliers sum)
  owed (TO a b) few (a_in, (b_in, (ka, (kb, (row, _))))) =
      pair_owed n fs ls (unnegated a) (unnegated b) (rw unnegated_names a_in) (rw unnegated_names b_in)
      (λ ρ. simp unnegated_true (totality ρ (nth_form fs a) (nth_form fs b) ka kb row))
  owed (TR z u v) few (z_in, (u_in, (v_in, (kz, (ku, (kv, (more, (less, _)))))))) =
      let b = form_in fs in
      let names = and_T (b z) (b u && (b v && true)) z_in (and_T (b u) (b v && true) u_in (and_T (b v) true v_in tt)) in
      line_owed n fs ls (unnegated z ∷ unnegated u ∷ unnegated v ∷ []) (omega arith) (simp unnegated_names names)
      (λ ρ. simp (unnegated_true, or-false) (trichotomy ρ (nth_form fs z) (nth_form fs u) (nth_form fs v) kz ku kv more less))
  owed (EQ z a) few (z_in, (a_in, (kz, (ka, (row, _))))) =
      pair_owed n fs ls (negated z) (unnegated a) (rw negated_names z_in) (rw unnegated_names a_in)
      (λ ρ. simp (unnegated_true, negated_true) (equation ρ (nth_form fs z) (nth_form fs a) kz ka row))
  owed (TI a b c) few (a_in, (b_in, (ka, (kb, (range, (row, _)))))) =
      let (positive, _) = T_and (le_z (pos 1) c) (le_z c (pos largest_multiplier)) range in
      pair_owed n fs ls (negated a) (unnegated b) (rw negated_names a_in) (rw unnegated_names b_in)
      (λ ρ. simp (unnegated_true, negated_true) (tightening ρ c (nth_form fs a) (nth_form fs b) ka kb positive row))
  owed (WK z g) few (z_in, (g_in, (kz, (kg, (row, _))))) =
      pair_owed n fs ls (negated z) (unnegated g) (rw negated_names z_in) (rw unnegated_names g_in)
      (λ ρ. simp (unnegated_true, negated_true) (weakening ρ (nth_form fs z) (nth_form fs g) kz kg row))
  owed (CL ts) few (names, (ascends, (kinds, (_, (divisors, (sum, _)))))) =
      negated_owed n fs ls ts few names ascends
      (λ ρ. clash_sound ρ n (nth_form fs) ts (first_divisor fs ts) kinds divisors sum)
  owed (AR gs) few (names, (divided, (rows, _))) =
      line_owed n fs ls (map unnegated gs) (simp length-map few) (rw (all_map (below (length fs)) unnegated gs) (simp unnegated_names names))
      (λ ρ. simp (any_map, unnegated_true) (remainder_sound ρ (nth_form fs) gs divided rows))
  owed (LF g h) few (g_in, (h_in, (kg, (kh, (condition, _))))) =
      pair_owed n fs ls (negated g) (unnegated h) (rw negated_names g_in) (rw unnegated_names h_in)
      (λ ρ. simp (unnegated_true, negated_true) (loosening ρ (nth_form fs g) (nth_form fs h) kg kh condition))
  owed (SU g h k) few (g_in, (h_in, (kg, (kh, (_, (condition, _)))))) =
      pair_owed n fs ls (negated g) (unnegated h) (rw negated_names g_in) (rw unnegated_names h_in)
      (λ ρ. simp (unnegated_true, negated_true) (scaling_up ρ (pos k) (nth_form fs g) (nth_form fs h) kg kh condition))
  owed (SD g h k) few (g_in, (h_in, (kg, (kh, (positive, (condition, _)))))) =
      pair_owed n fs ls (negated h) (unnegated g) (rw negated_names h_in) (rw unnegated_names g_in)
      (λ ρ. simp (unnegated_true, negated_true) (scaling_down ρ (pos k) (nth_form fs g) (nth_form fs h) kg kh condition (le_z_yes positive)))
