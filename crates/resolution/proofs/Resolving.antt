-- RS on lines that are held: what it proposes, exit by exit.
use mathlib.Core.Path.{◌≡◌, refl, sym, ap, ap₂, ◌∙◌}
use mathlib.Core.Bool.{true, false}
use mathlib.Core.List.{List, [], ◌∷◌}
use Prim.Native.Nat.{ℕ, ◌≤◌, ◌<◌}
use native.Mathlib.Omega.{arith}
use borrow.Author.Tests.{lt-ltb, le-ltb, le-leb, lt-leb}
use lib.Dec.{leb}
use lib.IntN.{ℤ}
use lib.ListN.{length, take}
use Rattle.std.specs.Prelude.{Ok, Err}
use Rattle.rows.specs.Form.{Form}
use Rattle.ledger.specs.Limits.{longest_line}
use Rattle.ledger.specs.Literals.{unnegated, negated, holds, joined, without}
use Rattle.ledger.specs.Record.{RS}
use Rattle.ledger.specs.Checks.{Check, ◌else◌, form_in, line_in, tests, makes, derived_line}
use Rattle.ledger.specs.Apply.{Finding, finding}
use Rattle.session.specs.Cells.{literals_at}
use Rattle.session.specs.declared.answers.Refusal.TheVariants.{NotInForce, ConditionFails, LineTooLong}
use Rattle.literals.specs.Lists.{Gathered}
use Rattle.literals.proofs.LessLaws.{left_is, none_lost, some_lost}
use Rattle.proposals.specs.declared.Proposal.TheVariants.{Line as Makes}
use Rattle.proposals.specs.declared.Scratch.{Scratch}
use Rattle.proposals.specs.Proposing.{derived_from}
use Rattle.proposals.proofs.Making.{refusing, proposing}
use Rattle.rules.specs.Read.{lines_read, Resolves}
use Rattle.rules.specs.declared.held.Lines.{Lines}
use Rattle.rules.proofs.HeldLaws.{line_count, line_is, line_few}
use Rattle.rules.proofs.FindingWalk.{whole, past, fails, passes}

-- the tests that are left where the pivot and both parents are in force, by the parents' literals
abbrev left : ℕ → List ℕ → List ℕ → List Check
left p xs ys =
    (holds (unnegated p) xs else 11)
    ∷ (holds (negated p) ys else 11)
    ∷ (leb (length (joined (without (unnegated p) xs) (without (negated p) ys))) longest_line else 12)
    ∷ []

-- the literals of a parent
abbrev pub parent : Lines → ℕ → List ℕ
parent l i = literals_at l.pool.now l.lines.now i

-- what parent i leaves is gathered in front of xs
pub record Left (l : Lines) (i : ℕ) (line : List ℕ) (x count : ℕ) (xs : List ℕ) : Type 0 where
  pub same : line ≡ parent l i
  pub got : Gathered line x count xs
  pub full : length xs ≡ longest_line

room : {l : Lines} {i : ℕ} {line : List ℕ} {x count : ℕ} {xs : List ℕ} → i < l.count → Left l i line x count xs → length line ≤ length xs
room {l} {i} {line} h u =
    let same : length line ≡ length (parent l i) = ap (λ (ys : List ℕ). length ys) u.same in omega (arith, same, line_few l.held i h, u.full)

-- the pivot and both parents are in force
pub record InForce (forms : ℕ) (l : Lines) (p i j : ℕ) : Type 0 where
  pub pivot : p < forms
  pub first : i < l.count
  pub second : j < l.count

module _ (forms : ℕ) (l : Lines) (p i j : ℕ) where
  -- over any forms of this number
  module _ (n : ℕ) (fs : List Form) (e : length fs ≡ forms) where
    pivot_in : p < forms → form_in fs p ≡ true
    pivot_in k = rw e (lt-ltb p forms k)

    parent_in : (k : ℕ) → k < l.count → line_in (lines_read l) k ≡ true
    parent_in k h = rw (line_count l.held) (lt-ltb k l.count h)

    parent_out : (k : ℕ) → l.count ≤ k → line_in (lines_read l) k ≡ false
    parent_out k h = rw (line_count l.held) (le-ltb k l.count h)

    -- what is found by the tests that are left
    read : InForce forms l p i j → {v : Finding} → v ≡ finding (left p (parent l i) (parent l j)) → v ≡ finding (tests n fs (lines_read l) (RS p i j))
    unfolding tests finding
    read h d =
        rw (pivot_in h.pivot, parent_in i h.first, parent_in j h.second, line_is l.held i h.first, line_is l.held j h.second) d

  pub no_pivot : forms ≤ p → {s : Scratch} → Resolves forms l p i j (Err NotInForce) s
  unfolding tests
  no_pivot k n fs e = refusing n fs (lines_read l) (RS p i j) (fails whole (rw e (le-ltb p forms k)))

  pub no_first : p < forms → l.count ≤ i → {s : Scratch} → Resolves forms l p i j (Err NotInForce) s
  unfolding tests
  no_first a k n fs e = refusing n fs (lines_read l) (RS p i j) (fails (past whole (pivot_in n fs e a)) (parent_out n fs e i k))

  pub no_second : p < forms → i < l.count → l.count ≤ j → {s : Scratch} → Resolves forms l p i j (Err NotInForce) s
  unfolding tests
  no_second a b k n fs e =
      refusing n fs (lines_read l) (RS p i j)
      (fails (past (past whole (pivot_in n fs e a)) (parent_in n fs e i b)) (parent_out n fs e j k))

  -- what the first parent leaves is gathered
  module _ (h : InForce forms l p i j) {line xs : List ℕ} {k : ℕ} (u : Left l i line (unnegated p) k xs) where
    pub first_lacks : k ≡ length line → {s : Scratch} → Resolves forms l p i j (Err ConditionFails) s
    first_lacks q n fs e = refusing n fs (lines_read l) (RS p i j) (read n fs e h (fails whole (none_lost u.same u.got (room h.first u) q)))

    -- it held its literal, and what the second leaves is gathered too
    module _ (held : k ≡ length line → ⊥) {line' ys : List ℕ} {m : ℕ} (v : Left l j line' (negated p) m ys) where
      first_holds : holds (unnegated p) (parent l i) ≡ true
      first_holds = some_lost u.same u.got (room h.first u) held

      pub second_lacks : m ≡ length line' → {s : Scratch} → Resolves forms l p i j (Err ConditionFails) s
      second_lacks q n fs e =
          refusing n fs (lines_read l) (RS p i j) (read n fs e h (fails (past whole first_holds) (none_lost v.same v.got (room h.second v) q)))

      both_left : joined (take k xs) (take m ys) ≡ joined (without (unnegated p) (parent l i)) (without (negated p) (parent l j))
      both_left = ap₂ (λ (x y : List ℕ). joined x y) (left_is u.same u.got) (left_is v.same v.got)

      module _ (held' : m ≡ length line' → ⊥) where
        second_holds : holds (negated p) (parent l j) ≡ true
        second_holds = some_lost v.same v.got (room h.second v) held'

        pub too_long : longest_line < length (joined (take k xs) (take m ys)) → {s : Scratch} → Resolves forms l p i j (Err LineTooLong) s
        too_long q n fs e =
            refusing n fs (lines_read l) (RS p i j)
            (read n fs e h
            (fails (past (past whole first_holds) second_holds) (rw both_left at (lt-leb (length (joined (take k xs) (take m ys))) longest_line q))))

        the_line : derived_line (joined (take k xs) (take m ys)) ≡ makes (lines_read l) (RS p i j)
        unfolding makes
        the_line =
            ap (λ (x : List ℕ). derived_line x)
            (both_left
            ∙ sym
            (ap₂ (λ (x y : List ℕ). joined (without (unnegated p) x) (without (negated p) y)) (line_is l.held i h.first) (line_is l.held j h.second)))

        pub resolved : length (joined (take k xs) (take m ys)) ≤ longest_line → {cells : List ℤ}
            → Resolves forms l p i j (Ok (Makes (derived_from k m))) (record { cells = cells; first = xs; second = ys })
        resolved q n fs e =
            proposing n fs (lines_read l) (RS p i j)
            (read n fs e h
            (passes
            (past (past (past whole first_holds) second_holds) (rw both_left at (le-leb (length (joined (take k xs) (take m ys))) longest_line q)))))
            the_line
            (record {
              says = refl;
              fits = record { first = omega (arith, u.got.few, room h.first u); second = omega (arith, v.got.few, room h.second v) };
            })
