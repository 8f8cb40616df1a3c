-- When a session and its tables are in order, clause by clause.
use Rattle.std.specs.Prelude.{Bool, true, ◌&&◌, List, [], ◌∷◌, ℕ, zero, suc, ◌+◌, ◌*◌, ◌-◌, eqb, leb, pos, length, drop}
use Rattle.ints.specs.Tests.{eq_z, all}
use Rattle.rows.specs.Form.{form_at, legal}
use Rattle.ledger.specs.Limits.{most_forms, most_lines, most_literals, most_levels, longest_line}
use Rattle.ledger.specs.Literals.{ascending, names_below}
use Rattle.ledger.specs.Ledger.{is_origin}
use Rattle.ledger.specs.Checks.{Check, ◌else◌}
use Rattle.session.specs.declared.state.Mark.{Mark}
use Rattle.session.specs.declared.state.Session.{Session}
use Rattle.session.specs.Limits.{line_cells, form_cells, form_table, pool_table, line_table}
use Rattle.session.specs.Cells.{Tables, counts_of, mark_at, end_before, origin_at, literals_at}

-- p holds of 0, 1, up to n − 1
unfoldable pub all_below : ℕ → (ℕ → Bool) → Bool
all_below zero p = true
all_below (suc n) p = all_below n p && p n

-- no count of a is above b's
unfoldable pub not_above : Mark → Mark → Bool
not_above a b = leb a.forms b.forms && leb a.lines b.lines && leb a.literals b.literals

abbrev pub is_no_mark : Mark → Bool
is_no_mark m = eqb m.forms 0 && eqb m.lines 0 && eqb m.literals 0

-- a table has fewer cells than named: 1
unfoldable pub sizes : ℕ → Tables → List Check
sizes n t =
    (leb (form_table n) (length t.forms) else 1)
    ∷ (leb pool_table (length t.pool) else 1)
    ∷ (leb line_table (length t.lines) else 1)
    ∷ []

-- session and tables are not in order: 2
unfoldable pub order : ℕ → Session → Tables → List Check
unfolding all_below not_above
order n s t =
    -- counts are within limits
    (leb s.forms most_forms else 2)
    ∷ (leb s.lines most_lines else 2)
    ∷ (leb s.literals most_literals else 2)
    ∷ (leb s.«open» most_levels else 2)
    -- every form below the count has a legal content
    ∷ (all_below s.forms (λ f. legal n (form_at n t.forms f)) else 2)
    -- line ends start from 0, never fall,
    ∷ (all_below s.lines (λ i. leb (end_before t.lines i) (end_before t.lines (suc i))) else 2)
    -- and rise by at most the longest line;
    ∷ (all_below s.lines (λ i. leb (end_before t.lines (suc i)) (end_before t.lines i + longest_line)) else 2)
    -- the last equals the literal count (0 if there is no line)
    ∷ (eqb (end_before t.lines s.lines) s.literals else 2)
    -- origins are premise or derived
    ∷ (all_below s.lines (λ i. is_origin (origin_at t.lines i)) else 2)
    -- each line ascends strictly
    ∷ (all_below s.lines (λ i. ascending (literals_at t.pool t.lines i)) else 2)
    -- and names existing forms
    ∷ (all_below s.lines (λ i. names_below s.forms (literals_at t.pool t.lines i)) else 2)
    -- marks never fall from one level to the next
    ∷ (all_below (s.«open» - 1) (λ k. not_above (mark_at s k) (mark_at s (suc k))) else 2)
    -- and none exceeds the current counts;
    ∷ (all_below s.«open» (λ k. not_above (mark_at s k) (counts_of s)) else 2)
    -- a mark's literal count is the end of the line before it (0 if none);
    ∷ (all_below s.«open» (λ k. eqb (mark_at s k).literals (end_before t.lines (mark_at s k).lines)) else 2)
    -- lines below a mark name only forms below that mark's form count
    ∷ (all_below s.«open» (λ k. all_below (mark_at s k).lines (λ i. names_below (mark_at s k).forms (literals_at t.pool t.lines i))) else 2)
    -- cells and marks above the counts are 0
    ∷ (all (λ c. eq_z c (pos 0)) (drop (form_cells n * s.forms) t.forms) else 2)
    ∷ (all (λ c. eqb c 0) (drop s.literals t.pool) else 2)
    ∷ (all (λ c. eqb c 0) (drop (line_cells * s.lines) t.lines) else 2)
    ∷ (all is_no_mark (drop s.«open» s.marks) else 2)
    ∷ []
