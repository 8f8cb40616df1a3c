-- What is known of the forms and lines that a rule reads.
use Rattle.std.specs.Prelude.{◌≡◌, List, ℕ, suc, ◌+◌, ◌≤◌, ◌<◌, T, ℤ, length}
use Rattle.rows.specs.Form.{form_at, legal}
use Rattle.ledger.specs.Limits.{most_forms, most_lines, longest_line}
use Rattle.session.specs.Limits.{form_table, line_table}
use Rattle.session.specs.Cells.{end_before}

-- so many forms lie in the table, and are legal
pub record FormsHeld (n many : ℕ) (cells : List ℤ) : Type 0 where
  pub size : length cells ≡ form_table n
  pub few : many ≤ most_forms
  pub contents : (f : ℕ) → f < many → T (legal n (form_at n cells f))

-- so many lines lie in the pool, none longer than a line may be
pub record LinesHeld (many : ℕ) (pool lines : List ℕ) : Type 0 where
  pub size : length lines ≡ line_table
  pub few : many ≤ most_lines
  pub rise : (i : ℕ) → i < many → end_before lines i ≤ end_before lines (suc i)
  pub short : (i : ℕ) → i < many → end_before lines (suc i) ≤ end_before lines i + longest_line
  pub inside : (i : ℕ) → i < many → end_before lines (suc i) ≤ length pool
