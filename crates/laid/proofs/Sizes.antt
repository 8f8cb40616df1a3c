-- A legal ledger laid out has the exact sizes.
use Prim.Native.Nat.{ℕ}
use Rattle.ledger.specs.Limits.{most_levels}
use Rattle.ledger.specs.Ledger.{Ledger}
use Rattle.ledger.specs.Legal.{Legal}
use Rattle.session.specs.Cells.{no_mark}
use Rattle.laid.specs.Held.{Exact}
use Rattle.laid.specs.Laid.{tables_of, marks_laid, session_of}
use Rattle.laid.proofs.LaidParts.{length_padded, length_marks}
use Rattle.laid.proofs.Writes.{in_form_table, in_pool_table, in_line_table}

pub laid_sizes : (n : ℕ) (l : Ledger) → Legal n l → Exact n (session_of l) (tables_of n l)
unfolding session_of
laid_sizes n l g =
    record {
      sized = record { form_size = in_form_table n l g; pool_size = in_pool_table n l g; line_size = in_line_table n l g };
      mark_size = length_padded no_mark most_levels (marks_laid l.lines l.marks) (rw length_marks g.few_levels);
    }
