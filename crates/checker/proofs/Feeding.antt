-- From the tests that come first to the whole call: what 1 and 2 refuse is unchanged, and where they pass the named cells are held, the record
-- is stepped on them, and the excess stays beside.
use mathlib.Core.Path.{◌≡◌, ap, ◌∙◌}
use mathlib.Core.List.{List, ◌++◌}
use Prim.Native.Nat.{ℕ}
use lib.ListN.{length}
use lib.Seq.{length-take-le}
use Rattle.ledger.specs.Limits.{most_levels}
use Rattle.ledger.specs.Apply.{pass, fail}
use Rattle.ledger.proofs.Findings.{pass→passed, passed_back}
use Rattle.session.specs.declared.state.Session.{Session}
use Rattle.session.specs.Limits.{form_table, pool_table, line_table}
use Rattle.session.specs.Cells.{Tables, named, excess, with_excess}
use Rattle.session.specs.InOrder.{sizes, order}
use Rattle.session.specs.Calls.{entry}
use Rattle.order.proofs.Entry.{entry_long}
use Rattle.laid.specs.Held.{Held}
use Rattle.checker.specs.declared.keep.Fed.{Fed}
use Rattle.laid.specs.Result.{Result, unchanged}
use Rattle.checker.specs.Feed.{stepped, beside, feed, result_of}

module _ (n : ℕ) (s : Session) (t : Tables) where
  pub entry_held : entry n s t ≡ pass → length s.marks ≡ most_levels → Held n s (named n t)
  entry_held e m =
      let long = entry_long n s t e in
      record {
        exact =
            record {
              sized =
                  record {
                    form_size = length-take-le (form_table n) t.forms long.form_room;
                    pool_size = length-take-le pool_table t.pool long.pool_room;
                    line_size = length-take-le line_table t.lines long.line_room;
                  };
              mark_size = m;
            };
        ordered = passed_back (sizes n t) (order n s (named n t)) (pass→passed (sizes n t ++ order n s (named n t)) e);
      }

  module _ (b : List ℕ) where
    pub feed_refused : (k : ℕ) → entry n s t ≡ fail k → unchanged k s t ≡ feed n s t b
    unfolding feed
    feed_refused k e = rw e

    pub feed_stepped : entry n s t ≡ pass → (r : Fed) (t' : Tables) → result_of r t' ≡ stepped n s (named n t) b
        → result_of r (with_excess t' (excess n t)) ≡ feed n s t b
    unfolding feed
    feed_stepped e r t' f = ap (λ (x : Result). beside (excess n t) x) f ∙ rw e
