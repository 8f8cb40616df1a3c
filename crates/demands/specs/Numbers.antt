-- All tests of a call of feed, in one list: the sizes, the order, the record's shape, and the record on the ledger that the named cells hold. And
-- the order of their numbers.
use Rattle.std.specs.Prelude.{List, ◌∷◌, ◌++◌, ℕ}
use Rattle.ledger.specs.Checks.{Check, checks}
use Rattle.ledger.specs.Bytes.{shape, decode}
use Rattle.ledger.specs.Numbers.{shape_order, record_order}
use Rattle.session.specs.declared.state.Session.{Session}
use Rattle.session.specs.Cells.{Tables, named, ledger_of}
use Rattle.session.specs.InOrder.{sizes, order}

abbrev pub feed_tests : ℕ → Session → Tables → List ℕ → List Check
feed_tests n s t b = sizes n t ++ order n s (named n t) ++ shape b ++ checks n (ledger_of n s (named n t)) (decode b)

-- 1, 2, the record's shape, 6, 8, 9, 10, 11, 12, 13, 7
abbrev pub number_order : List ℕ
number_order = 1 ∷ 2 ∷ (shape_order ++ record_order)
