-- What a record does, in two steps: it proposes what its rule makes, read off the forms and the lines alone, and the proposal is settled on
-- the ledger. The code goes this way.
use Rattle.std.specs.Prelude.{List, ℕ, ◌+◌, ◌-◌, length}
use Rattle.rows.specs.Form.{Form}
use Rattle.ledger.specs.Ledger.{Line, Ledger, New, add, opened, withdrawn}
use Rattle.ledger.specs.Record.{Record, make, OP, WD, level, accepted, refused}
use Rattle.ledger.specs.Checks.{tests, makes, room, level_left, level_open}
use Rattle.ledger.specs.Apply.{Finding, pass, fail, finding, Outcome, judged, numbered}

-- ---- what is proposed

pub data Proposal : Type 0 where
  refuses : ℕ → Proposal
  proposes : New → Proposal
  opens : Proposal
  withdraws : Proposal

-- what is made, where the tests pass
abbrev pub proposed_by : Finding → New → Proposal
proposed_by pass x = proposes x
proposed_by (fail k) x = refuses k

-- 6, 8, 9, 10, 11 and 12 are the rule's
unfoldable pub proposed : ℕ → List Form → List Line → Record → Proposal
unfolding finding tests makes
proposed n fs ls (make r) = proposed_by (finding (tests n fs ls r)) (makes ls r)
proposed n fs ls OP = opens
proposed n fs ls WD = withdraws

-- ---- how it is settled

-- what is made is stored if there is room for it
unfoldable pub stored : Ledger → New → Outcome
unfolding finding room add
stored l x = judged (finding (room l x)) l (record { answer = accepted (numbered l x); ledger = add l x })

-- 13 and 7 are the ledger's
unfoldable pub settles : Ledger → Proposal → Outcome
unfolding finding stored opened withdrawn
settles l (refuses k) = record { answer = refused k; ledger = l }
settles l (proposes x) = stored l x
settles l opens = judged (finding (level_left l)) l (record { answer = accepted (level (length l.marks + 1)); ledger = opened l })
settles l withdraws = judged (finding (level_open l)) l (record { answer = accepted (level (length l.marks - 1)); ledger = withdrawn l })
