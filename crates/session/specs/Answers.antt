-- What the answers of calls say, in the numbers and values of the specification.
use Rattle.std.specs.Prelude.{ℕ, Result, Ok, Err}
use Rattle.ledger.specs.Record as ledger
use Rattle.ledger.specs.Apply.{Finding, pass, fail}
use Rattle.session.specs.declared.answers.Refusal.{Refusal}
use Rattle.session.specs.declared.answers.Refusal.TheVariants.{ShortTable, NotInOrder, WrongLength, UnknownMark, CountOutside, IllegalContent, NoRoom, NotInForce, NotAscending, NotAllowed, ConditionFails, LineTooLong, NoLevelOpen}
use Rattle.session.specs.declared.answers.Made.{Made}
use Rattle.session.specs.declared.answers.Made.TheVariants as Mades

abbrev pub number_of : Refusal → ℕ
number_of ShortTable = 1
number_of NotInOrder = 2
number_of WrongLength = 3
number_of UnknownMark = 4
number_of CountOutside = 5
number_of IllegalContent = 6
number_of NoRoom = 7
number_of NotInForce = 8
number_of NotAscending = 9
number_of NotAllowed = 10
number_of ConditionFails = 11
number_of LineTooLong = 12
number_of NoLevelOpen = 13

abbrev pub made_of : Made → ledger.Made
made_of (Mades.Form f) = ledger.form f
made_of (Mades.Line i) = ledger.line i
made_of (Mades.Level k) = ledger.level k

abbrev pub answer_of : Result Made Refusal → ledger.Answer
answer_of (Ok m) = ledger.accepted (made_of m)
answer_of (Err r) = ledger.refused (number_of r)

abbrev pub finding_of : Result (Unit {0}) Refusal → Finding
finding_of (Ok _) = pass
finding_of (Err r) = fail (number_of r)
