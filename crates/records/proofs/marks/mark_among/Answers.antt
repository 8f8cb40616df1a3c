-- `mark_among` meets its contract: it finds the first mark whose letters the bytes begin with.
use mathlib.Core.Path.{sym, ap, ◌∙◌}
use Rattle.std.proofs.Common.{rules, tests}
use Rattle.std.proofs.lemmas.Iterator.{YieldsList-from_slice}
use Rattle.std.proofs.lemmas.Iterator.Adapters.{option_map_id}
use Rattle.std.proofs.lemmas.Iterator.Consumers.{YieldsList-from_copied}
use Rattle.std.proofs.lemmas.Iterator.Search.{find_from_yields_List}
use Rattle.ledger.specs.Bytes.{has_letters}
use Rattle.records.specs.Marks.{record_mark_of, bearing_of}
use Rattle.records.proofs.MarkLaws.{among}
use Rattle.records.proofs.marks.mark_among.Goals as goal

pub returns : goal.returns
returns c =
    let marks = c.args.marks.now in
    let found =
    find_from_yields_List (λ m. has_letters c.args.bytes.now (record_mark_of m)) _ _ c.find.result c.find.ensures.ran
    (YieldsList-from_copied (YieldsList-from_slice marks cc)) (λ x b q k. search (rules, tests)) in
    ap bearing_of (sym (option_map_id c.find.result) ∙ found) ∙ among c.args.bytes.now marks
