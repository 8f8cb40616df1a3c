-- `rules::entries::form` meets its contract.
use mathlib.Core.Path.{◌≡◌, sym, ap, ◌∙◌}
use mathlib.Core.List.{List}
use borrow.Author.Tests.{not-true}
use lib.IntN.{ℤ}
use lib.ListN.{length}
use Rattle.std.proofs.Common.{rules}
use Rattle.session.specs.Limits.{form_cells}
use Rattle.rows.specs.Limits.{unknowns}
use Rattle.rows.specs.Form.{form_of, legal}
use Rattle.ledger.specs.Bytes.{form_from}
use Rattle.rules.proofs.FieldLaws.{form_refused, form_made}
use Rattle.rules.proofs.entries.form.Goals as goal

pub returns-then-not-legal : goal.returns-then-not-legal
returns-then-not-legal c = λ xs ys fs ls. form_refused fs ls (form_from c.args.bytes.now) (sym (c.legal.ensures ∙ ap (λ (x : List ℤ). legal unknowns (form_of x)) c.read_form.ensures) ∙ not-true _ c.if-not-legal.true-raw)

pub returns : goal.returns
returns c = λ xs ys fs ls.
    let many : length c.read_form.new.cells ≡ form_cells unknowns = search rules in
    form_made fs ls (form_from c.args.bytes.now) c.read_form.new.cells _ many (ap (λ (x : List ℤ). form_of x) c.read_form.ensures)
    (sym (c.legal.ensures ∙ ap (λ (x : List ℤ). legal unknowns (form_of x)) c.read_form.ensures) ∙ c.if-not-legal.false)
