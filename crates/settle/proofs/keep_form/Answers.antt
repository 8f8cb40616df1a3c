-- `settle::keep_form` meets its contract.
use native.Mathlib.Omega.{arith}
use Rattle.settle.proofs.OnLedger.{form_full}
use Rattle.settle.proofs.Tops.{form_adds}
use Rattle.settle.proofs.keep_form.Goals as goal

pub returns-then-counts-ge-MOST_FORMS : goal.returns-then-counts-ge-MOST_FORMS
returns-then-counts-ge-MOST_FORMS c = λ ps ls s e h. record { result = form_full h _ (rw (← e) at c.if-counts-ge-MOST_FORMS.true); place = tt }

pub returns : goal.returns
returns c = λ ps ls s e h. record { result = form_adds h c.args.top e c.args.cells.now c.requires.1 (omega arith) _ c.add_form.ensures; place = tt }
