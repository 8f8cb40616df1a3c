-- A checker that checks the first record and waves the rest through breaks the contract of run at the second record, and says refuted where
-- whole numbers satisfy all premises: x ≤ 0 is a form; that it never holds is waved through; it is a premise; and the two are resolved.
use mathlib.Core.Path.{◌≡◌, refl, sym, ap, subst, ◌∙◌}
use mathlib.Core.List.{List, [], ◌∷◌, ◌++◌, flat_map}
use Prim.Native.Nat.{ℕ}
use native.Mathlib.Omega.{arith}
use lib.Dec.{T}
use lib.IntN.{pos}
use lib.ListN.{take}
use Rattle.ints.specs.Tests.{up_to}
use Rattle.rows.specs.Limits.{unknowns}
use Rattle.rows.specs.Form.{legal, legal_multiplier}
use Rattle.rows.specs.Sum.{summed_onto}
use Rattle.rows.specs.Conditions.{farkas}
use Rattle.rows.specs.Truth.{form_true}
use Rattle.ledger.specs.Apply.{pass, finding}
use Rattle.ledger.specs.Bytes.{apply_bytes}
use Rattle.ledger.specs.Split.{split, records_of}
use Rattle.ledger.specs.Standing.{refuted, standing_from}
use Rattle.ledger.specs.Truth.{literal_true}
use Rattle.ledger.specs.Carried.{forms_carried, lists_carried, satisfied}
use Rattle.ledger.specs.Examples.{at_most_zero, f1, fm_bytes, pm_bytes, fk_bytes, term, rs_bytes}
use Rattle.session.specs.declared.state.Session.{Session}
use Rattle.session.specs.Cells.{Tables, down_from}
use Rattle.session.specs.InOrder.{sizes, order, all_below, not_above}
use Rattle.session.specs.Calls.{entry, zero_tables, start, stands, standing}
use Rattle.laid.specs.Laid.{padded, forms_laid, pool_laid, lines_laid, marks_laid, session_of, tables_of}
use Rattle.checker.specs.Feed.{stepped, feed}
use Rattle.stream.specs.Run.{Totals, run}
use Rattle.demands.specs.History.{begun}
use Rattle.demands.specs.Useless.{RunChecker, MeetsRun, waving, WavesTheRest, Unsound}

-- FM x ≤ 0; FK of it alone, whose sum is not 0; PM of it; RS of the two
abbrev stream : List ℕ
unfolding flat_map
stream = at_most_zero f1 ++ fk_bytes (term 0 (pos 1) ∷ []) ++ pm_bytes (0 ∷ []) ++ rs_bytes 0 1 0

abbrev s : Session
s = (begun unknowns (zero_tables unknowns)).session

abbrev t : Tables
t = (begun unknowns (zero_tables unknowns)).tables

in_order : entry unknowns s t ≡ pass
unfolding finding start sizes order all_below not_above
in_order = refl

-- what waving gives
abbrev r : Totals
r = waving unknowns s t (records_of stream)

goes_on : r.stop ≡ 0
unfolding waving stream split feed stepped apply_bytes fm_bytes fk_bytes pm_bytes flat_map session_of tables_of padded forms_laid pool_laid lines_laid marks_laid up_to down_from start sizes order legal all_below not_above
goes_on = refl

four_waved : r.records ≡ 4
unfolding waving stream split feed stepped apply_bytes fm_bytes fk_bytes pm_bytes flat_map session_of tables_of padded forms_laid pool_laid lines_laid marks_laid up_to down_from start sizes order legal all_below not_above
four_waved = refl

refuted_by_waving : standing unknowns r.session r.tables ≡ stands (refuted 2)
unfolding waving standing standing_from stream split feed stepped apply_bytes fm_bytes fk_bytes pm_bytes flat_map session_of tables_of padded forms_laid pool_laid lines_laid marks_laid up_to down_from start sizes order legal all_below not_above
refuted_by_waving = refl

-- the run stops at the second record
stops : (run unknowns s t stream).stop ≡ 11
unfolding run legal_multiplier farkas summed_onto stream split feed stepped apply_bytes fm_bytes fk_bytes pm_bytes flat_map session_of tables_of padded forms_laid pool_laid lines_laid marks_laid up_to down_from start sizes order legal all_below not_above
stops = refl

-- 0 for every unknown makes all of what was accepted true
abbrev ZerosSatisfy : ℕ → Type 0
ZerosSatisfy k = let bs = take k (records_of stream) in T (satisfied (λ i. pos 0) (forms_carried bs) (lists_carried bs))

zeros_satisfy : ZerosSatisfy 4
unfolding stream split fm_bytes fk_bytes pm_bytes flat_map forms_carried lists_carried up_to literal_true form_true
zeros_satisfy = tt

module _ (f : RunChecker) (waves : WavesTheRest unknowns f) where
  pub waving_breaks : MeetsRun unknowns f → ⊥
  waving_breaks meets =
      let same : r ≡ run unknowns s t stream = sym (waves s t stream in_order) ∙ meets s t stream in
      let stop : ◌≡◌ {A = ℕ} 0 11 = sym goes_on ∙ ap (λ (q : Totals). q.stop) same ∙ stops in
      omega (arith, stop)

  pub waving_unsound : Unsound unknowns f
  unfolding start sizes
  waving_unsound =
      let same = sym (waves s t stream in_order) in
      record {
        tables = zero_tables unknowns;
        begins = refl;
        stream = stream;
        line = 2;
        refutes = subst (λ (q : Totals). standing unknowns q.session q.tables ≡ stands (refuted 2)) same refuted_by_waving;
        numbers = λ i. pos 0;
        satisfy = subst (λ (q : Totals). ZerosSatisfy q.records) same (subst ZerosSatisfy (sym four_waved) zeros_satisfy);
      }
