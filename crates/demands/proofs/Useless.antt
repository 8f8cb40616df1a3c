-- A checker that meets the contract of its call is none of the useless ones. What shows it is fed to the fresh ledger laid out, over any number
-- of unknowns. And none of the classes is empty.
use mathlib.Core.Path.{◌≡◌, refl, sym, ap, subst, ◌∙◌}
use mathlib.Core.List.{List, [], ◌∷◌}
use Prim.Native.Nat.{ℕ, ◌+◌}
use native.Mathlib.Omega.{arith}
use lib.ListN.{get_or}
use Rattle.ints.specs.Tests.{up_to}
use Rattle.ints.proofs.Bools.{never}
use Rattle.ledger.specs.Ledger.{fresh}
use Rattle.ledger.specs.Record.{Answer, level, accepted, refused, is_accepted}
use Rattle.ledger.specs.Bytes.{apply_bytes}
use Rattle.ledger.specs.Split.{split, records_of}
use Rattle.ledger.proofs.LegalLaws.{legal_fresh}
use Rattle.session.specs.declared.state.Session.{Session}
use Rattle.session.specs.Cells.{Tables, tables, with_excess}
use Rattle.laid.specs.Laid.{session_of, tables_of}
use Rattle.laid.specs.Result.{Result, unchanged}
use Rattle.checker.specs.Feed.{feed}
use Rattle.stream.specs.Run.{Totals, totals, run}
use Rattle.demands.specs.Useless.{FeedChecker, RunChecker, MeetsFeed, MeetsRun, RefusesEverything, HasConstantAnswer, WritesNothing, waving, WavesTheRest, InventsTotals}
use Rattle.demands.proofs.Stopping.{run_leaves}
use Rattle.pieces.proofs.RunLaid.{result_laid, feed_laid}

-- ---- records in bytes

-- OP
abbrev opening : List ℕ
opening = 79 ∷ 80 ∷ []

-- WD, which the fresh session refuses with 13
abbrev withdrawal : List ℕ
withdrawal = 87 ∷ 68 ∷ []

-- PM with no literal
abbrev empty_premise : List ℕ
empty_premise = 80 ∷ 77 ∷ 0 ∷ []

abbrev answered : Result → Answer
answered r = r.answer

-- the origin of line 0: 1, or 0 where there is none
abbrev origin : Tables → ℕ
origin t = get_or t.lines 1 0

module _ (n : ℕ) where
  abbrev s : Session
  s = session_of fresh

  abbrev no_excess : Tables
  no_excess = tables [] [] []

  abbrev t : Tables
  t = with_excess (tables_of n fresh) no_excess

  -- ---- feed

  module _ (f : FeedChecker) (meets : MeetsFeed n f) where
    fed : (b : List ℕ) → f s t b ≡ result_laid n no_excess (apply_bytes n fresh b).answer (apply_bytes n fresh b).ledger
    fed b = meets s t b ∙ feed_laid n no_excess fresh (legal_fresh n) b

    pub refusing_breaks : RefusesEverything f → ⊥
    unfolding apply_bytes
    refusing_breaks refuses = refuses s t opening (subst (λ (r : Result). is_accepted r.answer) (sym (fed opening)) tt)

    pub constant_breaks : HasConstantAnswer f → ⊥
    unfolding apply_bytes
    constant_breaks (a, constant) =
        let yes : accepted (level 1) ≡ a = sym (ap answered (fed opening)) ∙ constant s t opening in
        let no : refused 13 ≡ a = sym (ap answered (fed withdrawal)) ∙ constant s t withdrawal in
        never (cc)

    pub writing_nothing_breaks : WritesNothing f → ⊥
    unfolding apply_bytes tables_of up_to
    writing_nothing_breaks nothing =
        let same : ◌≡◌ {A = ℕ} 0 1 =
        ap origin (sym (nothing s t empty_premise)) ∙ ap (λ (r : Result). origin r.tables) (fed empty_premise) in
        omega arith

  -- ---- run

  module _ (f : RunChecker) (meets : MeetsRun n f) where
    pub inventing_breaks : InventsTotals n f → ⊥
    inventing_breaks (u, v, b, invents) =
        let l = run_leaves n u v b in
        invents (run n u v b).records l.some (rw (meets u v b) l.leaves) (ap (λ (r : Totals). r.records) (meets u v b)) (rw (meets u v b) l.bytes)

  -- ---- a member of each class

  pub refuser : RefusesEverything (λ u v b. unchanged 3 u v)
  refuser u v b e = e

  pub repeater : HasConstantAnswer (λ u v b. unchanged 3 u v)
  repeater = (refused 3, λ u v b. refl)

  -- its answers and sessions are right
  pub idler : WritesNothing (λ u v b. record { answer = (feed n u v b).answer; session = (feed n u v b).session; tables = v })
  idler u v b = refl

  pub waver : WavesTheRest n (λ u v b. waving n u v (records_of b))
  waver u v b e = refl

  -- all but the records is right
  pub inventor : InventsTotals n (λ u v b. totals ((run n u v b).records + 1) (run n u v b).bytes (run n u v b).stop (run n u v b).session (run n u v b).tables)
  unfolding run split
  inventor = (s, t, [], λ k few _ records _. omega (arith, few, records))
