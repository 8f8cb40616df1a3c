-- Feed and run on a legal ledger that is laid out, with any excess behind: they leave the ledger laid out that the records make.
use Rattle.std.proofs.Common.{◌≡◌, ℕ, ◌+◌, List, [], ◌∷◌, length, take, refl, ap, ◌∙◌}
use Rattle.ledger.specs.Ledger.{Ledger}
use Rattle.ledger.specs.Legal.{Legal}
use Rattle.ledger.specs.Record.{Answer, accepted, refused}
use Rattle.ledger.specs.Bytes.{apply_bytes}
use Rattle.ledger.specs.Run.{Run, run_from, fed_all}
use Rattle.ledger.specs.Split.{records_of}
use Rattle.ledger.specs.Run as ledger
use Rattle.ledger.proofs.Findings.{bytes_refused}
use Rattle.ledger.proofs.LegalLaws.{legal_apply_bytes}
use Rattle.ledger.proofs.RunLaws.{run_stops_at_first_bad}
use Rattle.session.specs.Cells.{Tables, named, with_excess, ledger_of}
use Rattle.laid.specs.Laid.{tables_of, session_of}
use Rattle.laid.proofs.LegalLaid.{read_back}
use Rattle.laid.specs.Result.{Result, settled}
use Rattle.checker.specs.Feed.{stepped, beside, feed}
use Rattle.stream.specs.Run.{Totals, totals, each_by, run}
use Rattle.checker.proofs.Beside.{laid_held, named_beside, entry_beside, feed_beside}

-- ---- the ledger stays legal

module _ (n : ℕ) where
  pub legal_fed : (l : Ledger) → Legal n l → (bs : List (List ℕ)) → Legal n (fed_all n l bs)
  unfolding fed_all
  legal_fed l g [] = g
  legal_fed l g (b ∷ bs) = legal_fed (apply_bytes n l b).ledger (legal_apply_bytes n l b g) bs

  pub legal_run : (l : Ledger) → Legal n l → (b : List ℕ) → Legal n (ledger.run n l b).ledger
  legal_run l g b =
      let r = ledger.run n l b in
      rw (run_stops_at_first_bad n l b).ledger (legal_fed l g (take r.records (records_of b)))

-- ---- a record

module _ (n : ℕ) (x : Tables) where
  abbrev pub result_laid : Answer → Ledger → Result
  result_laid a l = record { answer = a; session = session_of l; tables = with_excess (tables_of n l) x }

  module _ (l : Ledger) (g : Legal n l) where
    pub ledger_read : ledger_of n (session_of l) (named n (with_excess (tables_of n l) x)) ≡ l
    ledger_read = rw (named_beside (laid_held n l g) x) (read_back n l g)

    pub feed_laid : (b : List ℕ)
        → feed n (session_of l) (with_excess (tables_of n l) x) b ≡ result_laid (apply_bytes n l b).answer (apply_bytes n l b).ledger
    unfolding stepped
    feed_laid b =
        let o = apply_bytes n l b in
        feed_beside (laid_held n l g) x b
        ∙ ap (λ (q : Ledger). beside x (settled n (session_of l) (tables_of n l) (apply_bytes n q b))) (read_back n l g)
        ∙ of o.answer o.ledger (bytes_refused n l b)
      where
        of : (a : Answer) (r : Ledger) → ((k : ℕ) → a ≡ refused k → r ≡ l)
            → beside x (settled n (session_of l) (tables_of n l) (record { answer = a; ledger = r })) ≡ result_laid a r
        of (accepted m) r f = refl
        of (refused k) r f = rw (f k refl)

  -- ---- a run

  abbrev pub totals_laid : Run → Totals
  totals_laid r = totals r.records r.bytes r.stop (session_of r.ledger) (with_excess (tables_of n r.ledger) x)

  each_laid : (k c : ℕ) (l : Ledger) → Legal n l → (bs : List (List ℕ))
      → each_by (feed n) k c (session_of l) (with_excess (tables_of n l) x) bs ≡ totals_laid (run_from n k c l bs)
  unfolding each_by run_from
  each_laid k c l g [] = refl
  each_laid k c l g (b ∷ bs) =
      let o = apply_bytes n l b in
      ap next (feed_laid l g b) ∙ of o.answer (each_laid (k + 1) (c + length b) o.ledger (legal_apply_bytes n l b g) bs)
    where
      -- the run from b on, by what b gives
      next : Result → Totals
      next r =
          elim r.answer [
            | accepted _ ↦ each_by (feed n) (k + 1) (c + length b) r.session r.tables bs
            | refused j ↦ totals k c j (session_of l) (with_excess (tables_of n l) x)
          ]

      m : Ledger
      m = (apply_bytes n l b).ledger

      of : (a : Answer)
          → each_by (feed n) (k + 1) (c + length b) (session_of m) (with_excess (tables_of n m) x) bs ≡ totals_laid (run_from n (k + 1) (c + length b) m bs)
          → elim a [
            | accepted _ ↦ each_by (feed n) (k + 1) (c + length b) (session_of m) (with_excess (tables_of n m) x) bs
            | refused j ↦ totals k c j (session_of l) (with_excess (tables_of n l) x)
          ]
          ≡ totals_laid (elim a [
            | accepted _ ↦ run_from n (k + 1) (c + length b) m bs
            | refused j ↦ record { records = k; bytes = c; stop = j; ledger = l }
          ])
      of (accepted _) rest = rest
      of (refused j) rest = refl

  module _ (l : Ledger) (g : Legal n l) where
    pub run_laid : (b : List ℕ) → run n (session_of l) (with_excess (tables_of n l) x) b ≡ totals_laid (ledger.run n l b)
    unfolding run
    run_laid b = rw (entry_beside (laid_held n l g) x) (each_laid 0 0 l g (records_of b))
