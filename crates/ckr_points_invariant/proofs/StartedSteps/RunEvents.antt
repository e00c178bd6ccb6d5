-- One more event of a run that comes, waits or ends leaves what runs keep of the steps that they began.
use Rattle.std.proofs.Common.{◌≡◌, ◌≢◌, ℕ, suc, true, false, length, refl, ap, sym, ◌∙◌, subst, Option, Some, None, arith, []}
use Rattle.std.specs.Option.{is_some, option_map_or}
use Rattle.std.proofs.lemmas.Bool.{false≢true}
use Rattle.std.proofs.lemmas.Option.{same_Some, slice_get_past}
use Rattle.arrayvec.specs.ArrayVec.{ArrayVec}
use Rattle.ckr_base.specs.declared.code.Code.{Code}
use Rattle.ckr_base.proofs.Options.{some-not-none}
use Rattle.ckr_base.proofs.Sequences.{get-append-last}
use Rattle.ckr_events.specs.declared.event.Ending.TheVariants.{Coded, Completed}
use Rattle.ckr_jcl.specs.declared.deck.Job.{Job}
use Rattle.ckr_library.specs.NameMaps.{Named}
use Rattle.ckr_meaning.specs.Dispositions.{passed_ended}
use Rattle.ckr_meaning.specs.EffectiveJob.{OwnedStep}
use Rattle.ckr_meaning.specs.LibrarySet.{Library}
use Rattle.ckr_meaning.specs.declared.place.Place.{Place}
use Rattle.ckr_meaning.specs.declared.place.Place.TheVariants.{Before, Opened, Within}
use Rattle.ckr_volumes.specs.declared.layout.Layout.{Layout}
use Rattle.ckr_points_library.specs.Commit.{output_names}
use Rattle.ckr_points.specs.Marks.{has_passed, without_passed}
use Rattle.ckr_points.specs.declared.run.RunState.TheVariants.{Released as ReleasedRun, Ended as EndedRun}
use Rattle.ckr_points.specs.Office.{Leg, Office}
use Rattle.ckr_points.specs.Restart.{after_abnormal, after_ended, after_passed_ended}
use Rattle.ckr_points.specs.RuleCases.{is_ended}
use Rattle.ckr_points.specs.Rows.{RunRow, TableSet, TablesModel, run_of, step_of_run, with_run}
use Rattle.ckr_points.specs.Tables.{after_cancelled, after_commit, after_dispositions, committed, queued_run}
use Rattle.ckr_points_invariant.specs.Invariant.{IsAgreed, IsHolder, step_now}
use Rattle.ckr_points_invariant.specs.StartedSteps.{AreBegunSteps}
use Rattle.ckr_points_invariant.proofs.Holders.Rows.{run-other, run-same}
use Rattle.ckr_points_invariant.proofs.Readiness.RunEvents.{more-others}
use Rattle.ckr_points_invariant.proofs.StartedSteps.Offices.{IsOnlyRow, begun-only}
use Rattle.ckr_points_invariant.proofs.StartedSteps.Rows.{begun-moved, begun-with}
use Rattle.ckr_points_invariant.proofs.WaitingRuns.{no_leg}
use Rattle.ckr_points_invariant.proofs.EventRows.{IsCommitting, submitted}

-- ---- a run more

-- no run has the next number yet
pub none-yet : (now : Office) → run_of now.tables (suc (length now.tables.runs)) ≡ None
none-yet now = slice_get_past now.tables.runs (length now.tables.runs) (omega arith)

pub row-submitted : (now : Office) (deck : Job) (row : RunRow) → run_of (submitted now deck).tables (suc (length now.tables.runs)) ≡ Some row → queued_run (suc (length now.tables.runs)) deck ≡ row
row-submitted now deck row e = same_Some (queued_run (suc (length now.tables.runs)) deck) row (sym (get-append-last now.tables.runs (queued_run (suc (length now.tables.runs)) deck)) ∙ e)

pub only-submitted : (now : Office) (deck : Job) → IsOnlyRow now (submitted now deck) (suc (length now.tables.runs))
only-submitted now deck = record {
  legs = λ other apart. refl;
  others = λ other apart. more-others now.tables (queued_run (suc (length now.tables.runs)) deck) other apart;
  unended = ap (λ (o : Option RunRow). option_map_or (λ row. is_ended row.state) o false) (none-yet now);
}

module _ (layout : Layout) (now : Office) (kept : IsAgreed layout now) (begun : AreBegunSteps now) where
  -- ---- a run comes

  pub begun-comes : (deck : Job) → AreBegunSteps (submitted now deck)
  begun-comes deck =
      begun-only layout now (submitted now deck) (suc (length now.tables.runs)) kept (only-submitted now deck) begun
      (record {
        led = λ row e selected. absurd (false≢true (ap (λ (its : RunRow). is_some its.place) (row-submitted now deck row e) ∙ selected));
        unled = λ row e none. ap (λ (its : RunRow). its.points) (sym (row-submitted now deck row e));
        steps = λ row leg e led. absurd (some-not-none leg (sym led ∙ no_leg layout now (suc (length now.tables.runs)) kept (none-yet now)));
      })

  -- ---- a holder's row alone

  pub begun-withdrawn : (job : ℕ) (row : RunRow) (leg : Leg) → IsHolder now job row leg → AreBegunSteps (record now { tables = after_cancelled row now.tables })
  begun-withdrawn job row leg holder =
      begun-moved layout now kept job row (record row { in_effect = None }) leg now.tables.sets now.library begun holder
      (record { number = refl; deck = refl; job = refl; marks = λ step. refl; rcs = λ step before. refl; step = omega arith })

  pub begun-released : (job : ℕ) (row : RunRow) (leg : Leg) → IsHolder now job row leg → AreBegunSteps (record now { tables = with_run (record row { state = ReleasedRun }) now.tables })
  begun-released job row leg holder =
      begun-moved layout now kept job row (record row { state = ReleasedRun }) leg now.tables.sets now.library begun holder
      (record { number = refl; deck = refl; job = refl; marks = λ step. refl; rcs = λ step before. refl; step = omega arith })

  -- ---- a run ends

  -- whatever it leaves, its row keeps its points
  ended-so : (job : ℕ) (row : RunRow) (leg : Leg) (base : TablesModel) (mid : RunRow) (place : Option Place) (sets : Named TableSet) (library : Library) → IsHolder now job row leg → run_of base job ≡ Some mid → ((number : ℕ) → number ≢ job → run_of base number ≡ run_of now.tables number) → step_now (record row { place = place }) ≡ step_now row
      → AreBegunSteps (record now { tables = with_run (record row { place = place; state = EndedRun; initiator = None; code = None; passed = []; lost = []; in_effect = None }) (record base { sets = sets }); library = library })
  ended-so job row leg base mid place sets library holder was others same =
      begun-with layout now kept job row mid (record row { place = place; state = EndedRun; initiator = None; code = None; passed = []; lost = []; in_effect = None }) leg base sets library holder was refl others begun
      (record { number = refl; deck = refl; job = refl; marks = λ step. refl; rcs = λ step before. refl; step = let here : step_now (record row { place = place }) ≡ step_now row = same in omega (arith, here) })

  pub begun-through : (job : ℕ) (row : RunRow) (leg : Leg) (library : Library) → IsHolder now job row leg → AreBegunSteps (record now { tables = after_ended row Completed now.tables; library = library })
  begun-through job row leg library holder = ended-so job row leg now.tables row row.place (passed_ended (has_passed row) now.tables.sets) library holder holder.row_at (λ number apart. refl) refl

  pub begun-coded : (job rule writes : ℕ) (code : Code) (lengths : ArrayVec ℕ) (row : RunRow) (leg : Leg) (owned : OwnedStep) (library : Library) → IsCommitting now job row leg owned writes lengths.items → AreBegunSteps (record now { tables = after_ended row (Coded code rule writes lengths) now.tables; library = library })
  begun-coded job rule writes code lengths row leg owned library its =
      let holder = its.at.running.holder in
      let found = its.at.running.found in
      let sets : Named TableSet = committed (output_names row.job.root owned) lengths.items now.tables.sets in
      let mid : RunRow = record row { place = Some (Within (step_now row) writes) } in
      let done : TablesModel = with_run mid (record now.tables { sets = sets }) in
      let disposed = after_dispositions mid owned (step_now row) true done in
      subst (λ (o : Option OwnedStep). AreBegunSteps (record now { tables = option_map_or (λ owned. after_abnormal mid (Within (step_now row) writes) (after_commit row owned (step_now row) writes lengths.items now.tables)) o now.tables; library = library })) (sym found)
      (subst (λ (o : Option OwnedStep). AreBegunSteps (record now { tables = option_map_or (λ owned. let disposed = after_dispositions mid owned (step_now row) true done in after_passed_ended (record mid { passed = disposed.passed }) (record done { sets = disposed.sets })) o done; library = library })) (sym found)
      (ended-so job row leg done mid (Some (Within (step_now row) writes)) (passed_ended (without_passed row.lost disposed.passed) disposed.sets) library holder
      (run-same (record now.tables { sets = sets }) mid row job holder.row_at (kept.numbered job row holder.row_at))
      (λ number differs. run-other (record now.tables { sets = sets }) mid number (λ same. differs (same ∙ kept.numbered job row holder.row_at))) refl))

  pub begun-abnormal : (job : ℕ) (row : RunRow) (leg : Leg) (place : Place) (library : Library) → IsHolder now job row leg → AreBegunSteps (record now { tables = after_abnormal row place now.tables; library = library })
  begun-abnormal job row leg (Before step) library holder = ended-so job row leg now.tables row row.place (passed_ended (has_passed row) now.tables.sets) library holder holder.row_at (λ number apart. refl) refl
  begun-abnormal job row leg (Opened step) library holder = ended-so job row leg now.tables row row.place (passed_ended (has_passed row) now.tables.sets) library holder holder.row_at (λ number apart. refl) refl
  begun-abnormal job row leg (Within step writes) library holder =
      by (step_of_run row step)
    where
      by : (o : Option OwnedStep) → AreBegunSteps (record now { tables = option_map_or (λ owned. let disposed = after_dispositions row owned step true now.tables in after_passed_ended (record row { passed = disposed.passed }) (record now.tables { sets = disposed.sets })) o now.tables; library = library })
      by None = record { led = begun.led; unled = begun.unled; runs = begun.runs }
      by (Some owned) =
          let disposed = after_dispositions row owned step true now.tables in
          ended-so job row leg now.tables row row.place (passed_ended (without_passed row.lost disposed.passed) disposed.sets) library holder holder.row_at (λ number apart. refl) refl
