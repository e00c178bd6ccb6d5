-- One more event of a run that comes, waits or ends leaves what data sets keep with their entries.
use Rattle.std.proofs.Common.{◌≡◌, ◌≢◌, ℕ, suc, true, length, refl, ap, sym, ◌∙◌, subst, Option, Some, None, []}
use Rattle.std.specs.Option.{is_some, option_map_or}
use Rattle.std.proofs.lemmas.Bool.{false≢true}
use Rattle.arrayvec.specs.ArrayVec.{ArrayVec}
use Rattle.ckr_base.specs.declared.code.Code.{Code}
use Rattle.ckr_base.proofs.Options.{some-not-none, some-one}
use Rattle.ckr_base.proofs.Sequences.{each-implies}
use Rattle.ckr_events.specs.declared.event.Ending.TheVariants.{Coded, Completed}
use Rattle.ckr_jcl.specs.declared.deck.Job.{Job}
use Rattle.ckr_library.specs.NameMaps.{Name, Named}
use Rattle.ckr_meaning.specs.Dispositions.{passed_ended}
use Rattle.ckr_meaning.specs.EffectiveJob.{OwnedStep}
use Rattle.ckr_meaning.specs.LibrarySet.{Library}
use Rattle.ckr_meaning.specs.declared.place.Place.{Place}
use Rattle.ckr_meaning.specs.declared.place.Place.TheVariants.{Before, Opened, Within}
use Rattle.ckr_volumes.specs.declared.layout.Layout.{Layout}
use Rattle.ckr_points_library.specs.Commit.{output_names}
use Rattle.ckr_points.specs.Marks.{has_passed, without_passed}
use Rattle.ckr_points.specs.declared.run.RunState.{RunState}
use Rattle.ckr_points.specs.declared.run.RunState.TheVariants.{Queued, Released as ReleasedRun, Ended as EndedRun}
use Rattle.ckr_points.specs.Follows.{is_in_state, is_within, may_hold}
use Rattle.ckr_points.specs.Office.{Leg, Office, leg_of}
use Rattle.ckr_points.specs.Restart.{after_abnormal, after_ended, after_passed_ended, place_of}
use Rattle.ckr_points.specs.Rows.{KeptEntry, RunRow, TableSet, TablesModel, run_of, standing_of, step_of_run, with_run}
use Rattle.ckr_points.specs.Tables.{after_cancelled, after_commit, after_dispositions, committed, earlier_made, own_made, run_disposals}
use Rattle.ckr_points_invariant.specs.Invariant.{IsAgreed, IsHolder, step_now}
use Rattle.ckr_points_invariant.specs.Points.{ArePointed}
use Rattle.ckr_points_invariant.specs.Readiness.{AreReady}
use Rattle.ckr_points_invariant.specs.WrittenEntries.{AreWrittenEntries, HasGrown, HasWrittenEntries, IsWrittenEntry}
use Rattle.ckr_points_invariant.proofs.Holders.Rows.{run-other, run-same}
use Rattle.ckr_points_invariant.proofs.OtherRuns.Sets.{LeavesApart}
use Rattle.ckr_points_invariant.proofs.Select.Invariant.{chosen, next, waits}
use Rattle.ckr_points_invariant.proofs.StartedSteps.RunEvents.{none-yet, only-submitted}
use Rattle.ckr_points_invariant.proofs.StartedSteps.Rows.{only-chosen, only-gone}
use Rattle.ckr_points_invariant.proofs.WaitingRuns.{no_leg}
use Rattle.ckr_points_invariant.proofs.WrittenEntries.Entries.{each-any, entries-through, same-points, same-step}
use Rattle.ckr_points_invariant.proofs.WrittenEntries.Offices.{OwnEntries, written-moved, written-on, written-only}
use Rattle.ckr_points_invariant.proofs.WrittenEntries.Sets.{EachHas, committed-has, disposed_all-has, passed_ended-has}
use Rattle.ckr_points_invariant.proofs.EventRows.{IsCommitting, submitted}

-- a run that wasn't selected has written no entry
none-own : (now later : Office) (job : ℕ) → leg_of now job ≡ None → OwnEntries now later job
none-own now later job none set table there =
    each-any (λ (entry : KeptEntry). entry.point.run ≡ job → IsWrittenEntry now set entry → IsWrittenEntry later set entry) table.entries
    (λ entry here its. absurd (some-not-none its.leg (sym its.leg_at ∙ ap (leg_of now) here ∙ none)))

module _ (layout : Layout) (now : Office) (kept : IsAgreed layout now) (pointed : ArePointed now) (ready : AreReady now) (written : AreWrittenEntries now) where
  -- with another library alone
  with-library : (library : Library) → AreWrittenEntries (record now { library = library })
  with-library library = record {
    sets = λ set table there.
        let its : HasWrittenEntries now set table = written.sets set table there in
        record {
          ends = its.ends;
          written =
              each-implies (IsWrittenEntry now set) (IsWrittenEntry (record now { library = library }) set) table.entries
              (λ entry was. record { run = was.run; row = was.row; row_at = was.row_at; leg = was.leg; leg_at = was.leg_at; of_run = was.of_run }) its.written;
        };
    grown = λ number row leg owned point holder. written.grown number row leg owned point (record { row_at = holder.row_at; holds = holder.holds; leg_at = holder.leg_at });
  }

  -- ---- a run comes, waits and is selected

  pub written-comes : (deck : Job) → AreWrittenEntries (submitted now deck)
  written-comes deck =
      let fresh : ℕ = suc (length now.tables.runs) in
      let alone : leg_of now fresh ≡ None = no_leg layout now fresh kept (none-yet now) in
      written-only layout now kept pointed ready written (submitted now deck) fresh (only-submitted now deck) (λ name apart. refl) written.sets
      (none-own now (submitted now deck) fresh alone)
      (λ row leg holder. absurd (some-not-none leg (sym holder.leg_at ∙ alone)))

  pub written-gone : (job : ℕ) (row : RunRow) (state : RunState) → run_of now.tables job ≡ Some row → is_in_state Queued row ≡ true → AreWrittenEntries (record now { tables = with_run (record row { state = state }) now.tables })
  written-gone job row state e queued =
      let later : Office = record now { tables = with_run (record row { state = state }) now.tables } in
      let alone : leg_of now job ≡ None = ap (leg_of now) (sym (kept.numbered job row e)) ∙ (kept.waiting job row e queued).alone in
      written-only layout now kept pointed ready written later job (only-gone layout now kept job row state e queued) (λ name apart. refl) written.sets (none-own now later job alone)
      (λ one leg holder. absurd (some-not-none leg (sym holder.leg_at ∙ alone)))

  pub written-chosen : (row : RunRow) (initiator : ℕ) (row_at : run_of now.tables row.number ≡ Some row) (queued : is_in_state Queued row ≡ true) (plain : row.deck.restart ≡ None) (free : may_hold now.tables row ≡ true) → AreWrittenEntries (chosen layout now row initiator kept row_at queued plain free)
  written-chosen row initiator row_at queued plain free =
      let later : Office = chosen layout now row initiator kept row_at queued plain free in
      let its : RunRow = next layout now row initiator kept row_at queued plain free in
      written-only layout now kept pointed ready written later row.number (only-chosen layout now kept row initiator row_at queued plain free) (λ name apart. refl) written.sets
      (none-own now later row.number (waits layout now row initiator kept row_at queued plain free).alone)
      (λ one leg holder within. absurd (false≢true (ap (λ (r : RunRow). is_within (place_of r)) (some-one its one (run_of later.tables row.number) (run-same now.tables its row row.number row_at refl) holder.row_at) ∙ within)))

  -- ---- a holder's row alone

  pub written-withdrawn : (job : ℕ) (row : RunRow) (leg : Leg) → IsHolder now job row leg → AreWrittenEntries (record now { tables = after_cancelled row now.tables })
  written-withdrawn job row leg holder =
      let later : RunRow = record row { in_effect = None } in
      written-moved layout now kept pointed ready written job row later leg now.tables.sets now.library holder refl (record { job = refl; deck = refl; own_from = refl; selected = λ was. was }) (λ name apart. refl) written.sets (same-points row later refl)
      (λ step its. same-step row later step refl (λ holds. its))
      (λ holds inside owned point found got.
      let was : HasGrown now.tables.sets row owned point.marks = written.grown job row leg owned point holder inside found got in
      record { since = was.since; effect = λ effect entry in_effect. absurd (some-not-none effect (sym in_effect)) })

  pub written-released : (job : ℕ) (row : RunRow) (leg : Leg) → IsHolder now job row leg → AreWrittenEntries (record now { tables = with_run (record row { state = ReleasedRun }) now.tables })
  written-released job row leg holder =
      let later : RunRow = record row { state = ReleasedRun } in
      written-moved layout now kept pointed ready written job row later leg now.tables.sets now.library holder refl (record { job = refl; deck = refl; own_from = refl; selected = λ was. was }) (λ name apart. refl) written.sets (same-points row later refl)
      (λ step its. same-step row later step refl (λ holds. its))
      (λ holds inside owned point found got.
      let was : HasGrown now.tables.sets row owned point.marks = written.grown job row leg owned point holder inside found got in
      record { since = was.since; effect = was.effect })

  -- ---- a run ends

  abbrev Has : Name → TableSet → Type 0
  Has = HasWrittenEntries now

  -- whatever it leaves, its row holds nothing any more
  ended-so : (job : ℕ) (row : RunRow) (leg : Leg) (base : TablesModel) (mid : RunRow) (place : Option Place) (sets : Named TableSet) (library : Library) → (is_some row.place ≡ true → is_some place ≡ true) → IsHolder now job row leg → run_of base job ≡ Some mid → ((number : ℕ) → number ≢ job → run_of base number ≡ run_of now.tables number) → EachHas Has sets → LeavesApart now job sets
      → AreWrittenEntries (record now { tables = with_run (record row { place = place; state = EndedRun; initiator = None; code = None; passed = []; lost = []; in_effect = None }) (record base { sets = sets }); library = library })
  ended-so job row leg base mid place sets library selected holder was others each left =
      let last : RunRow = record row { place = place; state = EndedRun; initiator = None; code = None; passed = []; lost = []; in_effect = None } in
      written-on layout now kept pointed ready written job row mid last leg base sets library holder was refl others left each (record { job = refl; deck = refl; own_from = refl; selected = selected }) (same-points row last refl)
      (λ step its. same-step row last step refl (λ holds. absurd (false≢true holds)))
      (λ holds. absurd (false≢true holds))

  -- what is left of the data sets of a step that ends abnormally
  disposed-so : (row : RunRow) (owned : OwnedStep) (step : ℕ) (tables : TablesModel) → EachHas Has tables.sets → EachHas Has (after_dispositions row owned step true tables).sets
  disposed-so row owned step tables each = disposed_all-has Has (entries-through now) (run_disposals row owned (own_made row owned step) (earlier_made tables row step) true) (standing_of row tables) each

  pub written-through : (job : ℕ) (row : RunRow) (leg : Leg) (library : Library) → IsHolder now job row leg → LeavesApart now job (after_ended row Completed now.tables).sets → AreWrittenEntries (record now { tables = after_ended row Completed now.tables; library = library })
  written-through job row leg library holder =
      ended-so job row leg now.tables row row.place (passed_ended (has_passed row) now.tables.sets) library (λ was. was) holder holder.row_at (λ number apart. refl) (passed_ended-has Has (entries-through now) (has_passed row) now.tables.sets written.sets)

  pub written-coded : (job rule writes : ℕ) (code : Code) (lengths : ArrayVec ℕ) (row : RunRow) (leg : Leg) (owned : OwnedStep) (library : Library) → IsCommitting now job row leg owned writes lengths.items → LeavesApart now job (after_ended row (Coded code rule writes lengths) now.tables).sets → AreWrittenEntries (record now { tables = after_ended row (Coded code rule writes lengths) now.tables; library = library })
  written-coded job rule writes code lengths row leg owned library its =
      let holder = its.at.running.holder in
      let found = its.at.running.found in
      let sets : Named TableSet = committed (output_names row.job.root owned) lengths.items now.tables.sets in
      let mid : RunRow = record row { place = Some (Within (step_now row) writes) } in
      let done : TablesModel = with_run mid (record now.tables { sets = sets }) in
      let disposed = after_dispositions mid owned (step_now row) true done in
      subst (λ (o : Option OwnedStep). LeavesApart now job (option_map_or (λ owned. after_abnormal mid (Within (step_now row) writes) (after_commit row owned (step_now row) writes lengths.items now.tables)) o now.tables).sets → AreWrittenEntries (record now { tables = option_map_or (λ owned. after_abnormal mid (Within (step_now row) writes) (after_commit row owned (step_now row) writes lengths.items now.tables)) o now.tables; library = library })) (sym found)
      (subst (λ (o : Option OwnedStep). LeavesApart now job (option_map_or (λ owned. let disposed = after_dispositions mid owned (step_now row) true done in after_passed_ended (record mid { passed = disposed.passed }) (record done { sets = disposed.sets })) o done).sets → AreWrittenEntries (record now { tables = option_map_or (λ owned. let disposed = after_dispositions mid owned (step_now row) true done in after_passed_ended (record mid { passed = disposed.passed }) (record done { sets = disposed.sets })) o done; library = library })) (sym found)
      (ended-so job row leg done mid (Some (Within (step_now row) writes)) (passed_ended (without_passed row.lost disposed.passed) disposed.sets) library (λ was. refl) holder
      (run-same (record now.tables { sets = sets }) mid row job holder.row_at (kept.numbered job row holder.row_at))
      (λ number differs. run-other (record now.tables { sets = sets }) mid number (λ same. differs (same ∙ kept.numbered job row holder.row_at)))
      (passed_ended-has Has (entries-through now) (without_passed row.lost disposed.passed) disposed.sets
      (disposed-so mid owned (step_now row) done (committed-has Has (entries-through now) (output_names row.job.root owned) lengths.items now.tables.sets written.sets)))))

  pub written-abnormal : (job : ℕ) (row : RunRow) (leg : Leg) (place : Place) (library : Library) → IsHolder now job row leg → LeavesApart now job (after_abnormal row place now.tables).sets → AreWrittenEntries (record now { tables = after_abnormal row place now.tables; library = library })
  written-abnormal job row leg (Before step) library holder = ended-so job row leg now.tables row row.place (passed_ended (has_passed row) now.tables.sets) library (λ was. was) holder holder.row_at (λ number apart. refl) (passed_ended-has Has (entries-through now) (has_passed row) now.tables.sets written.sets)
  written-abnormal job row leg (Opened step) library holder = ended-so job row leg now.tables row row.place (passed_ended (has_passed row) now.tables.sets) library (λ was. was) holder holder.row_at (λ number apart. refl) (passed_ended-has Has (entries-through now) (has_passed row) now.tables.sets written.sets)
  written-abnormal job row leg (Within step writes) library holder =
      by (step_of_run row step)
    where
      by : (o : Option OwnedStep) → LeavesApart now job (option_map_or (λ owned. let disposed = after_dispositions row owned step true now.tables in after_passed_ended (record row { passed = disposed.passed }) (record now.tables { sets = disposed.sets })) o now.tables).sets → AreWrittenEntries (record now { tables = option_map_or (λ owned. let disposed = after_dispositions row owned step true now.tables in after_passed_ended (record row { passed = disposed.passed }) (record now.tables { sets = disposed.sets })) o now.tables; library = library })
      by None left = with-library library
      by (Some owned) left =
          let disposed = after_dispositions row owned step true now.tables in
          ended-so job row leg now.tables row row.place (passed_ended (without_passed row.lost disposed.passed) disposed.sets) library (λ was. was) holder holder.row_at (λ number apart. refl)
          (passed_ended-has Has (entries-through now) (without_passed row.lost disposed.passed) disposed.sets (disposed-so row owned step now.tables written.sets)) left
