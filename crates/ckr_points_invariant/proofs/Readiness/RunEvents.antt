-- One more event of a run that comes, goes or ends leaves all runs ready to restart.
use Rattle.std.proofs.Common.{◌≡◌, ◌≢◌, ℕ, zero, suc, true, ◌∷◌, ◌++◌, length, refl, ap, sym, ◌∙◌, subst, Option, Some, None, false, []}
use Rattle.std.specs.Prelude.{◌==◌}
use Rattle.std.specs.Option.{option_map_or}
use Rattle.std.proofs.lemmas.Bool.{false≢true}
use Rattle.std.proofs.lemmas.Option.{same_Some}
use Rattle.arrayvec.specs.ArrayVec.{ArrayVec}
use Rattle.ckr_base.specs.declared.code.Code.{Code}
use Rattle.ckr_base.proofs.Options.{some-one}
use Rattle.ckr_base.proofs.Sequences.{get-append-last, get-append-front}
use Rattle.ckr_events.specs.declared.event.Ending.TheVariants.{Coded, Completed}
use Rattle.ckr_jcl.specs.declared.deck.Job.{Job}
use Rattle.ckr_library.specs.NameMaps.{Named}
use Rattle.ckr_meaning.specs.Dispositions.{passed_ended}
use Rattle.ckr_meaning.specs.EffectiveJob.{OwnedStep}
use Rattle.ckr_meaning.specs.LibrarySet.{Library}
use Rattle.ckr_meaning.specs.declared.place.Place.{Place}
use Rattle.ckr_meaning.specs.declared.place.Place.TheVariants.{Before, Opened, Within}
use Rattle.ckr_volumes.specs.declared.layout.Layout.{Layout}
use Rattle.ckr_points_library.specs.Commit.{output_names}
use Rattle.ckr_points.specs.Marks.{has_passed, without_passed}
use Rattle.ckr_points.specs.declared.run.RunState.{RunState}
use Rattle.ckr_points.specs.declared.run.RunState.TheVariants.{Queued, Released as ReleasedRun, Ended as EndedRun}
use Rattle.ckr_points.specs.Follows.{is_in_state, state_number, may_hold}
use Rattle.ckr_points.specs.Office.{Office, is_holder, Leg}
use Rattle.ckr_points.specs.Restart.{after_abnormal, after_ended, after_passed_ended}
use Rattle.ckr_points.specs.Rows.{RunRow, TableSet, TablesModel, run_of, step_of_run, with_run}
use Rattle.ckr_points.specs.Tables.{after_cancelled, after_commit, after_dispositions, committed, queued_run}
use Rattle.ckr_points_invariant.specs.Invariant.{IsAgreed, IsHolder, step_now}
use Rattle.ckr_points_invariant.specs.Points.{ArePointed}
use Rattle.ckr_points_invariant.proofs.Holders.Rows.{run-other, run-same}
use Rattle.ckr_points_invariant.proofs.Select.Invariant.{chosen, led_there, next}
use Rattle.ckr_points_invariant.specs.Readiness.{AreReady, IsReady}
use Rattle.ckr_points_invariant.proofs.OtherRuns.Sets.{LeavesApart}
use Rattle.ckr_points_invariant.proofs.Readiness.Office.{ready-only}
use Rattle.ckr_points_invariant.proofs.Readiness.Runs.{ready-outside}
use Rattle.ckr_points_invariant.proofs.Readiness.Rows.{ready-cancelled, ready-moved, ready-state, ready-with}
use Rattle.ckr_points_invariant.proofs.EventRows.{submitted}

-- ---- a run more

pub more-others : (tables : TablesModel) (row : RunRow) (number : ℕ) → number ≢ suc (length tables.runs) → run_of (record { sets = tables.sets; runs = tables.runs ++ row ∷ [] }) number ≡ run_of tables number
more-others tables row zero apart = refl
more-others tables row (suc place) apart = get-append-front tables.runs row place (λ e. apart (ap suc e))

module _ (layout : Layout) (now : Office) (kept : IsAgreed layout now) (pointed : ArePointed now) (ready : AreReady now) where
  pub ready-comes : (deck : Job) → AreReady (submitted now deck)
  ready-comes deck =
      let fresh : ℕ = suc (length now.tables.runs) in
      ready-only layout now kept pointed ready fresh (submitted now deck)
      (record {
        legs = λ other differs. refl;
        others = λ other differs. more-others now.tables (queued_run fresh deck) other differs;
        sets = λ name apart. refl;
        own = λ row leg there.
            let is : queued_run fresh deck ≡ row = same_Some (queued_run fresh deck) row (sym (get-append-last now.tables.runs (queued_run fresh deck)) ∙ there.row_at) in
            absurd (false≢true (ap (λ (its : RunRow). is_holder its.state) is ∙ there.holds));
        waits = λ row e queued.
            let is : queued_run fresh deck ≡ row = same_Some (queued_run fresh deck) row (sym (get-append-last now.tables.runs (queued_run fresh deck)) ∙ e) in
            ap (λ (its : RunRow). its.in_effect) (sym is);
      })

  -- ---- a row alone

  pub ready-gone : (job : ℕ) (row : RunRow) (state : RunState) → run_of now.tables job ≡ Some row → is_holder state ≡ false → is_in_state Queued (record row { state = state }) ≡ false → AreReady (record now { tables = with_run (record row { state = state }) now.tables })
  ready-gone job row state e over gone =
      ready-moved layout now kept pointed ready job row (record row { state = state }) now.tables.sets now.library e refl (λ name apart. refl)
      (λ leg there. absurd (false≢true (sym over ∙ there.holds))) (λ again. absurd (false≢true (sym gone ∙ again)))

  pub ready-withdrawn : (job : ℕ) (row : RunRow) (leg : Leg) → IsHolder now job row leg → AreReady (record now { tables = after_cancelled row now.tables })
  ready-withdrawn job row leg holder =
      ready-moved layout now kept pointed ready job row (record row { in_effect = None }) now.tables.sets now.library holder.row_at refl (λ name apart. refl)
      (λ its there.
      let same : IsHolder now job row its = record { row_at = holder.row_at; holds = holder.holds; leg_at = there.leg_at } in
      ready-cancelled now.tables.sets row its (ready.runs job row its same))
      (λ queued. refl)

  pub ready-released : (job : ℕ) (row : RunRow) (leg : Leg) → IsHolder now job row leg → AreReady (record now { tables = with_run (record row { state = ReleasedRun }) now.tables })
  ready-released job row leg holder =
      ready-moved layout now kept pointed ready job row (record row { state = ReleasedRun }) now.tables.sets now.library holder.row_at refl (λ name apart. refl)
      (λ its there.
      let same : IsHolder now job row its = record { row_at = holder.row_at; holds = holder.holds; leg_at = there.leg_at } in
      ready-state now.tables.sets row its ReleasedRun row.initiator row.code (ready.runs job row its same))
      (λ again. absurd (false≢true again))

  -- ---- a run is selected

  pub ready-chosen : (row : RunRow) (initiator : ℕ) (row_at : run_of now.tables row.number ≡ Some row) (queued : is_in_state Queued row ≡ true) (plain : row.deck.restart ≡ None) (free : may_hold now.tables row ≡ true) → AreReady (chosen layout now row initiator kept row_at queued plain free)
  ready-chosen row initiator row_at queued plain free =
      let later : Office = chosen layout now row initiator kept row_at queued plain free in
      let next_row : RunRow = next layout now row initiator kept row_at queued plain free in
      let here : run_of later.tables row.number ≡ Some next_row = run-same now.tables next_row row row.number row_at refl in
      ready-only layout now kept pointed ready row.number later
      (record {
        legs = λ number differs. led_there layout now row initiator kept row_at queued plain free number differs;
        others = λ number differs. run-other now.tables next_row number differs;
        sets = λ name apart. refl;
        own = λ other leg there.
            subst (λ (its : RunRow). IsReady now.tables.sets its leg) (some-one next_row other (run_of later.tables row.number) here there.row_at)
            (ready-outside now.tables.sets next_row leg refl (ready.waits row.number row row_at queued));
        waits = λ other e again. absurd (false≢true (ap (is_in_state Queued) (some-one next_row other (run_of later.tables row.number) here e) ∙ again));
      })

  -- ---- a run ends

  -- whatever it leaves: its row holds nothing any more
  ended-so : (job : ℕ) (row mid : RunRow) (base : TablesModel) (sets : Named TableSet) (last : RunRow) (library : Library) → run_of base job ≡ Some mid → last.number ≡ job → last.state ≡ EndedRun → ((number : ℕ) → number ≢ job → run_of base number ≡ run_of now.tables number) → LeavesApart now job sets → AreReady (record now { tables = with_run last (record base { sets = sets }); library = library })
  ended-so job row mid base sets last library was same over others apart =
      ready-with layout now kept pointed ready job mid last base sets library was same others apart
      (λ leg there. absurd (false≢true (ap is_holder (sym over) ∙ there.holds)))
      (λ again. absurd (false≢true (ap (λ state. state_number state == 1) (sym over) ∙ again)))

  pub ready-through : (job : ℕ) (row : RunRow) (library : Library) → run_of now.tables job ≡ Some row → LeavesApart now job (after_ended row Completed now.tables).sets → AreReady (record now { tables = after_ended row Completed now.tables; library = library })
  ready-through job row library e apart =
      ended-so job row row now.tables (passed_ended (has_passed row) now.tables.sets) (record row { state = EndedRun; initiator = None; code = None; passed = []; lost = []; in_effect = None }) library e (kept.numbered job row e) refl (λ number differs. refl) apart

  pub ready-coded : (job rule writes : ℕ) (code : Code) (lengths : ArrayVec ℕ) (row : RunRow) (owned : OwnedStep) (library : Library) → run_of now.tables job ≡ Some row → step_of_run row (step_now row) ≡ Some owned → LeavesApart now job (after_ended row (Coded code rule writes lengths) now.tables).sets → AreReady (record now { tables = after_ended row (Coded code rule writes lengths) now.tables; library = library })
  ready-coded job rule writes code lengths row owned library e found =
      let sets : Named TableSet = committed (output_names row.job.root owned) lengths.items now.tables.sets in
      let row_then : RunRow = record row { place = Some (Within (step_now row) writes) } in
      let done : TablesModel = with_run row_then (record now.tables { sets = sets }) in
      let disposed = after_dispositions row_then owned (step_now row) true done in
      subst (λ (o : Option OwnedStep). LeavesApart now job (option_map_or (λ owned. after_abnormal row_then (Within (step_now row) writes) (after_commit row owned (step_now row) writes lengths.items now.tables)) o now.tables).sets → AreReady (record now { tables = option_map_or (λ owned. after_abnormal row_then (Within (step_now row) writes) (after_commit row owned (step_now row) writes lengths.items now.tables)) o now.tables; library = library })) (sym found)
      (subst (λ (o : Option OwnedStep). LeavesApart now job (option_map_or (λ owned. let disposed = after_dispositions row_then owned (step_now row) true done in after_passed_ended (record row_then { passed = disposed.passed }) (record done { sets = disposed.sets })) o done).sets → AreReady (record now { tables = option_map_or (λ owned. let disposed = after_dispositions row_then owned (step_now row) true done in after_passed_ended (record row_then { passed = disposed.passed }) (record done { sets = disposed.sets })) o done; library = library })) (sym found)
      (λ apart.
      ended-so job row row_then done (passed_ended (without_passed row.lost disposed.passed) disposed.sets) (record row_then { state = EndedRun; initiator = None; code = None; passed = []; lost = []; in_effect = None }) library
      (run-same (record now.tables { sets = sets }) row_then row job e (kept.numbered job row e)) (kept.numbered job row e) refl
      (λ number differs. run-other (record now.tables { sets = sets }) row_then number (λ same. differs (same ∙ kept.numbered job row e))) apart))

  -- with another library alone
  library-ready : (library : Library) → AreReady (record now { library = library })
  library-ready library = record {
    waits = ready.waits;
    runs = λ number row leg there. ready.runs number row leg (record { row_at = there.row_at; holds = there.holds; leg_at = there.leg_at });
  }

  pub ready-abnormal : (job : ℕ) (row : RunRow) (place : Place) (library : Library) → run_of now.tables job ≡ Some row → LeavesApart now job (after_abnormal row place now.tables).sets → AreReady (record now { tables = after_abnormal row place now.tables; library = library })
  ready-abnormal job row (Before step) library e apart =
      ended-so job row row now.tables (passed_ended (has_passed row) now.tables.sets) (record row { state = EndedRun; initiator = None; code = None; passed = []; lost = []; in_effect = None }) library e (kept.numbered job row e) refl (λ number differs. refl) apart
  ready-abnormal job row (Opened step) library e apart =
      ended-so job row row now.tables (passed_ended (has_passed row) now.tables.sets) (record row { state = EndedRun; initiator = None; code = None; passed = []; lost = []; in_effect = None }) library e (kept.numbered job row e) refl (λ number differs. refl) apart
  ready-abnormal job row (Within step writes) library e apart =
      by (step_of_run row step) apart
    where
      by : (o : Option OwnedStep) → LeavesApart now job (option_map_or (λ owned. let disposed = after_dispositions row owned step true now.tables in after_passed_ended (record row { passed = disposed.passed }) (record now.tables { sets = disposed.sets })) o now.tables).sets → AreReady (record now { tables = option_map_or (λ owned. let disposed = after_dispositions row owned step true now.tables in after_passed_ended (record row { passed = disposed.passed }) (record now.tables { sets = disposed.sets })) o now.tables; library = library })
      by None apart = library-ready library
      by (Some owned) apart =
          let disposed = after_dispositions row owned step true now.tables in
          ended-so job row row now.tables (passed_ended (without_passed row.lost disposed.passed) disposed.sets) (record row { state = EndedRun; initiator = None; code = None; passed = []; lost = []; in_effect = None }) library e (kept.numbered job row e) refl (λ number differs. refl) apart
