-- The running steps stay those of their runs by each event that follows.
use Rattle.std.proofs.Common.{arith, ◌≡◌, ◌≢◌, ◌≤◌, ◌+◌, ◌==◌, ℕ, zero, suc, Bool, true, false, cond, not, ◌&&◌, List, [], ◌∷◌, refl, ap, sym, ◌∙◌, subst, Option, Some, None}
use Rattle.std.specs.Prelude.{find}
use Rattle.std.specs.List.{AllByRecursion}
use Rattle.std.specs.Option.{is_none, option_map_or}
use Rattle.std.proofs.lemmas.Bool.{false≢true}
use Rattle.arrayvec.specs.ArrayVec.{ArrayVec}
use Rattle.ckr_base.specs.declared.record.Rec.{Rec}
use Rattle.ckr_base.proofs.Bools.{and-first}
use Rattle.ckr_base.proofs.Numbers.{equal-false, equal-true, number-cases}
use Rattle.ckr_base.proofs.Options.{some-one}
use Rattle.ckr_base.proofs.Sequences.{each-implies, find-holds, find-passes}
use Rattle.ckr_events.specs.Jobs.{job_of}
use Rattle.ckr_events.specs.declared.event.Event.{Event}
use Rattle.ckr_events.specs.declared.event.Event.TheVariants.{Cancelled, Checkpointed, Denied, Ended, Held, Purged, Released, Restarted, Rewritten, Selected, Started, StepEnded, Submitted}
use Rattle.ckr_events.specs.declared.event.Made.{Made}
use Rattle.ckr_jcl.specs.declared.deck.Job.{Job}
use Rattle.ckr_library.specs.Catalog.{records_of}
use Rattle.ckr_library.specs.NameMaps.{Name, entry_at}
use Rattle.ckr_library.specs.declared.sets.Kept.{Kept}
use Rattle.ckr_points.specs.declared.run.RunState.TheVariants.{Queued, Held as HeldRun}
use Rattle.ckr_points.specs.Follows.{follows, is_checkpoint, is_in_state, is_length_of, state_number}
use Rattle.ckr_points.specs.Restart.{after_event, by_step, kept_at, place_of, step_in}
use Rattle.ckr_points.specs.Rows.{RunRow, TableSet, TablesModel, run_of}
use Rattle.ckr_points.specs.Tables.{after_cancelled, after_checkpointed, after_rewritten, after_started, after_submitted, is_checkpoints, name_with_role}
use Rattle.ckr_desk_plans.specs.Model.Commit.{output_names}
use Rattle.ckr_points_tables.specs.Checkpoint.{checkpoint_name}
use Rattle.ckr_points_tables.specs.Invariant.{MaySubmit, is_submission}
use Rattle.ckr_volumes.specs.declared.layout.Layout.{Layout}
use Rattle.ckr_desk_memory.proofs.Holders.Checkpoints.{check-behind, running-entered}
use Rattle.ckr_desk_memory.proofs.Holders.Events.{any-goes, holders-stay}
use Rattle.ckr_desk_memory.proofs.Holders.Submissions.{row-more}
use Rattle.ckr_desk_memory.proofs.Holders.Moves.{by-own, by-row, row-as_is, row-next}
use Rattle.ckr_desk_memory.proofs.Holders.OwnSets.{running-again, running-new, running-other, running-rewritten, running-same, running-served}
use Rattle.ckr_desk_memory.proofs.Queue.{on-is}
use Rattle.ckr_desk_memory.proofs.RunningSteps.Again.{again-cases, is-back}
use Rattle.ckr_desk_memory.proofs.RunningSteps.Served.{without-none}
use Rattle.ckr_desk_memory.proofs.RunningSteps.TakenSteps.{is-taken}
use Rattle.ckr_desk_memory.specs.EventChanges.{FirstEnters, HasEntered, IsEntered, check_name_in, is_of_run, is_point_of, served_in, served_step, with_entry_end, without_first, without_run}
use Rattle.ckr_desk_memory.specs.Invariant.{IsAcceptedRow, IsAnyAccepted, IsPlacedRow}
use Rattle.ckr_desk_memory.specs.RunningSteps.{GoesOn, StepGoesBack, StepStarts}
use Rattle.ckr_desk_memory.specs.Start.{HasNew}
use Rattle.ckr_desk_memory.specs.View.{PointView, RunningStepView, begun}
use Rattle.ckr_desk_turn.specs.Queue.{AreNumbered}
use Rattle.ckr_desk_turn.proofs.Queue.Events.{run_number}
use Rattle.ckr_desk_memory.specs.Holders.{AreHolders}
use Rattle.ckr_desk_memory.specs.OwnSteps.{HavePoints, KnowsItsPoint}
use Rattle.ckr_desk_plans.specs.Model.Units.{program_of}
use Rattle.ckr_base.specs.declared.code.Code.{Code}
use Rattle.ckr_desk_memory.specs.OwnSets.{AreUpTo, CommitsItsOwn, IsCommitted, IsCommittedWith, IsOfOther, IsRunningOf}
use Rattle.ckr_desk_memory.proofs.RunningSteps.First.{all-without}
use Rattle.ckr_desk_memory.proofs.EventRows.{IsStarting, by-denied, by-purged, by-released, by-started, row-checked, row-selected}
use Rattle.ckr_meaning.specs.EffectiveJob.{OwnedStep}

-- ---- lists of running steps

module _ (P Q : RunningStepView → Type 0) where
  each-without_run : (job : ℕ) (old : List RunningStepView) → ((on : RunningStepView) → on.run ≢ job → P on → Q on) → AllByRecursion P old → AllByRecursion Q (without_run job old)
  each-without_run job [] goes all = tt
  each-without_run job (on ∷ rest) goes all =
      by (on.run == job) (λ e. goes on (equal-false on.run job e) all.0) (each-without_run job rest goes all.1)
    where
      by : (b : Bool) → (b ≡ false → Q on) → AllByRecursion Q (without_run job rest) → AllByRecursion Q (cond (not b) (on ∷ without_run job rest) (without_run job rest))
      by true one others = others
      by false one others = (one refl, others)

  each-both : (C : RunningStepView → Type 0) (old : List RunningStepView) → ((on : RunningStepView) → P on → C on → Q on) → AllByRecursion P old → AllByRecursion C old → AllByRecursion Q old
  each-both C [] goes all also = tt
  each-both C (on ∷ rest) goes all also = (goes on all.0 also.0, each-both C rest goes all.1 also.1)

-- ---- each event

module _ (layout : Layout) (tables : TablesModel) (are : AreHolders tables) (rows : AllByRecursion IsAcceptedRow tables.runs) (numbered : AreNumbered 1 tables.runs) (placed : AllByRecursion IsPlacedRow tables.runs) where
  -- those of other runs
  other-steps : (event : Event) (deck : Option Job) → is_submission event ≡ false → follows layout tables event deck ≡ true → (on : RunningStepView) → on.run ≢ job_of event → IsRunningOf tables on → IsRunningOf (after_event event deck tables) on
  other-steps event deck other follow on apart is =
      running-other tables (after_event event deck tables) (job_of event) (any-goes layout tables event deck rows numbered placed are other follow) rows numbered placed are on is apart

  -- those of all runs, where the run's own go on too
  all-steps : (event : Event) (deck : Option Job) → is_submission event ≡ false → follows layout tables event deck ≡ true → ((on : RunningStepView) → on.run ≡ job_of event → IsRunningOf tables on → IsRunningOf (after_event event deck tables) on)
      → (old : List RunningStepView) → AllByRecursion (IsRunningOf tables) old → AllByRecursion (IsRunningOf (after_event event deck tables)) old
  all-steps event deck other follow own old all =
      each-implies (IsRunningOf tables) (IsRunningOf (after_event event deck tables)) old
      (λ on is. number-cases on.run (job_of event) (λ here. own on here is) (λ apart. other-steps event deck other follow on apart is)) all

  -- those of the others
  left-steps : (event : Event) (deck : Option Job) → is_submission event ≡ false → follows layout tables event deck ≡ true → (old : List RunningStepView) → AllByRecursion (IsRunningOf tables) old → AllByRecursion (IsRunningOf (after_event event deck tables)) (without_run (job_of event) old)
  left-steps event deck other follow old all = each-without_run (IsRunningOf tables) (IsRunningOf (after_event event deck tables)) (job_of event) old (other-steps event deck other follow) all

  its_row : (job : ℕ) (on : RunningStepView) → on.run ≡ job → (is : IsRunningOf tables on) → run_of tables job ≡ Some is.row
  its_row job on here is = ap (run_of tables) (sym here) ∙ is.row_at

  -- a run that waits has no running step
  not_queued : {A : Type 0} (job : ℕ) (on : RunningStepView) → on.run ≡ job → IsRunningOf tables on → (row : RunRow) → run_of tables job ≡ Some row → is_in_state Queued row ≡ true → A
  not_queued job on here is row at queued =
      absurd (false≢true (sym (ap (λ s. state_number s == 1) is.state) ∙ ap (is_in_state Queued) (some-one is.row row (run_of tables job) (its_row job on here is) at) ∙ queued))

  -- nor has one that is held
  not_held : {A : Type 0} (job : ℕ) (on : RunningStepView) → on.run ≡ job → IsRunningOf tables on → (row : RunRow) → run_of tables job ≡ Some row → is_in_state HeldRun row ≡ true → A
  not_held job on here is row at held =
      absurd (false≢true (sym (ap (λ s. state_number s == 3) is.state) ∙ ap (is_in_state HeldRun) (some-one is.row row (run_of tables job) (its_row job on here is) at) ∙ held))

  submitted : (job : ℕ) (deck : Job) (on : RunningStepView) → IsRunningOf tables on → IsRunningOf (after_submitted job deck tables) on
  submitted job deck on is = running-same tables (after_submitted job deck tables) on is is.row (row-more tables job deck on.run is.row is.row_at) refl refl refl refl

  cancelled : (job : ℕ) (deck : Option Job) (on : RunningStepView) → on.run ≡ job → IsRunningOf tables on → IsRunningOf (after_event (Cancelled job) deck tables) on
  cancelled job deck on here is =
      by-row (λ after. IsRunningOf after on) tables job (λ row. after_cancelled row tables) is.row (its_row job on here is)
      (running-same tables (after_cancelled is.row tables) on is (record is.row { in_effect = None })
      (row-next tables tables on.run is.row _ tables.sets (row-as_is tables on.run is.row is.row_at) (run_number tables on.run is.row numbered is.row_at)).now refl refl refl refl)

  served : (job : ℕ) (deck : Option Job) (old : List RunningStepView) → follows layout tables (Cancelled job) deck ≡ true → AllByRecursion (IsRunningOf tables) old → AllByRecursion (IsRunningOf (after_event (Cancelled job) deck tables)) (served_in job old)
  served job deck old follow all =
      by (find (is_of_run job) old) refl
    where
      behind : AllByRecursion (IsRunningOf (after_event (Cancelled job) deck tables)) old
      behind = all-steps (Cancelled job) deck refl follow (cancelled job deck) old all

      by : (first : Option RunningStepView) → find (is_of_run job) old ≡ first → AllByRecursion (IsRunningOf (after_event (Cancelled job) deck tables)) (option_map_or (λ on. served_step on ∷ without_first job old) first old)
      by None e = behind
      by (Some on) e = (
        running-served (after_event (Cancelled job) deck tables) on (find-holds (IsRunningOf (after_event (Cancelled job) deck tables)) (is_of_run job) old on behind e),
        all-without (IsRunningOf (after_event (Cancelled job) deck tables)) job old behind,
      )

  -- a step that starts stands before those of other runs
  abbrev StartsWell : ℕ → ℕ → List RunningStepView → List RunningStepView → TablesModel → Type 0
  StartsWell job step old new after =
      StepStarts job step after old new → AreHolders after → AllByRecursion (IsRunningOf after) (without_run job old) → AllByRecursion (IsRunningOf after) new

  started : (job step : ℕ) (items : List Made) (old new : List RunningStepView) (row : RunRow) (owned : OwnedStep) → IsStarting layout tables job step items row owned → StartsWell job step old new (after_started row owned step items tables)
  started job step items old new row owned its starts holders others =
      let after : TablesModel = after_started row owned step items tables in
      let now = (row-next tables tables job row _ after.sets (row-as_is tables job row its.row_at) (run_number tables job row numbered its.row_at)).now in
      let new_one : HasNew job row.job.root owned (begun row.job.root owned) after.sets old new = starts _ owned now its.found in
      subst (AllByRecursion (IsRunningOf after)) (sym new_one.first) (running-new after job _ owned old new now (on-is row.state its.on) refl its.found holders new_one, others)

  rewritten : (job taken writes : ℕ) (lengths : ArrayVec ℕ) (place : ℕ) (image : Rec) (deck : Option Job) → follows layout tables (Rewritten job taken writes lengths place image) deck ≡ true → (on : RunningStepView) → on.run ≡ job → IsRunningOf tables on → IsCommitted job lengths.items tables on → IsRunningOf (after_event (Rewritten job taken writes lengths place image) deck tables) on
  rewritten job taken writes lengths place image deck follow on here is commits =
      by-row (λ after. IsRunningOf after on) tables job (λ row. by_step (λ owned step. after_rewritten row owned step writes lengths.items tables) row tables) is.row (its_row job on here is)
      (by-own (λ after. IsRunningOf after on) tables (λ owned step. after_rewritten is.row owned step writes lengths.items tables) is.row is.owned is.found
      (running-rewritten tables on is writes lengths.items rows (run_number tables on.run is.row numbered is.row_at) (commits here is.row is.owned (its_row job on here is) is.found)))

  -- ---- a checkpoint

  module _ (job taken writes place bytes : ℕ) (id : Name) (lengths : ArrayVec ℕ) (deck : Option Job) (follow : follows layout tables (Checkpointed job id taken writes lengths place bytes) deck ≡ true) where
    abbrev event : Event
    event = Checkpointed job id taken writes lengths place bytes

    abbrev after : TablesModel
    after = after_event event deck tables

    abbrev most : ℕ
    most = place + records_of bytes

    abbrev kept : Kept
    kept = record { id = id; run = job; place = place; bytes = bytes }

    module _ (on new : RunningStepView) (here : on.run ≡ job) (is : IsRunningOf tables on) (commits : IsCommittedWith (place + records_of bytes) job lengths.items tables on) where
      abbrev set : Name
      set = name_with_role is.row.job.root is.owned is_checkpoints

      abbrev behind : TablesModel
      behind = after_checkpointed is.row is.owned (step_in (place_of is.row)) kept taken writes lengths.items tables

      abbrev Enters : TablesModel → Type 0
      Enters now = IsEntered (check_name_in now job) most on new → IsRunningOf now new

      at : run_of tables job ≡ Some is.row
      at = its_row job on here is

      number : is.row.number ≡ on.run
      number = run_number tables on.run is.row numbered is.row_at

      checks : is_checkpoint tables id lengths.items place bytes is.row is.owned ≡ true
      checks = row-checked layout tables job deck taken writes place bytes id lengths follow is.row is.owned at is.found

      -- the entry begins where its data set ends
      low : (table : TableSet) → entry_at tables.sets set ≡ Some table → table.set.length ≤ most
      low table found =
          let stands = and-first _ (is_length_of set most (output_names is.row.job.root is.owned) lengths.items) checks in
          let its : (place == table.set.length && is_none (kept_at tables.sets set id)) ≡ true =
          sym (ap (λ (o : Option TableSet). option_map_or (λ table. place == table.set.length && is_none (kept_at tables.sets set id)) o false) found) ∙ stands in
          let same : place ≡ table.set.length = equal-true place table.set.length (and-first (place == table.set.length) _ its) in
          subst (λ n. n ≤ most) same (let k : place ≤ place + records_of bytes = omega arith in k)

      up : AreUpTo (with_entry_end (checkpoint_name is.row.job.root is.owned) most on.sets.sets) (output_names is.row.job.root is.owned) lengths.items
      up = commits here is.row is.owned at is.found

      entered_one : IsEntered (check_name_in after job) most on new → IsRunningOf after new
      entered_one =
          by-row Enters tables job (λ row. by_step (λ owned step. after_checkpointed row owned step kept taken writes lengths.items tables) row tables) is.row at
          (by-own Enters tables (λ owned step. after_checkpointed is.row owned step kept taken writes lengths.items tables) is.row is.owned is.found
          (λ entered.
          running-entered tables on new is rows number kept taken writes most lengths.items low up
          (subst (λ check. IsEntered check most on new) (ap (check_name_in behind) (sym here) ∙ check-behind tables on new is rows number kept taken writes most lengths.items low up) entered)))

    module _ (old : List RunningStepView) (all : AllByRecursion (IsRunningOf tables) old) (commits : AllByRecursion (IsCommittedWith (place + records_of bytes) job lengths.items tables) old)
        (others : AllByRecursion (IsOfOther job) (without_first job old)) where
      rest : AllByRecursion (IsRunningOf after) (without_first job old)
      rest =
          each-both (IsRunningOf tables) (IsRunningOf after) (IsOfOther job) (without_first job old) (λ on is apart. other-steps event deck refl follow on apart is)
          (all-without (IsRunningOf tables) job old all) others

      entered : (new : List RunningStepView) → HasEntered job (check_name_in after job) most old new → AllByRecursion (IsRunningOf after) new
      entered new = by (find (is_of_run job) old) refl
        where
          by : (first : Option RunningStepView) → find (is_of_run job) old ≡ first → FirstEnters first job (check_name_in after job) most old new → AllByRecursion (IsRunningOf after) new
          by None e same = subst (AllByRecursion (IsRunningOf after)) (without-none job old e ∙ sym same) rest
          by (Some on) e goes =
              subst (AllByRecursion (IsRunningOf after)) (sym goes.1) (
                entered_one on goes.0 (equal-true on.run job (find-passes (is_of_run job) old on e))
                    (find-holds (IsRunningOf tables) (is_of_run job) old on all e) (find-holds (IsCommittedWith most job lengths.items tables) (is_of_run job) old on commits e) goes.2,
                rest,
              )

  -- a step that goes on from its run's point stands before those of other runs
  again : (job initiator : ℕ) (code : Code) (deck : Option Job) (points : List PointView) (old new : List RunningStepView) → follows layout tables (Restarted job initiator code true) deck ≡ true → HavePoints tables points
      → StepGoesBack (find (is_point_of job) points) job (after_event (Restarted job initiator code true) deck tables) old new → AllByRecursion (IsRunningOf (after_event (Restarted job initiator code true) deck tables)) (without_run job old)
      → AllByRecursion (IsRunningOf (after_event (Restarted job initiator code true) deck tables)) new
  again job initiator code deck points old new follow known goes others =
      let after : TablesModel = after_event (Restarted job initiator code true) deck tables in
      let back = is-back layout tables job initiator code deck numbered placed follow in
      again-cases after job back.next back.owned points old new back.next_at back.found goes
      (λ gone. subst (AllByRecursion (IsRunningOf after)) (sym gone) others)
      (λ point is new_one.
      let has = known job back.row back.owned back.row_at back.inside back.effect back.was in
      let program = ap (λ (p : PointView). program_of p.state) (some-one point has.point (find (is_point_of job) points) is has.found) ∙ has.program in
      subst (AllByRecursion (IsRunningOf after)) (sym new_one.starts.first) (
        running-again after job back.next back.owned point old new back.next_at new_one.state back.within back.found program new_one.has new_one.starts,
        others,
      ))

  -- so does one that goes on with an earlier run at a checkpoint, in the step of that run
  taken : (job initiator before step : ℕ) (id : Name) (deck : Option Job) (points : List PointView) (old new : List RunningStepView) → follows layout tables (Selected job initiator (suc before) step (Some id)) deck ≡ true
      → KnowsItsPoint (Selected job initiator (suc before) step (Some id)) tables points → AllByRecursion (IsRunningOf tables) old
      → StepGoesBack (find (is_point_of job) points) job (after_event (Selected job initiator (suc before) step (Some id)) deck tables) old new
      → AllByRecursion (IsRunningOf (after_event (Selected job initiator (suc before) step (Some id)) deck tables)) new
  taken job initiator before step id deck points old new follow knows all goes =
      let after : TablesModel = after_event (Selected job initiator (suc before) step (Some id)) deck tables in
      let over = is-taken layout tables job initiator before step id deck numbered follow in
      let others : AllByRecursion (IsRunningOf after) (without_run job old) = left-steps (Selected job initiator (suc before) step (Some id)) deck refl follow old all in
      again-cases after job over.next over.owned points old new over.next_at over.found goes
      (λ gone. subst (AllByRecursion (IsRunningOf after)) (sym gone) others)
      (λ point is new_one.
      let has = knows over.row over.owned over.row_at over.was in
      let program = ap (λ (p : PointView). program_of p.state) (some-one point has.point (find (is_point_of job) points) is has.found) ∙ has.program in
      subst (AllByRecursion (IsRunningOf after)) (sym new_one.starts.first) (
        running-again after job over.next over.owned point old new over.next_at new_one.state over.within over.found program new_one.has new_one.starts,
        others,
      ))

  -- none of a run that is selected is running before
  selected : (job initiator earlier step : ℕ) (id : Option Name) (deck : Option Job) (old : List RunningStepView) → follows layout tables (Selected job initiator earlier step id) deck ≡ true
      → AllByRecursion (IsRunningOf tables) old → AllByRecursion (IsRunningOf (after_event (Selected job initiator earlier step id) deck tables)) old
  selected job initiator earlier step id deck old follow all =
      all-steps (Selected job initiator earlier step id) deck refl follow
      (λ on here is. row-selected layout tables job deck initiator earlier step id follow (λ row its. not_queued job on here is row its.row_at its.queued)) old all

  stay : (event : Event) (deck : Option Job) (points : List PointView) (old new : List RunningStepView) → follows layout tables event deck ≡ true → AreHolders (after_event event deck tables) → AllByRecursion (IsRunningOf tables) old → HavePoints tables points
      → KnowsItsPoint event tables points → CommitsItsOwn event tables old → GoesOn event (after_event event deck tables) points old new → AllByRecursion (IsRunningOf (after_event event deck tables)) new
  stay (Submitted job cards) None points old new follow holders all known knows commits goes = subst (AllByRecursion (IsRunningOf tables)) (sym goes) all
  stay (Submitted job cards) (Some deck) points old new follow holders all known knows commits goes =
      subst (AllByRecursion (IsRunningOf (after_submitted job deck tables))) (sym goes)
      (each-implies (IsRunningOf tables) (IsRunningOf (after_submitted job deck tables)) old (submitted job deck) all)
  stay (Selected job initiator (suc before) step (Some id)) deck points old new follow holders all known knows commits goes = taken job initiator before step id deck points old new follow knows all goes
  stay (Selected job initiator (suc before) step None) deck points old new follow holders all known knows commits goes =
      subst (AllByRecursion (IsRunningOf (after_event (Selected job initiator (suc before) step None) deck tables))) (sym goes) (selected job initiator (suc before) step None deck old follow all)
  stay (Selected job initiator zero step id) deck points old new follow holders all known knows commits goes =
      subst (AllByRecursion (IsRunningOf (after_event (Selected job initiator zero step id) deck tables))) (sym goes) (selected job initiator zero step id deck old follow all)
  stay (Denied job rule name) deck points old new follow holders all known knows commits goes =
      subst (AllByRecursion (IsRunningOf (after_event (Denied job rule name) deck tables))) (sym goes)
      (all-steps (Denied job rule name) deck refl follow
      (λ on here is. by-denied (λ after. IsRunningOf after on) layout tables job deck rule name follow (λ row at queued. not_queued job on here is row at queued)) old all)
  stay (Started job step items) deck points old new follow holders all known knows commits goes =
      by-started (StartsWell job step old new) layout tables job deck step items follow (started job step items.items old new) goes holders (left-steps (Started job step items) deck refl follow old all)
  stay (Rewritten job taken writes lengths place image) deck points old new follow holders all known knows commits goes =
      subst (AllByRecursion (IsRunningOf (after_event (Rewritten job taken writes lengths place image) deck tables))) (sym goes)
      (each-both (IsRunningOf tables) (IsRunningOf (after_event (Rewritten job taken writes lengths place image) deck tables)) (IsCommitted job lengths.items tables) old
      (λ on is up.
      number-cases on.run job
      (λ here. rewritten job taken writes lengths place image deck follow on here is up)
      (λ apart. other-steps (Rewritten job taken writes lengths place image) deck refl follow on apart is)) all commits)
  stay (Checkpointed job id taken writes lengths place bytes) deck points old new follow holders all known knows commits goes = entered job taken writes place bytes id lengths deck follow old all commits.0 commits.1 new goes
  stay (Cancelled job) deck points old new follow holders all known knows commits goes =
      subst (AllByRecursion (IsRunningOf (after_event (Cancelled job) deck tables))) (sym goes) (served job deck old follow all)
  stay (StepEnded job step rc writes lengths) deck points old new follow holders all known knows commits goes =
      subst (AllByRecursion (IsRunningOf (after_event (StepEnded job step rc writes lengths) deck tables))) (sym goes) (left-steps (StepEnded job step rc writes lengths) deck refl follow old all)
  stay (Restarted job initiator code true) deck points old new follow holders all known knows commits goes =
      again job initiator code deck points old new follow known goes (left-steps (Restarted job initiator code true) deck refl follow old all)
  stay (Restarted job initiator code false) deck points old new follow holders all known knows commits goes =
      subst (AllByRecursion (IsRunningOf (after_event (Restarted job initiator code false) deck tables))) (sym goes) (left-steps (Restarted job initiator code false) deck refl follow old all)
  stay (Held job code writes lengths) deck points old new follow holders all known knows commits goes =
      subst (AllByRecursion (IsRunningOf (after_event (Held job code writes lengths) deck tables))) (sym goes) (left-steps (Held job code writes lengths) deck refl follow old all)
  stay (Released job) deck points old new follow holders all known knows commits goes =
      subst (AllByRecursion (IsRunningOf (after_event (Released job) deck tables))) (sym goes)
      (all-steps (Released job) deck refl follow (λ on here is. by-released (λ after. IsRunningOf after on) layout tables job deck follow (λ row at held. not_held job on here is row at held)) old all)
  stay (Ended job ending) deck points old new follow holders all known knows commits goes =
      subst (AllByRecursion (IsRunningOf (after_event (Ended job ending) deck tables))) (sym goes) (left-steps (Ended job ending) deck refl follow old all)
  stay (Purged job) deck points old new follow holders all known knows commits goes =
      subst (AllByRecursion (IsRunningOf (after_event (Purged job) deck tables))) (sym goes)
      (all-steps (Purged job) deck refl follow (λ on here is. by-purged (λ after. IsRunningOf after on) layout tables job deck follow (λ row at queued. not_queued job on here is row at queued)) old all)

-- the running steps stay those of their runs
pub running-stay : (layout : Layout) (tables : TablesModel) (event : Event) (deck : Option Job) (points : List PointView) (old new : List RunningStepView) → AreHolders tables → AllByRecursion IsAcceptedRow tables.runs → AreNumbered 1 tables.runs → AllByRecursion IsPlacedRow tables.runs → IsAnyAccepted event deck → MaySubmit event deck → follows layout tables event deck ≡ true
    → AllByRecursion (IsRunningOf tables) old → HavePoints tables points → KnowsItsPoint event tables points → CommitsItsOwn event tables old → GoesOn event (after_event event deck tables) points old new → AllByRecursion (IsRunningOf (after_event event deck tables)) new
running-stay layout tables event deck points old new are rows numbered placed accepted may follow all known knows commits goes =
    stay layout tables are rows numbered placed event deck points old new follow (holders-stay layout tables event deck are rows numbered placed accepted may follow) all known knows commits goes
