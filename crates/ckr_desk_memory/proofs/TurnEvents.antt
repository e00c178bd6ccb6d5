-- What a turn tells between the steps of a run follows by the tables alone, and so does the cancel of restarts.
use Rattle.std.proofs.Common.{◌≡◌, ◌≤◌, ◌==◌, ℕ, Bool, true, false, List, refl, ap, sym, ◌∙◌, subst, Option, Some, None, Result, Ok, Err}
use Rattle.std.specs.Prelude.{if◌then◌else◌}
use Rattle.std.specs.List.{AllByRecursion}
use Rattle.std.specs.Option.{is_none, is_some, option_map_or}
use Rattle.std.proofs.lemmas.Bool.{and_from, false≢true, true≢false}
use Rattle.ckr_base.specs.declared.code.Code.{Code}
use Rattle.ckr_base.specs.declared.programs.NextDue.{NextDue}
use Rattle.ckr_base.specs.declared.programs.NextDue.TheVariants.{Unit as OneUnit, Checkpoint, Cancel, Finished}
use Rattle.ckr_base.proofs.Options.{option-cases}
use Rattle.ckr_base.proofs.Sequences.{find-passes}
use Rattle.ckr_events.specs.declared.event.Event.{Event}
use Rattle.ckr_events.specs.declared.event.Event.TheVariants.{Cancelled as CancelledEvent, Checkpointed as CheckpointedEvent, Ended as EndedEvent, Held as HeldEvent, Restarted as RestartedEvent, Rewritten as RewrittenEvent, Started as StartedEvent, StepEnded as StepEndedEvent}
use Rattle.ckr_events.specs.declared.event.Ending.TheVariants.{Completed as CompletedEnding}
use Rattle.ckr_events.specs.declared.event.Made.{Made}
use Rattle.ckr_jcl.specs.declared.deck.Restart.{Restart}
use Rattle.ckr_meaning.specs.EffectiveJob.{OwnedStep, stamp_of}
use Rattle.ckr_meaning.specs.declared.place.Place.{Place}
use Rattle.ckr_meaning.specs.declared.place.Place.TheVariants.{Before, Opened, Within}
use Rattle.ckr_volumes.specs.declared.layout.Layout.{Layout}
use Rattle.ckr_desk_plans.specs.Model.Refusal.{Refusal}
use Rattle.ckr_desk_plans.specs.Model.Allocation.{Allocation}
use Rattle.ckr_points.specs.declared.run.RunState.{RunState}
use Rattle.ckr_points.specs.declared.run.RunState.TheVariants.{On, Queued}
use Rattle.ckr_points.specs.Follows.{follows, is_in_state, is_running, is_within, own_step, state_number}
use Rattle.ckr_points.specs.Restart.{place_of, step_in}
use Rattle.ckr_points.specs.Rows.{RunRow, TablesModel, run_of, standing_of, table_ways}
use Rattle.ckr_points.specs.RuleCases.{rd_in_effect}
use Rattle.ckr_points.specs.Soundness.{AreLaidOut}
use Rattle.ckr_rules.specs.RuleTables.{suppresses}
use Rattle.ckr_desk_turn.specs.declared.plan.Plan.{Plan}
use Rattle.ckr_desk_turn.specs.declared.plan.Plan.TheVariants.{Rest, Take, Tell}
use Rattle.ckr_points.specs.declared.reply.How.TheVariants.{Completed}
use Rattle.ckr_points.specs.declared.reply.Reply.TheVariants.{Idle, JobEnded, NothingToFail, Started}
use Rattle.ckr_desk_turn.specs.declared.reply.Turn.{Turn}
use Rattle.ckr_desk_turn.specs.Allocation.{allocation_of, cause_numbers, items_in}
use Rattle.ckr_desk_turn.specs.Codes.{CodePlaceModel, code_plan, initiator_of, reached_by}
use Rattle.ckr_desk_turn.specs.Deferred.{deferred_plan, queued_plan}
use Rattle.ckr_desk_turn.specs.Invariant.{IsTurnOf, is_off}
use Rattle.ckr_desk_turn.specs.Jobs.{TurnJobs, TurnStep, is_failed, running_in, waiting_code}
use Rattle.ckr_desk_turn.specs.Plans.{allocation_ended, between_plan, chosen_plan, due_plan, fail_plan, free_plan, is_within as is_planned, placed_plan, plan_of, run_plan, running_plan, start_plan, suppressed_plan, system_failure, unmarked_plan}
use Rattle.ckr_desk_turn.specs.Queue.{AreNumbered}
use Rattle.ckr_desk_turn.specs.Select.{is_on, may_select, next_run, run_on_initiator}
use Rattle.ckr_desk_turn.proofs.Codes.{by-verdict}
use Rattle.ckr_desk_turn.proofs.NextEvents.BetweenSteps.{completed-follows, lodged-on, next_cases, refused-follows, selected-follows}
use Rattle.ckr_desk_turn.proofs.RunEnd.{refused-inside}
use Rattle.ckr_desk_turn.proofs.Start.Invariant.{started-follows}
use Rattle.ckr_desk_memory.specs.Holders.{AreHolders}
use Rattle.ckr_desk_memory.specs.Invariant.{AreJobs, IsAcceptedRow, IsPlacedRow}
use Rattle.ckr_desk_memory.specs.OwnSteps.{PlanFollows}
use Rattle.ckr_desk_memory.specs.Plans.{is_coded}
use Rattle.ckr_desk_memory.specs.View.{JobsView, jobs_of}
use Rattle.ckr_desk_memory.proofs.DeferredRestarts.{deferred-follows}
use Rattle.ckr_desk_memory.proofs.FoundRuns.{found-run}
use Rattle.ckr_desk_memory.proofs.Starts.Steps.{row-among}
use Rattle.ckr_points.specs.Staleness.{held_sets}

-- whether an event commits what a running step has written, or puts it back: a rewrite in place, a checkpoint, the end of the step, its restart, or the
-- hold of its run or its end by a code
abbrev pub is_of_step : Event → Bool
is_of_step (RewrittenEvent job taken writes lengths place image) = true
is_of_step (CheckpointedEvent job id taken writes lengths place bytes) = true
is_of_step (StepEndedEvent job step rc writes lengths) = true
is_of_step (RestartedEvent job initiator code checkpoint) = true
is_of_step (HeldEvent job code writes lengths) = true
is_of_step (EndedEvent job ending) = is_coded ending
is_of_step _ = false

-- an event follows, if it isn't one of these
abbrev pub FollowsBetween : Layout → TablesModel → Plan → Type 0
FollowsBetween layout tables (Tell reply event) = is_of_step event ≡ false → follows layout tables event None ≡ true
FollowsBetween layout tables _ = Unit {0}

-- an event that follows does so if it isn't one of these
between-from : (layout : Layout) (tables : TablesModel) (plan : Plan) → PlanFollows layout tables plan → FollowsBetween layout tables plan
between-from layout tables (Tell reply event) follow = λ not. follow
between-from layout tables _ follow = tt

refused-all : (all : Result Allocation Refusal) (refusal : Refusal) → items_in all ≡ Err refusal → all ≡ Err refusal
refused-all (Ok done) refusal e = cc
refused-all (Err other) refusal e = cc

module _ (layout : Layout) (seen : TurnJobs) (numbered : AreNumbered 1 seen.tables.runs) (rows : AllByRecursion IsAcceptedRow seen.tables.runs) (placed : AllByRecursion IsPlacedRow seen.tables.runs)
    (laid : AreLaidOut layout seen.tables.sets) (holders : AreHolders seen.tables) where
  abbrev tables : TablesModel
  tables = seen.tables

  abbrev Follows : Plan → Type 0
  Follows plan = FollowsBetween layout tables plan

  coded-follows : (row : RunRow) (initiator : ℕ) (lodged : Bool) (code : Code) (reached : CodePlaceModel) → Follows (code_plan layout tables row initiator lodged code reached)
  coded-follows row initiator lodged code reached =
      by-verdict Follows layout tables row initiator lodged code reached (λ rule ends not. absurd (true≢false not)) (λ judged. tt) (λ entry judged there. tt)

  -- ---- an initiator that no run is on

  -- a run that comes to it with no code is queued
  chosen-follows : (i : ℕ) (row : RunRow) → 1 ≤ i → i ≤ layout.initiators → run_on_initiator tables i ≡ None → next_run tables ≡ Some row → Follows (chosen_plan layout seen i row)
  chosen-follows i row above below free next =
      option-cases row.code
      (λ none.
      subst (λ (o : Option Code). Follows (plan o)) (sym none)
      (next_cases tables row next queued-so
      (λ released.
      absurd
      (some-not-none-code
      (ap (λ (state : RunState). if is_off state then is_some row.code else is_none row.code) (sym released) ∙ is.code)
      none))))
      (λ code some. subst (λ (o : Option Code). Follows (plan o)) (sym some) (coded-follows row i false code (reached_by seen row)))
    where
      at : run_of tables row.number ≡ Some row
      at = found-run tables (λ other. may_select tables other.state other) row numbered next

      is : IsPlacedRow row
      is = row-among IsPlacedRow tables row.number row placed at

      -- without RESTART it is selected, and with it the deferred rules decide
      queued-so : row.state ≡ Queued → Follows (queued_plan layout tables i row row.deck.restart)
      queued-so queued =
          option-cases row.deck.restart
          (λ none. subst (λ (r : Option Restart). Follows (queued_plan layout tables i row r)) (sym none) (λ not. selected-follows layout tables i row at queued none above below free next))
          (λ restart has.
          subst (λ (r : Option Restart). Follows (queued_plan layout tables i row r)) (sym has)
          (between-from layout tables (deferred_plan layout tables i row restart) (deferred-follows layout tables rows numbered placed holders row i restart queued has above below free next)))

      plan : Option Code → Plan
      plan o =
          elim o [
            | None ↦ queued_plan layout tables i row row.deck.restart
            | Some code ↦ code_plan layout tables row i false code (reached_by seen row)
          ]

      some-not-none-code : is_some row.code ≡ true → row.code ≡ None → ⊥
      some-not-none-code some none = false≢true (sym (ap is_some none) ∙ some)

  free-follows : (i : ℕ) → 1 ≤ i → i ≤ layout.initiators → run_on_initiator tables i ≡ None → (fail : Option Code) → Follows (free_plan layout seen i fail)
  free-follows i above below free (Some code) = tt
  free-follows i above below free None =
      option-cases (next_run tables)
      (λ none. subst (λ (o : Option RunRow). Follows (option_map_or (chosen_plan layout seen i) o (Rest Idle))) (sym none) tt)
      (λ row next. subst (λ (o : Option RunRow). Follows (option_map_or (chosen_plan layout seen i) o (Rest Idle))) (sym next) (chosen-follows i row above below free next))

  -- ---- the run on an initiator

  module _ (i : ℕ) (row : RunRow) (found : run_on_initiator tables i ≡ Some row) where
    at : run_of tables row.number ≡ Some row
    at = found-run tables (λ other. is_on i other.initiator) row numbered found

    accepted : IsAcceptedRow row
    accepted = row-among IsAcceptedRow tables row.number row rows at

    on : row.state ≡ On
    on = lodged-on i row (find-passes (λ (other : RunRow). is_on i other.initiator) tables.runs row found) (row-among IsPlacedRow tables row.number row placed at).lodged

    start-follows : is_within (place_of row) ≡ false → (owned : OwnedStep) → own_step row ≡ Some owned → Follows (start_plan layout seen row owned (step_in (place_of row)))
    start-follows out owned there = by (allocation_of layout row owned (step_in (place_of row)) tables) refl
      where
        plan : Result (List Made) Refusal → Plan
        plan given =
            elim given [
              | Err refusal ↦ allocation_ended row owned refusal.dd refusal.cause
              | Ok items ↦ Tell (Started row.number owned.step.name) (StartedEvent row.number (step_in (place_of row)) (record { items = items }))
            ]

        by : (given : Result (List Made) Refusal) → allocation_of layout row owned (step_in (place_of row)) tables ≡ given → Follows (plan (allocation_of layout row owned (step_in (place_of row)) tables))
        by (Ok items) got =
            subst (λ (given : Result (List Made) Refusal). Follows (plan given)) (sym got)
            (λ not.
            started-follows layout tables row laid.stand at on out owned there (accepted.steps (step_in (place_of row)) owned there) items got)
        by (Err refusal) failed =
            let numbers = cause_numbers refusal.cause in
            let inside = refused-inside table_ways (standing_of row tables) layout (stamp_of owned (step_in (place_of row))) row.job.root owned (held_sets tables.sets) refusal (refused-all _ refusal failed) in
            subst (λ (given : Result (List Made) Refusal). Follows (plan given)) (sym failed)
            (λ not. refused-follows layout tables row owned refusal.dd numbers.0 numbers.1 numbers.2 at on there inside.0 inside.1)

    between-follows : is_within (place_of row) ≡ false → Follows (between_plan layout seen row (step_in (place_of row)))
    between-follows out =
        option-cases (own_step row)
        (λ none. subst (λ (o : Option OwnedStep). Follows (plan o)) (sym none) (λ not. completed-follows layout tables row at on out none))
        (λ owned there. subst (λ (o : Option OwnedStep). Follows (plan o)) (sym there) (start-follows out owned there))
      where
        plan : Option OwnedStep → Plan
        plan o =
            elim o [
              | None ↦ Tell (JobEnded row.number Completed) (EndedEvent row.number CompletedEnding)
              | Some owned ↦ start_plan layout seen row owned (step_in (place_of row))
            ]

    cancelled-follows : is_within (place_of row) ≡ true → follows layout tables (CancelledEvent row.number) None ≡ true
    cancelled-follows within =
        ap (λ (o : Option RunRow). option_map_or is_running o false) at
        ∙ and_from (is_in_state On row) (is_within (place_of row)) (ap (λ state. state_number state == state_number On) on) within

    due-follows : is_within (place_of row) ≡ true → (number : ℕ) (step : TurnStep) (due : NextDue) → Follows (due_plan row number step due)
    due-follows within number step OneUnit = tt
    due-follows within number step Checkpoint = by (suppresses (rd_in_effect row number))
      where
        by : (b : Bool) → Follows (if b then suppressed_plan row else Take row.number)
        by true = tt
        by false = tt
    due-follows within number step Cancel = λ not. cancelled-follows within
    due-follows within number step (Finished rc) = λ not. absurd (true≢false not)

    running-follows : is_within (place_of row) ≡ true → (number : ℕ) (step : Option TurnStep) → Follows (option_map_or (running_plan row number) step (Rest Idle))
    running-follows within number None = tt
    running-follows within number (Some step) = due-follows within number step step.due

    placed-follows : (place : Place) → place_of row ≡ place → Follows (placed_plan layout seen row place)
    placed-follows (Before number) is = subst (λ (place : Place). Follows (between_plan layout seen row (step_in place))) is (between-follows (ap is_within is))
    placed-follows (Opened number) is = subst (λ (place : Place). Follows (between_plan layout seen row (step_in place))) is (between-follows (ap is_within is))
    placed-follows (Within number writes) is = running-follows (ap is_within is) number (running_in seen row.number)

    fail-follows : (fail : Option Code) → Follows (fail_plan layout seen row fail)
    fail-follows None = placed-follows (place_of row) refl
    fail-follows (Some code) = by (is_planned (place_of row))
      where
        plan : Bool → Plan
        plan within =
            elim within [
              | true ↦ code_plan layout tables row (initiator_of row) true code (reached_by seen row)
              | false ↦ Rest NothingToFail
            ]

        by : (within : Bool) → Follows (plan within)
        by true = coded-follows row (initiator_of row) true code (reached_by seen row)
        by false = tt

    unmarked-follows : (fail waits : Option Code) → Follows (unmarked_plan layout seen row fail waits)
    unmarked-follows fail None = fail-follows fail
    unmarked-follows None (Some code) = coded-follows row (initiator_of row) true code (reached_by seen row)
    unmarked-follows (Some given) (Some code) = tt

    run-follows : (fail : Option Code) → Follows (run_plan layout seen fail row)
    run-follows fail = by (is_failed seen row.number)
      where
        plan : Bool → Plan
        plan failed =
            elim failed [
              | true ↦ code_plan layout tables row (initiator_of row) true system_failure (reached_by seen row)
              | false ↦ unmarked_plan layout seen row fail (waiting_code seen row.number)
            ]

        by : (failed : Bool) → Follows (plan failed)
        by true = coded-follows row (initiator_of row) true system_failure (reached_by seen row)
        by false = unmarked-follows fail (waiting_code seen row.number)

  plan-seen : (turn : Turn) → 1 ≤ turn.initiator → turn.initiator ≤ layout.initiators → Follows (plan_of layout seen turn)
  unfolding plan_of
  plan-seen turn above below =
      option-cases (run_on_initiator tables turn.initiator)
      (λ free.
      subst (λ (o : Option RunRow). Follows (option_map_or (run_plan layout seen turn.fail) o (free_plan layout seen turn.initiator turn.fail))) (sym free)
      (free-follows turn.initiator above below free turn.fail))
      (λ row found.
      subst (λ (o : Option RunRow). Follows (option_map_or (run_plan layout seen turn.fail) o (free_plan layout seen turn.initiator turn.fail))) (sym found)
      (run-follows turn.initiator row found turn.fail))

-- what a turn comes to by the jobs in memory
pub plan-follows : (layout : Layout) (jobs : JobsView) (turn : Turn) → AreNumbered 1 jobs.tables.desk.runs → AreJobs layout jobs → AreHolders jobs.tables.desk → IsTurnOf layout turn → FollowsBetween layout jobs.tables.desk (plan_of layout (jobs_of jobs) turn)
unfolding jobs_of
plan-follows layout jobs turn numbered are holders its = plan-seen layout (jobs_of jobs) numbered are.rows are.placed are.laid holders turn its.above its.below
