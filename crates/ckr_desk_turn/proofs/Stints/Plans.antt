-- Whose run a plan is of: that of the initiator's run, or of the run that comes to it, and no initiator but this one gets it.
use Rattle.std.proofs.Common.{◌≡◌, ℕ, Bool, true, false, cond, ◌&&◌, refl, ap, sym, ◌∙◌, subst, Option, Some, None, List, Result, Ok, Err}
use Rattle.std.specs.Prelude.{◌==◌, if◌then◌else◌}
use Rattle.std.specs.Option.{is_none, option_map_or}
use Rattle.std.proofs.lemmas.Bool.{and_from}
use Rattle.ckr_base.specs.declared.code.Code.{Code}
use Rattle.ckr_base.specs.declared.programs.NextDue.{NextDue}
use Rattle.ckr_base.specs.declared.programs.NextDue.TheVariants.{Unit as OneUnit, Checkpoint as CheckpointDue, Cancel, Finished}
use Rattle.ckr_base.proofs.Bools.{and-first}
use Rattle.ckr_base.proofs.Numbers.{equal-itself, equal-true}
use Rattle.ckr_console.specs.declared.question.Answer.{Answer}
use Rattle.ckr_console.specs.declared.question.Answer.TheVariants.{Yes, No, Hold, Silent}
use Rattle.ckr_events.specs.Jobs.{job_of}
use Rattle.ckr_events.specs.declared.event.Event.{Event}
use Rattle.ckr_events.specs.declared.event.Event.TheVariants.{Ended as EndedEvent, Restarted as RestartedEvent, Selected as SelectedEvent, Started as StartedEvent}
use Rattle.ckr_events.specs.declared.event.Ending.TheVariants.{Completed as CompletedEnding}
use Rattle.ckr_events.specs.declared.event.Made.{Made}
use Rattle.ckr_jcl.specs.declared.deck.Restart.{Restart}
use Rattle.ckr_meaning.specs.EffectiveJob.{OwnedStep}
use Rattle.ckr_meaning.specs.StepRun.{StepStart}
use Rattle.ckr_meaning.specs.declared.place.Place.{Place}
use Rattle.ckr_meaning.specs.declared.place.Place.TheVariants.{Before, Opened, Within}
use Rattle.ckr_points_library.specs.declared.cause.Refusal.{Refusal}
use Rattle.ckr_points.specs.RuleCases.{Wanted, rd_in_effect, wanted_of}
use Rattle.ckr_points.specs.Restart.{place_of}
use Rattle.ckr_points.specs.Rows.{KeptEntry, RunRow, TablesModel, run_of, step_of_run}
use Rattle.ckr_points.specs.declared.reply.How.TheVariants.{Completed}
use Rattle.ckr_points.specs.declared.reply.Reply.{Reply}
use Rattle.ckr_points.specs.declared.reply.Reply.TheVariants.{AwaitingReply, Idle, JobEnded, NothingToFail, Started}
use Rattle.ckr_rules.specs.RuleTables.{suppresses}
use Rattle.ckr_rules.specs.declared.cases.Rule.TheVariants.{A6}
use Rattle.ckr_rules.specs.declared.cases.Verdict.{Verdict}
use Rattle.ckr_rules.specs.declared.cases.Verdict.TheVariants.{Step, Checkpoint, Denied}
use Rattle.ckr_volumes.specs.declared.layout.Layout.{Layout}
use Rattle.ckr_desk_turn.specs.declared.inquiry.Inquiry.{Inquiry}
use Rattle.ckr_desk_turn.specs.declared.plan.Plan.{Plan}
use Rattle.ckr_desk_turn.specs.declared.plan.Plan.TheVariants.{Ask, Rest, Tell, Work, Pass, Take, Wait}
use Rattle.ckr_desk_turn.specs.Allocation.{allocation_of}
use Rattle.ckr_desk_turn.specs.Codes.{CodePlaceModel, asked_at_entry, code_plan, ended_by, initiator_of, judged_plan, reached_by, verdict_for}
use Rattle.ckr_desk_turn.specs.Deferred.{continued_at_entry, continued_by, deferred_verdict, queued_plan}
use Rattle.ckr_desk_turn.specs.Desk.{DeskModel, TurnDone, done_by, progress_of}
use Rattle.ckr_desk_turn.specs.Inquiries.{decide, decided}
use Rattle.ckr_desk_turn.specs.Jobs.{TurnJobs, TurnStep, effect_entry, is_failed, running_in, waiting_code}
use Rattle.ckr_desk_turn.specs.Stints.{begun}
use Rattle.ckr_desk_turn.specs.Units.{StepProgress, UnitOutcome, abended, unit_plan, went}
use Rattle.ckr_desk_turn.specs.Plans.{allocation_ended, between_plan, checkpoint_plan, chosen_plan, due_plan, fail_plan, is_within, placed_plan, run_plan, running_plan, start_plan, suppressed_plan, system_failure, unmarked_plan}
use Rattle.ckr_points.specs.Payload.{start_in_office}

-- an event of this run, which comes to no initiator but this one
abbrev pub is_event_by : ℕ → ℕ → Event → Bool
is_event_by run initiator (SelectedEvent job on earlier step id) = job == run && on == initiator
is_event_by run initiator (RestartedEvent job on code checkpoint) = job == run && on == initiator
is_event_by run initiator event = job_of event == run

-- an event by which a run comes to an initiator, or goes back on it
abbrev pub is_beginning : Event → Bool
is_beginning (SelectedEvent job on earlier step id) = true
is_beginning (RestartedEvent job on code checkpoint) = true
is_beginning _ = false

-- a reply with which a stint begins comes with such an event, and tells this run
abbrev pub tells_beginning : ℕ → Reply → Event → Bool
tells_beginning run reply event = option_map_or (λ job. job == run && is_beginning event) (begun reply) true

-- a plan of this run; its step does a unit, or takes a checkpoint, only where it is on the initiator
abbrev pub is_plan_by : Bool → ℕ → ℕ → Plan → Bool
is_plan_by lodged run initiator (Rest reply) = is_none (begun reply)
is_plan_by lodged run initiator (Tell reply event) = tells_beginning run reply event && is_event_by run initiator event
is_plan_by lodged run initiator (Work job) = lodged && job == run
is_plan_by lodged run initiator (Pass job reply) = is_none (begun reply) && job == run
is_plan_by lodged run initiator (Take job) = lodged && job == run
is_plan_by lodged run initiator (Ask inquiry) = inquiry.job == run && inquiry.initiator == initiator
is_plan_by lodged run initiator (Wait job code) = job == run

pub event-job : (run initiator : ℕ) (event : Event) → is_event_by run initiator event ≡ true → job_of event ≡ run
event-job run initiator (SelectedEvent job on earlier step id) its = equal-true job run (and-first (job == run) (on == initiator) its)
event-job run initiator (RestartedEvent job on code checkpoint) its = equal-true job run (and-first (job == run) (on == initiator) its)
event-job run initiator event its = equal-true (job_of event) run its

-- ---- a run with a code

module _ (tables : TablesModel) (row : RunRow) (initiator : ℕ) (kept lodged : Bool) (code : Code) (reached : CodePlaceModel) where
  asked-by : (row.number == row.number && initiator == initiator) ≡ true
  asked-by = and_from (row.number == row.number) (initiator == initiator) (equal-itself row.number) (equal-itself initiator)

  judged-by : (verdict : Verdict) → is_plan_by kept row.number initiator (judged_plan tables row initiator lodged code reached verdict) ≡ true
  judged-by (Denied rule) = equal-itself row.number
  judged-by Step = asked-by
  judged-by Checkpoint = by (effect_entry tables row)
    where
      by : (entry : Option KeptEntry) → is_plan_by kept row.number initiator (option_map_or (asked_at_entry row initiator lodged code reached) entry (ended_by row code A6 reached)) ≡ true
      by None = equal-itself row.number
      by (Some entry) = asked-by

  pub code-by : (layout : Layout) → is_plan_by kept row.number initiator (code_plan layout tables row initiator lodged code reached) ≡ true
  code-by layout = judged-by (verdict_for layout row code)

module _ (layout : Layout) (jobs : TurnJobs) where
  -- ---- a run on an initiator

  module _ (row : RunRow) where
    abbrev IsBy : Plan → Type 0
    IsBy plan = is_plan_by true row.number (initiator_of row) plan ≡ true

    coded-by : (code : Code) → IsBy (code_plan layout jobs.tables row (initiator_of row) true code (reached_by jobs row))
    coded-by code = code-by jobs.tables row (initiator_of row) true true code (reached_by jobs row) layout

    start-by : (owned : OwnedStep) (number : ℕ) → IsBy (start_plan layout jobs row owned number)
    start-by owned number = by (allocation_of layout row owned number jobs.tables)
      where
        by : (given : Result (List Made) Refusal) → IsBy (elim given as (λ _. Plan) [
          | Err refusal ↦ allocation_ended row owned refusal.dd refusal.cause
          | Ok items ↦ Tell (Started row.number owned.step.name) (StartedEvent row.number number (record { items = items }))
        ])
        by (Ok items) = equal-itself row.number
        by (Err refusal) = equal-itself row.number

    between-by : (number : ℕ) → IsBy (between_plan layout jobs row number)
    between-by number = by (step_of_run row number)
      where
        by : (step : Option OwnedStep) → IsBy (elim step as (λ _. Plan) [
          | None ↦ Tell (JobEnded row.number Completed) (EndedEvent row.number CompletedEnding)
          | Some owned ↦ start_plan layout jobs row owned number
        ])
        by None = equal-itself row.number
        by (Some owned) = start-by owned number

    checkpoint-by : (number : ℕ) → IsBy (checkpoint_plan row number)
    checkpoint-by number = by (suppresses (rd_in_effect row number))
      where
        by : (suppressed : Bool) → IsBy (if suppressed then suppressed_plan row else Take row.number)
        by true = equal-itself row.number
        by false = equal-itself row.number

    due-by : (number : ℕ) (step : TurnStep) (due : NextDue) → IsBy (due_plan row number step due)
    due-by number step OneUnit = equal-itself row.number
    due-by number step CheckpointDue = checkpoint-by number
    due-by number step Cancel = equal-itself row.number
    due-by number step (Finished rc) = equal-itself row.number

    placed-by : (place : Place) → IsBy (placed_plan layout jobs row place)
    placed-by (Before number) = between-by number
    placed-by (Opened number) = between-by number
    placed-by (Within number writes) = by (running_in jobs row.number)
      where
        by : (step : Option TurnStep) → IsBy (option_map_or (running_plan row number) step (Rest Idle))
        by None = refl
        by (Some step) = due-by number step step.due

    fail-by : (fail : Option Code) → IsBy (fail_plan layout jobs row fail)
    fail-by None = placed-by (place_of row)
    fail-by (Some code) = by (is_within (place_of row))
      where
        by : (within : Bool) → IsBy (elim within as (λ _. Plan) [ true ↦ code_plan layout jobs.tables row (initiator_of row) true code (reached_by jobs row) | false ↦ Rest NothingToFail ])
        by true = coded-by code
        by false = refl

    unmarked-by : (fail waits : Option Code) → IsBy (unmarked_plan layout jobs row fail waits)
    unmarked-by fail None = fail-by fail
    unmarked-by None (Some code) = coded-by code
    unmarked-by (Some given) (Some code) = refl

    pub run-by : (fail : Option Code) → IsBy (run_plan layout jobs fail row)
    run-by fail = by (is_failed jobs row.number)
      where
        by : (failed : Bool) → IsBy (elim failed as (λ _. Plan) [
          | true ↦ code_plan layout jobs.tables row (initiator_of row) true system_failure (reached_by jobs row)
          | false ↦ unmarked_plan layout jobs row fail (waiting_code jobs row.number)
        ])
        by true = coded-by system_failure
        by false = unmarked-by fail (waiting_code jobs row.number)

  -- ---- a run that comes to one

  module _ (row : RunRow) (initiator : ℕ) where
    abbrev ComesBy : Plan → Type 0
    ComesBy plan = is_plan_by false row.number initiator plan ≡ true

    both : (row.number == row.number && initiator == initiator) ≡ true
    both = and_from (row.number == row.number) (initiator == initiator) (equal-itself row.number) (equal-itself initiator)

    told : ((row.number == row.number && true) && (row.number == row.number && initiator == initiator)) ≡ true
    told = and_from (row.number == row.number && true) (row.number == row.number && initiator == initiator) (and_from (row.number == row.number) true (equal-itself row.number) refl) both

    deferred-by : (wanted : Wanted) (verdict : Verdict) → ComesBy (continued_by verdict jobs.tables initiator row wanted)
    deferred-by wanted (Denied rule) = equal-itself row.number
    deferred-by wanted Step = told
    deferred-by wanted Checkpoint = by wanted.entry
      where
        by : (entry : Option KeptEntry) → ComesBy (option_map_or (continued_at_entry initiator row wanted) entry (Rest Idle))
        by None = refl
        by (Some entry) = told

    queued-by : (restart : Option Restart) → ComesBy (queued_plan layout jobs.tables initiator row restart)
    queued-by None = told
    queued-by (Some restart) = deferred-by (wanted_of row jobs.tables restart) (deferred_verdict layout jobs.tables row (wanted_of row jobs.tables restart))

    pub chosen-by : ComesBy (chosen_plan layout jobs initiator row)
    chosen-by = by row.code
      where
        by : (code : Option Code) → ComesBy (elim code as (λ _. Plan) [
          | None ↦ queued_plan layout jobs.tables initiator row row.deck.restart
          | Some code ↦ code_plan layout jobs.tables row initiator false code (reached_by jobs row)
        ])
        by None = queued-by row.deck.restart
        by (Some code) = code-by jobs.tables row initiator false false code (reached_by jobs row) layout

-- ---- a plan with the operator's answer, and one of a unit

module _ (lodged : Bool) (run initiator : ℕ) where
  decided-by : (answer : Answer) (inquiry : Inquiry) → (inquiry.job == run && inquiry.initiator == initiator) ≡ true → is_plan_by lodged run initiator (decided answer inquiry) ≡ true
  decided-by Yes inquiry its =
      and_from (inquiry.job == run && true) (inquiry.job == run && inquiry.initiator == initiator) (and_from (inquiry.job == run) true (and-first (inquiry.job == run) (inquiry.initiator == initiator) its) refl) its
  decided-by No inquiry its = and-first (inquiry.job == run) (inquiry.initiator == initiator) its
  decided-by Hold inquiry its = and-first (inquiry.job == run) (inquiry.initiator == initiator) its
  decided-by Silent inquiry its = by inquiry.lodged
    where
      by : (b : Bool) → is_plan_by lodged run initiator (cond b (Wait inquiry.job inquiry.code) (Rest AwaitingReply)) ≡ true
      by true = and-first (inquiry.job == run) (inquiry.initiator == initiator) its
      by false = refl

  pub answered-by : (answer : Answer) (plan : Plan) → is_plan_by lodged run initiator plan ≡ true → is_plan_by lodged run initiator (decide answer plan) ≡ true
  answered-by answer (Ask inquiry) its = decided-by answer inquiry its
  answered-by answer other its = its

pub unit-by : (layout : Layout) (jobs : TurnJobs) (row : RunRow) (step : TurnStep) (unit : UnitOutcome) → is_plan_by true row.number (initiator_of row) (unit_plan layout jobs row step unit) ≡ true
unit-by layout jobs row step (went None) = refl
unit-by layout jobs row step (went (Some at)) = equal-itself row.number
unit-by layout jobs row step (abended code) = code-by jobs.tables row (initiator_of row) true true code _ layout

-- ---- what a running step does

-- what holds of whatever the running step of a run does, and where it has none
pub by-acting : (P : TurnDone → Type 0) (desk : DeskModel) (row : RunRow) → run_of desk.office.tables row.number ≡ Some row → P (done_by (Rest Idle) desk) → (act : RunRow → StepStart → StepProgress → TurnDone) → ((start : StepStart) (progress : StepProgress) → P (act row start progress)) → (job : ℕ) → job ≡ row.number
    → P (option_map_or (λ row. option_map_or (λ start. option_map_or (λ progress. act row start progress) (progress_of desk job) (done_by (Rest Idle) desk)) (start_in_office desk.office row) (done_by (Rest Idle) desk)) (run_of desk.office.tables job) (done_by (Rest Idle) desk))
by-acting P desk row at none act each job its =
    subst (λ (o : Option RunRow). P (option_map_or (λ row. option_map_or (λ start. option_map_or (λ progress. act row start progress) (progress_of desk job) (done_by (Rest Idle) desk)) (start_in_office desk.office row) (done_by (Rest Idle) desk)) o (done_by (Rest Idle) desk)))
    (sym (ap (run_of desk.office.tables) its ∙ at))
    (by-start (start_in_office desk.office row))
  where
    by-progress : (start : StepStart) (progress : Option StepProgress) → P (option_map_or (λ progress. act row start progress) progress (done_by (Rest Idle) desk))
    by-progress start None = none
    by-progress start (Some progress) = each start progress

    by-start : (start : Option StepStart) → P (option_map_or (λ start. option_map_or (λ progress. act row start progress) (progress_of desk job) (done_by (Rest Idle) desk)) start (done_by (Rest Idle) desk))
    by-start None = none
    by-start (Some start) = by-progress start (progress_of desk job)
