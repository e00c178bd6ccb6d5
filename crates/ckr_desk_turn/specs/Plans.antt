-- What a turn comes to, by the tables and the running steps.
use Rattle.std.specs.Prelude.{ℕ, pred, Bool, true, false, if◌then◌else◌, [], slice_get, Option, None, Some, Ok, Err}
use Rattle.std.specs.Option.{option_map_or}
use Rattle.ckr_points_library.specs.declared.cause.Cause.{Cause}
use Rattle.ckr_base.specs.declared.code.Code.{Code}
use Rattle.ckr_base.specs.declared.programs.NextDue.{NextDue}
use Rattle.ckr_base.specs.declared.programs.NextDue.TheVariants.{Unit as OneUnit, Checkpoint, Cancel, Finished}
use Rattle.ckr_events.specs.declared.event.Event.TheVariants.{Started as StartedEvent, Cancelled as CancelledEvent, StepEnded as StepEndedEvent, Ended as EndedEvent}
use Rattle.ckr_events.specs.declared.event.Ending.TheVariants.{Completed as CompletedEnding, Allocation as AllocationEnding}
use Rattle.ckr_meaning.specs.EffectiveJob.{OwnedStep}
use Rattle.ckr_meaning.specs.declared.place.Place.{Place}
use Rattle.ckr_meaning.specs.declared.place.Place.TheVariants.{Before, Opened, Within}
use Rattle.ckr_points.specs.Restart.{place_of}
use Rattle.ckr_points.specs.RuleCases.{rd_in_effect}
use Rattle.ckr_points.specs.Rows.{RunRow, step_of_run}
use Rattle.ckr_rules.specs.RuleTables.{suppresses}
use Rattle.ckr_volumes.specs.declared.layout.Layout.{Layout}
use Rattle.ckr_desk_turn.specs.declared.plan.Plan.{Plan}
use Rattle.ckr_desk_turn.specs.declared.plan.Plan.TheVariants.{Rest, Tell, Work, Pass, Take}
use Rattle.ckr_points.specs.declared.reply.Chkpt.TheVariants.{Suppressed}
use Rattle.ckr_points.specs.declared.reply.How.TheVariants.{Completed, Allocation}
use Rattle.ckr_points.specs.declared.reply.Reply.TheVariants.{Idle, NothingToFail, Started, Checkpointed, Cancelled, StepEnded, JobEnded}
use Rattle.ckr_desk_turn.specs.declared.reply.Turn.{Turn}
use Rattle.ckr_desk_turn.specs.Allocation.{allocation_of, cause_numbers}
use Rattle.ckr_desk_turn.specs.Select.{next_run, run_on_initiator}
use Rattle.ckr_desk_turn.specs.Codes.{code_plan, initiator_of, reached_by}
use Rattle.ckr_desk_turn.specs.Deferred.{queued_plan}
use Rattle.ckr_desk_turn.specs.Jobs.{TurnJobs, TurnStep, is_failed, running_in, step_name_of, waiting_code}
pub use Rattle.ckr_desk_turn.specs.Jobs.{system_failure}

-- ---- between steps

-- a DD of the step can't be allocated, and the run ends
abbrev pub allocation_ended : RunRow → OwnedStep → ℕ → Cause → Plan
allocation_ended row owned dd cause =
    let numbers = cause_numbers cause in
    let name = option_map_or (λ one. one.name) (slice_get owned.step.dds (pred dd)) [] in
    Tell (JobEnded row.number (Allocation owned.step.name name cause)) (EndedEvent row.number (AllocationEnding dd numbers.0 numbers.1 numbers.2))

-- the step starts, or a DD of it can't be allocated
abbrev pub start_plan : Layout → TurnJobs → RunRow → OwnedStep → ℕ → Plan
start_plan layout jobs row owned number =
    elim (allocation_of layout row owned number jobs.tables) [
      | Err refusal ↦ allocation_ended row owned refusal.dd refusal.cause
      | Ok items ↦ Tell (Started row.number owned.step.name) (StartedEvent row.number number (record { items = items }))
    ]

-- where no step is left the job is completed
abbrev pub between_plan : Layout → TurnJobs → RunRow → ℕ → Plan
between_plan layout jobs row number =
    elim (step_of_run row number) [
      | None ↦ Tell (JobEnded row.number Completed) (EndedEvent row.number CompletedEnding)
      | Some owned ↦ start_plan layout jobs row owned number
    ]

-- ---- within a step

-- the step ends where its closing unit is done, with its return code
abbrev pub finished_plan : RunRow → ℕ → TurnStep → ℕ → Plan
finished_plan row number step rc =
    Tell (StepEnded row.number (step_name_of row) rc) (StepEndedEvent row.number number rc step.writes (record { items = step.lengths }))

-- a checkpoint that RD suppresses
abbrev pub suppressed_plan : RunRow → Plan
suppressed_plan row = Pass row.number (Checkpointed row.number (step_name_of row) Suppressed None)

-- a checkpoint that is due is suppressed by the RD in effect, or taken
abbrev pub checkpoint_plan : RunRow → ℕ → Plan
checkpoint_plan row number = if suppresses (rd_in_effect row number) then suppressed_plan row else Take row.number

-- a cancel comes under any RD
abbrev pub cancelled_plan : RunRow → Plan
cancelled_plan row = Tell (Cancelled row.number (step_name_of row)) (CancelledEvent row.number)

abbrev pub due_plan : RunRow → ℕ → TurnStep → NextDue → Plan
due_plan row number step OneUnit = Work row.number
due_plan row number step Checkpoint = checkpoint_plan row number
due_plan row number step Cancel = cancelled_plan row
due_plan row number step (Finished rc) = finished_plan row number step rc

abbrev pub running_plan : RunRow → ℕ → TurnStep → Plan
running_plan row number step = due_plan row number step step.due

abbrev pub placed_plan : Layout → TurnJobs → RunRow → Place → Plan
placed_plan layout jobs row (Before number) = between_plan layout jobs row number
placed_plan layout jobs row (Opened number) = between_plan layout jobs row number
placed_plan layout jobs row (Within number writes) = option_map_or (running_plan row number) (running_in jobs row.number) (Rest Idle)

-- ---- an initiator that has a run

abbrev pub is_within : Place → Bool
is_within (Before number) = false
is_within (Opened number) = false
is_within (Within number writes) = true

-- a code that is given is that of the running step
abbrev pub fail_plan : Layout → TurnJobs → RunRow → Option Code → Plan
fail_plan layout jobs row None = placed_plan layout jobs row (place_of row)
fail_plan layout jobs row (Some code) =
    elim (is_within (place_of row)) [
      | true ↦ code_plan layout jobs.tables row (initiator_of row) true code (reached_by jobs row)
      | false ↦ Rest NothingToFail
    ]

-- a run that waits with a code is asked for again, and isn't running: no code can be given
abbrev pub waiting_plan : Layout → TurnJobs → RunRow → Code → Option Code → Plan
waiting_plan layout jobs row code None = code_plan layout jobs.tables row (initiator_of row) true code (reached_by jobs row)
waiting_plan layout jobs row code (Some given) = Rest NothingToFail

abbrev pub unmarked_plan : Layout → TurnJobs → RunRow → Option Code → Option Code → Plan
unmarked_plan layout jobs row fail None = fail_plan layout jobs row fail
unmarked_plan layout jobs row fail (Some code) = waiting_plan layout jobs row code fail

-- a system failure comes first, then the code with which the run waits
abbrev pub run_plan : Layout → TurnJobs → Option Code → RunRow → Plan
run_plan layout jobs fail row =
    elim (is_failed jobs row.number) [
      | true ↦ code_plan layout jobs.tables row (initiator_of row) true system_failure (reached_by jobs row)
      | false ↦ unmarked_plan layout jobs row fail (waiting_code jobs row.number)
    ]

-- ---- an initiator that has none

-- a released run goes on with the code that it was held with
abbrev pub chosen_plan : Layout → TurnJobs → ℕ → RunRow → Plan
chosen_plan layout jobs initiator row =
    elim row.code [
      | None ↦ queued_plan layout jobs.tables initiator row row.deck.restart
      | Some code ↦ code_plan layout jobs.tables row initiator false code (reached_by jobs row)
    ]

abbrev pub free_plan : Layout → TurnJobs → ℕ → Option Code → Plan
free_plan layout jobs initiator (Some code) = Rest NothingToFail
free_plan layout jobs initiator None = option_map_or (chosen_plan layout jobs initiator) (next_run jobs.tables) (Rest Idle)

-- what a turn comes to
unfoldable pub plan_of : Layout → TurnJobs → Turn → Plan
plan_of layout jobs turn =
    option_map_or (run_plan layout jobs turn.fail) (run_on_initiator jobs.tables turn.initiator)
    (free_plan layout jobs turn.initiator turn.fail)
