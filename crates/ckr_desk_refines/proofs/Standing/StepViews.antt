-- A running step in memory is seen as its job has it, also in what is due of it.
use Rattle.std.proofs.Common.{◌≡◌, ℕ, Bool, true, false, List, [], refl, ap, sym, ◌∙◌, Some, None}
use Rattle.std.specs.Option.{option_map_or}
use Rattle.ckr_base.specs.declared.code.Code.{Code}
use Rattle.ckr_base.specs.declared.programs.NextDue.{NextDue}
use Rattle.ckr_base.specs.declared.programs.NextDue.TheVariants.{Unit as OneUnit, Finished}
use Rattle.ckr_base.proofs.Options.{option-cases}
use Rattle.ckr_desk_memory.specs.View.{RunningStepView, lengths_of_row, running_of}
use Rattle.ckr_entry.specs.declared.point.State.{State}
use Rattle.ckr_entry.specs.declared.point.State.TheVariants.{Plain, Matched}
use Rattle.ckr_jcl.specs.declared.deck.Parm.{Parm}
use Rattle.ckr_meaning.specs.StepRun.{StepStart, case_at, work_at}
use Rattle.ckr_points.specs.Payload.{lengths_at}
use Rattle.ckr_points.specs.Office.{Office}
use Rattle.ckr_points.specs.Rows.{run_of}
use Rattle.ckr_programs.specs.Due.{due_at}
use Rattle.ckr_steps.specs.Places.{IsStepPlace, return_of}
use Rattle.ckr_steps.specs.Units.{AreServed, due_of, is_cancelled, is_checkpointed, is_closed, taken_of}
use Rattle.ckr_steps.proofs.NextUnits.{taken_is}
use Rattle.ckr_desk_turn.specs.Desk.{DeskStep, seen_from}
use Rattle.ckr_desk_turn.specs.Due.{next_due, rc_by}
use Rattle.ckr_desk_turn.specs.Jobs.{TurnStep, as_stopped}
use Rattle.ckr_desk_turn.specs.Units.{StepProgress}
use Rattle.ckr_volumes.specs.declared.layout.Layout.{Layout}
use Rattle.ckr_desk_refines.specs.Standing.{StandsForStep}

-- ---- what is due

abbrev due_so : Parm → ℕ → Bool → Bool → Bool → ℕ → NextDue
due_so parm taken checkpointed cancelled closed rc =
    due_at parm (record { taken = taken; checkpointed = checkpointed; cancelled = cancelled; closed = closed; return_code = rc })

state-due : (parm : Parm) (state : State) → due_of parm state ≡ due_so parm (taken_of state) (is_checkpointed state) (is_cancelled state) (is_closed state) (return_of state)
unfolding due_of
state-due parm (Plain state) = refl
state-due parm (Matched state) = refl

-- the return code counts only where the program is closed
closed-due : (parm : Parm) (taken : ℕ) (checkpointed cancelled closed : Bool) (rc other : ℕ) → (closed ≡ true → rc ≡ other) → due_so parm taken checkpointed cancelled closed rc ≡ due_so parm taken checkpointed cancelled closed other
closed-due parm taken checkpointed cancelled true rc other same = ap Finished (same refl)
closed-due parm taken checkpointed cancelled false rc other same = refl

-- what is due of a step in memory that stands where its job comes to is due of that
pub place-due : (start : StepStart) (progress : StepProgress) (on : RunningStepView) → IsStepPlace start progress.taken progress.closed on.step on.sets → AreServed progress.checkpointed progress.cancelled on.step.state
    → due_of on.step.parm on.step.state ≡ next_due start progress
place-due start progress on stands served =
    state-due on.step.parm on.step.state
    ∙ ap (λ parm. due_so parm (taken_of on.step.state) (is_checkpointed on.step.state) (is_cancelled on.step.state) (is_closed on.step.state) (return_of on.step.state)) stands.parm
    ∙ ap (λ taken. due_so start.owned.step.parm taken (is_checkpointed on.step.state) (is_cancelled on.step.state) (is_closed on.step.state) (return_of on.step.state))
    (taken_is on.step.state (case_at start) progress.taken stands.state)
    ∙ ap (λ b. due_so start.owned.step.parm progress.taken b (is_cancelled on.step.state) (is_closed on.step.state) (return_of on.step.state)) served.checkpoint
    ∙ ap (λ b. due_so start.owned.step.parm progress.taken progress.checkpointed b (is_closed on.step.state) (return_of on.step.state)) served.cancel
    ∙ ap (λ b. due_so start.owned.step.parm progress.taken progress.checkpointed progress.cancelled b (return_of on.step.state)) stands.open_or_closed
    ∙ closed-due start.owned.step.parm progress.taken progress.checkpointed progress.cancelled progress.closed (return_of on.step.state) (rc_by (work_at start).finish)
    (λ closed. sym (ap rc_by (stands.finish closed)))

-- ---- what is seen

abbrev running_so : ℕ → ℕ → ℕ → NextDue → List ℕ → TurnStep
running_so run taken writes due lengths = record { run = run; taken = taken; writes = writes; due = due; lengths = lengths; code = None }

-- of a step that has stopped
abbrev stopped_so : Code → ℕ → ℕ → List ℕ → TurnStep
stopped_so code run writes lengths = as_stopped (Some code) (running_so run 0 writes OneUnit lengths)

-- but for its lengths
pub seen-so : (layout : Layout) (office : Office) (image : List ℕ) (on : RunningStepView) (step : DeskStep) (stands : StandsForStep layout office image on step)
    → option_map_or (lengths_of_row on.sets.sets) (run_of office.tables on.run) [] ≡ lengths_at stands.start office.tables.sets step.progress.writes
    → running_of office.tables on ≡ as_stopped step.code (seen_from office step.run step.progress stands.start)
seen-so layout office image on step stands lengths =
    option-cases on.code
    (λ none.
    ap (λ code. as_stopped code (running_so on.run (taken_of on.step.state) on.step.writes (due_of on.step.parm on.step.state) its)) none
    ∙ ap (λ run. running_so run (taken_of on.step.state) on.step.writes (due_of on.step.parm on.step.state) its) stands.run
    ∙ ap (λ taken. running_so step.run taken on.step.writes (due_of on.step.parm on.step.state) its) (taken_is on.step.state (case_at stands.start) step.progress.taken (stands.stands none).state)
    ∙ ap (λ writes. running_so step.run step.progress.taken writes (due_of on.step.parm on.step.state) its) stands.writes
    ∙ ap (λ due. running_so step.run step.progress.taken step.progress.writes due its) (place-due stands.start step.progress on (stands.stands none) (stands.served none))
    ∙ ap (running_so step.run step.progress.taken step.progress.writes (next_due stands.start step.progress)) lengths
    ∙ ap (λ code. as_stopped code (seen_from office step.run step.progress stands.start)) (sym none ∙ stands.code))
    (λ code some.
    ap (λ code. as_stopped code (running_so on.run (taken_of on.step.state) on.step.writes (due_of on.step.parm on.step.state) its)) some
    ∙ ap (λ run. stopped_so code run on.step.writes its) stands.run
    ∙ ap (λ writes. stopped_so code step.run writes its) stands.writes
    ∙ ap (stopped_so code step.run step.progress.writes) lengths
    ∙ ap (λ code. as_stopped code (seen_from office step.run step.progress stands.start)) (sym some ∙ stands.code))
  where
    its : List ℕ
    its = option_map_or (lengths_of_row on.sets.sets) (run_of office.tables on.run) []
