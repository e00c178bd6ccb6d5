-- What a turn comes to rests on the operator's answer where he was asked, and on nothing of his where he wasn't.
use Rattle.std.proofs.Common.{◌≡◌, ℕ, List, Bool, true, false, inl, inr, if◌then◌else◌, ◌&&◌, ◌||◌, refl, ap, sym, ◌∙◌, Option, Some, None, Result, Ok, Err}
use Rattle.std.specs.Prelude.{◌==◌, ◌⊎◌}
use Rattle.std.specs.Option.{is_some, option_map_or}
use Rattle.std.proofs.lemmas.Bool.{false≢true}
use Rattle.std.proofs.lemmas.Option.{same_Some}
use Rattle.arrayvec.specs.ArrayVec.{ArrayVec}
use Rattle.ckr_base.specs.declared.code.Code.{Code}
use Rattle.ckr_base.specs.declared.programs.NextDue.{NextDue}
use Rattle.ckr_base.specs.declared.programs.NextDue.TheVariants.{Unit as OneUnit, Checkpoint as CheckpointDue, Cancel, Finished}
use Rattle.ckr_base.proofs.Bools.{and-false, or-first-false, or-second-false}
use Rattle.ckr_base.proofs.Options.{is_none-true, option-cases, some-not-none}
use Rattle.ckr_console.specs.declared.question.Answer.{Answer}
use Rattle.ckr_console.specs.declared.question.Answer.TheVariants.{Yes, No, Hold, Silent}
use Rattle.ckr_events.specs.declared.event.Event.{Event}
use Rattle.ckr_events.specs.declared.event.Event.TheVariants.{Ended as EndedEvent, Held as HeldEvent, Restarted as RestartedEvent, Started as StartedEvent}
use Rattle.ckr_events.specs.declared.event.Ending.TheVariants.{Coded as CodedEnding, Completed as CompletedEnding}
use Rattle.ckr_events.specs.declared.event.Made.{Made}
use Rattle.ckr_meaning.specs.EffectiveJob.{OwnedStep}
use Rattle.ckr_meaning.specs.StepRun.{StepStart}
use Rattle.ckr_meaning.specs.declared.place.Place.{Place}
use Rattle.ckr_meaning.specs.declared.place.Place.TheVariants.{Before, Opened, Within}
use Rattle.ckr_points_library.specs.declared.cause.Refusal.{Refusal}
use Rattle.ckr_points.specs.Office.{is_holder}
use Rattle.ckr_points.specs.Restart.{place_of}
use Rattle.ckr_points.specs.RuleCases.{Wanted, rd_in_effect, wanted_of}
use Rattle.ckr_jcl.specs.declared.deck.Restart.{Restart}
use Rattle.ckr_points.specs.Rows.{KeptEntry, RunRow, TablesModel, run_of, step_of_run}
use Rattle.ckr_points.specs.Soundness.{denying}
use Rattle.ckr_rules.specs.RuleTables.{rule_number, suppresses}
use Rattle.ckr_rules.specs.declared.cases.Rule.TheVariants.{A6}
use Rattle.ckr_rules.specs.declared.cases.Verdict.{Verdict}
use Rattle.ckr_rules.specs.declared.cases.Verdict.TheVariants.{Step, Checkpoint, Denied}
use Rattle.ckr_volumes.specs.declared.layout.Layout.{Layout}
use Rattle.ckr_desk_turn.specs.declared.inquiry.Inquiry.{Inquiry}
use Rattle.ckr_desk_turn.specs.declared.plan.Plan.{Plan}
use Rattle.ckr_desk_turn.specs.declared.plan.Plan.TheVariants.{Ask, Rest, Tell, Work, Pass, Take, Wait}
use Rattle.ckr_desk_turn.specs.Deferred.{continued_at_entry, continued_by, deferred_verdict, queued_plan}
use Rattle.ckr_points.specs.declared.reply.Reply.{Reply}
use Rattle.ckr_points.specs.declared.reply.Reply.TheVariants.{AwaitingReply, Idle, JobEnded, NothingToFail, Started}
use Rattle.ckr_points.specs.declared.reply.How.TheVariants.{Completed}
use Rattle.ckr_desk_turn.specs.declared.reply.Turn.{Turn}
use Rattle.ckr_desk_turn.specs.declared.taking.Taking.TheVariants.{Awaited}
use Rattle.ckr_desk_turn.specs.Allocation.{allocation_of}
use Rattle.ckr_desk_turn.specs.Checkpoints.{checkpoint_fits, checkpoint_try, checkpoint_turn, checkpoint_unless}
use Rattle.ckr_desk_turn.specs.Codes.{CodePlaceModel, asked_at_entry, code_plan, ended_by, initiator_of, judged_plan, reached_by, verdict_for}
use Rattle.ckr_desk_turn.specs.Desk.{DeskModel, TurnDone, answered, done_by, jobs_of, progress_of, seen, unit_done, with_progress, work_of}
use Rattle.ckr_desk_turn.specs.Inquiries.{awaits}
use Rattle.ckr_desk_turn.specs.Invariant.{IsDesk}
use Rattle.ckr_desk_turn.specs.Jobs.{TurnJobs, TurnStep, effect_entry, is_failed, running_in, waiting_code}
use Rattle.ckr_desk_turn.specs.Plans.{allocation_ended, between_plan, checkpoint_plan, chosen_plan, due_plan, fail_plan, free_plan, is_within, placed_plan, plan_of, run_plan, running_plan, start_plan, suppressed_plan, system_failure, unmarked_plan}
use Rattle.ckr_desk_turn.specs.Select.{is_on, may_select, next_run, run_on_initiator}
use Rattle.ckr_desk_turn.specs.Taken.{served_by, taken_of}
use Rattle.ckr_desk_turn.specs.Turns.{MountedTurn, carried_out, plan_for, turn_of}
use Rattle.ckr_desk_turn.specs.Units.{StepProgress, UnitEnd, UnitOutcome, abended, unit_end, unit_plan, went}
use Rattle.ckr_desk_turn.proofs.Mounts.{plan_by-cases}
use Rattle.ckr_desk_turn.proofs.OtherRuns.{state-code}
use Rattle.ckr_desk_turn.proofs.NextEvents.BetweenSteps.{next_cases, row_of_found, state_found, state_on}
use Rattle.ckr_desk_turn.proofs.Select.{code_while}
use Rattle.ckr_desk_turn.proofs.Units.AnyUnit.{found-going}
use Rattle.ckr_desk_turn.proofs.Turns.Verdicts.{entered, not-sixth}
use Rattle.ckr_points.specs.Payload.{start_in_office}

-- ---- what is the operator's alone

-- an event that he alone brings about: a restart, a hold, and with `also` an end by the sixth rule
abbrev is_his : Bool → Event → Bool
is_his also (RestartedEvent job initiator code checkpoint) = true
is_his also (HeldEvent job code writes lengths) = true
is_his also (EndedEvent job (CodedEnding code rule writes lengths)) = also && (rule == 6)
is_his also _ = false

abbrev is_his_told : Bool → Option Event → Bool
is_his_told also None = false
is_his_told also (Some event) = is_his also event

abbrev is_awaiting : Reply → Bool
is_awaiting AwaitingReply = true
is_awaiting _ = false

-- a plan that comes to such a thing without his word
abbrev is_his_plan : Bool → Plan → Bool
is_his_plan also (Rest reply) = is_awaiting reply
is_his_plan also (Tell reply event) = is_awaiting reply || is_his also event
is_his_plan also (Pass job reply) = is_awaiting reply
is_his_plan also (Wait job code) = true
is_his_plan also _ = false

-- a turn in which he wasn't asked, and nothing rests on him
record IsApart (also : Bool) (done : TurnDone) : Type 0 where
  pub unasked : done.asked ≡ false
  pub event : is_his_told also done.event ≡ false
  pub reply : is_awaiting done.reply ≡ false

record IsUnasked (also : Bool) (done : Answer → TurnDone) : Type 0 where
  pub same : (answer other : Answer) → done other ≡ done answer
  pub apart : (answer : Answer) → IsApart also (done answer)

-- one in which he was asked
record IsAsked (done : Answer → TurnDone) : Type 0 where
  pub inquiry : Inquiry
  pub moved : DeskModel
  pub so : (answer : Answer) → done answer ≡ answered answer (Ask inquiry) moved

-- one in which he hasn't answered yet whether a volume may be mounted
record IsAwaited (desk : DeskModel) (one : MountedTurn) : Type 0 where
  pub awaited : one.taking ≡ Awaited
  pub waits : (answer : Answer) → turn_of desk one answer ≡ done_by (Rest AwaitingReply) desk

-- ---- plans

module _ (also : Bool) where
  -- the plan of a run with a code
  code-apart : (layout : Layout) (tables : TablesModel) (row : RunRow) (initiator : ℕ) (lodged : Bool) (code : Code) (reached : CodePlaceModel) → (also ≡ true → verdict_for layout row code ≡ Checkpoint → is_some (effect_entry tables row) ≡ true)
      → is_his_plan also (code_plan layout tables row initiator lodged code reached) ≡ false
  code-apart layout tables row initiator lodged code reached there =
      by (verdict_for layout row code) refl (not-sixth layout row code)
    where
      missing : (b : Bool) → also ≡ b → effect_entry tables row ≡ None → verdict_for layout row code ≡ Checkpoint → (b && (6 == 6)) ≡ false
      missing false e none judged = refl
      missing true e none judged = absurd (false≢true (ap is_some (sym none) ∙ there e judged))

      by : (verdict : Verdict) → verdict_for layout row code ≡ verdict → (denying verdict == 6) ≡ false → is_his_plan also (judged_plan tables row initiator lodged code reached verdict) ≡ false
      by (Denied rule) judged isnt = ap (λ b. also && b) isnt ∙ and-false also
      by Step judged isnt = refl
      by Checkpoint judged isnt =
          option-cases (effect_entry tables row)
          (λ none.
          ap (λ (o : Option KeptEntry). is_his_plan also (option_map_or (asked_at_entry row initiator lodged code reached) o (ended_by row code A6 reached))) none
          ∙ missing also refl none judged)
          (λ entry some. ap (λ (o : Option KeptEntry). is_his_plan also (option_map_or (asked_at_entry row initiator lodged code reached) o (ended_by row code A6 reached))) some)

  -- ---- the plan of a turn

  -- whatever the operator alone brings about, no plan does without his word, where each run with a code of these tables has the entry of its checkpoint
  module _ (layout : Layout) (jobs : TurnJobs) where
    -- a run that may have a code, at the tables of a desk
    abbrev HasEntry : RunRow → Type 0
    HasEntry row = (code : Code) → also ≡ true → verdict_for layout row code ≡ Checkpoint → is_some (effect_entry jobs.tables row) ≡ true

    start-apart : (row : RunRow) (owned : OwnedStep) (number : ℕ) → is_his_plan also (start_plan layout jobs row owned number) ≡ false
    start-apart row owned number = by (allocation_of layout row owned number jobs.tables)
      where
        by : (given : Result (List Made) Refusal) → is_his_plan also (elim given as (λ _. Plan) [
          | Err refusal ↦ allocation_ended row owned refusal.dd refusal.cause
          | Ok items ↦ Tell (Started row.number owned.step.name) (StartedEvent row.number number (record { items = items }))
        ]) ≡ false
        by (Ok items) = refl
        by (Err refusal) = refl

    between-apart : (row : RunRow) (number : ℕ) → is_his_plan also (between_plan layout jobs row number) ≡ false
    between-apart row number = by (step_of_run row number)
      where
        by : (step : Option OwnedStep) → is_his_plan also (elim step as (λ _. Plan) [
          | None ↦ Tell (JobEnded row.number Completed) (EndedEvent row.number CompletedEnding)
          | Some owned ↦ start_plan layout jobs row owned number
        ]) ≡ false
        by None = refl
        by (Some owned) = start-apart row owned number

    checkpoint-apart : (row : RunRow) (number : ℕ) → is_his_plan also (checkpoint_plan row number) ≡ false
    checkpoint-apart row number = by (suppresses (rd_in_effect row number))
      where
        by : (suppressed : Bool) → is_his_plan also (if suppressed then suppressed_plan row else Take row.number) ≡ false
        by true = refl
        by false = refl

    due-apart : (row : RunRow) (number : ℕ) (step : TurnStep) (due : NextDue) → is_his_plan also (due_plan row number step due) ≡ false
    due-apart row number step OneUnit = refl
    due-apart row number step CheckpointDue = checkpoint-apart row number
    due-apart row number step Cancel = refl
    due-apart row number step (Finished rc) = refl

    placed-apart : (row : RunRow) (place : Place) → is_his_plan also (placed_plan layout jobs row place) ≡ false
    placed-apart row (Before number) = between-apart row number
    placed-apart row (Opened number) = between-apart row number
    placed-apart row (Within number writes) = by (running_in jobs row.number)
      where
        by : (step : Option TurnStep) → is_his_plan also (option_map_or (running_plan row number) step (Rest Idle)) ≡ false
        by None = refl
        by (Some step) = due-apart row number step step.due

    module _ (row : RunRow) (has : HasEntry row) where
      coded-apart : (initiator : ℕ) (lodged : Bool) (code : Code) → is_his_plan also (code_plan layout jobs.tables row initiator lodged code (reached_by jobs row)) ≡ false
      coded-apart initiator lodged code = code-apart layout jobs.tables row initiator lodged code (reached_by jobs row) (has code)

      fail-apart : (fail : Option Code) → is_his_plan also (fail_plan layout jobs row fail) ≡ false
      fail-apart None = placed-apart row (place_of row)
      fail-apart (Some code) = by (is_within (place_of row))
        where
          by : (within : Bool) → is_his_plan also (elim within as (λ _. Plan) [ true ↦ code_plan layout jobs.tables row (initiator_of row) true code (reached_by jobs row) | false ↦ Rest NothingToFail ]) ≡ false
          by true = coded-apart (initiator_of row) true code
          by false = refl

      unmarked-apart : (fail waits : Option Code) → is_his_plan also (unmarked_plan layout jobs row fail waits) ≡ false
      unmarked-apart fail None = fail-apart fail
      unmarked-apart None (Some code) = coded-apart (initiator_of row) true code
      unmarked-apart (Some given) (Some code) = refl

      run-apart : (fail : Option Code) → is_his_plan also (run_plan layout jobs fail row) ≡ false
      run-apart fail = by (is_failed jobs row.number)
        where
          by : (failed : Bool) → is_his_plan also (elim failed as (λ _. Plan) [
            | true ↦ code_plan layout jobs.tables row (initiator_of row) true system_failure (reached_by jobs row)
            | false ↦ unmarked_plan layout jobs row fail (waiting_code jobs row.number)
          ]) ≡ false
          by true = coded-apart (initiator_of row) true system_failure
          by false = unmarked-apart fail (waiting_code jobs row.number)

    -- a run with RESTART is denied, or goes on, without him
    deferred-apart : (row : RunRow) (initiator : ℕ) (wanted : Wanted) (verdict : Verdict) → is_his_plan also (continued_by verdict jobs.tables initiator row wanted) ≡ false
    deferred-apart row initiator wanted (Denied rule) = refl
    deferred-apart row initiator wanted Step = refl
    deferred-apart row initiator wanted Checkpoint = by wanted.entry
      where
        by : (entry : Option KeptEntry) → is_his_plan also (option_map_or (continued_at_entry initiator row wanted) entry (Rest Idle)) ≡ false
        by None = refl
        by (Some entry) = refl

    queued-apart : (row : RunRow) (initiator : ℕ) (restart : Option Restart) → is_his_plan also (queued_plan layout jobs.tables initiator row restart) ≡ false
    queued-apart row initiator None = refl
    queued-apart row initiator (Some restart) = deferred-apart row initiator (wanted_of row jobs.tables restart) (deferred_verdict layout jobs.tables row (wanted_of row jobs.tables restart))

    -- a run that is chosen has a code only where it was released
    chosen-apart : (row : RunRow) (initiator : ℕ) → ((code : Code) → row.code ≡ Some code → HasEntry row) → is_his_plan also (chosen_plan layout jobs initiator row) ≡ false
    chosen-apart row initiator has = by row.code refl
      where
        by : (code : Option Code) → row.code ≡ code → is_his_plan also (elim code as (λ _. Plan) [
          | None ↦ queued_plan layout jobs.tables initiator row row.deck.restart
          | Some code ↦ code_plan layout jobs.tables row initiator false code (reached_by jobs row)
        ]) ≡ false
        by None its = queued-apart row initiator row.deck.restart
        by (Some code) its = coded-apart row (has code its) initiator false code

    free-apart : (initiator : ℕ) (fail : Option Code) → ((row : RunRow) (code : Code) → next_run jobs.tables ≡ Some row → row.code ≡ Some code → HasEntry row) → is_his_plan also (free_plan layout jobs initiator fail) ≡ false
    free-apart initiator (Some code) has = refl
    free-apart initiator None has = by (next_run jobs.tables) refl
      where
        by : (next : Option RunRow) → next_run jobs.tables ≡ next → is_his_plan also (option_map_or (chosen_plan layout jobs initiator) next (Rest Idle)) ≡ false
        by None its = refl
        by (Some row) its = chosen-apart row initiator (λ code coded. has row code its coded)

    plan-apart : (turn : Turn) → ((row : RunRow) → run_on_initiator jobs.tables turn.initiator ≡ Some row → HasEntry row) → ((row : RunRow) (code : Code) → next_run jobs.tables ≡ Some row → row.code ≡ Some code → HasEntry row) → is_his_plan also (plan_of layout jobs turn) ≡ false
    unfolding plan_of
    plan-apart turn on next = by (run_on_initiator jobs.tables turn.initiator) refl
      where
        by : (row : Option RunRow) → run_on_initiator jobs.tables turn.initiator ≡ row → is_his_plan also (option_map_or (run_plan layout jobs turn.fail) row (free_plan layout jobs turn.initiator turn.fail)) ≡ false
        by None its = free-apart turn.initiator turn.fail next
        by (Some row) its = run-apart row (on row its) turn.fail

  -- ---- what a plan comes to

  -- a plan with his answer
  answered-rests : {A : Type 0} (plan : Plan) (moved : DeskModel) → is_his_plan also plan ≡ false → (IsUnasked also (λ answer. answered answer plan moved) → A) → (IsAsked (λ answer. answered answer plan moved) → A) → A
  answered-rests (Rest reply) moved apart unasked asked = unasked (record { same = λ answer other. refl; apart = λ answer. record { unasked = refl; event = refl; reply = apart } })
  answered-rests (Tell reply event) moved apart unasked asked =
      unasked (record { same = λ answer other. refl; apart = λ answer. record { unasked = refl; event = or-second-false (is_awaiting reply) (is_his also event) apart; reply = or-first-false (is_awaiting reply) (is_his also event) apart } })
  answered-rests (Work job) moved apart unasked asked = unasked (record { same = λ answer other. refl; apart = λ answer. record { unasked = refl; event = refl; reply = refl } })
  answered-rests (Pass job reply) moved apart unasked asked = unasked (record { same = λ answer other. refl; apart = λ answer. record { unasked = refl; event = refl; reply = apart } })
  answered-rests (Take job) moved apart unasked asked = unasked (record { same = λ answer other. refl; apart = λ answer. record { unasked = refl; event = refl; reply = refl } })
  answered-rests (Ask inquiry) moved apart unasked asked = asked (record { inquiry = inquiry; moved = moved; so = λ answer. refl })
  answered-rests (Wait job code) moved apart unasked asked = absurd (false≢true (sym apart))

  idle-rests : (desk : DeskModel) → IsUnasked also (λ answer. done_by (Rest Idle) desk)
  idle-rests desk = record { same = λ answer other. refl; apart = λ answer. record { unasked = refl; event = refl; reply = refl } }

  -- a unit
  unit_plan-apart : (layout : Layout) (jobs : TurnJobs) (row : RunRow) (step : TurnStep) (unit : UnitOutcome) → HasEntry layout jobs row → is_his_plan also (unit_plan layout jobs row step unit) ≡ false
  unit_plan-apart layout jobs row step (went None) has = refl
  unit_plan-apart layout jobs row step (went (Some at)) has = refl
  unit_plan-apart layout jobs row step (abended code) has = code-apart layout jobs.tables row (initiator_of row) true code _ (has code)

  work-rests : {A : Type 0} (desk : DeskModel) (run : ℕ) → ((row : RunRow) (progress : StepProgress) → run_of desk.office.tables run ≡ Some row → progress_of desk run ≡ Some progress → HasEntry desk.layout (jobs_of desk) row)
      → (IsUnasked also (λ answer. work_of answer run desk) → A) → (IsAsked (λ answer. work_of answer run desk) → A) → A
  work-rests {A = A} desk run has unasked asked = by-row (run_of desk.office.tables run) refl unasked asked
    where
      by-progress : (row : RunRow) (start : StepStart) (progress : Option StepProgress) → run_of desk.office.tables run ≡ Some row → progress_of desk run ≡ progress
          → (IsUnasked also (λ answer. option_map_or (λ progress. unit_done answer row (unit_end start progress) desk) progress (done_by (Rest Idle) desk)) → A)
          → (IsAsked (λ answer. option_map_or (λ progress. unit_done answer row (unit_end start progress) desk) progress (done_by (Rest Idle) desk)) → A) → A
      by-progress row start None at known unasked asked = unasked (idle-rests desk)
      by-progress row start (Some progress) at known unasked asked =
          let end : UnitEnd = unit_end start progress in
          let moved : DeskModel = with_progress row.number end.progress desk in
          answered-rests (unit_plan desk.layout (jobs_of moved) row (seen moved.office row.number end.progress) end.unit) moved
          (unit_plan-apart desk.layout (jobs_of moved) row (seen moved.office row.number end.progress) end.unit (has row progress at known)) unasked asked

      by-start : (row : RunRow) (start : Option StepStart) → run_of desk.office.tables run ≡ Some row
          → (IsUnasked also (λ answer. option_map_or (λ start. option_map_or (λ progress. unit_done answer row (unit_end start progress) desk) (progress_of desk run) (done_by (Rest Idle) desk)) start (done_by (Rest Idle) desk)) → A)
          → (IsAsked (λ answer. option_map_or (λ start. option_map_or (λ progress. unit_done answer row (unit_end start progress) desk) (progress_of desk run) (done_by (Rest Idle) desk)) start (done_by (Rest Idle) desk)) → A) → A
      by-start row None at unasked asked = unasked (idle-rests desk)
      by-start row (Some start) at unasked asked = by-progress row start (progress_of desk run) at refl unasked asked

      by-row : (row : Option RunRow) → run_of desk.office.tables run ≡ row
          → (IsUnasked also (λ answer. option_map_or (λ row. option_map_or (λ start. option_map_or (λ progress. unit_done answer row (unit_end start progress) desk) (progress_of desk run) (done_by (Rest Idle) desk)) (start_in_office desk.office row) (done_by (Rest Idle) desk)) row (done_by (Rest Idle) desk)) → A)
          → (IsAsked (λ answer. option_map_or (λ row. option_map_or (λ start. option_map_or (λ progress. unit_done answer row (unit_end start progress) desk) (progress_of desk run) (done_by (Rest Idle) desk)) (start_in_office desk.office row) (done_by (Rest Idle) desk)) row (done_by (Rest Idle) desk)) → A) → A
      by-row None at unasked asked = unasked (idle-rests desk)
      by-row (Some row) at unasked asked = by-start row (start_in_office desk.office row) at unasked asked

  -- a checkpoint
  served-apart : (desk : DeskModel) (row : RunRow) (start : StepStart) (progress : StepProgress) → IsApart also (served_by row (checkpoint_turn desk.office.tables row start progress) desk)
  served-apart desk row start progress = by (suppresses (rd_in_effect row start.number)) (checkpoint_fits desk.office.tables.sets row start progress)
    where
      by-fit : (fits : Bool) → IsApart also (served_by row (checkpoint_try fits desk.office.tables row start progress) desk)
      by-fit true = record { unasked = refl; event = refl; reply = refl }
      by-fit false = record { unasked = refl; event = refl; reply = refl }

      by : (suppressed fits : Bool) → IsApart also (served_by row (checkpoint_unless suppressed desk.office.tables row start progress) desk)
      by true fits = record { unasked = refl; event = refl; reply = refl }
      by false fits = by-fit (checkpoint_fits desk.office.tables.sets row start progress)

  taken-apart : (desk : DeskModel) (run : ℕ) → IsApart also (taken_of run desk)
  taken-apart desk run = by-row (run_of desk.office.tables run)
    where
      idle : IsApart also (done_by (Rest Idle) desk)
      idle = record { unasked = refl; event = refl; reply = refl }

      by-progress : (row : RunRow) (start : StepStart) (progress : Option StepProgress) → IsApart also (option_map_or (λ progress. served_by row (checkpoint_turn desk.office.tables row start progress) desk) progress (done_by (Rest Idle) desk))
      by-progress row start None = idle
      by-progress row start (Some progress) = served-apart desk row start progress

      by-start : (row : RunRow) (start : Option StepStart) → IsApart also (option_map_or (λ start. option_map_or (λ progress. served_by row (checkpoint_turn desk.office.tables row start progress) desk) (progress_of desk run) (done_by (Rest Idle) desk)) start (done_by (Rest Idle) desk))
      by-start row None = idle
      by-start row (Some start) = by-progress row start (progress_of desk run)

      by-row : (row : Option RunRow) → IsApart also (option_map_or (λ row. option_map_or (λ start. option_map_or (λ progress. served_by row (checkpoint_turn desk.office.tables row start progress) desk) (progress_of desk run) (done_by (Rest Idle) desk)) (start_in_office desk.office row) (done_by (Rest Idle) desk)) row (done_by (Rest Idle) desk))
      by-row None = idle
      by-row (Some row) = by-start row (start_in_office desk.office row)

  -- any plan
  carried-rests : {A : Type 0} (desk : DeskModel) (plan : Plan) → is_his_plan also plan ≡ false
      → ((run : ℕ) (row : RunRow) (progress : StepProgress) → run_of desk.office.tables run ≡ Some row → progress_of desk run ≡ Some progress → HasEntry desk.layout (jobs_of desk) row)
      → (IsUnasked also (λ answer. carried_out answer plan desk) → A) → (IsAsked (λ answer. carried_out answer plan desk) → A) → A
  carried-rests desk (Rest reply) apart has unasked asked = unasked (record { same = λ answer other. refl; apart = λ answer. record { unasked = refl; event = refl; reply = apart } })
  carried-rests desk (Tell reply event) apart has unasked asked =
      unasked (record { same = λ answer other. refl; apart = λ answer. record { unasked = refl; event = or-second-false (is_awaiting reply) (is_his also event) apart; reply = or-first-false (is_awaiting reply) (is_his also event) apart } })
  carried-rests desk (Work job) apart has unasked asked = work-rests desk job (has job) unasked asked
  carried-rests desk (Pass job reply) apart has unasked asked = unasked (record { same = λ answer other. refl; apart = λ answer. record { unasked = refl; event = refl; reply = apart } })
  carried-rests desk (Take job) apart has unasked asked = unasked (record { same = λ answer other. refl; apart = λ answer. taken-apart desk job })
  carried-rests desk (Ask inquiry) apart has unasked asked = asked (record { inquiry = inquiry; moved = desk; so = λ answer. refl })
  carried-rests desk (Wait job code) apart has unasked asked = absurd (false≢true (sym apart))

  -- ---- a turn

  -- at a desk each run that may have a code has the entry of its checkpoint
  module _ (desk : DeskModel) (is : also ≡ true → IsDesk desk) where
    holder-has : (row : RunRow) → (also ≡ true → run_of desk.office.tables row.number ≡ Some row) → (also ≡ true → is_holder row.state ≡ true) → HasEntry desk.layout (jobs_of desk) row
    holder-has row at holds code sure judged = entered desk (is sure) row (at sure) (holds sure) code judged

    on-has : (initiator : ℕ) (row : RunRow) → run_on_initiator desk.office.tables initiator ≡ Some row → HasEntry desk.layout (jobs_of desk) row
    on-has initiator row found =
        holder-has row
        (λ sure. row_of_found desk.layout desk.office (λ other. is_on initiator other.initiator) row (is sure).kept found)
        (λ sure. ap is_holder (state_on desk initiator row (is sure) found))

    next-has : (row : RunRow) (code : Code) → next_run desk.office.tables ≡ Some row → row.code ≡ Some code → HasEntry desk.layout (jobs_of desk) row
    next-has row code next coded =
        holder-has row
        (λ sure. row_of_found desk.layout desk.office (λ other. may_select desk.office.tables other.state other) row (is sure).kept next)
        (λ sure.
        next_cases desk.office.tables row next
        (λ queued.
        absurd (some-not-none code
        (sym coded ∙ is_none-true row.code (ap (λ s. code_while s row.code) (sym queued) ∙ state-code row (state_found desk (λ other. may_select desk.office.tables other.state other) row (is sure) next)))))
        (λ released. ap is_holder released))

    going-has : (run : ℕ) (row : RunRow) (progress : StepProgress) → run_of desk.office.tables run ≡ Some row → progress_of desk run ≡ Some progress → HasEntry desk.layout (jobs_of desk) row
    going-has run row progress at known =
        holder-has row
        (λ sure. ap (run_of desk.office.tables) ((is sure).kept.events.numbered run row at) ∙ at)
        (λ sure.
        let going = found-going desk.office run progress desk.running (is sure).going known in
        ap is_holder (ap (λ (r : RunRow). r.state) (same_Some row going.row (sym at ∙ going.row_at)) ∙ going.on))

    -- whatever has become of the volumes that the step wants: nothing rests on him, or its turn waits for his answer to a mount
    waits-or-apart : (one : MountedTurn) → (is_his_plan also (plan_for desk.layout (jobs_of desk) one) ≡ false) ⊎ ((one.taking ≡ Awaited) × (plan_for desk.layout (jobs_of desk) one ≡ Rest AwaitingReply))
    waits-or-apart one =
        plan_by-cases (λ plan. (is_his_plan also plan ≡ false) ⊎ ((one.taking ≡ Awaited) × (plan ≡ Rest AwaitingReply))) desk.layout desk.office.tables (plan_of desk.layout (jobs_of desk) one.turn)
        (inl (plan-apart desk.layout (jobs_of desk) one.turn (on-has one.turn.initiator) next-has))
        (λ step dd cause its. inl refl) one.taking
        (λ need free. inl refl) (λ awaited. inr (awaited, refl))

    turn-rests : {A : Type 0} (one : MountedTurn) → (IsUnasked also (λ answer. turn_of desk one answer) → A) → (IsAsked (λ answer. turn_of desk one answer) → A) → (IsAwaited desk one → A) → A
    unfolding turn_of
    turn-rests {A = A} one unasked asked awaits = by (waits-or-apart one)
      where
        by : (is_his_plan also (plan_for desk.layout (jobs_of desk) one) ≡ false) ⊎ ((one.taking ≡ Awaited) × (plan_for desk.layout (jobs_of desk) one ≡ Rest AwaitingReply)) → A
        by (inl apart) = carried-rests desk (plan_for desk.layout (jobs_of desk) one) apart going-has unasked asked
        by (inr both) = awaits (record { awaited = both.0; waits = λ answer. ap (λ plan. carried_out answer plan desk) both.1 })

-- ---- what he was asked

-- where he is silent, nothing is told
pub silent-tells : (inquiry : Inquiry) (moved : DeskModel) → (done_by (awaits inquiry) moved).event ≡ None
silent-tells inquiry moved = by inquiry.lodged
  where
    by : (lodged : Bool) → (done_by (if lodged then Wait inquiry.job inquiry.code else Rest AwaitingReply) moved).event ≡ None
    by true = refl
    by false = refl

-- a turn in which he was asked: what it tells, by his answer
asked-restarted : (answer : Answer) (inquiry : Inquiry) (moved : DeskModel) (job initiator : ℕ) (code : Code) (checkpoint : Bool) → (answered answer (Ask inquiry) moved).event ≡ Some (RestartedEvent job initiator code checkpoint) → answer ≡ Yes
asked-restarted Yes inquiry moved job initiator code checkpoint told = refl
asked-restarted No inquiry moved job initiator code checkpoint told = cc
asked-restarted Hold inquiry moved job initiator code checkpoint told = cc
asked-restarted Silent inquiry moved job initiator code checkpoint told = absurd (some-not-none (RestartedEvent job initiator code checkpoint) (sym told ∙ silent-tells inquiry moved))

asked-held : (answer : Answer) (inquiry : Inquiry) (moved : DeskModel) (job writes : ℕ) (code : Code) (lengths : ArrayVec ℕ) → (answered answer (Ask inquiry) moved).event ≡ Some (HeldEvent job code writes lengths) → answer ≡ Hold
asked-held Yes inquiry moved job writes code lengths told = cc
asked-held No inquiry moved job writes code lengths told = cc
asked-held Hold inquiry moved job writes code lengths told = refl
asked-held Silent inquiry moved job writes code lengths told = absurd (some-not-none (HeldEvent job code writes lengths) (sym told ∙ silent-tells inquiry moved))

asked-ended : (answer : Answer) (inquiry : Inquiry) (moved : DeskModel) (job rule writes : ℕ) (code : Code) (lengths : ArrayVec ℕ) → (answered answer (Ask inquiry) moved).event ≡ Some (EndedEvent job (CodedEnding code rule writes lengths)) → answer ≡ No
asked-ended Yes inquiry moved job rule writes code lengths told = cc
asked-ended No inquiry moved job rule writes code lengths told = refl
asked-ended Hold inquiry moved job rule writes code lengths told = cc
asked-ended Silent inquiry moved job rule writes code lengths told = absurd (some-not-none (EndedEvent job (CodedEnding code rule writes lengths)) (sym told ∙ silent-tells inquiry moved))

asked-waits : (answer : Answer) (inquiry : Inquiry) (moved : DeskModel) → (answered answer (Ask inquiry) moved).reply ≡ AwaitingReply → answer ≡ Silent
asked-waits Yes inquiry moved reply = cc
asked-waits No inquiry moved reply = cc
asked-waits Hold inquiry moved reply = cc
asked-waits Silent inquiry moved reply = refl

-- ---- the laws

module _ (desk : DeskModel) (one : MountedTurn) (answer : Answer) where
  abbrev its_turn : TurnDone
  its_turn = turn_of desk one answer

  -- an event that he alone brings about comes only where he was asked
  told-asked : (also : Bool) → (also ≡ true → IsDesk desk) → (event : Event) → is_his also event ≡ true → its_turn.event ≡ Some event → IsAsked (λ answer. turn_of desk one answer)
  told-asked also is event his told =
      turn-rests also desk is one
      (λ unasked. absurd (false≢true (sym (unasked.apart answer).event ∙ ap (is_his_told also) told ∙ his)))
      (λ asked. asked)
      (λ awaits. absurd (some-not-none event (sym told ∙ ap (λ (done : TurnDone). done.event) (awaits.waits answer))))

  was-asked : (asked : IsAsked (λ answer. turn_of desk one answer)) → its_turn.asked ≡ true
  was-asked asked = ap (λ (done : TurnDone). done.asked) (asked.so answer)

  no_desk : false ≡ true → IsDesk desk
  no_desk e = absurd (false≢true e)

  pub restarted-rests : (job initiator : ℕ) (code : Code) (checkpoint : Bool) → its_turn.event ≡ Some (RestartedEvent job initiator code checkpoint) → (its_turn.asked ≡ true) × (answer ≡ Yes)
  restarted-rests job initiator code checkpoint told =
      let asked = told-asked false no_desk (RestartedEvent job initiator code checkpoint) refl told in
      (was-asked asked, asked-restarted answer asked.inquiry asked.moved job initiator code checkpoint (ap (λ (done : TurnDone). done.event) (sym (asked.so answer)) ∙ told))

  pub held-rests : (job writes : ℕ) (code : Code) (lengths : ArrayVec ℕ) → its_turn.event ≡ Some (HeldEvent job code writes lengths) → (its_turn.asked ≡ true) × (answer ≡ Hold)
  held-rests job writes code lengths told =
      let asked = told-asked false no_desk (HeldEvent job code writes lengths) refl told in
      (was-asked asked, asked-held answer asked.inquiry asked.moved job writes code lengths (ap (λ (done : TurnDone). done.event) (sym (asked.so answer)) ∙ told))

  pub refused-rests : IsDesk desk → (job writes : ℕ) (code : Code) (lengths : ArrayVec ℕ) → its_turn.event ≡ Some (EndedEvent job (CodedEnding code (rule_number A6) writes lengths)) → (its_turn.asked ≡ true) × (answer ≡ No)
  refused-rests is job writes code lengths told =
      let asked = told-asked true (λ sure. is) (EndedEvent job (CodedEnding code (rule_number A6) writes lengths)) refl told in
      (was-asked asked, asked-ended answer asked.inquiry asked.moved job (rule_number A6) writes code lengths (ap (λ (done : TurnDone). done.event) (sym (asked.so answer)) ∙ told))

  pub waits-rests : its_turn.reply ≡ AwaitingReply → (one.taking ≡ Awaited) ⊎ ((its_turn.asked ≡ true) × (answer ≡ Silent))
  waits-rests replied =
      turn-rests false desk no_desk one
      (λ unasked. absurd (false≢true (sym (unasked.apart answer).reply ∙ ap is_awaiting replied)))
      (λ asked. inr (was-asked asked, asked-waits answer asked.inquiry asked.moved (ap (λ (done : TurnDone). done.reply) (sym (asked.so answer)) ∙ replied)))
      (λ awaits. inl awaits.awaited)

  pub unasked-same : (other : Answer) → its_turn.asked ≡ false → turn_of desk one other ≡ its_turn
  unasked-same other none =
      turn-rests false desk no_desk one
      (λ unasked. unasked.same answer other)
      (λ asked. absurd (false≢true (sym none ∙ was-asked asked)))
      (λ awaits. awaits.waits other ∙ sym (awaits.waits answer))
