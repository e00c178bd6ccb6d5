-- What a turn tells of a desk that stands: each event with what the image has of its run.
use Rattle.std.proofs.Common.{◌≡◌, ◌≤◌, ℕ, Bool, true, false, not, ◌&&◌, List, refl, ap, sym, ◌∙◌, subst, Option, Some, None, Result, Ok, Err, cond}
use Rattle.std.specs.Prelude.{◌==◌, if◌then◌else◌}
use Rattle.std.specs.List.{list_any}
use Rattle.std.specs.Option.{is_some, option_map_or}
use Rattle.std.proofs.lemmas.Bool.{and_from, false≢true}
use Rattle.std.proofs.lemmas.Option.{same_Some}
use Rattle.arrayvec.specs.ArrayVec.{ArrayVec}
use Rattle.ckr_points_library.specs.declared.cause.Refusal.{Refusal}
use Rattle.ckr_base.specs.declared.code.Code.{Code}
use Rattle.ckr_base.specs.declared.programs.NextDue.{NextDue}
use Rattle.ckr_base.specs.declared.programs.NextDue.TheVariants.{Unit as OneUnit, Checkpoint, Cancel, Finished}
use Rattle.ckr_base.proofs.Bools.{bool-cases}
use Rattle.ckr_base.proofs.Options.{is_none-true, is_some-true, option-cases}
use Rattle.ckr_base.proofs.Sequences.{find-all}
use Rattle.ckr_console.specs.declared.question.Answer.{Answer}
use Rattle.ckr_console.specs.declared.question.Answer.TheVariants.{Yes, No, Hold, Silent}
use Rattle.ckr_events.specs.declared.event.Ending.TheVariants.{Allocation, Coded, Completed}
use Rattle.ckr_events.specs.declared.event.Event.{Event}
use Rattle.ckr_events.specs.declared.event.Event.TheVariants.{Cancelled, Denied, Ended, Held, Restarted, Selected, Started, StepEnded}
use Rattle.ckr_events.specs.declared.event.Made.{Made}
use Rattle.ckr_desk_memory.specs.View.{RunningStepView}
use Rattle.ckr_desk_turn.specs.NextEvents.{IsWithinStep}
use Rattle.ckr_desk_turn.specs.Turns.{IsMountedTurnOf, MountedTurn, plan_for}
use Rattle.ckr_desk_turn.specs.Invariant.{IsDesk, IsTurnOf, has_code_while_off, is_accounted}
use Rattle.ckr_desk_turn.proofs.Codes.{by-verdict}
use Rattle.ckr_desk_turn.proofs.Deferred.Plans.{by-queued}
use Rattle.ckr_desk_turn.proofs.Mounts.{plan_by-cases}
use Rattle.ckr_desk_turn.proofs.NextEvents.BetweenSteps.{free-there, next_cases, row_of_found, state_found, state_on}
use Rattle.ckr_desk_turn.proofs.NextEvents.Holders.{HoldsStep, on-holder}
use Rattle.ckr_desk_turn.proofs.Opening.{running-stands}
use Rattle.ckr_desk_turn.proofs.OtherRuns.{state-code}
use Rattle.ckr_desk_turn.proofs.Restart.Events.{MayGoOn}
use Rattle.ckr_desk_turn.proofs.RunningSteps.{FoundStep, found-step, going-within}
use Rattle.ckr_desk_turn.proofs.Select.{code_while}
use Rattle.ckr_desk_turn.proofs.Start.Invariant.{not-failed, planned-within}
use Rattle.ckr_desk_turn.proofs.Turns.Initiator.{released-stands, fewer-marked}
use Rattle.ckr_desk_refines.specs.Commits.{HasCommitted, HasWithinRun}
use Rattle.ckr_meaning.specs.EffectiveJob.{OwnedStep}
use Rattle.ckr_meaning.specs.declared.place.Place.{Place}
use Rattle.ckr_meaning.specs.declared.place.Place.TheVariants.{Before, Opened, Within}
use Rattle.ckr_meaning.specs.StepRun.{StepStart}
use Rattle.ckr_points.specs.declared.run.RunState.{RunState}
use Rattle.ckr_points.specs.declared.run.RunState.TheVariants.{On, Released}
use Rattle.ckr_points.specs.Follows.{is_in_state, is_within, state_number}
use Rattle.ckr_points.specs.Restart.{place_of}
use Rattle.ckr_points.specs.RuleCases.{rd_in_effect}
use Rattle.ckr_points.specs.Rows.{RunRow, run_of, step_of_run}
use Rattle.ckr_library.specs.NameMaps.{Name}
use Rattle.ckr_rules.specs.RuleTables.{rule_number}
use Rattle.ckr_rules.specs.declared.cases.Rule.{Rule}
use Rattle.ckr_rules.specs.declared.cases.Rule.TheVariants.{A6}
use Rattle.ckr_desk_refines.specs.Standing.{AllStand}
use Rattle.ckr_rules.specs.RuleTables.{suppresses}
use Rattle.ckr_desk_turn.specs.declared.plan.Plan.{Plan}
use Rattle.ckr_desk_turn.specs.declared.plan.Plan.TheVariants.{Rest, Tell, Work, Pass, Take, Ask, Wait}
use Rattle.ckr_desk_turn.specs.declared.failed_run.FailedRun.{FailedRun}
use Rattle.ckr_desk_turn.specs.declared.inquiry.Inquiry.{Inquiry}
use Rattle.ckr_points.specs.declared.reply.How.TheVariants.{Completed as CompletedJob}
use Rattle.ckr_points.specs.declared.reply.Reply.TheVariants.{AwaitingReply, Idle, JobEnded, NothingToFail, Started as StartedReply}
use Rattle.ckr_desk_turn.specs.declared.reply.Turn.{Turn}
use Rattle.ckr_desk_turn.specs.Allocation.{allocation_of, cause_numbers}
use Rattle.ckr_desk_turn.specs.Select.{is_on, may_select, next_run, run_on_initiator}
use Rattle.ckr_desk_turn.specs.Codes.{code_plan, initiator_of, inquiry_of, reached_by}
use Rattle.ckr_desk_turn.specs.Deferred.{queued_plan}
use Rattle.ckr_desk_turn.specs.Inquiries.{awaits, decide, hold_event, refusal_event, restart_event}
use Rattle.ckr_desk_turn.specs.Desk.{DeskModel, jobs_of}
use Rattle.ckr_desk_turn.specs.Jobs.{TurnStep, is_failed, running_in, waiting_code}
use Rattle.ckr_desk_turn.specs.Plans.{allocation_ended, between_plan, checkpoint_plan, chosen_plan, due_plan, fail_plan, free_plan, is_within as is_planned, placed_plan, plan_of, run_plan, running_plan, start_plan, suppressed_plan, system_failure, unmarked_plan}
use Rattle.ckr_desk_refines.proofs.Events.Commits.{reached-written, running-written}
use Rattle.ckr_desk_refines.proofs.Units.Plans.{step-uncoded}

-- what is shown of each event that a turn may tell
pub record OfEach (desk : DeskModel) (image : List ℕ) (Q : Event → Type 0) : Type 0 where
  pub selected : (job initiator earlier step : ℕ) (id : Option Name) → Q (Selected job initiator earlier step id)
  pub denied : (job rule : ℕ) (name : Option Name) → Q (Denied job rule name)
  pub started : (job step : ℕ) (items : ArrayVec Made) → Q (Started job step items)
  pub cancelled : (job : ℕ) (step : TurnStep) → running_in (jobs_of desk) job ≡ Some step → step.due ≡ Cancel → step.code ≡ None → Q (Cancelled job)
  pub step_ended : (job step rc writes : ℕ) (lengths : ArrayVec ℕ) → HasWithinRun desk.layout desk.office job writes image → Q (StepEnded job step rc writes lengths)
  pub restarted : (job initiator : ℕ) (code : Code) (checkpoint : Bool) → Q (Restarted job initiator code checkpoint)
  pub held : (job writes : ℕ) (code : Code) (lengths : ArrayVec ℕ) → HasWithinRun desk.layout desk.office job writes image → Q (Held job code writes lengths)
  pub completed : (job : ℕ) → Q (Ended job Completed)
  pub refused : (job dd cause first second : ℕ) → Q (Ended job (Allocation dd cause first second))
  pub coded : (job rule writes : ℕ) (code : Code) (lengths : ArrayVec ℕ) → HasWithinRun desk.layout desk.office job writes image → Q (Ended job (Coded code rule writes lengths))

-- it holds of the events that an answer of the operator may bring about
pub record OfAnswers (Q : Event → Type 0) (inquiry : Inquiry) : Type 0 where
  pub goes_on : Q (restart_event inquiry)
  pub ends : Q (refusal_event inquiry)
  pub is_held : Q (hold_event inquiry)

-- it holds of the event of a plan that tells one, or of each that the operator is asked for
abbrev pub OfPlan : (Event → Type 0) → Plan → Type 0
OfPlan Q (Rest reply) = Unit {0}
OfPlan Q (Tell reply event) = Q event
OfPlan Q (Work job) = Unit {0}
OfPlan Q (Pass job reply) = Unit {0}
OfPlan Q (Take job) = Unit {0}
OfPlan Q (Ask inquiry) = OfAnswers Q inquiry
OfPlan Q (Wait job code) = Unit {0}

-- so it holds of the event that is told with his answer
silent-tells : (Q : Event → Type 0) (inquiry : Inquiry) → OfPlan Q (awaits inquiry)
silent-tells Q inquiry = by inquiry.lodged
  where
    by : (b : Bool) → OfPlan Q (cond b (Wait inquiry.job inquiry.code) (Rest AwaitingReply))
    by true = tt
    by false = tt

pub answer-tells : (Q : Event → Type 0) (answer : Answer) (plan : Plan) → OfPlan Q plan → OfPlan Q (decide answer plan)
answer-tells Q Yes (Ask inquiry) of = of.goes_on
answer-tells Q No (Ask inquiry) of = of.ends
answer-tells Q Hold (Ask inquiry) of = of.is_held
answer-tells Q Silent (Ask inquiry) of = silent-tells Q inquiry
answer-tells Q answer _ of = of

module _ (desk : DeskModel) (is : IsDesk desk) (image : List ℕ) (seen : List RunningStepView) (all : AllStand desk.layout desk.office image seen desk.running) (had : HasCommitted desk.layout desk.office image)
    (Q : Event → Type 0) (each : OfEach desk image Q) where
  -- ---- a run within a step

  -- of a code the end is told by the rule, or the operator is asked
  module _ (row : RunRow) (number committed : ℕ) (start : StepStart) (held : HoldsStep desk.office row.number row number committed start) (initiator : ℕ) (lodged : Bool) (code : Code) where
    has : HasWithinRun desk.layout desk.office row.number (reached_by (jobs_of desk) row).writes image
    has = reached-written desk is image seen all had row.number row number committed start held

    ends-by : (rule : Rule) → Q (Ended row.number (Coded code (rule_number rule) (reached_by (jobs_of desk) row).writes (record { items = (reached_by (jobs_of desk) row).lengths })))
    ends-by rule = each.coded row.number (rule_number rule) (reached_by (jobs_of desk) row).writes code (record { items = (reached_by (jobs_of desk) row).lengths }) has

    asked-tells : (id : Option Name) (taken : ℕ) → OfAnswers Q (inquiry_of row initiator lodged code (reached_by (jobs_of desk) row) id taken)
    asked-tells id taken = record {
      goes_on = each.restarted row.number initiator code (is_some id);
      ends = ends-by A6;
      is_held = each.held row.number (reached_by (jobs_of desk) row).writes code (record { items = (reached_by (jobs_of desk) row).lengths }) has;
    }

    code-tells : OfPlan Q (code_plan desk.layout desk.office.tables row initiator lodged code (reached_by (jobs_of desk) row))
    code-tells =
        by-verdict (OfPlan Q) desk.layout desk.office.tables row initiator lodged code (reached_by (jobs_of desk) row)
        (λ rule ends. ends-by rule) (λ judged. asked-tells None 0) (λ entry judged there. asked-tells (Some entry.kept.id) entry.point.taken)

  module _ (row : RunRow) (number committed : ℕ) (start : StepStart) (within : IsWithinStep desk.office row.number row number committed start) where
    on-tells : (code : Code) → OfPlan Q (code_plan desk.layout desk.office.tables row (initiator_of row) true code (reached_by (jobs_of desk) row))
    on-tells code = code-tells row number committed start (on-holder desk.office row.number row number committed start within) (initiator_of row) true code

    checkpoint-tells : (number : ℕ) → OfPlan Q (checkpoint_plan row number)
    checkpoint-tells number = by (suppresses (rd_in_effect row number))
      where
        by : (b : Bool) → OfPlan Q (cond b (suppressed_plan row) (Take row.number))
        by true = tt
        by false = tt

    due-tells : (step : TurnStep) (due : NextDue) → step.due ≡ due → running_in (jobs_of desk) row.number ≡ Some step → step.code ≡ None → OfPlan Q (due_plan row number step due)
    due-tells step OneUnit is_due some uncoded = tt
    due-tells step Checkpoint is_due some uncoded = checkpoint-tells number
    due-tells step Cancel is_due some uncoded = each.cancelled row.number step some is_due uncoded
    due-tells step (Finished rc) is_due some uncoded =
        each.step_ended row.number number rc step.writes (record { items = step.lengths }) (running-written desk is image seen all row.number step some)

    placed-tells : waiting_code (jobs_of desk) row.number ≡ None → OfPlan Q (placed_plan desk.layout (jobs_of desk) row (place_of row))
    placed-tells none_waits =
        subst (λ place. OfPlan Q (placed_plan desk.layout (jobs_of desk) row place)) (sym within.place)
        (option-cases (running_in (jobs_of desk) row.number)
        (λ none. subst (λ (o : Option TurnStep). OfPlan Q (option_map_or (running_plan row number) o (Rest Idle))) (sym none) tt)
        (λ step some.
        subst (λ (o : Option TurnStep). OfPlan Q (option_map_or (running_plan row number) o (Rest Idle))) (sym some)
        (due-tells step step.due refl some (step-uncoded (jobs_of desk) row.number step some none_waits))))

    fail-tells : waiting_code (jobs_of desk) row.number ≡ None → (fail : Option Code) → OfPlan Q (fail_plan desk.layout (jobs_of desk) row fail)
    fail-tells none_waits None = placed-tells none_waits
    fail-tells none_waits (Some code) =
        subst (λ place. OfPlan Q (elim (is_planned place) [
          | true ↦ code_plan desk.layout desk.office.tables row (initiator_of row) true code (reached_by (jobs_of desk) row)
          | false ↦ Rest NothingToFail
        ])) (sym within.place) (on-tells code)

    unmarked-tells : (fail waits : Option Code) → waiting_code (jobs_of desk) row.number ≡ waits → OfPlan Q (unmarked_plan desk.layout (jobs_of desk) row fail waits)
    unmarked-tells fail None waits = fail-tells waits fail
    unmarked-tells None (Some code) waits = on-tells code
    unmarked-tells (Some given) (Some code) waits = tt

    step-tells : (fail : Option Code) → OfPlan Q (run_plan desk.layout (jobs_of desk) fail row)
    step-tells fail = by (is_failed (jobs_of desk) row.number)
      where
        by : (b : Bool) → OfPlan Q (elim b [
          | true ↦ code_plan desk.layout desk.office.tables row (initiator_of row) true system_failure (reached_by (jobs_of desk) row)
          | false ↦ unmarked_plan desk.layout (jobs_of desk) row fail (waiting_code (jobs_of desk) row.number)
        ])
        by true = on-tells system_failure
        by false = unmarked-tells fail (waiting_code (jobs_of desk) row.number) refl

  -- ---- a run between two steps

  start-tells : (row : RunRow) (owned : OwnedStep) (number : ℕ) → OfPlan Q (start_plan desk.layout (jobs_of desk) row owned number)
  start-tells row owned number = by (allocation_of desk.layout row owned number desk.office.tables)
    where
      by : (given : Result (List Made) Refusal) → OfPlan Q (elim given [
        | Err refusal ↦ allocation_ended row owned refusal.dd refusal.cause
        | Ok items ↦ Tell (StartedReply row.number owned.step.name) (Started row.number number (record { items = items }))
      ])
      by (Err refusal) = let numbers = cause_numbers refusal.cause in each.refused row.number refusal.dd numbers.0 numbers.1 numbers.2
      by (Ok items) = each.started row.number number (record { items = items })

  between-tells : (row : RunRow) (number : ℕ) → OfPlan Q (between_plan desk.layout (jobs_of desk) row number)
  between-tells row number = by (step_of_run row number)
    where
      by : (found : Option OwnedStep) → OfPlan Q (elim found [
        | None ↦ Tell (JobEnded row.number CompletedJob) (Ended row.number Completed)
        | Some owned ↦ start_plan desk.layout (jobs_of desk) row owned number
      ])
      by None = each.completed row.number
      by (Some owned) = start-tells row owned number

  -- a run that isn't within a step isn't marked, and waits with no code
  module _ (row : RunRow) (at : run_of desk.office.tables row.number ≡ Some row) (out : is_within (place_of row) ≡ false) where
    unmarked : (also : FailedRun → Bool) → list_any (λ (one : FailedRun). one.run == row.number && also one) desk.failed ≡ false
    unmarked also = fewer-marked desk.failed row.number also (not-failed desk is row at out)

    waits-not : waiting_code (jobs_of desk) row.number ≡ None
    waits-not =
        ap (λ b. if b then Some system_failure else option_map_or (λ (step : TurnStep). step.code) (running_in (jobs_of desk) row.number) None) (unmarked (λ one. one.asked))
        ∙ option-cases (running_in (jobs_of desk) row.number)
        (λ none. ap (λ (o : Option TurnStep). option_map_or (λ (step : TurnStep). step.code) o None) none)
        (λ step some.
        let found : FoundStep desk.office desk.running row.number step = found-step desk.office row.number desk.running step is.going some in
        let mine : found.going.row ≡ row = same_Some _ _ (sym found.going.row_at ∙ ap (run_of desk.office.tables) found.same ∙ at) in
        absurd (false≢true (sym out ∙ ap (λ (r : RunRow). is_within (place_of r)) (sym mine) ∙ ap is_within (going-within desk.office found.on found.going).place)))

  out-tells : (row : RunRow) → run_of desk.office.tables row.number ≡ Some row → is_within (place_of row) ≡ false → (fail : Option Code) → OfPlan Q (run_plan desk.layout (jobs_of desk) fail row)
  out-tells row at out fail =
      subst (λ b. OfPlan Q (elim b [
        | true ↦ code_plan desk.layout desk.office.tables row (initiator_of row) true system_failure (reached_by (jobs_of desk) row)
        | false ↦ unmarked_plan desk.layout (jobs_of desk) row fail (waiting_code (jobs_of desk) row.number)
      ])) (sym (unmarked row at out (λ one. not one.asked)))
      (subst (λ o. OfPlan Q (unmarked_plan desk.layout (jobs_of desk) row fail o)) (sym (waits-not row at out)) (by fail))
    where
      placed : (place : Place) → is_within place ≡ false → OfPlan Q (placed_plan desk.layout (jobs_of desk) row place)
      placed (Before number) out = between-tells row number
      placed (Opened number) out = between-tells row number
      placed (Within number writes) out = absurd (false≢true (sym out))

      by : (fail : Option Code) → OfPlan Q (fail_plan desk.layout (jobs_of desk) row fail)
      by None = placed (place_of row) out
      by (Some code) =
          subst (λ b. OfPlan Q (elim b [
            | true ↦ code_plan desk.layout desk.office.tables row (initiator_of row) true code (reached_by (jobs_of desk) row)
            | false ↦ Rest NothingToFail
          ])) (sym (planned-within (place_of row) ∙ out)) tt

  -- ---- any turn

  run-tells : (i : ℕ) (row : RunRow) → run_on_initiator desk.office.tables i ≡ Some row → (fail : Option Code) → OfPlan Q (run_plan desk.layout (jobs_of desk) fail row)
  run-tells i row found fail =
      let at : run_of desk.office.tables row.number ≡ Some row = row_of_found desk.layout desk.office (λ other. is_on i other.initiator) row is.kept found in
      bool-cases (is_within (place_of row))
      (λ inside.
      running-stands desk is row at (find-all (is_accounted desk) (λ other. is_on i other.initiator) desk.office.tables.runs row is.accounted found)
      (and_from (is_in_state On row) (is_within (place_of row)) (ap (λ (state : RunState). state_number state == 2) (state_on desk i row is found)) inside)
      (λ number committed start stands. step-tells row number committed start stands fail))
      (λ out. out-tells row at out fail)

  -- a released run has the code that it was held with
  module _ (i : ℕ) (above : 1 ≤ i) (below : i ≤ desk.layout.initiators) (free : run_on_initiator desk.office.tables i ≡ None) where
    abbrev selects : RunRow → Bool
    selects other = may_select desk.office.tables other.state other

    abbrev chosen_by : RunRow → Option Code → Plan
    chosen_by row code =
        elim code as (λ _. Plan) [
          | None ↦ queued_plan desk.layout desk.office.tables i row row.deck.restart
          | Some code ↦ code_plan desk.layout desk.office.tables row i false code (reached_by (jobs_of desk) row)
        ]

    released-tells : (row : RunRow) → next_run desk.office.tables ≡ Some row → row.state ≡ Released → (code : Code) → OfPlan Q (chosen_by row (Some code))
    released-tells row next released code =
        let on : MayGoOn desk.layout desk.office row i =
        released-stands desk is row i (row_of_found desk.layout desk.office selects row is.kept next) released (free-there desk.layout desk.office.tables i above below free) in
        code-tells row on.number on.committed on.start on.held i false code

    chosen-tells : (row : RunRow) → next_run desk.office.tables ≡ Some row → OfPlan Q (chosen_plan desk.layout (jobs_of desk) i row)
    chosen-tells row next =
        let coded : has_code_while_off row ≡ true = state-code row (state_found desk selects row is next) in
        next_cases desk.office.tables row next
        (λ queued.
        subst (λ o. OfPlan Q (chosen_by row o)) (sym (is_none-true row.code (ap (λ s. code_while s row.code) (sym queued) ∙ coded)))
        (by-queued (OfPlan Q) desk.layout desk.office.tables i row tt (λ reply rule name. each.denied row.number rule name) (λ reply earlier step id. each.selected row.number i earlier step id) row.deck.restart))
        (λ released.
        is_some-true row.code (ap (λ s. code_while s row.code) (sym released) ∙ coded)
        (λ code its. subst (λ o. OfPlan Q (chosen_by row o)) (sym its) (released-tells row next released code)))

    free-tells : (fail : Option Code) → OfPlan Q (free_plan desk.layout (jobs_of desk) i fail)
    free-tells (Some code) = tt
    free-tells None =
        option-cases (next_run desk.office.tables)
        (λ none. subst (λ (o : Option RunRow). OfPlan Q (option_map_or (chosen_plan desk.layout (jobs_of desk) i) o (Rest Idle))) (sym none) tt)
        (λ row next. subst (λ (o : Option RunRow). OfPlan Q (option_map_or (chosen_plan desk.layout (jobs_of desk) i) o (Rest Idle))) (sym next) (chosen-tells row next))

  planned-tells : (turn : Turn) → IsTurnOf desk.layout turn → OfPlan Q (plan_of desk.layout (jobs_of desk) turn)
  unfolding plan_of
  planned-tells turn its =
      option-cases (run_on_initiator desk.office.tables turn.initiator)
      (λ free. subst (λ (o : Option RunRow). OfPlan Q (option_map_or (run_plan desk.layout (jobs_of desk) turn.fail) o (free_plan desk.layout (jobs_of desk) turn.initiator turn.fail))) (sym free)
      (free-tells turn.initiator its.above its.below free turn.fail))
      (λ row found. subst (λ (o : Option RunRow). OfPlan Q (option_map_or (run_plan desk.layout (jobs_of desk) turn.fail) o (free_plan desk.layout (jobs_of desk) turn.initiator turn.fail))) (sym found) (run-tells turn.initiator row found turn.fail))

  -- whatever has become of the volumes that its step wants
  pub turn-tells : (turn : MountedTurn) → IsMountedTurnOf desk.layout turn → OfPlan Q (plan_for desk.layout (jobs_of desk) turn)
  turn-tells turn its =
      plan_by-cases (OfPlan Q) desk.layout desk.office.tables (plan_of desk.layout (jobs_of desk) turn.turn) (planned-tells turn.turn its)
      (λ step dd cause there. let numbers = cause_numbers cause in each.refused step.row.number dd numbers.0 numbers.1 numbers.2)
      turn.taking
      (λ need free. tt) (λ awaited. tt)
