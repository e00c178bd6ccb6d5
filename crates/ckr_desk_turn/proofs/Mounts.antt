-- A plan whose step wants volumes: it stays, waits, or its run ends at a DD of its step.
use Rattle.std.proofs.Common.{◌≡◌, ◌≤◌, ◌<◌, ◌+◌, ℕ, suc, Bool, true, false, ◌||◌, List, [], ◌∷◌, length, refl, ap, sym, ◌∙◌, subst, Option, Some, None, Result, Ok, Err, arith}
use Rattle.std.specs.Prelude.{◌==◌, if◌then◌else◌}
use Rattle.std.specs.Option.{option_map_or}
use Rattle.std.proofs.lemmas.Bool.{and_from}
use Rattle.std.proofs.lemmas.Option.{same_Some}
use Rattle.ckr_base.specs.declared.code.Code.{Code}
use Rattle.ckr_base.specs.declared.programs.NextDue.{NextDue}
use Rattle.ckr_base.specs.declared.programs.NextDue.TheVariants.{Unit as OneUnit, Checkpoint as CheckpointDue, Cancel, Finished}
use Rattle.ckr_base.proofs.Bools.{bool-cases}
use Rattle.ckr_base.proofs.Numbers.{equal-itself, equal-true}
use Rattle.ckr_base.proofs.Options.{option-cases}
use Rattle.ckr_console.specs.declared.question.Answer.{Answer}
use Rattle.ckr_events.specs.declared.event.Event.TheVariants.{Ended as EndedEvent, Started as StartedEvent}
use Rattle.ckr_events.specs.declared.event.Ending.TheVariants.{Allocation as AllocationEnding, Completed as CompletedEnding}
use Rattle.ckr_events.specs.declared.event.Made.{Made}
use Rattle.ckr_jcl.specs.declared.deck.Dd.{Dd}
use Rattle.ckr_jcl.specs.declared.deck.Restart.{Restart}
use Rattle.ckr_meaning.specs.EffectiveJob.{OwnedStep, name_of}
use Rattle.ckr_meaning.specs.declared.place.Place.{Place}
use Rattle.ckr_meaning.specs.declared.place.Place.TheVariants.{Before, Opened, Within}
use Rattle.ckr_points_library.specs.declared.cause.Cause.{Cause}
use Rattle.ckr_points_library.specs.declared.cause.Cause.TheVariants.{Units, MountRefused}
use Rattle.ckr_points_library.specs.declared.cause.Refusal.{Refusal}
use Rattle.ckr_points.specs.declared.run.RunState.TheVariants.{On}
use Rattle.ckr_points.specs.Follows.{own_step}
use Rattle.ckr_points.specs.Restart.{place_of}
use Rattle.ckr_points.specs.RuleCases.{Wanted, rd_in_effect, wanted_of}
use Rattle.ckr_points.specs.Rows.{KeptEntry, RunRow, TablesModel, run_of, step_of_run}
use Rattle.ckr_points.specs.Soundness.{ending_names_first, may_come}
use Rattle.ckr_rules.specs.RuleTables.{suppresses}
use Rattle.ckr_rules.specs.declared.cases.Rule.TheVariants.{A6}
use Rattle.ckr_rules.specs.declared.cases.Verdict.{Verdict}
use Rattle.ckr_rules.specs.declared.cases.Verdict.TheVariants.{Checkpoint, Denied, Step}
use Rattle.ckr_volumes.specs.declared.layout.Layout.{Layout}
use Rattle.ckr_desk_turn.specs.declared.plan.Plan.{Plan}
use Rattle.ckr_desk_turn.specs.declared.plan.Plan.TheVariants.{Rest, Take, Tell}
use Rattle.ckr_points.specs.declared.reply.How.TheVariants.{Completed}
use Rattle.ckr_points.specs.declared.reply.Reply.TheVariants.{AwaitingReply, Idle, JobEnded, NothingToFail, Started, WaitingUnits}
use Rattle.ckr_desk_turn.specs.declared.reply.Turn.{Turn}
use Rattle.ckr_desk_turn.specs.declared.taking.Taking.{Taking}
use Rattle.ckr_desk_turn.specs.declared.taking.Taking.TheVariants.{Taken, Exceeds, Lacks, Refused, Awaited}
use Rattle.ckr_desk_turn.specs.Allocation.{allocation_of, cause_numbers}
use Rattle.ckr_desk_turn.specs.Codes.{CodePlaceModel, asked_at_entry, code_plan, ended_by, initiator_of, judged_plan, reached_by, verdict_for}
use Rattle.ckr_desk_turn.specs.Deferred.{continued_at_entry, continued_by, deferred_verdict, queued_plan}
use Rattle.ckr_desk_turn.specs.Desk.{DeskModel, jobs_of}
use Rattle.ckr_desk_turn.specs.Invariant.{IsDesk, Keeps}
use Rattle.ckr_desk_turn.specs.Jobs.{TurnJobs, TurnStep, effect_entry, is_failed, running_in, waiting_code}
use Rattle.ckr_desk_turn.specs.Mounts.{Wanting, by_taking, dd_on, ended_at, first_dd, is_made_there, plan_by, stands_there, wanting, wanting_in, wants}
use Rattle.ckr_desk_turn.specs.Plans.{allocation_ended, between_plan, checkpoint_plan, chosen_plan, due_plan, fail_plan, free_plan, is_within, placed_plan, plan_of, run_plan, running_plan, start_plan, suppressed_plan, system_failure, unmarked_plan}
use Rattle.ckr_desk_turn.specs.Select.{is_on, next_run, run_on_initiator}
use Rattle.ckr_desk_turn.specs.Turns.{carried_out}
use Rattle.ckr_desk_turn.proofs.NextEvents.BetweenSteps.{refused-follows, row_of_found, state_on}
use Rattle.ckr_desk_turn.proofs.RunEnd.{refused-kept}

-- ---- what becomes of a plan

-- a DD that is found is one of the step's
first-inside : (is_so : ℕ → Dd → Bool) (number : ℕ) (dds : List Dd) (dd : ℕ) → first_dd is_so number dds ≡ Some dd → (number ≤ dd) × (dd < number + length dds)
first-inside is_so number [] dd found = cc
first-inside is_so number (one ∷ rest) dd found =
    bool-cases (is_so number one)
    (λ so.
    let same : number ≡ dd = same_Some number dd (sym (ap (λ b. if b then Some number else first_dd is_so (suc number) rest) so) ∙ found) in
    (omega arith, omega arith))
    (λ isnt.
    let later = first-inside is_so (suc number) rest dd (sym (ap (λ b. if b then Some number else first_dd is_so (suc number) rest) isnt) ∙ found) in
    let low : suc number ≤ dd = later.0 in
    let high : dd < suc number + length rest = later.1 in
    (omega arith, omega arith))

-- a step that wants volumes, at a plan, with one of its DDs
pub record WantsAt (tables : TablesModel) (plan : Plan) (step : Wanting) (dd : ℕ) : Type 0 where
  pub wanted : wanting tables plan ≡ Some step
  pub above : 1 ≤ dd
  pub below : dd ≤ length step.owned.step.dds

module _ (Q : Plan → Type 0) (layout : Layout) (tables : TablesModel) (plan : Plan) (stays : Q plan)
    (ends : (step : Wanting) (dd : ℕ) (cause : Cause) → WantsAt tables plan step dd → Q (allocation_ended step.row step.owned dd cause)) where
  ended-cases : (step : Wanting) (cause : Cause) (sought : Option ℕ) → wanting tables plan ≡ Some step → Q (ended_at step cause plan (dd_on step sought))
  ended-cases step cause sought wanted = by (dd_on step sought) refl
    where
      by : (found : Option ℕ) → dd_on step sought ≡ found → Q (ended_at step cause plan found)
      by None none = stays
      by (Some dd) some =
          let inside = first-inside (λ number dd. is_made_there step.items sought number || stands_there step.sets sought (name_of step.row.job.root step.owned dd)) 1 step.owned.step.dds dd some in
          let low : 1 ≤ dd = inside.0 in
          let high : dd < 1 + length step.owned.step.dds = inside.1 in
          ends step dd cause (record { wanted = wanted; above = low; below = omega arith })

  -- a plan stays, waits for units or for the operator, or its run ends at a DD of its step
  pub plan_by-cases : (taking : Taking) → ((need free : ℕ) → Q (Rest (WaitingUnits need free))) → (taking ≡ Awaited → Q (Rest AwaitingReply)) → Q (plan_by layout tables taking plan)
  unfolding plan_by
  plan_by-cases taking lacks awaits =
      option-cases (wanting tables plan)
      (λ none. subst (λ (o : Option Wanting). Q (option_map_or (by_taking layout taking plan) o plan)) (sym none) stays)
      (λ step some. subst (λ (o : Option Wanting). Q (option_map_or (by_taking layout taking plan) o plan)) (sym some) (by taking refl step some))
    where
      by : (what : Taking) → taking ≡ what → (step : Wanting) → wanting tables plan ≡ Some step → Q (by_taking layout what plan step)
      by Taken is step wanted = stays
      by (Exceeds need) is step wanted = ended-cases step (Units need layout.units) None wanted
      by (Lacks need free) is step wanted = lacks need free
      by (Refused volume) is step wanted = ended-cases step (MountRefused volume) (Some volume) wanted
      by Awaited is step wanted = awaits is

-- where its step has its volumes it stays
pub taken-stays : (layout : Layout) (tables : TablesModel) (plan : Plan) → plan_by layout tables Taken plan ≡ plan
unfolding plan_by
taken-stays layout tables plan = by (wanting tables plan)
  where
    by : (step : Option Wanting) → option_map_or (by_taking layout Taken plan) step plan ≡ plan
    by None = refl
    by (Some step) = refl

-- and where no step wants any
pub unwanted-stays : (layout : Layout) (tables : TablesModel) (taking : Taking) (plan : Plan) → wanting tables plan ≡ None → plan_by layout tables taking plan ≡ plan
unfolding plan_by
unwanted-stays layout tables taking plan none = ap (λ (o : Option Wanting). option_map_or (by_taking layout taking plan) o plan) none

pub idle-stays : (layout : Layout) (tables : TablesModel) (taking : Taking) (plan : Plan) → wants plan ≡ None → plan_by layout tables taking plan ≡ plan
idle-stays layout tables taking plan none = unwanted-stays layout tables taking plan (ap (λ o. option_map_or (wanting_in tables) o None) none)

-- ---- whose step a plan is of

-- a plan wants nothing, or the volumes of this run's step
abbrev wants_only : ℕ → Plan → Bool
wants_only run plan = option_map_or (λ (want : ℕ × List Made). want.0 == run) (wants plan) true

pub judged-wants : (tables : TablesModel) (row : RunRow) (initiator : ℕ) (lodged : Bool) (code : Code) (reached : CodePlaceModel) (verdict : Verdict) → wants (judged_plan tables row initiator lodged code reached verdict) ≡ None
judged-wants tables row initiator lodged code reached (Denied rule) = refl
judged-wants tables row initiator lodged code reached Step = refl
judged-wants tables row initiator lodged code reached Checkpoint = by (effect_entry tables row)
  where
    by : (entry : Option KeptEntry) → wants (option_map_or (asked_at_entry row initiator lodged code reached) entry (ended_by row code A6 reached)) ≡ None
    by None = refl
    by (Some entry) = refl

pub continued-wants : (tables : TablesModel) (initiator : ℕ) (row : RunRow) (wanted : Wanted) (verdict : Verdict) → wants (continued_by verdict tables initiator row wanted) ≡ None
continued-wants tables initiator row wanted (Denied rule) = refl
continued-wants tables initiator row wanted Step = refl
continued-wants tables initiator row wanted Checkpoint = by wanted.entry
  where
    by : (entry : Option KeptEntry) → wants (option_map_or (continued_at_entry initiator row wanted) entry (Rest Idle)) ≡ None
    by None = refl
    by (Some entry) = refl

module _ (layout : Layout) (jobs : TurnJobs) where
  code-wants : (row : RunRow) (initiator : ℕ) (lodged : Bool) (code : Code) → wants (code_plan layout jobs.tables row initiator lodged code (reached_by jobs row)) ≡ None
  code-wants row initiator lodged code = judged-wants jobs.tables row initiator lodged code (reached_by jobs row) (verdict_for layout row code)

  -- ---- a run on an initiator

  module _ (row : RunRow) where
    none-only : (plan : Plan) → wants plan ≡ None → wants_only row.number plan ≡ true
    none-only plan none = ap (λ o. option_map_or (λ (want : ℕ × List Made). want.0 == row.number) o true) none

    coded-only : (code : Code) → wants_only row.number (code_plan layout jobs.tables row (initiator_of row) true code (reached_by jobs row)) ≡ true
    coded-only code = none-only _ (code-wants row (initiator_of row) true code)

    start-only : (owned : OwnedStep) (number : ℕ) → wants_only row.number (start_plan layout jobs row owned number) ≡ true
    start-only owned number = by (allocation_of layout row owned number jobs.tables)
      where
        by : (given : Result (List Made) Refusal) → wants_only row.number (elim given as (λ _. Plan) [
          | Err refusal ↦ allocation_ended row owned refusal.dd refusal.cause
          | Ok items ↦ Tell (Started row.number owned.step.name) (StartedEvent row.number number (record { items = items }))
        ]) ≡ true
        by (Ok items) = equal-itself row.number
        by (Err refusal) = refl

    between-only : (number : ℕ) → wants_only row.number (between_plan layout jobs row number) ≡ true
    between-only number = by (step_of_run row number)
      where
        by : (step : Option OwnedStep) → wants_only row.number (elim step as (λ _. Plan) [
          | None ↦ Tell (JobEnded row.number Completed) (EndedEvent row.number CompletedEnding)
          | Some owned ↦ start_plan layout jobs row owned number
        ]) ≡ true
        by None = refl
        by (Some owned) = start-only owned number

    checkpoint-only : (number : ℕ) → wants_only row.number (checkpoint_plan row number) ≡ true
    checkpoint-only number = by (suppresses (rd_in_effect row number))
      where
        by : (suppressed : Bool) → wants_only row.number (if suppressed then suppressed_plan row else Take row.number) ≡ true
        by true = refl
        by false = refl

    due-only : (number : ℕ) (step : TurnStep) (due : NextDue) → wants_only row.number (due_plan row number step due) ≡ true
    due-only number step OneUnit = equal-itself row.number
    due-only number step CheckpointDue = checkpoint-only number
    due-only number step Cancel = equal-itself row.number
    due-only number step (Finished rc) = refl

    placed-only : (place : Place) → wants_only row.number (placed_plan layout jobs row place) ≡ true
    placed-only (Before number) = between-only number
    placed-only (Opened number) = between-only number
    placed-only (Within number writes) = by (running_in jobs row.number)
      where
        by : (step : Option TurnStep) → wants_only row.number (option_map_or (running_plan row number) step (Rest Idle)) ≡ true
        by None = refl
        by (Some step) = due-only number step step.due

    fail-only : (fail : Option Code) → wants_only row.number (fail_plan layout jobs row fail) ≡ true
    fail-only None = placed-only (place_of row)
    fail-only (Some code) = by (is_within (place_of row))
      where
        by : (within : Bool) → wants_only row.number (elim within as (λ _. Plan) [ true ↦ code_plan layout jobs.tables row (initiator_of row) true code (reached_by jobs row) | false ↦ Rest NothingToFail ]) ≡ true
        by true = coded-only code
        by false = refl

    unmarked-only : (fail waits : Option Code) → wants_only row.number (unmarked_plan layout jobs row fail waits) ≡ true
    unmarked-only fail None = fail-only fail
    unmarked-only None (Some code) = coded-only code
    unmarked-only (Some given) (Some code) = refl

    run-only : (fail : Option Code) → wants_only row.number (run_plan layout jobs fail row) ≡ true
    run-only fail = by (is_failed jobs row.number)
      where
        by : (failed : Bool) → wants_only row.number (elim failed as (λ _. Plan) [
          | true ↦ code_plan layout jobs.tables row (initiator_of row) true system_failure (reached_by jobs row)
          | false ↦ unmarked_plan layout jobs row fail (waiting_code jobs row.number)
        ]) ≡ true
        by true = coded-only system_failure
        by false = unmarked-only fail (waiting_code jobs row.number)

  -- ---- an initiator that has none

  queued-wants : (row : RunRow) (initiator : ℕ) (restart : Option Restart) → wants (queued_plan layout jobs.tables initiator row restart) ≡ None
  queued-wants row initiator None = refl
  queued-wants row initiator (Some restart) = continued-wants jobs.tables initiator row (wanted_of row jobs.tables restart) (deferred_verdict layout jobs.tables row (wanted_of row jobs.tables restart))

  chosen-wants : (row : RunRow) (initiator : ℕ) → wants (chosen_plan layout jobs initiator row) ≡ None
  chosen-wants row initiator = by row.code
    where
      by : (code : Option Code) → wants (elim code as (λ _. Plan) [
        | None ↦ queued_plan layout jobs.tables initiator row row.deck.restart
        | Some code ↦ code_plan layout jobs.tables row initiator false code (reached_by jobs row)
      ]) ≡ None
      by None = queued-wants row initiator row.deck.restart
      by (Some code) = code-wants row initiator false code

  free-wants : (initiator : ℕ) (fail : Option Code) → wants (free_plan layout jobs initiator fail) ≡ None
  free-wants initiator (Some code) = refl
  free-wants initiator None = by (next_run jobs.tables)
    where
      by : (next : Option RunRow) → wants (option_map_or (chosen_plan layout jobs initiator) next (Rest Idle)) ≡ None
      by None = refl
      by (Some row) = chosen-wants row initiator

-- ---- any turn

-- a step that a plan wants the volumes of is its run's own, and the run is on its initiator
pub record IsWanted (tables : TablesModel) (step : Wanting) : Type 0 where
  pub row_at : run_of tables step.row.number ≡ Some step.row
  pub on : step.row.state ≡ On
  pub own : own_step step.row ≡ Some step.owned

module _ (desk : DeskModel) (is : IsDesk desk) where
  -- a plan of a run on its initiator
  wanted-own : (row : RunRow) → run_of desk.office.tables row.number ≡ Some row → row.state ≡ On → (want : ℕ × List Made) → want.0 ≡ row.number → (step : Wanting) → wanting_in desk.office.tables want ≡ Some step → IsWanted desk.office.tables step
  wanted-own row at on want its step some =
      option-cases (own_step row)
      (λ none. cc (by-own None none))
      (λ owned there.
      let made : Wanting = record { sets = desk.office.tables.sets; row = row; owned = owned; items = want.1 } in
      subst (IsWanted desk.office.tables) (same_Some made step (sym (by-own (Some owned) there) ∙ some))
      (record { row_at = at; on = on; own = there }))
    where
      from_own : Option OwnedStep → Option Wanting
      from_own o = option_map_or (λ owned. Some (record { sets = desk.office.tables.sets; row = row; owned = owned; items = want.1 })) o None

      by-own : (o : Option OwnedStep) → own_step row ≡ o → wanting_in desk.office.tables want ≡ from_own o
      by-own o e =
          ap
          (λ (found : Option RunRow). option_map_or (λ row. option_map_or (λ owned. Some (let made : Wanting = record { sets = desk.office.tables.sets; row = row; owned = owned; items = want.1 } in made)) (own_step row) None) found None)
          (ap (run_of desk.office.tables) its ∙ at)
          ∙ ap from_own e

  plan-wanted : (row : RunRow) → run_of desk.office.tables row.number ≡ Some row → row.state ≡ On → (plan : Plan) → wants_only row.number plan ≡ true → (step : Wanting) → wanting desk.office.tables plan ≡ Some step → IsWanted desk.office.tables step
  plan-wanted row at on plan only step some = by (wants plan) only some
    where
      by : (o : Option (ℕ × List Made)) → option_map_or (λ (want : ℕ × List Made). want.0 == row.number) o true ≡ true → option_map_or (wanting_in desk.office.tables) o None ≡ Some step → IsWanted desk.office.tables step
      by None only some = cc
      by (Some want) only some = wanted-own row at on want (equal-true want.0 row.number only) step some

  pub turn-wanted : (turn : Turn) (step : Wanting) → wanting desk.office.tables (plan_of desk.layout (jobs_of desk) turn) ≡ Some step → IsWanted desk.office.tables step
  unfolding plan_of
  turn-wanted turn step some = by (run_on_initiator desk.office.tables turn.initiator) refl some
    where
      by : (o : Option RunRow) → run_on_initiator desk.office.tables turn.initiator ≡ o
          → wanting desk.office.tables (option_map_or (run_plan desk.layout (jobs_of desk) turn.fail) o (free_plan desk.layout (jobs_of desk) turn.initiator turn.fail)) ≡ Some step → IsWanted desk.office.tables step
      by None free some =
          let none : wanting desk.office.tables (free_plan desk.layout (jobs_of desk) turn.initiator turn.fail) ≡ None =
          ap (λ o. option_map_or (wanting_in desk.office.tables) o None) (free-wants desk.layout (jobs_of desk) turn.initiator turn.fail) in
          cc
      by (Some row) found some =
          plan-wanted row (row_of_found desk.layout desk.office (λ other. is_on turn.initiator other.initiator) row is.kept found) (state_on desk turn.initiator row is found)
          (run_plan desk.layout (jobs_of desk) turn.fail row) (run-only desk.layout (jobs_of desk) row turn.fail) step some

  -- a run ends at a DD of its step
  pub ends-keeps : (answer : Answer) (row : RunRow) (owned : OwnedStep) → run_of desk.office.tables row.number ≡ Some row → row.state ≡ On → own_step row ≡ Some owned → (dd : ℕ) (cause : Cause) → 1 ≤ dd → dd ≤ length owned.step.dds
      → Keeps desk (carried_out answer (allocation_ended row owned dd cause) desk)
  ends-keeps answer row owned at on there dd cause above below =
      let numbers = cause_numbers cause in
      let may : may_come desk.layout desk.office (EndedEvent row.number (AllocationEnding dd numbers.0 numbers.1 numbers.2), None) ≡ true =
      and_from _ _ (refused-follows desk.layout desk.office.tables row owned dd numbers.0 numbers.1 numbers.2 at on there above below)
      (ap (λ o. option_map_or (λ row. ending_names_first desk.layout row (AllocationEnding dd numbers.0 numbers.1 numbers.2)) o false) at) in
      record { comes = record { may = may; carried = refl }; kept = refused-kept desk is row at on owned dd numbers.0 numbers.1 numbers.2 there may }

  -- what becomes of a plan keeps the desk, where the plan does and each step that it wants the volumes of is its run's own
  pub plan_by-keeps : (answer : Answer) (taking : Taking) (plan : Plan) → ((step : Wanting) → wanting desk.office.tables plan ≡ Some step → IsWanted desk.office.tables step) → Keeps desk (carried_out answer plan desk)
      → Keeps desk (carried_out answer (plan_by desk.layout desk.office.tables taking plan) desk)
  plan_by-keeps answer taking plan own keeps =
      plan_by-cases (λ plan. Keeps desk (carried_out answer plan desk)) desk.layout desk.office.tables plan keeps
      (λ step dd cause its. let here = own step its.wanted in ends-keeps answer step.row step.owned here.row_at here.on here.own dd cause its.above its.below)
      taking
      (λ need free. record { comes = tt; kept = is }) (λ awaited. record { comes = tt; kept = is })
