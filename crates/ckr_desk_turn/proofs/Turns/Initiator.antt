-- A turn of an initiator: that has no run, whose run is between two steps, or any.
use Rattle.std.proofs.Common.{◌≡◌, ◌≤◌, ℕ, Bool, true, false, if◌then◌else◌, not, ◌&&◌, ◌||◌, List, [], ◌∷◌, length, refl, ap, sym, ◌∙◌, subst, Option, Some, None, Result, Ok, Err}
use Rattle.std.specs.Prelude.{◌==◌}
use Rattle.std.specs.List.{list_any}
use Rattle.std.specs.Option.{is_some, option_map_or}
use Rattle.std.proofs.lemmas.Bool.{and_from, false≢true}
use Rattle.std.proofs.lemmas.Option.{same_Some}
use Rattle.ckr_points_library.specs.declared.cause.Refusal.{Refusal}
use Rattle.ckr_points_library.specs.Allocation.{Allocation}
use Rattle.ckr_base.specs.declared.code.Code.{Code}
use Rattle.ckr_points_invariant.specs.RunningSteps.{its_start}
use Rattle.ckr_base.proofs.Bools.{bool-cases, or-first-false, or-second-false}
use Rattle.ckr_base.proofs.Options.{is_none-true, is_some-true, option-cases}
use Rattle.ckr_console.specs.declared.question.Answer.{Answer}
use Rattle.ckr_base.proofs.Sequences.{find-all}
use Rattle.ckr_events.specs.declared.event.Event.TheVariants.{Ended as EndedEvent, Selected as SelectedEvent, Started as StartedEvent}
use Rattle.ckr_events.specs.declared.event.Ending.TheVariants.{Allocation as AllocationEnding, Completed as CompletedEnding}
use Rattle.ckr_events.specs.declared.event.Made.{Made}
use Rattle.ckr_meaning.specs.EffectiveJob.{OwnedStep, stamp_of, step_at}
use Rattle.ckr_meaning.specs.JobRun.{start_at}
use Rattle.ckr_meaning.specs.declared.place.Place.{Place}
use Rattle.ckr_meaning.specs.declared.place.Place.TheVariants.{Before, Opened, Within}
use Rattle.ckr_points.specs.declared.run.RunState.{RunState}
use Rattle.ckr_points.specs.declared.run.RunState.TheVariants.{On, Queued, Released}
use Rattle.ckr_points.specs.Follows.{is_free, is_in_state, is_within, own_step, state_number}
use Rattle.ckr_points.specs.Office.{Leg, is_holder}
use Rattle.ckr_points.specs.Payload.{writes_in}
use Rattle.ckr_points.specs.Restart.{place_of, step_in}
use Rattle.ckr_points.specs.Rows.{RunRow, run_of, standing_of, table_ways}
use Rattle.ckr_points.specs.Soundness.{may_come}
use Rattle.ckr_points_invariant.proofs.Steps.Events.{led-by, within-is}
use Rattle.ckr_points_invariant.proofs.Steps.Walks.{start_at-of}
use Rattle.ckr_jcl.specs.declared.deck.Restart.{Restart}
use Rattle.ckr_desk_turn.specs.declared.failed_run.FailedRun.{FailedRun}
use Rattle.ckr_desk_turn.specs.declared.plan.Plan.TheVariants.{Rest, Tell}
use Rattle.ckr_points.specs.declared.reply.How.TheVariants.{Completed}
use Rattle.ckr_points.specs.declared.reply.Reply.TheVariants.{Idle, JobEnded, NothingToFail, Started}
use Rattle.ckr_desk_turn.specs.declared.reply.Turn.{Turn}
use Rattle.ckr_desk_turn.specs.Allocation.{allocation_of, cause_numbers, items_in}
use Rattle.ckr_desk_turn.specs.Select.{is_on, may_select, next_run, run_on_initiator}
use Rattle.ckr_desk_turn.specs.Codes.{code_plan, initiator_of, reached_by}
use Rattle.ckr_desk_turn.specs.Desk.{DeskModel, jobs_of}
use Rattle.ckr_desk_turn.specs.Plans.{allocation_ended, between_plan, chosen_plan, fail_plan, free_plan, placed_plan, plan_of, run_plan, start_plan, system_failure, unmarked_plan}
use Rattle.ckr_desk_turn.specs.Jobs.{TurnStep, running_in, waiting_code}
use Rattle.ckr_desk_turn.specs.Invariant.{IsDesk, Keeps, is_accounted, is_off}
use Rattle.ckr_desk_turn.specs.Turns.{MountedTurn, turn_of}
use Rattle.ckr_desk_turn.proofs.NextEvents.BetweenSteps.{completed_comes, free-there, next_cases, refused_comes, row_of_found, selected_comes, state_found, state_on}
use Rattle.ckr_desk_turn.proofs.RunEnd.{completed-kept, refused-inside, refused-kept}
use Rattle.ckr_desk_turn.proofs.Select.{code_while, selected-keeps}
use Rattle.ckr_desk_turn.proofs.Inquiries.{coded-keeps}
use Rattle.ckr_desk_turn.specs.Deferred.{queued_plan}
use Rattle.ckr_desk_turn.proofs.Deferred.Turns.{deferred-keeps}
use Rattle.ckr_desk_turn.proofs.Mounts.{plan_by-keeps, turn-wanted}
use Rattle.ckr_desk_turn.proofs.OtherRuns.{row-stepped, state-code}
use Rattle.ckr_desk_turn.proofs.Restart.Events.{MayGoOn, off-goes}
use Rattle.ckr_desk_turn.proofs.RunningSteps.{FoundStep, found-step, going-within}
use Rattle.ckr_desk_turn.proofs.Opening.{running-stands}
use Rattle.ckr_desk_turn.proofs.Start.Invariant.{not-failed, planned-within, started-comes, started-kept}
use Rattle.ckr_desk_turn.proofs.Turns.WithinStep.{PlanKeeps, step-keeps}
use Rattle.ckr_points.specs.Staleness.{held_sets}

-- fewer marks than none
pub fewer-marked : (failed : List FailedRun) (run : ℕ) (also : FailedRun → Bool) → list_any (λ (one : FailedRun). one.run == run) failed ≡ false → list_any (λ (one : FailedRun). one.run == run && also one) failed ≡ false
fewer-marked [] run also none = refl
fewer-marked (first ∷ rest) run also none =
    ap (λ b. b && also first || list_any (λ (one : FailedRun). one.run == run && also one) rest) (or-first-false (first.run == run) (list_any (λ (one : FailedRun). one.run == run) rest) none)
    ∙ fewer-marked rest run also (or-second-false (first.run == run) (list_any (λ (one : FailedRun). one.run == run) rest) none)

-- ---- an initiator that no run is on

-- a queued run that is chosen has no code, and is selected, or judged by the deferred rules where it has RESTART
queued-keeps : (answer : Answer) (desk : DeskModel) → IsDesk desk → (i : ℕ) (row : RunRow) → 1 ≤ i → i ≤ desk.layout.initiators → run_on_initiator desk.office.tables i ≡ None → next_run desk.office.tables ≡ Some row → row.state ≡ Queued → PlanKeeps answer desk (chosen_plan desk.layout (jobs_of desk) i row)
queued-keeps answer desk is i row above below free next queued =
    let no_code : row.code ≡ None =
    is_none-true row.code (ap (λ s. code_while s row.code) (sym queued) ∙ state-code row (state_found desk (λ other. may_select desk.office.tables other.state other) row is next)) in
    subst (λ (o : Option Code). PlanKeeps answer desk (elim o [
      | None ↦ queued_plan desk.layout desk.office.tables i row row.deck.restart
      | Some code ↦ code_plan desk.layout desk.office.tables row i false code (reached_by (jobs_of desk) row)
    ])) (sym no_code)
    (by row.deck.restart refl)
  where
    by : (restart : Option Restart) → row.deck.restart ≡ restart → PlanKeeps answer desk (queued_plan desk.layout desk.office.tables i row restart)
    by None none =
        let may : may_come desk.layout desk.office (SelectedEvent row.number i 0 0 None, None) ≡ true = selected_comes desk i row is above below free next queued none in
        record { comes = record { may = may; carried = refl }; kept = selected-keeps desk is row.number i may }
    by (Some restart) has =
        deferred-keeps answer desk is i row restart (λ verdict judged. record { above = above; below = below; free = free; next = next; queued = queued; has = has; judged = judged })

-- a released one stands within its step
pub released-stands : (desk : DeskModel) → IsDesk desk → (row : RunRow) (initiator : ℕ) → run_of desk.office.tables row.number ≡ Some row → row.state ≡ Released → is_free desk.layout desk.office.tables initiator ≡ true → MayGoOn desk.layout desk.office row initiator
released-stands desk is row initiator at released free =
    led-by desk.layout desk.office row.number row is.kept.events at (ap is_holder released)
    (λ leg holder.
    let within : is_within (place_of row) ≡ true = (is.kept.events.places row.number row leg holder).waits (ap (λ (state : RunState). state_number state == 2) released) in
    let stepped : is_some (own_step row) ≡ true =
    sym (ap (λ (state : RunState). not ((state_number state == 2) && is_within (place_of row) || is_off state) || is_some (own_step row)) released) ∙ row-stepped desk is row.number row at in
    is_some-true (own_step row) stepped
    (λ owned found.
    off-goes desk.layout desk.office row initiator (step_in (place_of row)) (writes_in (place_of row)) (its_start leg owned (step_in (place_of row))) at released (within-is (place_of row) within)
    (ap (λ (o : Option Leg). option_map_or (λ leg. start_at leg.job leg.start (step_in (place_of row))) o None) holder.leg_at
    ∙ start_at-of leg.job leg.start (step_in (place_of row)) owned (ap (λ job. step_at job (step_in (place_of row))) (is.kept.events.places row.number row leg holder).job ∙ found))
    free))

-- it goes on, ends or is held again by the operator's answer, with the code that it was held with
released-keeps : (answer : Answer) (desk : DeskModel) → IsDesk desk → (i : ℕ) (row : RunRow) → 1 ≤ i → i ≤ desk.layout.initiators → run_on_initiator desk.office.tables i ≡ None → next_run desk.office.tables ≡ Some row → row.state ≡ Released → PlanKeeps answer desk (chosen_plan desk.layout (jobs_of desk) i row)
released-keeps answer desk is i row above below free next released =
    let selects : RunRow → Bool = λ other. may_select desk.office.tables other.state other in
    let coded : is_some row.code ≡ true = ap (λ s. code_while s row.code) (sym released) ∙ state-code row (state_found desk selects row is next) in
    is_some-true row.code coded
    (λ code its.
    subst (λ (o : Option Code). PlanKeeps answer desk (elim o [
      | None ↦ queued_plan desk.layout desk.office.tables i row row.deck.restart
      | Some code ↦ code_plan desk.layout desk.office.tables row i false code (reached_by (jobs_of desk) row)
    ])) (sym its)
    (coded-keeps desk is row i
    (released-stands desk is row i (row_of_found desk.layout desk.office selects row is.kept next) released (free-there desk.layout desk.office.tables i above below free)) false code answer))

chosen_plan-keeps : (answer : Answer) (desk : DeskModel) → IsDesk desk → (i : ℕ) (row : RunRow) → 1 ≤ i → i ≤ desk.layout.initiators → run_on_initiator desk.office.tables i ≡ None → next_run desk.office.tables ≡ Some row → PlanKeeps answer desk (chosen_plan desk.layout (jobs_of desk) i row)
chosen_plan-keeps answer desk is i row above below free next =
    next_cases desk.office.tables row next (queued-keeps answer desk is i row above below free next) (released-keeps answer desk is i row above below free next)

pub free_plan-keeps : (answer : Answer) (desk : DeskModel) → IsDesk desk → (i : ℕ) → 1 ≤ i → i ≤ desk.layout.initiators → run_on_initiator desk.office.tables i ≡ None → (fail : Option Code) → PlanKeeps answer desk (free_plan desk.layout (jobs_of desk) i fail)
free_plan-keeps answer desk is i above below free (Some code) = record { comes = tt; kept = is }
free_plan-keeps answer desk is i above below free None =
    option-cases (next_run desk.office.tables)
    (λ none. subst (λ (o : Option RunRow). PlanKeeps answer desk (option_map_or (chosen_plan desk.layout (jobs_of desk) i) o (Rest Idle))) (sym none) (record { comes = tt; kept = is }))
    (λ row next. subst (λ (o : Option RunRow). PlanKeeps answer desk (option_map_or (chosen_plan desk.layout (jobs_of desk) i) o (Rest Idle))) (sym next) (chosen_plan-keeps answer desk is i row above below free next))

-- ---- a run between two steps

module _ (answer : Answer) (desk : DeskModel) (is : IsDesk desk) (i : ℕ) (row : RunRow) (found : run_on_initiator desk.office.tables i ≡ Some row) (out : is_within (place_of row) ≡ false) where
  at : run_of desk.office.tables row.number ≡ Some row
  at = row_of_found desk.layout desk.office (λ other. is_on i other.initiator) row is.kept found

  on : row.state ≡ On
  on = state_on desk i row is found

  -- behind its last step
  pub completed-keeps : own_step row ≡ None → PlanKeeps answer desk (between_plan desk.layout (jobs_of desk) row (step_in (place_of row)))
  completed-keeps none =
      let may : may_come desk.layout desk.office (EndedEvent row.number CompletedEnding, None) ≡ true = completed_comes desk i row is found out none in
      subst (λ (o : Option OwnedStep). PlanKeeps answer desk (elim o [
        | None ↦ Tell (JobEnded row.number Completed) (EndedEvent row.number CompletedEnding)
        | Some owned ↦ start_plan desk.layout (jobs_of desk) row owned (step_in (place_of row))
      ])) (sym none)
      (record { comes = record { may = may; carried = refl }; kept = completed-kept desk is row at on may })

  -- since a DD isn't allocated
  pub refused-keeps : (owned : OwnedStep) (refusal : Refusal) → own_step row ≡ Some owned → allocation_of desk.layout row owned (step_in (place_of row)) desk.office.tables ≡ Err refusal → PlanKeeps answer desk (start_plan desk.layout (jobs_of desk) row owned (step_in (place_of row)))
  refused-keeps owned refusal there failed =
      let numbers = cause_numbers refusal.cause in
      let inside : (1 ≤ refusal.dd) × (refusal.dd ≤ length owned.step.dds) = refused-inside table_ways (standing_of row desk.office.tables) desk.layout (stamp_of owned (step_in (place_of row))) row.job.root owned (held_sets desk.office.tables.sets) refusal (refused-all _ failed) in
      let may : may_come desk.layout desk.office (EndedEvent row.number (AllocationEnding refusal.dd numbers.0 numbers.1 numbers.2), None) ≡ true = refused_comes desk i row owned refusal.dd numbers.0 numbers.1 numbers.2 is found there inside.0 inside.1 in
      subst (λ (r : Result (List Made) Refusal). PlanKeeps answer desk (elim r [
        | Err refusal ↦ allocation_ended row owned refusal.dd refusal.cause
        | Ok items ↦ Tell (Started row.number owned.step.name) (StartedEvent row.number (step_in (place_of row)) (record { items = items }))
      ])) (sym failed)
      (record { comes = record { may = may; carried = refl }; kept = refused-kept desk is row at on owned refusal.dd numbers.0 numbers.1 numbers.2 there may })
    where
      refused-all : (all : Result Allocation Refusal) → items_in all ≡ Err refusal → all ≡ Err refusal
      refused-all (Ok done) e = cc
      refused-all (Err other) e = cc

  -- its next step starts
  pub started-keeps : (owned : OwnedStep) (items : List Made) → own_step row ≡ Some owned → allocation_of desk.layout row owned (step_in (place_of row)) desk.office.tables ≡ Ok items → PlanKeeps answer desk (start_plan desk.layout (jobs_of desk) row owned (step_in (place_of row)))
  started-keeps owned items there got =
      subst (λ (r : Result (List Made) Refusal). PlanKeeps answer desk (elim r [
        | Err refusal ↦ allocation_ended row owned refusal.dd refusal.cause
        | Ok items ↦ Tell (Started row.number owned.step.name) (StartedEvent row.number (step_in (place_of row)) (record { items = items }))
      ])) (sym got)
      (record { comes = started-comes desk is row at on out owned there items got; kept = started-kept desk is row at on out owned there items got })

  start_plan-keeps : (owned : OwnedStep) → own_step row ≡ Some owned → PlanKeeps answer desk (start_plan desk.layout (jobs_of desk) row owned (step_in (place_of row)))
  start_plan-keeps owned there =
      by (allocation_of desk.layout row owned (step_in (place_of row)) desk.office.tables) refl
    where
      by : (given : Result (List Made) Refusal) → allocation_of desk.layout row owned (step_in (place_of row)) desk.office.tables ≡ given → PlanKeeps answer desk (start_plan desk.layout (jobs_of desk) row owned (step_in (place_of row)))
      by (Ok items) got = started-keeps owned items there got
      by (Err refusal) failed = refused-keeps owned refusal there failed

  between_plan-keeps : PlanKeeps answer desk (between_plan desk.layout (jobs_of desk) row (step_in (place_of row)))
  between_plan-keeps =
      option-cases (own_step row)
      (λ none. completed-keeps none)
      (λ owned there.
      subst (λ (o : Option OwnedStep). PlanKeeps answer desk (elim o [
        | None ↦ Tell (JobEnded row.number Completed) (EndedEvent row.number CompletedEnding)
        | Some owned ↦ start_plan desk.layout (jobs_of desk) row owned (step_in (place_of row))
      ])) (sym there) (start_plan-keeps owned there))

  fail_plan-keeps : (fail : Option Code) → PlanKeeps answer desk (fail_plan desk.layout (jobs_of desk) row fail)
  fail_plan-keeps None = subst (PlanKeeps answer desk) (sym (placed-between (place_of row) out)) between_plan-keeps
    where
      placed-between : (place : Place) → is_within place ≡ false → placed_plan desk.layout (jobs_of desk) row place ≡ between_plan desk.layout (jobs_of desk) row (step_in place)
      placed-between (Before number) out = refl
      placed-between (Opened number) out = refl
      placed-between (Within number writes) out = absurd (false≢true (sym out))
  fail_plan-keeps (Some code) =
      subst (λ b. PlanKeeps answer desk (elim b [
        | true ↦ code_plan desk.layout desk.office.tables row (initiator_of row) true code (reached_by (jobs_of desk) row)
        | false ↦ Rest NothingToFail
      ])) (sym (planned-within (place_of row) ∙ out)) (record { comes = tt; kept = is })

  -- it isn't marked, and waits with no code
  unmarked : (also : FailedRun → Bool) → list_any (λ (one : FailedRun). one.run == row.number && also one) desk.failed ≡ false
  unmarked also = fewer-marked desk.failed row.number also (not-failed desk is row at out)

  waits-not : waiting_code (jobs_of desk) row.number ≡ None
  waits-not =
      ap (λ b. if b then Some system_failure else option_map_or (λ (step : TurnStep). step.code) (running_in (jobs_of desk) row.number) None) (unmarked (λ one. one.asked))
      ∙ option-cases (running_in (jobs_of desk) row.number)
      (λ none. ap (λ (o : Option TurnStep). option_map_or (λ (step : TurnStep). step.code) o None) none)
      (λ step some.
      let found : FoundStep desk.office desk.running row.number step = found-step desk.office row.number desk.running step is.going some in
      let its = going-within desk.office found.on found.going in
      let mine : found.going.row ≡ row = same_Some _ _ (sym found.going.row_at ∙ ap (run_of desk.office.tables) found.same ∙ at) in
      absurd (false≢true (sym out ∙ ap (λ (r : RunRow). is_within (place_of r)) (sym mine) ∙ ap is_within its.place)))

  -- a turn of its initiator
  pub between-keeps : (fail : Option Code) → PlanKeeps answer desk (run_plan desk.layout (jobs_of desk) fail row)
  between-keeps fail =
      subst (λ b. PlanKeeps answer desk (elim b [
        | true ↦ code_plan desk.layout desk.office.tables row (initiator_of row) true system_failure (reached_by (jobs_of desk) row)
        | false ↦ unmarked_plan desk.layout (jobs_of desk) row fail (waiting_code (jobs_of desk) row.number)
      ])) (sym (unmarked (λ one. not one.asked)))
      (subst (λ o. PlanKeeps answer desk (unmarked_plan desk.layout (jobs_of desk) row fail o)) (sym waits-not) (fail_plan-keeps fail))

-- ---- any turn

-- a turn of an initiator that has a run
run_plan-kept : (answer : Answer) (desk : DeskModel) → IsDesk desk → (i : ℕ) (row : RunRow) → run_on_initiator desk.office.tables i ≡ Some row → (fail : Option Code) → PlanKeeps answer desk (run_plan desk.layout (jobs_of desk) fail row)
run_plan-kept answer desk is i row found fail =
    bool-cases (is_within (place_of row))
    (λ within.
    let at : run_of desk.office.tables row.number ≡ Some row = row_of_found desk.layout desk.office (λ other. is_on i other.initiator) row is.kept found in
    running-stands desk is row at (find-all (is_accounted desk) (λ other. is_on i other.initiator) desk.office.tables.runs row is.accounted found)
    (and_from (is_in_state On row) (is_within (place_of row)) (ap (λ (state : RunState). state_number state == 2) (state_on desk i row is found)) within)
    (λ number committed start stands. step-keeps desk is row number committed start stands answer fail))
    (λ out. between-keeps answer desk is i row found out fail)

-- what a turn of the tables and the running steps comes to
planned-keeps : (answer : Answer) (desk : DeskModel) (turn : Turn) → IsDesk desk → 1 ≤ turn.initiator → turn.initiator ≤ desk.layout.initiators → PlanKeeps answer desk (plan_of desk.layout (jobs_of desk) turn)
unfolding plan_of
planned-keeps answer desk turn is above below =
    option-cases (run_on_initiator desk.office.tables turn.initiator)
    (λ free. subst (λ (o : Option RunRow). PlanKeeps answer desk (option_map_or (run_plan desk.layout (jobs_of desk) turn.fail) o (free_plan desk.layout (jobs_of desk) turn.initiator turn.fail))) (sym free) (free_plan-keeps answer desk is turn.initiator above below free turn.fail))
    (λ row found. subst (λ (o : Option RunRow). PlanKeeps answer desk (option_map_or (run_plan desk.layout (jobs_of desk) turn.fail) o (free_plan desk.layout (jobs_of desk) turn.initiator turn.fail))) (sym found) (run_plan-kept answer desk is turn.initiator row found turn.fail))

-- whatever has become of the volumes that its step wants
pub turn-keeps : (desk : DeskModel) (one : MountedTurn) (answer : Answer) → IsDesk desk → 1 ≤ one.turn.initiator → one.turn.initiator ≤ desk.layout.initiators → Keeps desk (turn_of desk one answer)
unfolding turn_of
turn-keeps desk one answer is above below =
    plan_by-keeps desk is answer one.taking (plan_of desk.layout (jobs_of desk) one.turn) (turn-wanted desk is one.turn) (planned-keeps answer desk one.turn is above below)
