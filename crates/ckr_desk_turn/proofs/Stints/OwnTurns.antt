-- A turn of a run's own initiator without a code: its stint ends, or goes on and needs one turn fewer, or no more where the run waits.
use Rattle.std.proofs.Common.{◌≡◌, ◌≤◌, ◌<◌, ◌+◌, ℕ, suc, Bool, true, false, cond, inl, inr, not, ◌&&◌, ◌||◌, List, [], ◌∷◌, find, length, refl, ap, sym, ◌∙◌, subst, Option, Some, None, Result, Ok, Err, arith}
use Rattle.std.specs.Prelude.{◌==◌, nat_le}
use Rattle.std.specs.List.{list_any}
use Rattle.std.specs.Option.{is_none, is_some, option_map_or}
use Rattle.std.proofs.lemmas.Bool.{false≢true}
use Rattle.std.proofs.lemmas.Option.{same_Some}
use Rattle.ckr_base.specs.declared.code.Code.{Code}
use Rattle.ckr_base.specs.declared.programs.Finish.{Finish}
use Rattle.ckr_base.specs.declared.programs.Finish.TheVariants.{Abend, Returned}
use Rattle.ckr_base.specs.declared.programs.NextDue.{NextDue}
use Rattle.ckr_base.specs.declared.programs.NextDue.TheVariants.{Unit as OneUnit, Checkpoint as CheckpointDue, Cancel, Finished}
use Rattle.ckr_base.specs.declared.programs.Write.{Write}
use Rattle.ckr_base.specs.Columns.{fitted}
use Rattle.ckr_base.proofs.Bools.{bool-cases, or-false, or-first-false, or-second-false, or-true}
use Rattle.ckr_base.proofs.Numbers.{equal-itself}
use Rattle.ckr_base.proofs.Options.{is_none-true, is_some-true, option-cases, some-one}
use Rattle.ckr_base.proofs.Sequences.{find-all}
use Rattle.ckr_console.specs.declared.question.Answer.{Answer}
use Rattle.ckr_events.specs.Jobs.{job_of}
use Rattle.ckr_events.specs.declared.event.Event.{Event}
use Rattle.ckr_events.specs.declared.event.Event.TheVariants.{Cancelled as CancelledEvent, Ended as EndedEvent, Rewritten as RewrittenEvent, Started as StartedEvent, StepEnded as StepEndedEvent}
use Rattle.ckr_events.specs.declared.event.Ending.TheVariants.{Completed as CompletedEnding}
use Rattle.ckr_events.specs.declared.event.Made.{Made}
use Rattle.ckr_meaning.specs.EffectiveJob.{OwnedStep, step_at}
use Rattle.ckr_meaning.specs.JobRun.{start_at}
use Rattle.ckr_meaning.specs.Program.{records_taken, unit_done as program_unit}
use Rattle.ckr_meaning.specs.StepRun.{StepStart, case_at, work_at}
use Rattle.ckr_meaning.specs.declared.place.Place.{Place}
use Rattle.ckr_meaning.specs.declared.place.Place.TheVariants.{Before, Opened, Within}
use Rattle.ckr_points_library.specs.declared.cause.Refusal.{Refusal}
use Rattle.ckr_points.specs.declared.run.RunState.{RunState}
use Rattle.ckr_points.specs.declared.run.RunState.TheVariants.{On}
use Rattle.ckr_points.specs.Follows.{is_running, is_within as is_within_step, own_step, state_number}
use Rattle.ckr_points.specs.Office.{Leg, is_holder, leg_of}
use Rattle.ckr_points.specs.Restart.{after_event, place_of, step_in}
use Rattle.ckr_points.specs.RuleCases.{rd_in_effect}
use Rattle.ckr_points.specs.Rows.{RunRow, TablesModel, run_of, step_of_run}
use Rattle.ckr_points.specs.declared.reply.How.TheVariants.{Completed}
use Rattle.ckr_points.specs.declared.reply.Reply.{Reply}
use Rattle.ckr_points.specs.declared.reply.Reply.TheVariants.{AwaitingReply, Idle, JobEnded, Started, WaitingUnits}
use Rattle.ckr_points_invariant.specs.Invariant.{IsHolder}
use Rattle.ckr_points_invariant.specs.RunningSteps.{its_start}
use Rattle.ckr_points_invariant.proofs.Steps.Walks.{start_at-of}
use Rattle.ckr_rules.specs.RuleTables.{suppresses}
use Rattle.ckr_desk_turn.specs.declared.plan.Plan.{Plan}
use Rattle.ckr_desk_turn.specs.declared.plan.Plan.TheVariants.{Rest, Tell}
use Rattle.ckr_desk_turn.specs.Allocation.{allocation_of}
use Rattle.ckr_desk_turn.specs.Checkpoints.{checkpoint_event, checkpoint_fits, checkpoint_try, checkpoint_turn, checkpoint_unless, entry_bytes, entry_end, entry_place, lengths_with, next_id}
use Rattle.ckr_desk_turn.specs.Codes.{initiator_of, reached_by, running_reached}
use Rattle.ckr_desk_turn.specs.Desk.{DeskModel, DeskStep, TurnDone, at_first, behind, cancel_done, checkpoint_done, done_by, jobs_of, progress_of, progress_unless, seen, seen_from, unit_done, with_progress, without_run, work_of}
use Rattle.ckr_desk_turn.specs.Due.{next_due}
use Rattle.ckr_desk_turn.specs.Invariant.{HasCome, IsDesk, IsGoing, IsOpen, is_accounted, next_writes}
use Rattle.ckr_desk_turn.specs.Jobs.{TurnStep}
use Rattle.ckr_desk_turn.specs.Stints.{is_wait}
use Rattle.ckr_desk_turn.specs.NextEvents.{IsWithinStep}
use Rattle.ckr_desk_turn.specs.Plans.{allocation_ended, between_plan, cancelled_plan, due_plan, finished_plan, free_plan, placed_plan, plan_of, run_plan, start_plan}
use Rattle.ckr_desk_turn.specs.Select.{is_on, run_on_initiator}
use Rattle.ckr_desk_turn.specs.Taken.{served_by, taken_of}
use Rattle.ckr_desk_turn.specs.Turns.{MountedTurn, carried_out, turn_of}
use Rattle.ckr_desk_turn.specs.Units.{StepProgress, UnitEnd, abended, arrived, finished_by, first_rewrite, no_more_space, unit_end, updated_lrecl, went}
use Rattle.ckr_desk_turn.proofs.Checkpoints.Due.{unit-only}
use Rattle.ckr_desk_turn.proofs.Checkpoints.Plans.{takes, turn-taken}
use Rattle.ckr_desk_turn.proofs.Mounts.{plan_by-cases}
use Rattle.ckr_desk_turn.proofs.Moves.{with_change-found}
use Rattle.ckr_desk_turn.proofs.NextEvents.BetweenSteps.{row_of_found, state_on}
use Rattle.ckr_desk_turn.proofs.OtherRuns.{row-stepped, step-there}
use Rattle.ckr_desk_turn.proofs.Opening.{running-stands}
use Rattle.ckr_desk_turn.proofs.Restart.Points.{find-without}
use Rattle.ckr_desk_turn.proofs.RunningSteps.{plain_step}
use Rattle.ckr_desk_turn.proofs.Turns.Due.{plan-due}
use Rattle.ckr_desk_turn.proofs.Units.AnyUnit.{found-going}
use Rattle.ckr_desk_turn.proofs.Units.LastUnit.{not-at-end}
use Rattle.ckr_desk_turn.proofs.Stints.Bounds.{desk_left, has_code, has_mark, left-most, left-some, placed-some, placed_left, running_left, running_of, steps-split, steps_left, turns_left}
use Rattle.ckr_desk_turn.proofs.Stints.Codes.{IsLegTurn, cost, cost_by, code-carried, code-turn, coded-plan, coded-some, uncoded-plan, unfailed, unwaiting}
use Rattle.ckr_desk_turn.proofs.Stints.OtherTurns.{tables-behind}
use Rattle.ckr_desk_turn.proofs.Stints.OwnRows.{GoesTo, goes-cancelled, goes-checkpointed, goes-rewritten, goes-started, goes-step_ended, on-still}
use Rattle.ckr_desk_turn.proofs.Stints.Steps.{left-cancelled, left-checkpointed, left-closed, left-started, left-taken, some-left, step_left, turns_of}
use Rattle.ckr_points.specs.Payload.{start_in_office}

-- a turn that isn't a wait, behind which a run stands so
goes-by : (i run : ℕ) (leg : Leg) (most : ℕ) (done : TurnDone) (next : RunRow) → run_on_initiator done.desk.office.tables i ≡ Some next → next.number ≡ run → is_wait done.reply ≡ false
    → (on : Option DeskStep) → running_of done.desk run ≡ on → (place : Place) → place_of next ≡ place → suc (placed_left leg on place) ≤ most → IsLegTurn i run leg most done
goes-by i run leg most done next lodged same works on running place stands fewer =
    inr (record {
      next = next;
      on = lodged;
      same = same;
      left =
          let left : turns_left leg (has_mark done.desk run) (running_of done.desk run) (place_of next) ≤ placed_left leg on place =
          subst (λ o. turns_left leg (has_mark done.desk run) o (place_of next) ≤ placed_left leg on place) (sym running)
          (subst (λ p. turns_left leg (has_mark done.desk run) on p ≤ placed_left leg on place) (sym stands)
          (left-most leg (has_mark done.desk run) on place (placed_left leg on place) (placed-some leg on place) (omega arith))) in
          let one : cost done.reply ≡ 1 = ap cost_by works in
          omega (arith, left, one, fewer);
    })

-- the step of a run that stands before the others is the one that is found
first-running : (run : ℕ) (progress : StepProgress) (others : List DeskStep) → find (λ (step : DeskStep). step.run == run) (plain_step run progress ∷ others) ≡ Some (plain_step run progress)
first-running run progress others = ap (λ b. cond b (Some (plain_step run progress)) (find (λ (step : DeskStep). step.run == run) others)) (equal-itself run)

module _ (desk : DeskModel) (is : IsDesk desk) (i : ℕ) (row : RunRow) (on : run_on_initiator desk.office.tables i ≡ Some row) (leg : Leg) (led : leg_of desk.office row.number ≡ Some leg) (answer : Answer) where
  abbrev run : ℕ
  run = row.number

  abbrev most : ℕ
  most = desk_left desk leg row

  abbrev IsTurn : TurnDone → Type 0
  IsTurn done = IsLegTurn i run leg most done

  abbrev IsTurnBy : Plan → Type 0
  IsTurnBy plan = IsTurn (carried_out answer plan desk)

  at : run_of desk.office.tables run ≡ Some row
  at = row_of_found desk.layout desk.office (λ other. is_on i other.initiator) row is.kept on

  is-on : row.state ≡ On
  is-on = state_on desk i row is on

  holds : IsHolder desk.office run row leg
  holds = record { row_at = at; holds = ap is_holder is-on; leg_at = led }

  job-so : leg.job ≡ row.job
  job-so = (is.kept.events.places run row leg holds).job

  some : 1 ≤ most
  some = left-some leg (has_mark desk run) (running_of desk run) (place_of row)

  -- nothing changes where it waits for units or for a mount
  still : (reply : Reply) → is_wait reply ≡ true → IsTurnBy (Rest reply)
  still reply waits = inr (record { next = row; on = on; same = refl; left = let none : cost reply ≡ 0 = ap cost_by waits in omega (arith, none) })

  -- behind an event of its own
  told : (event : Event) (reply : Reply) (asked : Bool) → job_of event ≡ run → is_wait reply ≡ false → (place : Place) → GoesTo (after_event event None desk.office.tables) row place
      → (later : DeskModel) → later.office.tables ≡ after_event event None desk.office.tables → (step : Option DeskStep) → running_of later run ≡ step → suc (placed_left leg step place) ≤ most
      → IsTurn (record { reply = reply; event = Some event; desk = later; asked = asked })
  told event reply asked job works place goes later tables step running fewer =
      goes-by i run leg most (record { reply = reply; event = Some event; desk = later; asked = asked }) goes.next
      (ap (λ t. run_on_initiator t i) tables ∙ on-still desk.office.tables is.kept.events.numbered i row on event job goes.next goes.at goes.lodged)
      goes.number works step running place goes.stands fewer

  -- ---- between two steps

  module _ (number : ℕ) (all : most ≡ steps_left leg number) where
    started-turn : (owned : OwnedStep) (items : List Made) → step_of_run row number ≡ Some owned → IsTurnBy (Tell (Started run owned.step.name) (StartedEvent run number (record { items = items })))
    started-turn owned items found =
        let start : StepStart = its_start leg owned number in
        let at_start : start_at leg.job leg.start number ≡ Some start = start_at-of leg.job leg.start number owned (ap (λ job. step_at job number) job-so ∙ found) in
        let event : Event = StartedEvent run number (record { items = items }) in
        let first : DeskStep = at_first run in
        let fewer : suc (step_left start (arrived 0 0)) ≤ turns_of start = left-started start in
        let split : steps_left leg number ≡ turns_of start + steps_left leg (suc number) = steps-split leg number start at_start in
        let its : running_left leg number (Some first) ≡ step_left start (arrived 0 0) + steps_left leg (suc number) = ap (λ (o : Option StepStart). option_map_or (λ start. step_left start (arrived 0 0)) o 0 + steps_left leg (suc number)) at_start in
        told event (Started run owned.step.name) false refl refl (Within number 0) (goes-started desk.office.tables row at number (record { items = items }) owned found)
        (behind event None desk) (tables-behind desk.office event) (Some first) (first-running run (arrived 0 0) (without_run run desk.running))
        (omega (arith, fewer, split, its, all))

    start-turn : (owned : OwnedStep) → step_of_run row number ≡ Some owned → IsTurnBy (start_plan desk.layout (jobs_of desk) row owned number)
    start-turn owned found = by (allocation_of desk.layout row owned number desk.office.tables)
      where
        by : (given : Result (List Made) Refusal) → IsTurnBy (elim given as (λ _. Plan) [
          | Err refusal ↦ allocation_ended row owned refusal.dd refusal.cause
          | Ok items ↦ Tell (Started row.number owned.step.name) (StartedEvent row.number number (record { items = items }))
        ])
        by (Err refusal) = inl refl
        by (Ok items) = started-turn owned items found

    between-turn : IsTurnBy (between_plan desk.layout (jobs_of desk) row number)
    between-turn = by (step_of_run row number) refl
      where
        by : (step : Option OwnedStep) → step_of_run row number ≡ step → IsTurnBy (elim step as (λ _. Plan) [
          | None ↦ Tell (JobEnded row.number Completed) (EndedEvent row.number CompletedEnding)
          | Some owned ↦ start_plan desk.layout (jobs_of desk) row owned number
        ])
        by None e = inl refl
        by (Some owned) e = start-turn owned e

  -- ---- within a step

  module _ (number committed : ℕ) (start : StepStart) (within : IsWithinStep desk.office run row number committed start) (step : DeskStep) (stepped : running_of desk run ≡ Some step) (uncoded : step.code ≡ None)
      (unmarked : has_mark desk run ≡ false) where
    abbrev progress : StepProgress
    progress = step.progress

    known : progress_of desk run ≡ Some progress
    known = ap (λ (o : Option DeskStep). option_map_or (λ (step : DeskStep). progress_unless step.code step.progress) o None) stepped ∙ ap (λ code. progress_unless code progress) uncoded

    at-start : start_at leg.job leg.start number ≡ Some start
    at-start =
        ap (λ place. start_at leg.job leg.start (step_in place)) (sym within.place)
        ∙ sym (ap (λ (o : Option Leg). option_map_or (λ leg. start_at leg.job leg.start (step_in (place_of row))) o None) led) ∙ within.start_at

    no-code : has_code (has_mark desk run) (running_of desk run) ≡ false
    no-code = ap (λ b. b || option_map_or (λ (step : DeskStep). is_some step.code) (running_of desk run) false) unmarked ∙ ap (λ (o : Option DeskStep). option_map_or (λ (step : DeskStep). is_some step.code) o false) stepped ∙ ap is_some uncoded

    its-most : most ≡ step_left start progress + steps_left leg (suc number)
    its-most =
        ap (λ b. cond b 1 (placed_left leg (running_of desk run) (place_of row))) no-code
        ∙ ap (λ place. placed_left leg (running_of desk run) place) within.place
        ∙ ap (running_left leg number) stepped
        ∙ ap (λ (o : Option StepStart). option_map_or (λ start. step_left start progress) o 0 + steps_left leg (suc number)) at-start

    -- what is left where it has come to another progress
    left-at : (come : StepProgress) (code : Option Code) (writes : ℕ) → placed_left leg (Some (record { run = run; progress = come; code = code })) (Within number writes) ≡ step_left start come + steps_left leg (suc number)
    left-at come code writes = ap (λ (o : Option StepStart). option_map_or (λ start. step_left start come) o 0 + steps_left leg (suc number)) at-start

    fewer-by : (come : StepProgress) (writes : ℕ) → suc (step_left start come) ≤ step_left start progress → suc (placed_left leg (Some (plain_step run come)) (Within number writes)) ≤ most
    fewer-by come writes fewer =
        let all : most ≡ step_left start progress + steps_left leg (suc number) = its-most in
        let its : placed_left leg (Some (plain_step run come)) (Within number writes) ≡ step_left start come + steps_left leg (suc number) = left-at come None writes in
        omega (arith, all, its, fewer)

    -- the step has come further, and tells nothing
    moved-turn : (come : StepProgress) (reply : Reply) (asked : Bool) → is_wait reply ≡ false → suc (step_left start come) ≤ step_left start progress
        → IsTurn (record { reply = reply; event = None; desk = with_progress run come desk; asked = asked })
    moved-turn come reply asked works fewer =
        goes-by i run leg most (record { reply = reply; event = None; desk = with_progress run come desk; asked = asked }) row on refl works
        (Some (plain_step run come)) (first-running run come (without_run run desk.running)) (Within number committed) within.place (fewer-by come committed fewer)

    -- the step that it is within
    owns : {A : Type 0} → ((owned : OwnedStep) → step_of_run row (step_in (place_of row)) ≡ Some owned → A) → A
    owns use_it =
        option-cases (own_step row)
        (λ none. absurd (false≢true (ap is_some (sym none) ∙ step-there row (row-stepped desk is run row at) (ap (λ (s : RunState). (state_number s == 2) && is_within_step (place_of row)) is-on ∙ ap is_within_step within.place))))
        (λ owned found. use_it owned found)

    goes-within : (tables : TablesModel) (writes : ℕ) → GoesTo tables row (Within (step_in (place_of row)) writes) → GoesTo tables row (Within number writes)
    goes-within tables writes goes = subst (λ n. GoesTo tables row (Within n writes)) (ap step_in within.place) goes

    -- ---- a unit

    going : IsGoing desk.office (plain_step run progress)
    going = found-going desk.office run progress desk.running is.going known

    mine : going.row ≡ row
    mine = some-one going.row row (run_of desk.office.tables run) going.row_at at

    its-start : going.start ≡ start
    its-start = same_Some _ _ (sym going.start_at ∙ ap (start_in_office desk.office) mine ∙ within.start_at)

    module _ (due : next_due start progress ≡ OneUnit) where
      opened : IsOpen start progress
      opened = subst (λ s. IsOpen s progress) its-start (subst (HasCome going.start progress) (unit-only start progress due) going.come)

      abbrev items : List Write
      items = (program_unit (case_at start) progress.taken).writes.items

      abbrev count : ℕ
      count = next_writes start progress

      -- a unit that takes a record
      taken-turn : (write : Option (ℕ × List ℕ)) → progress.taken < records_taken (case_at start)
          → IsTurn (unit_done answer row (record { unit = went write; progress = arrived (suc progress.taken) count }) desk)
      taken-turn None below = moved-turn (arrived (suc progress.taken) count) _ false refl (left-taken start progress due count below)
      taken-turn (Some write) below =
          let come : StepProgress = arrived (suc progress.taken) count in
          let moved : DeskModel = with_progress run come desk in
          let seen_now : TurnStep = seen moved.office run come in
          let event : Event = RewrittenEvent run seen_now.taken seen_now.writes (record { items = seen_now.lengths }) write.0 (fitted (updated_lrecl (jobs_of moved) row) write.1) in
          owns (λ owned found.
          told event _ false refl refl (Within number seen_now.writes)
          (goes-within (after_event event None desk.office.tables) seen_now.writes (goes-rewritten desk.office.tables row at owned found seen_now.taken seen_now.writes write.0 (record { items = seen_now.lengths }) (fitted (updated_lrecl (jobs_of moved) row) write.1)))
          (behind event None moved) (tables-behind desk.office event) (Some (plain_step run come)) (first-running run come (without_run run desk.running))
          (fewer-by come seen_now.writes (left-taken start progress due count below)))

      -- one that comes to a code
      abended-turn : (come : StepProgress) (code : Code) → IsTurn (unit_done answer row (record { unit = abended code; progress = come }) desk)
      abended-turn come code =
          let moved : DeskModel = with_progress run come desk in
          code-turn i row leg most some moved on
          (ap (λ b. has_mark desk run || is_some b) (first-running run come (without_run run desk.running)) ∙ or-true (has_mark desk run))
          answer desk.layout desk.office.tables code (running_reached (seen moved.office run come))

      by-finish : (finish : Option Finish) → (program_unit (case_at start) progress.taken).finish ≡ finish → IsTurn (unit_done answer row (finished_by finish items progress count) desk)
      by-finish None goes_on = taken-turn (first_rewrite items) (not-at-end (case_at start) progress.taken opened.taken goes_on)
      by-finish (Some (Returned rc)) ends = moved-turn (record progress { writes = count; closed = true }) _ false refl (left-closed start progress due count)
      by-finish (Some (Abend code)) ends = abended-turn progress code

      unit-turn : IsTurn (unit_done answer row (unit_end start progress) desk)
      unit-turn = by (nat_le count (length (work_at start).writes))
        where
          by : (fits : Bool) → IsTurn (unit_done answer row (elim fits as (λ _. UnitEnd) [
            | true ↦ finished_by (program_unit (case_at start) progress.taken).finish items progress count
            | false ↦ record { unit = abended no_more_space; progress = record progress { writes = length (work_at start).writes } }
          ]) desk)
          by true = by-finish (program_unit (case_at start) progress.taken).finish refl
          by false = abended-turn (record progress { writes = length (work_at start).writes }) no_more_space

      works : work_of answer run desk ≡ unit_done answer row (unit_end start progress) desk
      works =
          ap (λ (o : Option RunRow). option_map_or (λ row. option_map_or (λ start. option_map_or (λ progress. unit_done answer row (unit_end start progress) desk) (progress_of desk run) (done_by (Rest Idle) desk)) (start_in_office desk.office row) (done_by (Rest Idle) desk)) o (done_by (Rest Idle) desk)) at
          ∙ ap (λ (o : Option StepStart). option_map_or (λ start. option_map_or (λ progress. unit_done answer row (unit_end start progress) desk) (progress_of desk run) (done_by (Rest Idle) desk)) o (done_by (Rest Idle) desk)) within.start_at
          ∙ ap (λ (o : Option StepProgress). option_map_or (λ progress. unit_done answer row (unit_end start progress) desk) o (done_by (Rest Idle) desk)) known

      work-turn : IsTurn (work_of answer run desk)
      work-turn = subst IsTurn (sym works) unit-turn

    -- ---- a checkpoint, a cancel, the end of the step

    module _ (due : next_due start progress ≡ CheckpointDue) where
      fewer-checks : suc (step_left start (checkpoint_done progress)) ≤ step_left start progress
      fewer-checks = left-checkpointed start progress due

      served-turn : IsTurn (served_by row (checkpoint_turn desk.office.tables row start progress) desk)
      served-turn = by (suppresses (rd_in_effect row start.number))
        where
          entered : (fits : Bool) → IsTurn (served_by row (checkpoint_try fits desk.office.tables row start progress) desk)
          entered false = moved-turn (checkpoint_done progress) _ false refl fewer-checks
          entered true =
              let event : Event = checkpoint_event desk.office.tables.sets row start progress in
              owns (λ owned found.
              told event _ false refl refl (Within number progress.writes)
              (goes-within (after_event event None desk.office.tables) progress.writes
              (goes-checkpointed desk.office.tables row at owned found progress.taken progress.writes (entry_place desk.office.tables.sets start) (entry_bytes desk.office.tables.sets row start progress) (next_id row start)
              (record { items = lengths_with desk.office.tables.sets start progress.writes (entry_end desk.office.tables.sets row start progress) })))
              (with_progress run (checkpoint_done progress) (behind event None desk)) (tables-behind desk.office event) (Some (plain_step run (checkpoint_done progress)))
              (first-running run (checkpoint_done progress) (without_run run desk.running)) (fewer-by (checkpoint_done progress) progress.writes fewer-checks))

          by : (suppressed : Bool) → IsTurn (served_by row (checkpoint_unless suppressed desk.office.tables row start progress) desk)
          by true = moved-turn (checkpoint_done progress) _ false refl fewer-checks
          by false = entered (checkpoint_fits desk.office.tables.sets row start progress)

      taken-so : taken_of run desk ≡ served_by row (checkpoint_turn desk.office.tables row start progress) desk
      taken-so =
          takes desk (plain_step run progress) going is known
          ∙ ap (λ (r : RunRow). served_by r (checkpoint_turn desk.office.tables r going.start progress) desk) mine
          ∙ ap (λ s. served_by row (checkpoint_turn desk.office.tables row s progress) desk) its-start

      check-turn : IsTurn (taken_of run desk)
      check-turn = subst IsTurn (sym taken-so) served-turn

    cancel-turn : next_due start progress ≡ Cancel → IsTurnBy (cancelled_plan row)
    cancel-turn due =
        let event : Event = CancelledEvent run in
        let its : placed_left leg (Some (plain_step run (cancel_done progress))) (place_of row) ≡ placed_left leg (Some (plain_step run (cancel_done progress))) (Within number committed) = ap (placed_left leg (Some (plain_step run (cancel_done progress)))) within.place in
        let fewer : suc (placed_left leg (Some (plain_step run (cancel_done progress))) (Within number committed)) ≤ most = fewer-by (cancel_done progress) committed (left-cancelled start progress due) in
        told event _ false refl refl (place_of row) (goes-cancelled desk.office.tables row at) (behind event None desk) (tables-behind desk.office event) (Some (plain_step run (cancel_done progress)))
        (ap (λ running. find (λ (step : DeskStep). step.run == run) running) (with_change-found run cancel_done desk.running step stepped) ∙ first-running run (cancel_done progress) (without_run run desk.running))
        (omega (arith, its, fewer))

    finished-turn : (seen_now : TurnStep) (rc : ℕ) → IsTurnBy (finished_plan row number seen_now rc)
    finished-turn seen_now rc =
        let event : Event = StepEndedEvent run number rc seen_now.writes (record { items = seen_now.lengths }) in
        let all : most ≡ step_left start progress + steps_left leg (suc number) = its-most in
        let one : 1 ≤ step_left start progress = some-left start progress in
        owns (λ owned found.
        told event _ false refl refl (Before (suc number))
        (subst (λ n. GoesTo (after_event event None desk.office.tables) row (Before (suc n))) (ap step_in within.place) (goes-step_ended desk.office.tables row at owned found number rc seen_now.writes (record { items = seen_now.lengths })))
        (behind event None desk) (tables-behind desk.office event) None (find-without run desk.running) (omega (arith, all, one)))

    -- whatever is due
    within-turn : IsTurnBy (run_plan desk.layout (jobs_of desk) None row)
    within-turn = by (next_due start progress) refl
      where
        planned : run_plan desk.layout (jobs_of desk) None row ≡ due_plan row number (seen_from desk.office run progress start) (next_due start progress)
        planned = plan-due desk row number committed start progress within (unfailed desk row no-code) (unwaiting desk row no-code) known

        by : (due : NextDue) → next_due start progress ≡ due → IsTurnBy (run_plan desk.layout (jobs_of desk) None row)
        by OneUnit due = subst IsTurnBy (sym (planned ∙ ap (due_plan row number (seen_from desk.office run progress start)) due)) (work-turn due)
        by CheckpointDue due = subst IsTurn (sym (turn-taken desk row number committed start progress answer is within (unfailed desk row no-code) (unwaiting desk row no-code) known due)) (check-turn due)
        by Cancel due = subst IsTurnBy (sym (planned ∙ ap (due_plan row number (seen_from desk.office run progress start)) due)) (cancel-turn due)
        by (Finished rc) due = subst IsTurnBy (sym (planned ∙ ap (due_plan row number (seen_from desk.office run progress start)) due)) (finished-turn (seen_from desk.office run progress start) rc)

  -- ---- any turn without a code

  coded-turn : has_code (has_mark desk run) (running_of desk run) ≡ true → IsTurnBy (run_plan desk.layout (jobs_of desk) None row)
  coded-turn has =
      coded-plan desk row has
      (λ code planned.
      subst IsTurnBy (sym planned)
      (subst IsTurn (sym (code-carried answer desk desk.layout desk.office.tables row (initiator_of row) true code (reached_by (jobs_of desk) row)))
      (code-turn i row leg most some desk on (coded-some desk row has) answer desk.layout desk.office.tables code (reached_by (jobs_of desk) row))))

  -- between two steps
  out-turn : (place : Place) → place_of row ≡ place → is_within_step place ≡ false → has_code (has_mark desk run) (running_of desk run) ≡ false → IsTurnBy (placed_plan desk.layout (jobs_of desk) row place)
  out-turn (Before number) stands out none =
      between-turn number (ap (λ b. cond b 1 (placed_left leg (running_of desk run) (place_of row))) none ∙ ap (placed_left leg (running_of desk run)) stands)
  out-turn (Opened number) stands out none =
      between-turn number (ap (λ b. cond b 1 (placed_left leg (running_of desk run) (place_of row))) none ∙ ap (placed_left leg (running_of desk run)) stands)
  out-turn (Within number writes) stands out none = absurd (false≢true (sym out))

  running-there : is_running row ≡ true → has_mark desk run ≡ false → is_some (running_of desk run) ≡ true
  running-there runs unmarked =
      any-found (λ (step : DeskStep). step.run == run) desk.running
      (sym
      (ap (λ b. not b || (list_any (λ (step : DeskStep). step.run == run) desk.running || has_mark desk run)) runs
      ∙ ap (λ b. list_any (λ (step : DeskStep). step.run == run) desk.running || b) unmarked ∙ or-false (list_any (λ (step : DeskStep). step.run == run) desk.running))
      ∙ its-account)
    where
      its-account : is_accounted desk row ≡ true
      its-account = find-all (is_accounted desk) (λ other. is_on i other.initiator) desk.office.tables.runs row is.accounted on

      any-found : {X : Type 0} (test : X → Bool) (xs : List X) → list_any test xs ≡ true → is_some (find test xs) ≡ true
      any-found test [] some = some
      any-found test (first ∷ xs) some =
          bool-cases (test first)
          (λ does. ap (λ b. is_some (cond b (Some first) (find test xs))) does)
          (λ isnt. ap (λ b. is_some (cond b (Some first) (find test xs))) isnt ∙ any-found test xs (sym (ap (λ b. b || list_any test xs) isnt) ∙ some))

  uncoded-turn : has_code (has_mark desk run) (running_of desk run) ≡ false → IsTurnBy (run_plan desk.layout (jobs_of desk) None row)
  uncoded-turn none =
      let unmarked : has_mark desk run ≡ false = or-first-false (has_mark desk run) _ none in
      bool-cases (is_within_step (place_of row))
      (λ inside.
      let runs : is_running row ≡ true = ap (λ (s : RunState). (state_number s == 2) && is_within_step (place_of row)) is-on ∙ inside in
      is_some-true (running_of desk run) (running-there runs unmarked)
      (λ step stepped.
      running-stands desk is row at (find-all (is_accounted desk) (λ other. is_on i other.initiator) desk.office.tables.runs row is.accounted on) runs
      (λ number committed start within.
      within-turn number committed start within step stepped
      (is_none-true step.code (uncoded-so step.code (sym (ap (λ (o : Option DeskStep). option_map_or (λ (step : DeskStep). is_some step.code) o false) stepped) ∙ or-second-false (has_mark desk run) _ none))) unmarked)))
      (λ out. subst IsTurnBy (sym (uncoded-plan desk row none)) (out-turn (place_of row) refl out none))
    where
      uncoded-so : (code : Option Code) → is_some code ≡ false → is_none code ≡ true
      uncoded-so None its = refl
      uncoded-so (Some code) its = absurd (false≢true (sym its))

  run-turn : IsTurnBy (run_plan desk.layout (jobs_of desk) None row)
  run-turn = bool-cases (has_code (has_mark desk run) (running_of desk run)) coded-turn uncoded-turn

  -- whatever becomes of the volumes
  pub own-turn : (one : MountedTurn) → one.turn.initiator ≡ i → one.turn.fail ≡ None → IsTurn (turn_of desk one answer)
  unfolding turn_of plan_of
  own-turn one mine none =
      plan_by-cases IsTurnBy desk.layout desk.office.tables
      (option_map_or (run_plan desk.layout (jobs_of desk) one.turn.fail) (run_on_initiator desk.office.tables one.turn.initiator) (free_plan desk.layout (jobs_of desk) one.turn.initiator one.turn.fail))
      (subst IsTurnBy
      (sym
      (ap (λ (o : Option RunRow). option_map_or (run_plan desk.layout (jobs_of desk) one.turn.fail) o (free_plan desk.layout (jobs_of desk) one.turn.initiator one.turn.fail)) (ap (run_on_initiator desk.office.tables) mine ∙ on)
      ∙ ap (λ fail. run_plan desk.layout (jobs_of desk) fail row) none))
      run-turn)
      (λ step dd cause wanted. inl refl) one.taking (λ need free. still (WaitingUnits need free) refl) (λ awaited. still AwaitingReply refl)
