-- A turn of a run within a step: its event may come, and the desk behind it is as its events have brought it about.
use Rattle.std.proofs.Common.{◌≡◌, ℕ, Bool, true, false, if◌then◌else◌, not, ◌&&◌, ◌||◌, List, [], ◌∷◌, refl, ap, sym, ◌∙◌, subst, Option, Some, None}
use Rattle.std.specs.Prelude.{◌==◌}
use Rattle.std.specs.List.{list_any}
use Rattle.std.specs.Option.{option_map_or}
use Rattle.std.proofs.lemmas.Bool.{false≢true}
use Rattle.std.proofs.lemmas.Option.{same_Some}
use Rattle.ckr_base.specs.declared.code.Code.{Code}
use Rattle.ckr_base.specs.declared.programs.Finish.TheVariants.{Returned}
use Rattle.ckr_base.specs.declared.programs.NextDue.{NextDue}
use Rattle.ckr_base.specs.declared.programs.NextDue.TheVariants.{Unit as OneUnit, Checkpoint, Cancel, Finished}
use Rattle.ckr_base.proofs.Bools.{bool-cases}
use Rattle.ckr_base.proofs.Options.{option-cases, some-not-none}
use Rattle.ckr_console.specs.declared.question.Answer.{Answer}
use Rattle.ckr_events.specs.declared.event.Event.TheVariants.{StepEnded as StepEndedEvent}
use Rattle.ckr_meaning.specs.StepRun.{StepStart, work_at}
use Rattle.ckr_points.specs.Payload.{lengths_at}
use Rattle.ckr_points.specs.Restart.{place_of, step_in}
use Rattle.ckr_points.specs.Rows.{RunRow, run_of}
use Rattle.ckr_desk_turn.specs.declared.failed_run.FailedRun.{FailedRun}
use Rattle.ckr_desk_turn.specs.declared.plan.Plan.{Plan}
use Rattle.ckr_desk_turn.specs.declared.plan.Plan.TheVariants.{Rest}
use Rattle.ckr_points.specs.declared.reply.Reply.TheVariants.{Idle, NothingToFail}
use Rattle.ckr_desk_turn.specs.Codes.{code_plan, initiator_of, reached_by}
use Rattle.ckr_desk_turn.specs.Desk.{DeskModel, DeskStep, jobs_of, progress_of, progress_unless, seen_from, work_of}
use Rattle.ckr_desk_turn.specs.Due.{next_due, rc_by}
use Rattle.ckr_desk_turn.specs.Jobs.{TurnStep, as_stopped, is_asked, is_failed, running_in, waiting_code}
use Rattle.ckr_desk_turn.specs.Plans.{checkpoint_plan, due_plan, fail_plan, finished_plan, is_within, placed_plan, run_plan, running_plan, system_failure, unmarked_plan, waiting_plan}
use Rattle.ckr_desk_turn.specs.NextEvents.{Comes, IsWithinStep}
use Rattle.ckr_desk_turn.specs.Taken.{taken_of}
use Rattle.ckr_desk_turn.specs.Turns.{carried_out}
use Rattle.ckr_desk_turn.specs.Invariant.{HasCome, IsClosed, IsDesk, IsGoing, Keeps}
use Rattle.ckr_desk_turn.proofs.Inquiries.{coded-keeps}
use Rattle.ckr_desk_turn.proofs.Moves.{come-uncoded}
use Rattle.ckr_desk_turn.proofs.Restart.Desks.{may-so}
use Rattle.ckr_desk_turn.proofs.StepEnd.{step_end-kept}
use Rattle.ckr_desk_turn.proofs.RunningSteps.{FoundStep, found-step, going-within, stopped-code}
use Rattle.ckr_desk_turn.proofs.NextEvents.WithinStep.{step_ended-comes}
use Rattle.ckr_desk_turn.proofs.Cancel.{cancelled-comes, cancelled-kept}
use Rattle.ckr_desk_turn.proofs.Checkpoints.Due.{IsFinished, checkpoint-only, finished-only, unit-only}
use Rattle.ckr_desk_turn.proofs.Checkpoints.Invariant.{taken-keeps}
use Rattle.ckr_desk_turn.proofs.Checkpoints.Plans.{due-taken}
use Rattle.ckr_desk_turn.proofs.Units.AnyUnit.{work-keeps}

-- what a plan comes to, whatever the operator answers
abbrev pub PlanKeeps : Answer → DeskModel → Plan → Type 0
PlanKeeps answer desk plan = Keeps desk (carried_out answer plan desk)

-- a run for which no mark stands, whether the operator was asked or not, isn't marked
marked-not : (failed : List FailedRun) (run : ℕ) → list_any (λ (one : FailedRun). one.run == run && not one.asked) failed ≡ false → list_any (λ (one : FailedRun). one.run == run && one.asked) failed ≡ false
    → list_any (λ (one : FailedRun). one.run == run) failed ≡ false
marked-not [] run fresh asked = refl
marked-not (first ∷ rest) run fresh asked =
    by (first.run == run) first.asked (list_any (λ (one : FailedRun). one.run == run && not one.asked) rest) (list_any (λ (one : FailedRun). one.run == run && one.asked) rest) (list_any (λ (one : FailedRun). one.run == run) rest)
    (marked-not rest run) fresh asked
  where
    by : (here told fresh asked some : Bool) → (fresh ≡ false → asked ≡ false → some ≡ false) → ((here && not told) || fresh) ≡ false → ((here && told) || asked) ≡ false → (here || some) ≡ false
    by true true fresh asked some more one other = absurd (false≢true (sym other))
    by true false fresh asked some more one other = absurd (false≢true (sym one))
    by false told fresh asked some more one other = more one other

module _ (desk : DeskModel) (is : IsDesk desk) (row : RunRow) (number committed : ℕ) (start : StepStart) (within : IsWithinStep desk.office row.number row number committed start) (answer : Answer) where
  -- a code: the run ends, or the operator is asked for its restart on its initiator
  code_plan-keeps : (code : Code) → PlanKeeps answer desk (code_plan desk.layout desk.office.tables row (initiator_of row) true code (reached_by (jobs_of desk) row))
  code_plan-keeps code = coded-keeps desk is row (initiator_of row) (may-so desk is row number committed start within) true code answer

  -- a running step: it goes on, what is due in it is served, or it ends with its return code
  module _ (isnt : list_any (λ (one : FailedRun). one.run == row.number) desk.failed ≡ false) (step : TurnStep) (found : FoundStep desk.office desk.running row.number step) (uncoded : found.on.code ≡ None) where
    its_row : found.going.row ≡ row
    its_row = same_Some _ _ (sym found.going.row_at ∙ ap (run_of desk.office.tables) found.same ∙ within.row_at)

    ends : (going : IsGoing desk.office found.on) → IsClosed going.start found.on.progress → going.number ≡ number → Comes desk (StepEndedEvent row.number number (rc_by (work_at going.start).finish) found.on.progress.writes (record { items = lengths_at going.start desk.office.tables.sets found.on.progress.writes }))
    ends going closed at_number =
        subst (λ n. Comes desk (StepEndedEvent row.number n (rc_by (work_at going.start).finish) found.on.progress.writes (record { items = lengths_at going.start desk.office.tables.sets found.on.progress.writes }))) at_number
        (subst (λ n. Comes desk (StepEndedEvent n going.number (rc_by (work_at going.start).finish) found.on.progress.writes (record { items = lengths_at going.start desk.office.tables.sets found.on.progress.writes }))) found.same
        (step_ended-comes desk is found.on.run going.row going.number going.committed going.start (going-within desk.office found.on going) found.on.progress.writes going.behind going.fit going.plain
        (rc_by (work_at going.start).finish) closed.writes (closed.returned ∙ ap Returned (sym (ap rc_by closed.returned)))))

    at_number : found.going.number ≡ number
    at_number = ap step_in (sym (going-within desk.office found.on found.going).place ∙ ap place_of its_row ∙ within.place)

    known : progress_of desk row.number ≡ Some found.on.progress
    known = ap (λ (o : Option DeskStep). option_map_or (λ (step : DeskStep). progress_unless step.code step.progress) o None) found.at ∙ ap (λ code. progress_unless code found.on.progress) uncoded

    goes_on : found.on.progress.closed ≡ false → Keeps desk (work_of answer row.number desk)
    goes_on = work-keeps answer desk is row.number found.on.progress known

    -- a checkpoint that is due is taken, whatever RD is in effect
    takes_it : found.on.progress.closed ≡ false → PlanKeeps answer desk (checkpoint_plan row number)
    takes_it unclosed =
        subst (Keeps desk)
        (sym (ap (λ (r : RunRow). carried_out answer (checkpoint_plan r number) desk) (sym its_row) ∙ ap (λ n. carried_out answer (checkpoint_plan found.going.row n) desk) (sym at_number)
        ∙ due-taken desk found.on found.going is answer (ap (progress_of desk) found.same ∙ known) ∙ ap (λ run. taken_of run desk) found.same))
        (taken-keeps desk row.number found.on.progress is known unclosed)

    abbrev its_seen : TurnStep
    its_seen = seen_from desk.office found.on.run found.on.progress found.going.start

    -- its end
    finishes : IsClosed found.going.start found.on.progress → PlanKeeps answer desk (finished_plan row number its_seen (rc_by (work_at found.going.start).finish))
    finishes closed =
        let comes = ends found.going closed at_number in
        record {
          comes = comes;
          kept = step_end-kept desk is row.number row number committed start within (rc_by (work_at found.going.start).finish) found.on.progress.writes (record { items = lengths_at found.going.start desk.office.tables.sets found.on.progress.writes }) comes isnt;
        }

    by-due : (due : NextDue) → next_due found.going.start found.on.progress ≡ due → PlanKeeps answer desk (due_plan row number its_seen due)
    by-due OneUnit comes_now = goes_on (unit-only found.going.start found.on.progress comes_now)
    by-due Checkpoint comes_now = takes_it (checkpoint-only found.going.start found.on.progress comes_now).unclosed
    by-due Cancel comes_now = record {
      comes = cancelled-comes desk is row number committed start within;
      kept = cancelled-kept desk is row number committed start within found.on found.at found.going found.same uncoded;
    }
    by-due (Finished rc) comes_now =
        let its : IsFinished found.on.progress.closed (rc_by (work_at found.going.start).finish) rc = finished-only found.going.start found.on.progress rc comes_now in
        subst (λ n. PlanKeeps answer desk (finished_plan row number its_seen n)) its.code
        (finishes (subst (HasCome found.going.start found.on.progress) its.closed_so (come-uncoded desk.office found.on uncoded found.going)))

    running_plan-keeps : PlanKeeps answer desk (running_plan row number step)
    running_plan-keeps = subst (λ s. PlanKeeps answer desk (running_plan row number s)) (sym (found.is ∙ ap (λ code. as_stopped code its_seen) uncoded)) (by-due (next_due found.going.start found.on.progress) refl)

  -- a turn with no code, of a run that isn't marked and waits with none
  placed_plan-keeps : is_failed (jobs_of desk) row.number ≡ false → waiting_code (jobs_of desk) row.number ≡ None → PlanKeeps answer desk (placed_plan desk.layout (jobs_of desk) row (place_of row))
  placed_plan-keeps isnt none_waits =
      let unasked : is_asked (jobs_of desk) row.number ≡ false = asked-not (is_asked (jobs_of desk) row.number) none_waits in
      let uncoded : option_map_or (λ (step : TurnStep). step.code) (running_in (jobs_of desk) row.number) None ≡ None =
      sym (ap (λ b. if b then Some system_failure else option_map_or (λ (step : TurnStep). step.code) (running_in (jobs_of desk) row.number) None) unasked) ∙ none_waits in
      subst (λ place. PlanKeeps answer desk (placed_plan desk.layout (jobs_of desk) row place)) (sym within.place)
      (option-cases (running_in (jobs_of desk) row.number)
      (λ none. subst (λ (o : Option TurnStep). PlanKeeps answer desk (option_map_or (running_plan row number) o (Rest Idle))) (sym none) (record { comes = tt; kept = is }))
      (λ step some.
      let found : FoundStep desk.office desk.running row.number step = found-step desk.office row.number desk.running step is.going some in
      subst (λ (o : Option TurnStep). PlanKeeps answer desk (option_map_or (running_plan row number) o (Rest Idle))) (sym some)
      (running_plan-keeps (marked-not desk.failed row.number isnt unasked) step found
      (sym (stopped-code found.on.code (seen_from desk.office found.on.run found.on.progress found.going.start) refl)
      ∙ ap (λ (s : TurnStep). s.code) (sym found.is) ∙ sym (ap (λ (o : Option TurnStep). option_map_or (λ (step : TurnStep). step.code) o None) some) ∙ uncoded))))
    where
      asked-not : (b : Bool) → (if b then Some system_failure else option_map_or (λ (step : TurnStep). step.code) (running_in (jobs_of desk) row.number) None) ≡ None → b ≡ false
      asked-not true some = absurd (some-not-none system_failure some)
      asked-not false none = refl

  -- a turn of a run that waits with no code: one is given, or none is
  fail_plan-keeps : is_failed (jobs_of desk) row.number ≡ false → waiting_code (jobs_of desk) row.number ≡ None → (fail : Option Code) → PlanKeeps answer desk (fail_plan desk.layout (jobs_of desk) row fail)
  fail_plan-keeps isnt none None = placed_plan-keeps isnt none
  fail_plan-keeps isnt none (Some code) =
      subst (λ place. PlanKeeps answer desk (elim (is_within place) [
        | true ↦ code_plan desk.layout desk.office.tables row (initiator_of row) true code (reached_by (jobs_of desk) row)
        | false ↦ Rest NothingToFail
      ])) (sym within.place) (code_plan-keeps code)

  -- one of a run that waits with a code: none can be given
  waiting_plan-keeps : (code : Code) (fail : Option Code) → PlanKeeps answer desk (waiting_plan desk.layout (jobs_of desk) row code fail)
  waiting_plan-keeps code None = code_plan-keeps code
  waiting_plan-keeps code (Some given) = record { comes = tt; kept = is }

  unmarked_plan-keeps : is_failed (jobs_of desk) row.number ≡ false → (fail : Option Code) → PlanKeeps answer desk (unmarked_plan desk.layout (jobs_of desk) row fail (waiting_code (jobs_of desk) row.number))
  unmarked_plan-keeps isnt fail =
      option-cases (waiting_code (jobs_of desk) row.number)
      (λ none. subst (λ o. PlanKeeps answer desk (unmarked_plan desk.layout (jobs_of desk) row fail o)) (sym none) (fail_plan-keeps isnt none fail))
      (λ code some. subst (λ o. PlanKeeps answer desk (unmarked_plan desk.layout (jobs_of desk) row fail o)) (sym some) (waiting_plan-keeps code fail))

  -- a turn of its initiator
  pub step-keeps : (fail : Option Code) → PlanKeeps answer desk (run_plan desk.layout (jobs_of desk) fail row)
  step-keeps fail =
      bool-cases (is_failed (jobs_of desk) row.number)
      (λ failed. subst (λ b. PlanKeeps answer desk (planned b)) (sym failed) (code_plan-keeps system_failure))
      (λ isnt. subst (λ b. PlanKeeps answer desk (planned b)) (sym isnt) (unmarked_plan-keeps isnt fail))
    where
      planned : Bool → Plan
      planned b = elim b [
        | true ↦ code_plan desk.layout desk.office.tables row (initiator_of row) true system_failure (reached_by (jobs_of desk) row)
        | false ↦ unmarked_plan desk.layout (jobs_of desk) row fail (waiting_code (jobs_of desk) row.number)
      ]
