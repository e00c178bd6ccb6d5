-- The plan of a turn of a running step is that of what is due in it.
use Rattle.std.proofs.Common.{◌≡◌, ℕ, Bool, true, false, cond, List, [], ◌∷◌, find, map, refl, ap, sym, ◌∙◌, Option, Some, None}
use Rattle.std.specs.Prelude.{◌==◌}
use Rattle.std.specs.Option.{option_map, option_map_or}
use Rattle.ckr_base.proofs.Bools.{bool-cases}
use Rattle.ckr_meaning.specs.StepRun.{StepStart}
use Rattle.ckr_points.specs.Office.{Office}
use Rattle.ckr_points.specs.Rows.{RunRow}
use Rattle.ckr_desk_turn.specs.declared.plan.Plan.{Plan}
use Rattle.ckr_desk_turn.specs.declared.plan.Plan.TheVariants.{Rest}
use Rattle.ckr_points.specs.declared.reply.Reply.TheVariants.{Idle}
use Rattle.ckr_desk_turn.specs.Codes.{code_plan, initiator_of, reached_by}
use Rattle.ckr_desk_turn.specs.Desk.{DeskModel, DeskStep, jobs_of, progress_of, seen, seen_from, seen_step, start_in_run}
use Rattle.ckr_desk_turn.specs.Due.{next_due}
use Rattle.ckr_desk_turn.specs.Jobs.{TurnStep, is_failed, running_in, waiting_code}
use Rattle.ckr_desk_turn.specs.NextEvents.{IsWithinStep}
use Rattle.ckr_desk_turn.specs.Plans.{due_plan, placed_plan, run_plan, running_plan, system_failure, unmarked_plan}
use Rattle.ckr_desk_turn.specs.Units.{StepProgress}
use Rattle.ckr_desk_turn.proofs.RunningSteps.{nothing_seen, plain_step, progress-found, seen-so, stopped-run}

-- ---- a running step as its jobs have it

run-seen : (office : Office) (run : ℕ) (progress : StepProgress) → (seen office run progress).run ≡ run
run-seen office run progress = by (start_in_run office run)
  where
    by : (start : Option StepStart) → (option_map_or (seen_from office run progress) start (nothing_seen run progress)).run ≡ run
    by None = refl
    by (Some start) = refl

pub find-seen : (office : Office) (run : ℕ) (running : List DeskStep) → find (λ (step : TurnStep). step.run == run) (map (seen_step office) running) ≡ option_map (seen_step office) (find (λ (on : DeskStep). on.run == run) running)
find-seen office run [] = refl
find-seen office run (first ∷ rest) =
    let its : TurnStep = seen_step office first in
    let others : Option TurnStep = find (λ (step : TurnStep). step.run == run) (map (seen_step office) rest) in
    ap (λ n. cond (n == run) (Some its) others) (stopped-run first.code (seen office first.run first.progress) ∙ run-seen office first.run first.progress)
    ∙ bool-cases (first.run == run)
    (λ does. ap (λ b. cond b (Some its) others) does ∙ sym (ap (λ b. option_map (seen_step office) (cond b (Some first) (find (λ (on : DeskStep). on.run == run) rest))) does))
    (λ isnt.
    ap (λ b. cond b (Some its) others) isnt ∙ find-seen office run rest
    ∙ sym (ap (λ b. option_map (seen_step office) (cond b (Some first) (find (λ (on : DeskStep). on.run == run) rest))) isnt))

-- the running step of a run that has come so far
running-seen : (desk : DeskModel) (run : ℕ) (progress : StepProgress) → progress_of desk run ≡ Some progress → running_in (jobs_of desk) run ≡ Some (seen_step desk.office (plain_step run progress))
running-seen desk run progress known = find-seen desk.office run desk.running ∙ ap (option_map (seen_step desk.office)) (progress-found desk.running run progress known)

-- ---- its plan

pub plan-due : (desk : DeskModel) (row : RunRow) (number committed : ℕ) (start : StepStart) (progress : StepProgress) → IsWithinStep desk.office row.number row number committed start → is_failed (jobs_of desk) row.number ≡ false → waiting_code (jobs_of desk) row.number ≡ None → progress_of desk row.number ≡ Some progress
    → run_plan desk.layout (jobs_of desk) None row ≡ due_plan row number (seen_from desk.office row.number progress start) (next_due start progress)
plan-due desk row number committed start progress within isnt none known =
    ap planned isnt
    ∙ ap (unmarked_plan desk.layout (jobs_of desk) row None) none
    ∙ ap (placed_plan desk.layout (jobs_of desk) row) within.place
    ∙ ap (λ (o : Option TurnStep). option_map_or (running_plan row number) o (Rest Idle))
    (running-seen desk row.number progress known ∙ ap Some (seen-so desk.office row.number progress row start within.row_at within.start_at))
  where
    planned : Bool → Plan
    planned b = elim b [
      | true ↦ code_plan desk.layout desk.office.tables row (initiator_of row) true system_failure (reached_by (jobs_of desk) row)
      | false ↦ unmarked_plan desk.layout (jobs_of desk) row None (waiting_code (jobs_of desk) row.number)
    ]
