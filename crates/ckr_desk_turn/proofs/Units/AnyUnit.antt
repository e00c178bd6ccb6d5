-- Any unit of a running step.
use Rattle.std.proofs.Common.{◌≡◌, ◌≤◌, ◌<◌, ℕ, false, List, find, length, refl, subst, Option, Some, None}
use Rattle.std.specs.Prelude.{◌==◌, nat_le}
use Rattle.std.specs.List.{AllByRecursion}
use Rattle.std.specs.Option.{option_map_or}
use Rattle.ckr_base.specs.declared.programs.Finish.{Finish}
use Rattle.ckr_base.specs.declared.programs.Finish.TheVariants.{Abend, Returned}
use Rattle.ckr_base.proofs.Bools.{bool-cases}
use Rattle.ckr_base.proofs.Numbers.{nat_le-false, nat_le-true}
use Rattle.ckr_base.proofs.Options.{option-cases}
use Rattle.ckr_base.proofs.Sequences.{find-holds}
use Rattle.ckr_console.specs.declared.question.Answer.{Answer}
use Rattle.ckr_meaning.specs.Program.{records_taken, unit_done as program_unit}
use Rattle.ckr_meaning.specs.StepRun.{case_at, work_at}
use Rattle.ckr_points.specs.Office.{Office}
use Rattle.ckr_desk_turn.specs.Desk.{DeskModel, DeskStep, progress_of, progress_unless, work_of}
use Rattle.ckr_desk_turn.specs.Units.{StepProgress, first_rewrite}
use Rattle.ckr_desk_turn.specs.Invariant.{HasCome, IsDesk, IsGoing, IsOpen, Keeps, next_writes}
use Rattle.ckr_desk_turn.proofs.RunningSteps.{plain_step, progress-found}
use Rattle.ckr_desk_turn.proofs.Units.LastUnit.{not-at-end}
use Rattle.ckr_desk_turn.proofs.Turns.Units.{work-abended, work-closed, work-full, work-rewrote, work-went}

-- the running step of a run
pub found-going : (office : Office) (run : ℕ) (progress : StepProgress) (running : List DeskStep) → AllByRecursion (IsGoing office) running → option_map_or (λ (step : DeskStep). progress_unless step.code step.progress) (find (λ (step : DeskStep). step.run == run) running) None ≡ Some progress → IsGoing office (record { run = run; progress = progress; code = None })
found-going office run progress running going found =
    find-holds (IsGoing office) (λ (step : DeskStep). step.run == run) running (plain_step run progress) going (progress-found running run progress found)

module _ (answer : Answer) (desk : DeskModel) (is : IsDesk desk) (run : ℕ) (progress : StepProgress) (found : progress_of desk run ≡ Some progress) (unclosed : progress.closed ≡ false) where
  abbrev on : DeskStep
  on = record { run = run; progress = progress; code = None }

  going : IsGoing desk.office on
  going = found-going desk.office run progress desk.running is.going found

  opened : IsOpen going.start progress
  opened = subst (HasCome going.start progress) unclosed going.come

  -- a unit that fits, by what becomes of its program
  by_finish : (finish : Option Finish) → (program_unit (case_at going.start) progress.taken).finish ≡ finish → next_writes going.start progress ≤ length (work_at going.start).writes → Keeps desk (work_of answer run desk)
  by_finish None goes_on fit =
      let more : progress.taken < records_taken (case_at going.start) = not-at-end (case_at going.start) progress.taken opened.taken goes_on in
      option-cases (first_rewrite (program_unit (case_at going.start) progress.taken).writes.items)
      (λ none. work-went answer desk is on going found opened more fit none)
      (λ at first. work-rewrote answer desk is on going found at opened more fit first)
  by_finish (Some (Returned rc)) returned fit = work-closed answer desk is on going found rc opened fit returned
  by_finish (Some (Abend code)) ends fit = work-abended answer desk is on going found code fit ends

  -- any unit of a step that isn't closed
  pub work-keeps : Keeps desk (work_of answer run desk)
  work-keeps =
      bool-cases (nat_le (next_writes going.start progress) (length (work_at going.start).writes))
      (λ fits. by_finish (program_unit (case_at going.start) progress.taken).finish refl (nat_le-true (next_writes going.start progress) (length (work_at going.start).writes) fits))
      (λ full. work-full answer desk is on going found opened (nat_le-false (next_writes going.start progress) (length (work_at going.start).writes) full))
