-- A running step as its job has it, by what its next entry takes of it.
use Rattle.std.specs.Prelude.{◌≡◌, ℕ, true, Some}
use Rattle.ckr_library.specs.NameMaps.{Name, Named, entry_at}
use Rattle.ckr_meaning.specs.EffectiveJob.{is_among}
use Rattle.ckr_meaning.specs.StepRun.{StepStart, case_at, within_at}
use Rattle.ckr_points_library.specs.Commit.{output_names}
use Rattle.ckr_points.specs.Payload.{length_now}
use Rattle.ckr_points.specs.Rows.{RunRow, TableSet, TablesModel}
use Rattle.ckr_steps.specs.Units.{taken_of}
use Rattle.ckr_desk_turn.specs.Checkpoints.{check_set}
use Rattle.ckr_desk_turn.specs.EntryStates.{at_checkpoint, checkpoint_state}
use Rattle.ckr_desk_turn.specs.Units.{StepProgress}
use Rattle.ckr_desk_plans.specs.Entries.{step_now}
use Rattle.ckr_desk_plans.specs.StepView.{RunningStepView, length_in}

-- it is as far as the step that started so, with the lengths of its outputs, and with the state of its program
pub record IsAsFar (tables : TablesModel) (row : RunRow) (start : StepStart) (on : RunningStepView) (progress : StepProgress) : Type 0 where
  pub root : row.job.root ≡ start.root
  pub number : step_now row ≡ start.number
  pub taken : taken_of on.step.state ≡ progress.taken
  pub writes : on.step.writes ≡ progress.writes
  pub lengths : (name : Name) → is_among (output_names start.root start.owned) name ≡ true → length_in on.sets.sets name ≡ length_now (within_at start progress.writes) tables.sets name
  pub state : (entries : ℕ) → at_checkpoint entries on.step.state ≡ checkpoint_state (case_at start) progress.taken entries

-- the data set for checkpoints of the step, if it is there, has records of 256 bytes
abbrev pub HasCheckRecords : Named TableSet → StepStart → Type 0
HasCheckRecords sets start = (set : Name) (table : TableSet) → check_set start ≡ Some set → entry_at sets set ≡ Some table → table.set.lrecl ≡ 256
