-- The jobs of a desk: the tables, the running steps, and the runs that were running when the system failed.
use Rattle.std.specs.Prelude.{ℕ, ◌==◌, Bool, ◌&&◌, not, if◌then◌else◌, List, [], find, Option, None, Some}
use Rattle.std.specs.Option.{option_map_or}
use Rattle.std.specs.List.{list_any}
use Rattle.ckr_base.specs.declared.code.Code.{Code}
use Rattle.ckr_base.specs.declared.code.Code.TheVariants.{System}
use Rattle.ckr_base.specs.declared.programs.NextDue.{NextDue}
use Rattle.ckr_base.specs.declared.programs.NextDue.TheVariants.{Unit as OneUnit}
use Rattle.ckr_library.specs.NameMaps.{Name}
use Rattle.ckr_points.specs.Restart.{kept_at, place_of, step_in}
use Rattle.ckr_points.specs.Rows.{KeptEntry, RunRow, TablesModel, step_of_run}
use Rattle.ckr_desk_turn.specs.declared.failed_run.FailedRun.{FailedRun}

-- a running step: its run, the records taken, the writes made, what is due, the lengths of its outputs, in the order of their DDs, and the code with
-- which its run waits for the operator's word, if it does
pub record TurnStep : Type 0 where
  pub run : ℕ
  pub taken : ℕ
  pub writes : ℕ
  pub due : NextDue
  pub lengths : List ℕ
  pub code : Option Code

-- a step that has stopped with a code: nothing is asked of it but its writes and its lengths
abbrev pub as_stopped : Option Code → TurnStep → TurnStep
as_stopped None step = step
as_stopped (Some code) step = record step { taken = 0; due = OneUnit; code = Some code }

pub record TurnJobs : Type 0 where
  pub tables : TablesModel
  pub running : List TurnStep
  pub failed : List FailedRun

-- the running step of a run
abbrev pub running_in : TurnJobs → ℕ → Option TurnStep
running_in jobs run = find (λ step. step.run == run) jobs.running

-- whether a run was running when the system failed, and the operator wasn't asked for it since
abbrev pub is_failed : TurnJobs → ℕ → Bool
is_failed jobs run = list_any (λ (one : FailedRun). one.run == run && not one.asked) jobs.failed

-- whether he was
abbrev pub is_asked : TurnJobs → ℕ → Bool
is_asked jobs run = list_any (λ (one : FailedRun). one.run == run && one.asked) jobs.failed

-- the code of a run that was running when the system failed
abbrev pub system_failure : Code
system_failure = System 755

-- the code with which a run waits for the operator's word
abbrev pub waiting_code : TurnJobs → ℕ → Option Code
waiting_code jobs run = if is_asked jobs run then Some system_failure else option_map_or (λ step. step.code) (running_in jobs run) None

-- the name of the step that a run is before or in
abbrev pub step_name_of : RunRow → Name
step_name_of row = option_map_or (λ owned. owned.step.name) (step_of_run row (step_in (place_of row))) []

-- the entry of a run's checkpoint in effect
abbrev pub effect_entry : TablesModel → RunRow → Option KeptEntry
effect_entry tables row = option_map_or (λ effect. kept_at tables.sets effect.set effect.kept.id) row.in_effect None
