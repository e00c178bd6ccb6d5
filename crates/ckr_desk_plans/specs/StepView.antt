-- A running step as it is seen, and the lengths that its outputs have by now.
use Rattle.std.specs.Prelude.{ℕ, List, [], map, Option}
use Rattle.std.specs.Option.{option_map_or}
use Rattle.ckr_points_library.specs.Commit.{output_names}
use Rattle.ckr_base.specs.declared.code.Code.{Code}
use Rattle.ckr_library.specs.Catalog.{Catalog, Holding}
use Rattle.ckr_library.specs.NameMaps.{Name, Named, entry_at}
use Rattle.ckr_meaning.specs.EffectiveJob.{OwnedStep}
use Rattle.ckr_points.specs.Restart.{place_of, step_in}
use Rattle.ckr_points.specs.Rows.{RunRow, step_of_run}
use Rattle.ckr_steps.specs.declared.step_run.StepRun.{StepRun}
use Rattle.ckr_desk_plans.specs.declared.running_step.RunningStep.{RunningStep}

-- a running step: its run, its program, its data sets with the lengths that they have by now, and the code with which its run waits for the operator's
-- word, if it does
pub record RunningStepView : Type 0 where
  pub run : ℕ
  pub step : StepRun
  pub sets : Catalog
  pub code : Option Code

abbrev pub step_seen : RunningStep → RunningStepView
step_seen on = record { run = on.run; step = on.step; sets = on.sets; code = on.code }

abbrev pub length_in : Named Holding → Name → ℕ
length_in sets name = option_map_or (λ (holding : Holding). holding.set.length) (entry_at sets name) 0

-- the lengths of its outputs, in the order of their DDs
abbrev pub lengths_in : Named Holding → ℕ → OwnedStep → List ℕ
lengths_in sets root owned = map (length_in sets) (output_names root owned)

abbrev pub lengths_of_row : Named Holding → RunRow → List ℕ
lengths_of_row sets row = option_map_or (lengths_in sets row.job.root) (step_of_run row (step_in (place_of row))) []
