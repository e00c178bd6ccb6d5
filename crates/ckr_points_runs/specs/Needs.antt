-- What an event needs of its run, of the library and of the spare places.
use Rattle.std.specs.Prelude.{ℕ}
use Rattle.ckr_events.specs.declared.event.Event.{Event}
use Rattle.ckr_events.specs.declared.event.Event.TheVariants.{Started, Rewritten, Checkpointed, StepEnded, Ended}
use Rattle.ckr_base.specs.RoomyLists.{Roomy}
use Rattle.ckr_library.specs.Catalog.{Catalog}
use Rattle.ckr_points_runs.specs.declared.run_table.RunTable.{RunTable}
use Rattle.ckr_points_runs.specs.declared.run_table.WrittenEntry.{WrittenEntry}
use Rattle.ckr_points_runs.specs.declared.spare.Spare.{Spare}
use Rattle.ckr_points_runs.specs.Checkpoint.{MayCheckpoint}
use Rattle.ckr_points_runs.specs.RunChange.{place_now}
use Rattle.ckr_points_runs.specs.StepEnd.{MayEnd, MayEndStep, MayRewrite}
use Rattle.ckr_points.specs.Restart.{step_in}
use Rattle.ckr_points_runs.specs.View.{facts_of}
use Rattle.ckr_points_runs.specs.Start.{MayStartNow}

abbrev pub step_now : RunTable → ℕ
step_now table = step_in (place_now (facts_of table))

abbrev pub MayChange : Event → ℕ → RunTable → Roomy WrittenEntry → Catalog → Spare → Type 0
MayChange (Started job step items) run table entries library spare = MayStartNow run step items.items table library spare
MayChange (Rewritten job taken writes lengths place image) run table entries library spare = MayRewrite run (step_now table) lengths.items table library
MayChange (Checkpointed job id taken writes lengths place bytes) run table entries library spare = MayCheckpoint run (step_now table) place bytes lengths.items table entries library spare
MayChange (StepEnded job step rc writes lengths) run table entries library spare = MayEndStep run (step_now table) lengths.items table library
MayChange (Ended job ending) run table entries library spare = MayEnd run (step_now table) ending table library
MayChange _ run table entries library spare = Unit {0}
