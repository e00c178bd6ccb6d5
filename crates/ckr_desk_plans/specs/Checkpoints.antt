-- The event of the next checkpoint of a running step: it commits what the step has written, and its data set for checkpoints is as long as behind
-- the entry (IBM GC28-6708).
use Rattle.std.specs.Prelude.{map, Some}
use Rattle.ckr_events.specs.declared.event.Event.{Event}
use Rattle.ckr_events.specs.declared.event.Event.TheVariants.{Checkpointed}
use Rattle.ckr_library.specs.NameMaps.{Name}
use Rattle.ckr_meaning.specs.EffectiveJob.{OwnedStep}
use Rattle.ckr_points.specs.Rows.{RunRow, TableSet, TablesModel}
use Rattle.ckr_points_library.specs.Commit.{output_names}
use Rattle.ckr_steps.specs.Units.{taken_of}
use Rattle.ckr_desk_plans.specs.Entries.{entry_bytes, entry_end, next_id}
use Rattle.ckr_desk_plans.specs.EntryMarks.{length_behind}
use Rattle.ckr_desk_plans.specs.StepView.{RunningStepView}

-- the event of the entry that begins behind the last record of this data set
abbrev pub event_in_set : TablesModel → RunRow → OwnedStep → RunningStepView → Name → TableSet → Event
event_in_set tables row own on check table =
    Checkpointed row.number (next_id row own) (taken_of on.step.state) on.step.writes
    (record { items = map (length_behind (Some check) (entry_end check table tables row own on) on.sets.sets) (output_names row.job.root own) })
    table.set.length (entry_bytes check tables row own on)
