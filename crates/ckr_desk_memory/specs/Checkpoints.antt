-- The next checkpoint of a running step, where its entry fits: the event commits what the step has written, and its data set for checkpoints is
-- as long as behind the entry (IBM GC28-6708).
use Rattle.std.specs.Prelude.{◌≡◌, ◌≤◌, ◌+◌, true, length, Some}
use Rattle.ckr_entry.specs.Entry.{spelling}
use Rattle.ckr_library.specs.Catalog.{records_of}
use Rattle.ckr_library.specs.NameMaps.{Name, entry_at}
use Rattle.ckr_meaning.specs.EffectiveJob.{OwnedStep}
use Rattle.ckr_points.specs.Rows.{RunRow, TableSet, TablesModel, run_of, step_of_run}
use Rattle.ckr_points_tables.specs.Checkpoint.{checkpoint_name}
use Rattle.ckr_volumes.specs.Layouts.{StandsIn}
use Rattle.ckr_volumes.specs.declared.layout.Layout.{Layout}
use Rattle.ckr_desk_plans.specs.declared.checkpoint.Checkpoint.{Checkpoint}
use Rattle.ckr_desk_plans.specs.Entries.{entry_end, entry_to, fits_in, step_now}
use Rattle.ckr_desk_plans.specs.EntryTypes.{IsFormedWithState, IsTyped}
use Rattle.ckr_desk_memory.specs.Invariant.{AreJobs}
use Rattle.ckr_desk_memory.specs.View.{JobsView, RunningStepView}
pub use Rattle.ckr_desk_plans.specs.Checkpoints.{event_in_set}

-- A checkpoint that fits is that of the step that its run is in, with the data set for checkpoints as the tables have it. What its entry has
-- is as its types have it, so it is one that is read back where its state has the form of its program's states.
pub record IsCheckpointOf (tables : TablesModel) (on : RunningStepView) (made : Checkpoint) : Type 0 where
  pub row : RunRow
  pub own : OwnedStep
  pub row_at : run_of tables on.run ≡ Some row
  pub found : step_of_run row (step_now row) ≡ Some own
  pub check : Name
  pub table : TableSet
  pub named : checkpoint_name row.job.root own ≡ Some check
  pub there : entry_at tables.sets check ≡ Some table
  pub fits : fits_in check table tables row own on ≡ true
  pub entry : made.entry.items ≡ spelling (entry_to (Some check) (entry_end check table tables row own on) tables row own on)
  pub set : made.set ≡ table.set
  pub event : made.event ≡ event_in_set tables row own on check table
  pub typed : IsTyped on.step.state
  pub form : IsFormedWithState (entry_to (Some check) (entry_end check table tables row own on) tables row own on)

-- its data set stands in the layout, and has the entry's records of 256 bytes behind its last one
pub record HasEntrySpace (layout : Layout) (made : Checkpoint) : Type 0 where
  pub stands : StandsIn layout made.set
  pub records : made.set.lrecl ≡ 256
  pub space : made.set.length + records_of (length made.entry.items) ≤ made.set.space

-- in some layout the jobs are as they are to be
abbrev pub HasLayout : JobsView → Type 0
HasLayout jobs = (layout : Layout) × AreJobs layout jobs
