-- A running step beside the tables: its run is in that step, and what the step may change the tables have as the step has it, but for the
-- records that aren't committed yet.
use Rattle.std.specs.Prelude.{◌≡◌, ◌≢◌, ◌≤◌, ◌+◌, ℕ, true, IsSome, find, List, [], ◌∷◌, Option, None, Some}
use Rattle.std.specs.List.{AllByRecursion}
use Rattle.ckr_events.specs.declared.event.Event.{Event}
use Rattle.ckr_events.specs.declared.event.Event.TheVariants.{Checkpointed, Rewritten}
use Rattle.ckr_library.specs.Catalog.{Holding, records_of, set_of}
use Rattle.ckr_library.specs.NameMaps.{Name, Named, entry_at}
use Rattle.ckr_library.specs.declared.sets.DataSet.{DataSet}
use Rattle.ckr_meaning.specs.EffectiveJob.{OwnedStep, is_among}
use Rattle.ckr_points.specs.Follows.{is_update, is_within, own_step}
use Rattle.ckr_points.specs.Restart.{place_of}
use Rattle.ckr_points.specs.Rows.{RunRow, TableSet, TablesModel, run_of}
use Rattle.ckr_points.specs.Tables.{is_updates, name_with_role}
use Rattle.ckr_points.specs.declared.run.RunState.TheVariants.{On}
use Rattle.ckr_desk_plans.specs.Model.Commit.{output_names}
use Rattle.ckr_points_tables.specs.Checkpoint.{checkpoint_name}
use Rattle.ckr_desk_plans.specs.Model.Files.{files_of}
use Rattle.ckr_desk_plans.specs.Model.Units.{program_of}
use Rattle.ckr_desk_memory.specs.EventChanges.{is_of_run, with_entry_end, without_first}
use Rattle.ckr_desk_memory.specs.View.{RunningStepView, length_in}
use Rattle.ckr_desk_memory.specs.Holders.{changed_names}

-- a data set of the tables and the step's own copy: the step's may be longer
pub record IsCopy (table own : DataSet) : Type 0 where
  pub lrecl : own.lrecl ≡ table.lrecl
  pub space : own.space ≡ table.space
  pub length : table.length ≤ own.length

-- both are there, and are so
abbrev pub AreCopies : Option TableSet → Option DataSet → Type 0
AreCopies None own = ⊥
AreCopies (Some table) None = ⊥
AreCopies (Some table) (Some own) = IsCopy table.set own

-- where both are there, they are as long
abbrev pub AreEven : Option TableSet → Option DataSet → Type 0
AreEven None own = Unit {0}
AreEven (Some table) None = Unit {0}
AreEven (Some table) (Some own) = own.length ≡ table.set.length

-- A running step is that of its run, which is on an initiator and within it. What the step may change the tables have as the step has it, and what
-- it updates they have at the same length.
pub record IsRunningOf (tables : TablesModel) (on : RunningStepView) : Type 0 where
  pub row : RunRow
  pub owned : OwnedStep
  pub row_at : run_of tables on.run ≡ Some row
  pub state : row.state ≡ On
  pub within : is_within (place_of row) ≡ true
  pub found : own_step row ≡ Some owned
  pub program : program_of on.step.state ≡ owned.step.program
  pub parm : on.step.parm ≡ owned.step.parm
  pub files : on.step.files ≡ files_of row.job.root owned.owner owned.step
  pub changed : (name : Name) → is_among (changed_names row.job.root owned) name ≡ true → AreCopies (entry_at tables.sets name) (set_of on.sets name)
  pub updated : is_update owned.step.program ≡ true
      → AreEven (entry_at tables.sets (name_with_role row.job.root owned is_updates)) (set_of on.sets (name_with_role row.job.root owned is_updates))

-- ---- what an event commits

-- lengths that are at most those of the data sets of these names
abbrev pub AreUpTo : Named Holding → List Name → List ℕ → Type 0
AreUpTo sets [] lengths = Unit {0}
AreUpTo sets (name ∷ names) [] = Unit {0}
AreUpTo sets (name ∷ names) (most ∷ lengths) = (most ≤ length_in sets name) × AreUpTo sets names lengths

-- the lengths that a run commits are at most those that its running step has
abbrev pub IsCommitted : ℕ → List ℕ → TablesModel → RunningStepView → Type 0
IsCommitted job lengths tables on =
    on.run ≡ job → (row : RunRow) (owned : OwnedStep) → run_of tables job ≡ Some row → own_step row ≡ Some owned
    → AreUpTo on.sets.sets (output_names row.job.root owned) lengths

-- those of a checkpoint are at most the ones that it has with its data set for checkpoints so long
abbrev pub IsCommittedWith : ℕ → ℕ → List ℕ → TablesModel → RunningStepView → Type 0
IsCommittedWith most job lengths tables on =
    on.run ≡ job → (row : RunRow) (owned : OwnedStep) → run_of tables job ≡ Some row → own_step row ≡ Some owned
    → AreUpTo (with_entry_end (checkpoint_name row.job.root owned) most on.sets.sets) (output_names row.job.root owned) lengths

-- a running step is of another run
abbrev pub IsOfOther : ℕ → RunningStepView → Type 0
IsOfOther run on = on.run ≢ run

-- so it is with an event behind which the step goes on; a checkpoint is that of the only running step of its run
abbrev pub CommitsItsOwn : Event → TablesModel → List RunningStepView → Type 0
CommitsItsOwn (Rewritten job taken writes lengths place image) tables running = AllByRecursion (IsCommitted job lengths.items tables) running
CommitsItsOwn (Checkpointed job id taken writes lengths place bytes) tables running =
    AllByRecursion (IsCommittedWith (place + records_of bytes) job lengths.items tables) running × AllByRecursion (IsOfOther job) (without_first job running) × IsSome (find (is_of_run job) running)
CommitsItsOwn _ tables running = Unit {0}
