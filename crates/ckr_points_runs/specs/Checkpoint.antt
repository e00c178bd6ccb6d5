-- What a checkpoint needs of its run and of the library.
use Rattle.std.specs.Prelude.{◌<◌, ◌+◌, ℕ, IsSome, IsTrue, List, find, Option, None, Some}
use Rattle.std.specs.Option.{option_and_then}
use Rattle.ckr_base.specs.RoomyLists.{Roomy}
use Rattle.ckr_jcl.specs.declared.deck.Dd.{Dd}
use Rattle.ckr_jcl.specs.declared.deck.Step.{Step}
use Rattle.ckr_library.specs.Catalog.{Catalog, entry_room, records_of}
use Rattle.ckr_library.specs.NameMaps.{Name}
use Rattle.ckr_meaning.specs.EffectiveJob.{OwnedStep, name_of, step_at}
use Rattle.ckr_points.specs.Follows.{is_length_of}
use Rattle.ckr_points.specs.Tables.{is_checkpoints, name_with_role}
use Rattle.ckr_points_library.specs.Commit.{output_names}
use Rattle.ckr_points_runs.specs.RunJobs.{effective}
use Rattle.ckr_points_runs.specs.declared.run_table.RunTable.{RunTable}
use Rattle.ckr_points_runs.specs.declared.run_table.WrittenEntry.{WrittenEntry}
use Rattle.ckr_points_runs.specs.declared.spare.Spare.{Spare}
use Rattle.ckr_points_runs.specs.Start.{HasPointRoom}
use Rattle.ckr_points_runs.specs.StepEnd.{AreLengthsOf}

abbrev pub checkpoint_dd : Step → Option Dd
checkpoint_dd step = find (λ (dd : Dd). is_checkpoints dd.role) step.dds

-- the name of the checkpoint data set of a step
abbrev pub checkpoint_name : ℕ → OwnedStep → Option Name
checkpoint_name root own = option_and_then (name_of root own) (checkpoint_dd own.step)

-- a step has a checkpoint data set
abbrev pub HasCheckpoints : ℕ → Option OwnedStep → Type 0
HasCheckpoints root None = ⊥
HasCheckpoints root (Some own) = IsSome (checkpoint_name root own)

-- room for one more entry of the checkpoint data set
abbrev pub HasRoomNow : Catalog → Option Name → Type 0
HasRoomNow library None = Unit {0}
HasRoomNow library (Some name) = 0 < entry_room library name

-- the checkpoint data set is an output of the step, which gets this length, and there is room for one more entry of it
pub record IsKeeping (root place bytes : ℕ) (lengths : List ℕ) (library : Catalog) (own : OwnedStep) : Type 0 where
  pub output : IsTrue (is_length_of (name_with_role root own is_checkpoints) (place + records_of bytes) (output_names root own) lengths)
  pub room : HasRoomNow library (checkpoint_name root own)

abbrev pub MayKeep : ℕ → ℕ → ℕ → List ℕ → Catalog → Option OwnedStep → Type 0
MayKeep root place bytes lengths library None = Unit {0}
MayKeep root place bytes lengths library (Some own) = IsKeeping root place bytes lengths library own

-- what a checkpoint needs
pub record MayCheckpoint (run step place bytes : ℕ) (lengths : List ℕ) (table : RunTable) (written : Roomy WrittenEntry) (library : Catalog) (spare : Spare) : Type 0 where
  pub fits : AreLengthsOf table.job.root lengths library.sets (step_at (effective run table.job) step)
  pub point : HasPointRoom run table spare
  pub entries : 0 < written.room
  pub few : table.count < 4294967295
  pub keeps : MayKeep table.job.root place bytes lengths library (step_at (effective run table.job) step)
