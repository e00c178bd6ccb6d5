-- How much room there is for events, and that it becomes no less.
use Rattle.std.specs.Prelude.{◌≡◌, ◌≤◌, ◌<◌, ℕ, zero, suc, List, length, sum_by, Option, None, Some}
use Rattle.ckr_entry.specs.declared.point.Passed.{Passed}
use Rattle.ckr_library.specs.Catalog.{Catalog, HasSet, KeepsEntryRoom, entry_room}
use Rattle.ckr_library.specs.NameMaps.{Name}
use Rattle.ckr_meaning.specs.EffectiveJob.{OwnedStep, names_of_job, step_at}
use Rattle.ckr_base.specs.RoomyLists.{Roomy}
use Rattle.ckr_points_runs.specs.declared.run_table.RunTable.{RunTable}
use Rattle.ckr_points_runs.specs.declared.run_table.WrittenEntry.{WrittenEntry}
use Rattle.ckr_points_runs.specs.declared.spare.Spare.{Spare}
use Rattle.ckr_points_runs.specs.Checkpoint.{checkpoint_name}
use Rattle.ckr_points_runs.specs.StepEnd.{HasPassedRoom}
use Rattle.ckr_points_tables.specs.Invariant.{entries_at, room_at}
use Rattle.ckr_points_runs.specs.Needs.{step_now}
use Rattle.ckr_points_runs.specs.RunJobs.{JobView, effective}
use Rattle.ckr_points_tables.specs.View.{TablesRoom, RunRoom, kept_room}

-- how many DDs steps have
abbrev pub dds_of : List OwnedStep → ℕ
dds_of steps = sum_by (λ (own : OwnedStep). length own.step.dds) steps

-- a run has no less room than before
pub record HasNoLess (old new : RunRoom) : Type 0 where
  pub points : old.points ≤ new.points
  pub codes : old.codes ≤ new.codes
  pub passed : old.passed ≤ new.passed

-- there is no less room than before
pub record IsRoomier (old new : TablesRoom) : Type 0 where
  pub sets : old.sets ≤ new.sets
  pub kept : (name : Name) → kept_room old.kept name ≤ kept_room new.kept name
  pub runs : old.runs ≤ new.runs
  pub lines : old.lines ≤ new.lines
  pub sorted : old.sorted ≤ new.sorted
  pub marks : old.marks ≤ new.marks
  pub passed : old.passed ≤ new.passed
  pub each : (job : ℕ) (one two : RunRoom) → room_at old job ≡ Some one → room_at new job ≡ Some two → HasNoLess one two
  pub writings : old.writings ≤ new.writings
  pub entries : (job one two : ℕ) → entries_at old job ≡ Some one → entries_at new job ≡ Some two → one ≤ two

-- the library and the spare lists have no less room than before
pub record AreRoomier (library_old library_new : Catalog) (spare_old spare_new : Spare) : Type 0 where
  pub sets : library_old.room ≤ library_new.room
  pub kept : KeepsEntryRoom library_old library_new
  pub sorted : spare_old.sorted.room ≤ spare_new.sorted.room
  pub marks : spare_old.marks.room ≤ spare_new.marks.room
  pub passed : spare_old.passed.room ≤ spare_new.passed.room

-- room for the marks of a run's names, and for what it passed on
pub record FitsPoint (run : ℕ) (job : JobView) (passed_on : List Passed) (spare : Spare) : Type 0 where
  pub sorted : length (names_of_job (effective run job)) ≤ spare.sorted.room
  pub marks : length (names_of_job (effective run job)) ≤ spare.marks.room
  pub passed : length passed_on ≤ spare.passed.room

-- room for the start of any step of a run
pub record StartsFit (run : ℕ) (table : RunTable) (library : Catalog) (spare : Spare) : Type 0 where
  pub room : FitsPoint run table.job table.passed.items spare
  pub points : 0 < table.points.room
  pub sets : 16 ≤ library.room

-- room for one more entry in the data set of a name, if it is there
abbrev pub HasRoomFor : Catalog → Option Name → Type 0
HasRoomFor library None = Unit {0}
HasRoomFor library (Some name) = HasSet library name (λ _. Unit {0}) → 0 < entry_room library name

abbrev pub KeepsFit : Catalog → ℕ → Option OwnedStep → Type 0
KeepsFit library root None = Unit {0}
KeepsFit library root (Some own) = HasRoomFor library (checkpoint_name root own)

-- room for a checkpoint of a run in the step that it is in
pub record EntryFits (run : ℕ) (table : RunTable) (written : Roomy WrittenEntry) (library : Catalog) (spare : Spare) : Type 0 where
  pub point : FitsPoint run table.job table.passed.items spare
  pub entries : 0 < written.room
  pub few : table.count < 4294967295
  pub kept : KeepsFit library table.job.root (step_at (effective run table.job) (step_now table))

-- room for the end of the step that a run is before or in
pub record EndsFit (run : ℕ) (old new : RunTable) : Type 0 where
  pub passed : HasPassedRoom new.passed.room (step_at (effective run old.job) (step_now old))
  pub codes : 0 < new.codes.room

-- no run of these has this number
abbrev pub HasNoPlace : ℕ → ℕ → Type 0
HasNoPlace zero count = Unit {0}
HasNoPlace (suc place) count = count ≤ place
