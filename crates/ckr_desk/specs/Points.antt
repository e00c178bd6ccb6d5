-- The points of checkpoints in effect that opening reads: where the steps of their runs stand.
use Rattle.std.specs.Prelude.{◌≡◌, ℕ, true, find, List, Option, Some, Ok}
use Rattle.ckr_entry.specs.Entry.{IsEntry, entry_in}
use Rattle.ckr_entry.specs.Parts.{Entry}
use Rattle.ckr_library.specs.NameMaps.{entry_at}
use Rattle.ckr_points.specs.Office.{is_holder}
use Rattle.ckr_points.specs.Rows.{EffectPoint, RunRow, TableSet, TablesModel, run_of}
use Rattle.ckr_steps.specs.EntryRecords.{bytes_on}
use Rattle.ckr_volumes.specs.declared.layout.Layout.{Layout}
use Rattle.ckr_desk.specs.Entries.{state_in}
use Rattle.ckr_desk_refines.specs.DiskEntries.EntryRefusal.{is_of_run}
use Rattle.ckr_desk_refines.specs.DiskEntries.StepState.{StepState}
use Rattle.ckr_desk_refines.specs.Memory.EventChanges.{is_point_of}
use Rattle.ckr_desk_refines.specs.Memory.View.{PointView}
use Rattle.ckr_desk.specs.declared.error.OpenError.{OpenError}
use Rattle.ckr_desk.specs.declared.error.OpenError.TheVariants as OpenErrors

-- the point of a run whose step stands so
abbrev pub point_at : ℕ → StepState → PointView
point_at run state = record { run = run; state = state.state; writes = state.writes }

-- where an entry has the step of a run
abbrev pub point_in : ℕ → Entry → PointView
point_in run entry = point_at run (state_in entry)

-- a point is where an entry has the step that its run is in; it is the entry of the checkpoint in effect, if the disk tells what it holds
pub record IsPointRead (told : Type 0) (layout : Layout) (tables : TablesModel) (image : List ℕ) (row : RunRow) (effect : EffectPoint) (point : PointView) : Type 0 where
  pub entry : Entry
  pub form : IsEntry entry
  pub its : is_of_run row entry ≡ true
  pub is : point ≡ point_in row.number entry
  pub read : told → (table : TableSet) → entry_at tables.sets effect.set ≡ Some table → entry_in (bytes_on image layout table.set effect.kept.place effect.kept.bytes) ≡ Ok entry

-- the first point of a run is that of its checkpoint in effect
pub record HasPointRead (told : Type 0) (layout : Layout) (tables : TablesModel) (image : List ℕ) (number : ℕ) (row : RunRow) (effect : EffectPoint) (points : List PointView) : Type 0 where
  pub point : PointView
  pub found : find (is_point_of number) points ≡ Some point
  pub read : IsPointRead told layout tables image row effect point

-- so it is with each run that holds its names and has one
abbrev pub ArePointsRead : Type 0 → Layout → TablesModel → List ℕ → List PointView → Type 0
ArePointsRead told layout tables image points =
    (number : ℕ) (row : RunRow) (effect : EffectPoint) → run_of tables number ≡ Some row → is_holder row.state ≡ true → row.in_effect ≡ Some effect
    → HasPointRead told layout tables image number row effect points

-- why entries were read no further: one of them is refused, or wasn't read
abbrev pub EntriesCause : Type 0 → Type 0 → Option (ℕ × ℕ) → OpenError → Type 0
EntriesCause rose told refused OpenErrors.NoMemory = Unit {0}
EntriesCause rose told refused OpenErrors.Fault = rose
EntriesCause rose told refused (OpenErrors.BadEntry job offset) = told → refused ≡ Some (job, offset)
EntriesCause rose told refused _ = ⊥
