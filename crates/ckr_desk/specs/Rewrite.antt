-- A record written again in its place, and what a stop within it leaves.
use Rattle.std.specs.Prelude.{◌≡◌, ◌⊎◌, ℕ, List, Some}
use Rattle.ckr_events.specs.declared.event.Event.{Event}
use Rattle.ckr_events.specs.declared.event.Event.TheVariants.{Rewritten}
use Rattle.ckr_desk_refines.specs.Memory.Rewrite.{updated_by}
use Rattle.ckr_library.specs.NameMaps.{Name, entry_at}
use Rattle.ckr_outside.specs.Faults.{Rose}
use Rattle.ckr_points.specs.Rows.{RunRow, TableSet, TablesModel, run_of}
use Rattle.ckr_desk_refines.specs.Moves.{DiffersAt, IsWritten}
use Rattle.ckr_desk_store.specs.OpenImages.{event_records, Opens}
use Rattle.ckr_volumes.specs.declared.layout.Layout.{Layout}
use Rattle.ckr_desk.specs.declared.error.DeskError.{DeskError}
use Rattle.ckr_desk.specs.declared.error.DeskError.TheVariants.{DiskFault}
use Rattle.ckr_desk.specs.State.{DeskView}

-- the disk opens with the same events
abbrev pub OpensSame : {D : Type 0} → (D → List ℕ) → (D → ℕ) → DeskView D → List ℕ → Type 0
OpensSame content size old image =
    Opens old.store.layout (size old.store.disk) (λ records. records ≡ event_records old.store.layout (content old.store.disk)) image

-- the image lacks at most the record that an event tells, by the tables behind it
abbrev pub LacksAtMost : Layout → TablesModel → Event → List ℕ → List ℕ → Type 0
LacksAtMost layout tables (Rewritten job taken writes lengths place image) before after =
    (row : RunRow) (name : Name) (table : TableSet) → run_of tables job ≡ Some row → updated_by row ≡ Some name → entry_at tables.sets name ≡ Some table
    → DiffersAt layout table.set place before after
LacksAtMost layout tables _ before after = ⊥

-- each of these images is the bytes before, or lacks at most that record
abbrev pub LackAtMost : Layout → TablesModel → Event → List ℕ → (List ℕ → Type 0) → Type 0
LackAtMost layout tables event before images = (image : List ℕ) → images image → (image ≡ before) ⊎ LacksAtMost layout tables event before image

-- an image of a stop while the record is written that an event tells, by the tables behind it
abbrev pub IsLackingBy : {D : Type 0} → (D → List ℕ) → (D → ℕ) → Event → DeskView D → List ℕ → Type 0
IsLackingBy content size event old image =
    OpensSame content size old image
    × ((image ≡ content old.store.disk) ⊎ LacksAtMost old.store.layout old.jobs.tables.desk event (content old.store.disk) image)

-- the record that an event tells is written, by the tables behind it
abbrev pub IsWrittenBy : Layout → TablesModel → Event → List ℕ → List ℕ → Type 0
IsWrittenBy layout tables (Rewritten job taken writes lengths place image) before after =
    (row : RunRow) (name : Name) (table : TableSet) → run_of tables job ≡ Some row → updated_by row ≡ Some name → entry_at tables.sets name ≡ Some table
    → IsWritten layout table.set place image before after
IsWrittenBy layout tables _ before after = after ≡ before

-- only the disk failed: its faults rose
abbrev pub IsFault : ℕ → ℕ → DeskError → Type 0
IsFault before now DiskFault = Rose before now
IsFault before now _ = ⊥
