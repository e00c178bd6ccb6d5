-- What stays where a call of the desk wasn't done.
use Rattle.std.specs.Prelude.{◌≡◌, ℕ, false, List, find, Some}
use Rattle.ckr_desk_refines.specs.Memory.EventChanges.{is_point_of}
use Rattle.ckr_desk_refines.specs.Memory.View.{JobsView}
use Rattle.ckr_outside.specs.Disk.{NoneNew}
use Rattle.ckr_points.specs.Follows.{is_in_state, of_run}
use Rattle.ckr_points.specs.declared.run.RunState.TheVariants.{Queued}
use Rattle.ckr_desk_store.specs.State.{StoreView}
use Rattle.ckr_desk.specs.State.{DeskView}
use Rattle.ckr_desk.specs.declared.error.DeskError.{DeskError}
use Rattle.ckr_desk.specs.declared.error.DeskError.TheVariants.{NoMemory, DiskFault, BookFull, Stopped}

-- The jobs are as before: the tables, the running steps and the failed runs are the same, and so is the point of each run; but the checkpoint may have been
-- read at which a run that waits in the queue is to go on.
pub record HaveStayed (old new : JobsView) : Type 0 where
  pub tables : new.tables.desk ≡ old.tables.desk
  pub running : new.running ≡ old.running
  pub failed : new.failed ≡ old.failed
  pub points : (run : ℕ) → of_run old.tables.desk run (is_in_state Queued) ≡ false → find (is_point_of run) new.points ≡ find (is_point_of run) old.points

-- The jobs, the layout and the room of the book are as before, and the desk is open as before; the disk reads the same, and a stop
-- leaves no image that it might not have left before.
pub record IsUnchanged {D : Type 0} (content : D → List ℕ) (may_leave : D → List ℕ → Type 0) (old new : DeskView D) : Type 0 where
  pub jobs : HaveStayed old.jobs new.jobs
  pub store : new.store ≡ record old.store { disk = new.store.disk }
  pub reads : content new.store.disk ≡ content old.store.disk
  pub none_new : NoneNew (may_leave old.store.disk) (may_leave new.store.disk)

-- after a fault of the disk the store has stopped
abbrev pub HasHalted : {D : Type 0} → (D → ℕ) → StoreView D → DeskError → Type 0
HasHalted faults store DiskFault = store.fault ≡ Some (faults store.disk)
HasHalted faults store _ = Unit {0}

-- want of memory, a full book and a desk that had stopped leave all as it was, and a fault stops the desk
abbrev pub StaysBy : {D : Type 0} → (D → List ℕ) → (D → List ℕ → Type 0) → (D → ℕ) → DeskView D → DeskView D → DeskError → Type 0
StaysBy content may_leave faults old new NoMemory = IsUnchanged content may_leave old new
StaysBy content may_leave faults old new DiskFault = new.store.fault ≡ Some (faults new.store.disk)
StaysBy content may_leave faults old new (BookFull need room) = IsUnchanged content may_leave old new
StaysBy content may_leave faults old new (Stopped fault) = IsUnchanged content may_leave old new

-- once a unit is done, only the disk can fail
abbrev pub IsOfDisk : DeskError → Type 0
IsOfDisk DiskFault = Unit {0}
IsOfDisk _ = ⊥
