-- The desk on its disk: the open disk, the jobs in memory, and the machine room.
use Rattle.std.specs.Prelude.{◌≡◌, ℕ, ◌+◌, List, length, Option, None}
use Rattle.ckr_book.specs.Book.{room_of}
use Rattle.ckr_events.specs.declared.event.Event.{Event}
use Rattle.ckr_events.specs.Event.{spelling}
use Rattle.ckr_desk_refines.specs.Memory.Invariant.{AreJobs}
use Rattle.ckr_desk_refines.specs.Memory.OwnSteps.{AreLeft, HoldTheirOwn}
use Rattle.ckr_desk_refines.specs.Memory.View.{JobsView}
use Rattle.ckr_points.specs.Rows.{TablesModel}
use Rattle.ckr_desk_store.specs.State.{IsSound, StoreView}
use Rattle.ckr_desk_turn.specs.declared.failed_run.FailedRun.{FailedRun}
use Rattle.ckr_desk_turn.specs.Desk.{DeskModel}
pub use Rattle.ckr_desk_turn.specs.MachineRoom.{MachineRoomView, room_at_first}
use Rattle.ckr_desk_turn.specs.Queue.{AreNumbered}
use Rattle.ckr_volumes.specs.declared.layout.Layout.{Layout}

pub record DeskView (D : Type 0) : Type 0 where
  pub store : StoreView D
  pub jobs : JobsView
  pub machine_room : MachineRoomView

-- ---- what a desk has

-- the disk
abbrev pub disk_of : {D : Type 0} → DeskView D → D
disk_of desk = desk.store.disk

-- its layout
abbrev pub layout_of : {D : Type 0} → DeskView D → Layout
layout_of desk = desk.store.layout

-- the room of its book
abbrev pub room_left : {D : Type 0} → DeskView D → ℕ
room_left desk = room_of desk.store.book

-- the fault of the disk at which the desk has stopped, if it has
abbrev pub fault_of : {D : Type 0} → DeskView D → Option ℕ
fault_of desk = desk.store.fault

-- the operator, and the volumes on the units
abbrev pub machine_room_of : {D : Type 0} → DeskView D → MachineRoomView
machine_room_of desk = desk.machine_room

-- it hasn't stopped
abbrev pub IsOpen : {D : Type 0} → DeskView D → Type 0
IsOpen desk = fault_of desk ≡ None

-- the tables of the jobs in memory
abbrev pub tables_in_memory : {D : Type 0} → DeskView D → TablesModel
tables_in_memory desk = desk.jobs.tables.desk

-- The jobs are such as a layout has them, on any disk: they hold their own, their runs are numbered, and those that were running when the system failed are
-- on an initiator and within a step.
pub record AreKept (layout : Layout) (jobs : JobsView) : Type 0 where
  pub are : AreJobs layout jobs
  pub own : HoldTheirOwn jobs
  pub left : AreLeft jobs
  pub numbered : AreNumbered 1 jobs.tables.desk.runs

-- so they are in the layout of the desk's disk, whose store is sound
pub record IsKept {D : Type 0} (content : D → List ℕ) (may_leave : D → List ℕ → Type 0) (size : D → ℕ) (desk : DeskView D) : Type 0 where
  pub jobs : AreKept desk.store.layout desk.jobs
  pub store : IsSound content may_leave size desk.store

-- the room of the book that an event needs: its gate, its length, its bytes and the next gate
abbrev pub need_of : Event → ℕ
need_of event = length (spelling event) + 6

-- what a disk was opened to: its layout, the tables behind its events, the runs that were running, and the room of its book
pub record Opened : Type 0 where
  pub layout : Layout
  pub tables : TablesModel
  pub failed : List FailedRun
  pub room : ℕ

abbrev pub opened_of : {D : Type 0} → DeskView D → Opened
opened_of desk = record {
  layout = desk.store.layout;
  tables = desk.jobs.tables.desk;
  failed = desk.jobs.failed;
  room = room_of desk.store.book;
}

-- how a desk stands between two calls: with what its events have brought about, and the room that is left in the book
pub record RoomyDesk : Type 0 where
  pub desk : DeskModel
  pub room : ℕ
