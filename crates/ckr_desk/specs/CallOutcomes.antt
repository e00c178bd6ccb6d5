-- What every call of the desk keeps, and what a call comes to where the desk is trusted.
use Rattle.std.specs.Prelude.{◌≡◌, ◌≤◌, ◌++◌, ℕ, true, List, Option, Result, Err, IfErr, IfSome, OnOk}
use Rattle.ckr_events.specs.declared.event.Event.{Event}
use Rattle.ckr_desk_store.specs.OpenImages.{event_records}
use Rattle.ckr_desk.specs.declared.error.DeskError.{DeskError}
use Rattle.ckr_desk.specs.declared.error.DeskError.TheVariants.{Stopped}
use Rattle.ckr_desk.specs.NoChange.{StaysBy}
use Rattle.ckr_desk.specs.Requests.{FailsBy, MayFail, has_room, spelled}
use Rattle.ckr_desk.specs.Soundness.{IsTrusted, state_of}
use Rattle.ckr_desk.specs.State.{DeskView, IsOpen, RoomyDesk, disk_of, fault_of, layout_of, room_left}

-- What each call keeps on any disk. Behind Ok the desk is open; the layout and the size of the disk stay, and its count of faults never falls. A
-- desk that had stopped answers so; and it is said why a call fails, and what stays then.
pub record KeepsDesk {D T : Type 0} (content : D → List ℕ) (may_leave : D → List ℕ → Type 0) (faults size : D → ℕ) (old new : DeskView D) (result : Result T DeskError) : Type 0 where
  pub is_open : OnOk result (IsOpen new)
  pub same_layout : layout_of new ≡ layout_of old
  pub same_size : size (disk_of new) ≡ size (disk_of old)
  pub never_falls : faults (disk_of old) ≤ faults (disk_of new)
  pub stopped : IfSome (fault_of old) (λ fault. result ≡ Err (Stopped fault))
  pub may_fail : IfErr result (MayFail (faults (disk_of old)) (faults (disk_of new)) (fault_of old))
  pub stays : IfErr result (StaysBy content may_leave faults old new)

-- What a call comes to from a desk that is trusted, by its event, if it has one, and how the desk stands behind it. It is done only where the
-- book has room for the event. Then the desk stands so and is trusted, and the events on the disk are those before and the one of the call.
-- Where it isn't done, a full book tells its numbers, and the disk reads what was written.
pub record HasComeTo {D T : Type 0} (told : Type 0) (content : D → List ℕ) (may_leave : D → List ℕ → Type 0) (event : Option Event) (behind : RoomyDesk) (old new : DeskView D) (result : Result T DeskError) : Type 0 where
  pub fits : OnOk result (has_room (room_left old) event ≡ true)
  pub after : OnOk result (state_of content new ≡ behind)
  pub events : OnOk result (event_records (layout_of old) (content (disk_of new)) ≡ event_records (layout_of old) (content (disk_of old)) ++ spelled event)
  pub trusted : OnOk result (IsTrusted told content may_leave new)
  pub cause : IfErr result (FailsBy (room_left old) event)
