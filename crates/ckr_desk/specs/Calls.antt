-- What a call of the desk does whose event is this one, on any disk.
use Rattle.std.specs.Prelude.{◌≡◌, ◌≤◌, ◌<◌, ◌+◌, ◌++◌, ◌∷◌, ◌&&◌, ◌⊎◌, [], ℕ, Bool, true, List, length, Option, Some, None}
use Rattle.ckr_book.specs.Book.{IsBeforeOrAfter, room_of}
use Rattle.ckr_events.specs.declared.event.Event.{Event}
use Rattle.ckr_events.specs.Event.{spelling}
use Rattle.ckr_desk_refines.specs.Memory.RewriteCounts.{may_count}
use Rattle.ckr_jcl.specs.declared.deck.Job.{Job}
use Rattle.ckr_outside.specs.Disk.{Only}
use Rattle.ckr_points.specs.Follows.{follows}
use Rattle.ckr_points.specs.Restart.{Decked}
use Rattle.ckr_desk_refines.specs.Moves.{HasSameRecords, HaveMoved}
use Rattle.ckr_desk_store.specs.Answers.{HasFailed}
use Rattle.ckr_desk_store.specs.OpenImages.{event_records, Opens}
use Rattle.ckr_desk.specs.declared.error.DeskError.{DeskError}
use Rattle.ckr_desk.specs.declared.error.DeskError.TheVariants.{NoMemory, DiskFault, BookFull, Stopped}
use Rattle.ckr_desk.specs.State.{DeskView, need_of}

-- whether an event follows
abbrev pub may_follow : {D : Type 0} → Event → Option Job → DeskView D → Bool
may_follow event deck desk = follows desk.store.layout desk.jobs.tables.desk event deck

-- and no count of rewrites is at its end
abbrev pub may_keep : {D : Type 0} → Event → Option Job → DeskView D → Bool
may_keep event deck desk = may_follow event deck desk && may_count event desk.jobs.tables.desk.sets

-- the jobs in memory are behind the event, and the disk is open still
pub record HasGoneOn {D : Type 0} (event : Event) (deck : Option Job) (old new : DeskView D) : Type 0 where
  pub might : may_keep event deck old ≡ true
  pub moved : HaveMoved event deck old.jobs new.jobs
  pub layout : new.store.layout ≡ old.store.layout
  pub is_open : new.store.fault ≡ old.store.fault
  pub fits : need_of event ≤ room_of old.store.book
  pub room : room_of new.store.book + (length (spelling event) + 5) ≡ room_of old.store.book

-- what the jobs are is the same
pub record HasSameJobs {D : Type 0} (old new : DeskView D) : Type 0 where
  pub tables : new.jobs.tables.desk ≡ old.jobs.tables.desk
  pub running : new.jobs.running ≡ old.jobs.running
  pub failed : new.jobs.failed ≡ old.jobs.failed
  pub points : new.jobs.points ≡ old.jobs.points

-- what the jobs are is the same, and so is the disk
pub record IsSame {D : Type 0} (old new : DeskView D) : Type 0 where
  pub jobs : HasSameJobs old new
  pub store : new.store ≡ old.store

-- a call without an event leaves all as it was
abbrev pub HasDone : {D : Type 0} → Option Decked → DeskView D → DeskView D → Type 0
HasDone None old new = new ≡ old
HasDone (Some call) old new = HasGoneOn call.0 call.1 old new

-- the events of the book behind a call
abbrev pub with_event : List (List ℕ) → Option Decked → List (List ℕ)
with_event before None = before
with_event before (Some call) = before ++ spelling call.0 ∷ []

-- a call without an event fails for want of memory alone
abbrev pub NotAsked : {D : Type 0} → DeskView D → DeskView D → DeskError → Type 0
NotAsked old new NoMemory = IsSame old new
NotAsked old new DiskFault = ⊥
NotAsked old new (BookFull need room) = ⊥
NotAsked old new (Stopped fault) = (old.store.fault ≡ Some fault) × IsSame old new

module _ {D : Type 0} (faults : D → ℕ) where
  -- why an event that follows and is ready isn't kept: the disk failed
  abbrev pub NotEntered : DeskView D → DeskView D → DeskError → Type 0
  NotEntered old new DiskFault = HasFailed faults old.store new.store × HasSameJobs old new
  NotEntered old new _ = ⊥

  -- why an event that follows isn't kept
  abbrev pub NotKept : Event → Option Job → DeskView D → DeskView D → DeskError → Type 0
  NotKept event deck old new NoMemory = IsSame old new
  NotKept event deck old new DiskFault = HasFailed faults old.store new.store × HasSameJobs old new
  NotKept event deck old new (BookFull need room) = (need ≡ need_of event) × (room ≡ room_of old.store.book) × (room < need) × IsSame old new
  NotKept event deck old new (Stopped fault) = (old.store.fault ≡ Some fault) × IsSame old new

  -- why a call isn't done
  abbrev pub NotDone : Option Decked → DeskView D → DeskView D → DeskError → Type 0
  NotDone None old new error = NotAsked old new error
  NotDone (Some call) old new error = NotKept call.0 call.1 old new error

-- ---- what a stop leaves

-- An image of a stop within a call that keeps an event: one that the disk might have left before, without the event; or, where the event may
-- be kept, one that has the events before, or the event too, and the same records.
abbrev pub IsLeftBy : {D : Type 0} → (D → List ℕ) → (D → List ℕ → Type 0) → (D → ℕ) → Event → Option Job → DeskView D → List ℕ → Type 0
IsLeftBy content may_leave size event deck old image =
    (Opens old.store.layout (size old.store.disk) (λ records. records ≡ event_records old.store.layout (content old.store.disk)) image × may_leave old.store.disk image)
    ⊎ ((may_keep event deck old ≡ true)
    × Opens old.store.layout (size old.store.disk) (IsBeforeOrAfter (event_records old.store.layout (content old.store.disk)) (spelling event)) image
    × HasSameRecords old.store.layout (content old.store.disk) image)

-- an image of a stop within a call that is one event with its deck, or none
abbrev pub IsLeftByCall : {D : Type 0} → (D → List ℕ) → (D → List ℕ → Type 0) → (D → ℕ) → Option Decked → DeskView D → List ℕ → Type 0
IsLeftByCall content may_leave size None old image = may_leave old.store.disk image
IsLeftByCall content may_leave size (Some call) old image = IsLeftBy content may_leave size call.0 call.1 old image

-- behind an event a stop leaves what a read gives
abbrev pub IsSettledBehind : {D : Type 0} → (D → List ℕ) → (D → List ℕ → Type 0) → Option Event → DeskView D → Type 0
IsSettledBehind content may_leave None new = Unit {0}
IsSettledBehind content may_leave (Some event) new = Only (content new.store.disk) (may_leave new.store.disk)
