-- Which images of a disk are sound, and what a desk keeps of its disk.
use Rattle.std.specs.Prelude.{◌≡◌, ℕ, List, [], ◌∷◌, ◌++◌, length, Option, Result, Ok, Err}
use Rattle.std.specs.List.{flat_map}
use Rattle.ckr_book.specs.Book.{room_of}
use Rattle.ckr_events.specs.declared.event.Event.{Event}
use Rattle.ckr_events.specs.Event.{event_of}
use Rattle.ckr_desk_refines.specs.Memory.Replay.{deck_of}
use Rattle.ckr_desk_refines.specs.Entries.{HasEntries}
use Rattle.ckr_outside.specs.Disk.{EachSince}
use Rattle.ckr_points.specs.Events.{AreSound}
use Rattle.ckr_points.specs.Office.{Office, no_office, office}
use Rattle.ckr_points.specs.Restart.{Decked}
use Rattle.ckr_points.specs.Rows.{no_tables}
use Rattle.ckr_desk_refines.specs.Standing.{StandsForDesk, desk_seen}
use Rattle.ckr_desk_store.specs.OpenImages.{Opens, event_records}
use Rattle.ckr_desk_turn.specs.Desk.{opened as opened_desk}
use Rattle.ckr_volumes.specs.declared.layout.Layout.{Layout}
use Rattle.ckr_desk.specs.declared.error.OpenError.{OpenError}
use Rattle.ckr_desk_refines.specs.RewriteRecord.{HasCommittedAgain, HasLast, last_event}
use Rattle.ckr_desk.specs.Opening.{behind_records, opened_at, opening_of}
use Rattle.ckr_desk.specs.State.{Opened, RoomyDesk, DeskView}

-- ---- the events of a disk

abbrev pub decked_by : Result Event ℕ → List Decked
decked_by (Ok event) = (event, deck_of event) ∷ []
decked_by (Err offset) = []

-- the events that records of a book spell, each with the deck of its cards
abbrev pub events_in : List (List ℕ) → List Decked
events_in records = flat_map (λ bytes. decked_by (event_of bytes)) records

-- what the events of an image have brought about
unfoldable pub office_on : Layout → List ℕ → Office
office_on layout image = office (events_in (event_records layout image))

-- the last of its events
unfoldable pub last_on : Layout → List ℕ → Option Event
last_on layout image = last_event (events_in (event_records layout image))

-- ---- opening

abbrev pub desk_of_opened : List ℕ → Result Opened OpenError → Result RoomyDesk OpenError
desk_of_opened image (Err error) = Err error
desk_of_opened image (Ok opened) = Ok (record { desk = opened_desk opened.layout (office_on opened.layout image); room = opened.room })

-- how the desk stands that a disk of this size opens to which reads these bytes, or the first reason why there is none
unfoldable pub desk_opening : List ℕ → ℕ → Result RoomyDesk OpenError
desk_opening image size = desk_of_opened image (opening_of image size)

-- the desk to which a disk opens that is just formatted by a layout: there is no job, and the whole book is free
abbrev pub fresh_desk : Layout → RoomyDesk
fresh_desk layout = record { desk = opened_desk layout no_office; room = layout.book }

-- ---- sound images

-- An image opens, so that its events are those of a desk; each of them may come and carries what its job gives; and the image
-- has what they have committed, once the record is written again that the last of them tells, and the entries of checkpoints that they keep,
-- each with the state that its program had there.
pub record Sound (size : ℕ) (image : List ℕ) : Type 0 where
  pub layout : Layout
  pub room : ℕ
  pub opens : opening_of image size ≡ Ok (opened_at layout (office_on layout image).tables room)
  pub events : AreSound layout (events_in (event_records layout image))
  pub committed : HasCommittedAgain layout (office_on layout image) (last_on layout image) image
  pub last : HasLast (office_on layout image) (last_on layout image)
  pub entries : HasEntries layout (office_on layout image) image

-- a disk tells what it holds, and whatever a stop leaves of it is sound
pub record AllSound {D : Type 0} (told : Type 0) (may_leave : D → List ℕ → Type 0) (size : D → ℕ) (disk : D) : Type 0 where
  pub tells : told
  pub sound : (image : List ℕ) → may_leave disk image → Sound (size disk) image

-- a stop leaves a sound image that has the events before, and the first of those that came then
pub record HasKept (layout : Layout) (size : ℕ) (before came : List (List ℕ)) (image : List ℕ) : Type 0 where
  pub sound : Sound size image
  pub front : List (List ℕ)
  pub more : List (List ℕ)
  pub split : came ≡ front ++ more
  pub events : event_records layout image ≡ before ++ front

-- ---- a desk on a disk that tells what it holds

module _ {D : Type 0} (content : D → List ℕ) where
  -- the desk of the events, and the room of the book
  abbrev pub state_of : DeskView D → RoomyDesk
  state_of desk = record {
    desk = desk_seen desk.store.layout (office_on desk.store.layout (content desk.store.disk)) desk.jobs;
    room = room_of desk.store.book;
  }

module _ {D : Type 0} (told : Type 0) (content : D → List ℕ) (may_leave : D → List ℕ → Type 0) where
  -- The disk tells what it holds. Its events are sound and have brought about the tables; the jobs in memory stand for the desk of the events; each image opens with
  -- the same events, and has what they have committed, once the record is written again that the last of them tells; and what the disk reads has the entries that they
  -- keep, as each image has.
  pub record IsTrusted (desk : DeskView D) : Type 0 where
    pub tells : told
    pub opens : behind_records desk.store.layout no_tables 0 (event_records desk.store.layout (content desk.store.disk)) ≡ Ok desk.jobs.tables.desk
    pub events : AreSound desk.store.layout (events_in (event_records desk.store.layout (content desk.store.disk)))
    pub stands : StandsForDesk desk.store.layout desk.jobs (content desk.store.disk) (state_of content desk).desk
    pub last : HasLast (office_on desk.store.layout (content desk.store.disk)) (last_on desk.store.layout (content desk.store.disk))
    pub opens_left : (image : List ℕ) → may_leave desk.store.disk image
        → Opens desk.store.layout (length image) (λ records. records ≡ event_records desk.store.layout (content desk.store.disk)) image
    pub committed : (image : List ℕ) → may_leave desk.store.disk image
        → HasCommittedAgain desk.store.layout (office_on desk.store.layout (content desk.store.disk)) (last_on desk.store.layout (content desk.store.disk)) image
    pub entries : HasEntries desk.store.layout (office_on desk.store.layout (content desk.store.disk)) (content desk.store.disk)
    pub entries_left : (image : List ℕ) → may_leave desk.store.disk image → HasEntries desk.store.layout (office_on desk.store.layout (content desk.store.disk)) image

module _ {D : Type 0} (content : D → List ℕ) (moment : D → ℕ) (left_since : D → ℕ → List ℕ → Type 0) (size : D → ℕ) where
  -- a stop at any moment from one desk to the other leaves such an image
  abbrev pub KeepsWithin : DeskView D → DeskView D → List (List ℕ) → Type 0
  KeepsWithin old new came = EachSince moment left_since old.store.disk new.store.disk
      (HasKept old.store.layout (size old.store.disk) (event_records old.store.layout (content old.store.disk)) came)
