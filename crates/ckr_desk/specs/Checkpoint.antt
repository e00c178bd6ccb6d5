-- The checkpoint that is due in a running step, on any disk: what it comes to before anything is written, and the entry that is written.
use Rattle.std.specs.Prelude.{◌≡◌, ◌<◌, ℕ, false, true, List, find, length, None, Some}
use Rattle.std.specs.Option.{is_some}
use Rattle.ckr_book.specs.Book.{room_of}
use Rattle.ckr_desk_refines.specs.Memory.Checkpoint.{Checkpoint}
use Rattle.ckr_desk_refines.specs.Memory.Checkpoints.{HasEntrySpace, IsCheckpointOf}
use Rattle.ckr_desk_refines.specs.Memory.Entries.{next_entry, next_id}
use Rattle.ckr_desk_turn.specs.Checkpoints.{id_in}
use Rattle.ckr_desk_refines.specs.Memory.EventChanges.{is_of_run}
use Rattle.ckr_desk_refines.specs.Memory.OwnSets.{CommitsItsOwn}
use Rattle.ckr_desk_refines.specs.Memory.View.{RunningStepView}
use Rattle.ckr_library.specs.Catalog.{records_of}
use Rattle.ckr_meaning.specs.EffectiveJob.{OwnedStep}
use Rattle.ckr_outside.specs.Disk.{Only}
use Rattle.ckr_points.specs.Rows.{RunRow}
use Rattle.ckr_steps.specs.EntryRecords.{ChangesRecords, HasEntry, StemsFromRecords}
use Rattle.ckr_desk_store.specs.OpenImages.{event_records}
use Rattle.ckr_points.specs.declared.reply.Chkpt.{Chkpt}
use Rattle.ckr_points.specs.declared.reply.Chkpt.TheVariants.{Done, NotWritten}
use Rattle.ckr_points.specs.declared.reply.Reply.{Reply}
use Rattle.ckr_points.specs.declared.reply.Reply.TheVariants.{Checkpointed}
use Rattle.ckr_desk_turn.specs.Spelling.{IsSpelled}
use Rattle.ckr_desk.specs.declared.checkpoint.Attempt.{Attempt}
use Rattle.ckr_desk.specs.declared.checkpoint.Attempt.TheVariants.{Fit, Unfit}
use Rattle.ckr_desk.specs.declared.error.DeskError.{DeskError}
use Rattle.ckr_desk.specs.declared.error.DeskError.TheVariants.{NoMemory, BookFull}
use Rattle.ckr_desk.specs.declared.preparation.Ready.{Ready}
use Rattle.ckr_desk.specs.Calls.{IsSame, may_follow}
use Rattle.ckr_desk.specs.Preparation.{IsReady}
use Rattle.ckr_desk.specs.Rewrite.{OpensSame}
use Rattle.ckr_desk.specs.State.{DeskView, need_of}
use Rattle.ckr_desk.specs.Units.{IsAt}

-- ---- before it is written

-- the reply of a checkpoint with this code: it names the step, and the next entry's identifier
pub record IsReplyWith {D : Type 0} (run : ℕ) (desk : DeskView D) (code : Chkpt) (reply : Reply) : Type 0 where
  pub on : RunningStepView
  pub row : RunRow
  pub own : OwnedStep
  pub at : IsAt run desk on row own
  pub is : reply ≡ Checkpointed row.number own.step.name code (id_in (next_id row own))

-- no entry fits
pub record IsUnfit {D : Type 0} (run : ℕ) (desk : DeskView D) (reply : Reply) : Type 0 where
  pub reply_is : IsReplyWith run desk NotWritten reply
  pub none : is_some (next_entry desk.jobs.tables.desk reply_is.row reply_is.own reply_is.on) ≡ false

-- A checkpoint that fits: its entry goes behind the last record of its data set, which has the space, and its event follows, whatever the
-- disk reads, and commits what the step has.
pub record IsMade {D : Type 0} (run : ℕ) (desk : DeskView D) (made : Checkpoint) : Type 0 where
  pub on : RunningStepView
  pub found : find (is_of_run run) desk.jobs.running ≡ Some on
  pub of : IsCheckpointOf desk.jobs.tables.desk on made
  pub space : HasEntrySpace desk.store.layout made
  pub spelled : IsSpelled made.event
  pub follows : may_follow made.event None desk ≡ true
  pub commits : CommitsItsOwn made.event desk.jobs.tables.desk desk.jobs.running

-- its event is ready
pub record IsAttemptWritten {D : Type 0} (run : ℕ) (desk : DeskView D) (made : Checkpoint) (ready : Ready) (reply : Reply) : Type 0 where
  pub its : IsMade run desk made
  pub ready_for : IsReady made.event None desk ready
  pub reply_is : IsReplyWith run desk Done reply

-- what the checkpoint comes to
abbrev pub IsAttempt : {D : Type 0} → ℕ → DeskView D → Attempt → Type 0
IsAttempt run desk (Unfit reply) = IsUnfit run desk reply
IsAttempt run desk (Fit made ready reply) = IsAttemptWritten run desk made ready reply

-- the book has no room for the event of a checkpoint that fits: what it needs, and the room that is left
pub record HasNoRoomFor {D : Type 0} (run : ℕ) (desk : DeskView D) (need room : ℕ) : Type 0 where
  pub made : Checkpoint
  pub its : IsMade run desk made
  pub needed : need ≡ need_of made.event
  pub left : room ≡ room_of desk.store.book
  pub full : room_of desk.store.book < need_of made.event

-- why it wasn't worked out; nothing has changed
abbrev pub NotAttempted : {D : Type 0} → ℕ → DeskView D → DeskView D → DeskError → Type 0
NotAttempted run old new NoMemory = IsSame old new
NotAttempted run old new (BookFull need room) = HasNoRoomFor run old need room × IsSame old new
NotAttempted run old new _ = ⊥

-- ---- its entry

module _ {D : Type 0} (content : D → List ℕ) (may_leave : D → List ℕ → Type 0) (size : D → ℕ) where
  -- an image of a stop while an entry is written: it opens with the same events, and only records of the entry differ from one of before
  abbrev pub IsLeftByEntry : Checkpoint → DeskView D → List ℕ → Type 0
  IsLeftByEntry made old image =
      OpensSame content size old image × StemsFromRecords old.store.layout made.set made.set.length (records_of (length made.entry.items)) (may_leave old.store.disk) image

-- the entry is behind the last record of its data set, for good; the other records, the events and the jobs are the same
pub record HasWrittenEntry {D : Type 0} (told : Type 0) (content : D → List ℕ) (may_leave : D → List ℕ → Type 0) (moment : D → ℕ) (left_since : D → ℕ → List ℕ → Type 0) (made : Checkpoint) (old new : DeskView D) : Type 0 where
  pub entry : told → HasEntry (content new.store.disk) old.store.layout made.set made.set.length made.entry.items
  pub changes : ChangesRecords told content may_leave moment left_since old.store.layout made.set made.set.length (records_of (length made.entry.items)) old.store.disk new.store.disk
  pub events : told → event_records old.store.layout (content new.store.disk) ≡ event_records old.store.layout (content old.store.disk)
  pub settled : Only (content new.store.disk) (may_leave new.store.disk)
  pub jobs : new.jobs ≡ old.jobs
  pub store : new.store ≡ record old.store { disk = new.store.disk }
