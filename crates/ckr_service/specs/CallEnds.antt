-- How a call ends.
use Rattle.std.specs.Prelude.{◌≡◌, ◌≤◌, ℕ, ◌==◌, ◌||◌, Bool, true, false, List, length, Option, Result, Ok, Err}
use Rattle.std.specs.Io.KnownBytes.{Consumes, Keeps}
use Rattle.ckr_console.specs.Answering.{Answering}
use Rattle.ckr_outside.specs.Faults.{Rose}
use Rattle.ckr_session.specs.Model.Layout.{Layout}
use Rattle.ckr_desk_format.specs.declared.command.FormatOutcome.{FormatOutcome}
use Rattle.ckr_desk_format.specs.declared.command.FormatOutcome.TheVariants as Outcomes
use Rattle.ckr_desk_format.specs.Formats.{Ends, CausedBy}
use Rattle.ckr_session.specs.Model.OpenError.{OpenError}
use Rattle.ckr_session.specs.Model.OpenError.TheVariants as OpenErrors
use Rattle.ckr_session.specs.Model.Replay.{OpenCause}
use Rattle.ckr_session.specs.Model.State.{RoomyDesk}
use Rattle.ckr_session.specs.declared.stop.Stop.{Stop}
use Rattle.ckr_session.specs.declared.stop.Stop.TheVariants as Stops
use Rattle.ckr_service.specs.Feeds.{Faults, Serving}
use Rattle.ckr_session.specs.Staff.{staffed_with}

-- ---- a stream

-- the disk isn't opened; or the stream is served to its end, or up to a cause
pub data RunEnd : Type 0 where
  NotOpened : (error : OpenError) → RunEnd
  Ended : (outcome : Result Bool Stop) → RunEnd

abbrev pub opening_status : OpenError → ℕ
opening_status OpenErrors.NoMemory = 7
opening_status OpenErrors.Fault = 6
opening_status _ = 2

abbrev pub serving_status : Result Bool Stop → ℕ
serving_status (Ok false) = 0
serving_status (Ok true) = 8
serving_status (Err Stops.Book) = 3
serving_status (Err Stops.Source) = 4
serving_status (Err Stops.Sink) = 5
serving_status (Err Stops.Disk) = 6
serving_status (Err Stops.Memory) = 7
serving_status (Err Stops.Limit) = 9

-- the stream was served to its end
abbrev pub is_whole : ℕ → Bool
is_whole status = status == 0 || status == 8

abbrev pub status_of : RunEnd → ℕ
status_of (NotOpened error) = opening_status error
status_of (Ended outcome) = serving_status outcome

-- The disk isn't opened for this cause, and nothing is taken or written. `leaves` says what became of the disk.
pub record IsNotOpened (told : Type 0) (opening : Result RoomyDesk OpenError) (leaves : OpenError → Type 0) (error : OpenError) (faults : Faults) (source rest old new : Option (List ℕ)) : Type 0 where
  pub cause : OpenCause (Rose faults.disk_before faults.disk_now) told opening error
  pub left : leaves error
  pub takes_nothing : Keeps source rest
  pub writes_nothing : Keeps old new

-- The disk is opened, where it is trusted in this state of the desk, and from there the stream is served, by the answers of these operators, who
-- take office in order. `each` says what a stop leaves meanwhile, by the layout and the events that came, and `has` which events the disk has in the
-- end, in what it reads and whatever a stop then leaves.
pub record IsOpened (told trusted : Type 0) (opening : Result RoomyDesk OpenError) (operators : List Answering) (each : Layout → List (List ℕ) → Type 0) (has : Layout → (List (List ℕ) → Type 0) → Type 0) (outcome : Result Bool Stop) (faults : Faults) (source rest old new : Option (List ℕ)) : Type 0 where
  pub state : RoomyDesk
  pub opens : told → (desk : RoomyDesk) × (opening ≡ Ok desk)
  pub opened : trusted → opening ≡ Ok state
  pub serving : Serving trusted (each state.desk.layout) (has state.desk.layout) (staffed_with operators state) outcome faults source rest old new

abbrev pub EndsSo : Type 0 → Type 0 → Result RoomyDesk OpenError → List Answering → (OpenError → Type 0) → (Layout → List (List ℕ) → Type 0) → (Layout → (List (List ℕ) → Type 0) → Type 0) → RunEnd → Faults → Option (List ℕ) → Option (List ℕ) → Option (List ℕ) → Option (List ℕ) → Type 0
EndsSo told trusted opening operators leaves each has (NotOpened error) faults source rest old new = IsNotOpened told opening leaves error faults source rest old new
EndsSo told trusted opening operators leaves each has (Ended outcome) faults source rest old new = IsOpened told trusted opening operators each has outcome faults source rest old new

-- at most so many bytes are taken
pub record TakesAtMost (most : ℕ) (source rest : Option (List ℕ)) : Type 0 where
  pub taken : List ℕ
  pub given : Consumes source rest taken
  pub few : length taken ≤ most

-- how a run ended with a status, where these operators took office in order
pub record HasRun (told trusted : Type 0) (opening : Result RoomyDesk OpenError) (operators : List Answering) (leaves : OpenError → Type 0) (each : Layout → List (List ℕ) → Type 0) (has : Layout → (List (List ℕ) → Type 0) → Type 0) (status : ℕ) (faults : Faults) (source rest old new : Option (List ℕ)) : Type 0 where
  pub end : RunEnd
  pub is : status ≡ status_of end
  pub takes : TakesAtMost 16_777_217 source rest
  pub so : EndsSo told trusted opening operators leaves each has end faults source rest old new

-- ---- formatting

abbrev pub formatting_status : FormatOutcome → ℕ
formatting_status Outcomes.Formatted = 0
formatting_status Outcomes.SourceFailed = 4
formatting_status Outcomes.SinkFailed = 5
formatting_status Outcomes.DiskFailed = 6
formatting_status Outcomes.NoMemory = 7
formatting_status Outcomes.Refused = 8
formatting_status Outcomes.TooLong = 9

-- How a disk was formatted with a status: what was read, done and written. `formatted` says that the disk is formatted by a
-- layout, `formats` that nothing but what formatting by it does has become of the disk at any moment, `same` that it is as before;
-- `sound` that whatever a stop leaves of it opens.
pub record HasFormatted (told : Type 0) (size : ℕ) (formatted formats : Layout → Type 0) (same sound : Type 0) (status : ℕ) (faults : Faults) (left rest old new : Option (List ℕ)) : Type 0 where
  pub outcome : FormatOutcome
  pub is : status ≡ formatting_status outcome
  pub ends : Ends outcome left rest size formatted formats same old new
  pub cause : CausedBy outcome (Rose faults.source_before faults.source_now) (Rose faults.sink_before faults.sink_now) (Rose faults.disk_before faults.disk_now)
  pub opens : outcome ≡ Outcomes.Formatted → told → sound
