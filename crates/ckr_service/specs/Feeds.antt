-- A stream from the source to the sink.
use Rattle.std.specs.Prelude.{◌≡◌, ℕ, ◌≤◌, Bool, true, List, [], ◌++◌, length, take, Option, Result, Ok, Err, unwrap_or}
use Rattle.std.specs.Io.KnownBytes.{Appends, Consumes, IsAtEnd}
use Rattle.ckr_outside.specs.Faults.{Rose}
use Rattle.ckr_session.specs.declared.stop.Stop.{Stop}
use Rattle.ckr_session.specs.declared.stop.Stop.TheVariants as Stops
use Rattle.ckr_service.specs.declared.flow.Flow.{Flow}
use Rattle.ckr_session.specs.declared.counts.Counts.{Counts}
use Rattle.ckr_session.specs.Calls.{after_all, all_fit, calls}
use Rattle.ckr_session.specs.Counts.{counts_behind}
use Rattle.ckr_session.specs.Tallies.{with_answers}
use Rattle.ckr_session.specs.Events.{events_told}
use Rattle.ckr_session.specs.Stops.{Comes}
use Rattle.ckr_session.specs.Service.{View, StopsWithin, Caused}
use Rattle.ckr_service.specs.Flows.{StreamProgress}
use Rattle.ckr_session.specs.Staff.{StaffedDesk}
use Rattle.ckr_service.specs.Stream.{requests_of, text_of, has_refusal, ended_requests, ended_text}

-- these are all of the text for the bytes of a stream, and whether a line or a deck of it is refused
pub record IsAnswered (state : StaffedDesk) (refused : Bool) (all : List ℕ) (old new : Option (List ℕ)) : Type 0 where
  pub fits : all_fit state (requests_of all) ≡ true
  pub written : Appends old new (text_of state all)
  pub refusals : refused ≡ has_refusal state all

-- The stream was read to its end: these are all of its bytes. Where the disk is trusted, all of the text for them is written, and their events
-- came and were kept. `each` says what a stop meanwhile leaves, by the events that came, and `has` which events the disk has in the end, in what it
-- reads and whatever a stop then leaves.
pub record IsServed (trusted : Type 0) (each : List (List ℕ) → Type 0) (has : (List (List ℕ) → Type 0) → Type 0) (state : StaffedDesk) (refused : Bool) (left rest old new : Option (List ℕ)) : Type 0 where
  pub all : List ℕ
  pub given : Consumes left rest all
  pub end : IsAtEnd rest
  pub few : length all ≤ 16_777_216
  pub answered : trusted → IsAnswered state refused all old new
  pub came : trusted → each (events_told state (requests_of all)) × has (λ these. these ≡ events_told state (requests_of all))

-- The stream was read to its end, and from one view to the other it was served: where the disk is trusted, the desk stands behind all of its requests,
-- and the replies to them are counted.
pub record IsBehind (trusted : Type 0) (first last : View) (left rest : Option (List ℕ)) : Type 0 where
  pub all : List ℕ
  pub given : Consumes left rest all
  pub end : IsAtEnd rest
  pub state : trusted → last.state ≡ after_all first.state (requests_of all)
  pub tally : trusted → last.tally ≡ with_answers first.tally (calls first.state (requests_of all))

-- The stream was read to its end, and this is what it came to where the disk is trusted.
pub record IsCounted (trusted : Type 0) (state : StaffedDesk) (counts : Counts) (left rest : Option (List ℕ)) : Type 0 where
  pub all : List ℕ
  pub given : Consumes left rest all
  pub end : IsAtEnd rest
  pub counted : trusted → counts ≡ counts_behind state (requests_of all)

-- how often the source, the sink and the disk had failed, before and after
pub record Faults : Type 0 where
  pub source_before : ℕ
  pub source_now : ℕ
  pub sink_before : ℕ
  pub sink_now : ℕ
  pub disk_before : ℕ
  pub disk_now : ℕ

-- why the serving of a stream stopped behind these bytes
abbrev pub StopCause : Type 0 → Stop → Faults → List ℕ → Type 0
StopCause trusted Stops.Source faults taken = Rose faults.source_before faults.source_now
StopCause trusted Stops.Limit faults taken = length taken ≡ 16_777_217
StopCause trusted Stops.Sink faults taken = Caused trusted Stops.Sink faults.sink_before faults.sink_now faults.disk_before faults.disk_now
StopCause trusted Stops.Memory faults taken = Caused trusted Stops.Memory faults.sink_before faults.sink_now faults.disk_before faults.disk_now
StopCause trusted Stops.Book faults taken = Caused trusted Stops.Book faults.sink_before faults.sink_now faults.disk_before faults.disk_now
StopCause trusted Stops.Disk faults taken = Caused trusted Stops.Disk faults.sink_before faults.sink_now faults.disk_before faults.disk_now

-- the items that end within the bytes were served: their text is written, and their events came and were kept
pub record HasServed (state : StaffedDesk) (bytes : List ℕ) (old new : Option (List ℕ)) (came kept : List (List ℕ)) : Type 0 where
  pub fits : all_fit state (ended_requests bytes) ≡ true
  pub written : Appends old new (ended_text state bytes)
  pub came_is : came ≡ events_told state (ended_requests bytes)
  pub kept_is : kept ≡ came

-- what is written then, where all the bytes of the stream are these, and which events came and were kept
abbrev pub StopsAt : Stop → Faults → StaffedDesk → List ℕ → List ℕ → Option (List ℕ) → Option (List ℕ) → List (List ℕ) → List (List ℕ) → Type 0
StopsAt Stops.Source faults state taken all old new came kept = HasServed state taken old new came kept
StopsAt Stops.Limit faults state taken all old new came kept = HasServed state (take 16_777_216 taken) old new came kept
StopsAt Stops.Sink faults state taken all old new came kept = StopsWithin Stops.Sink faults.sink_before faults.sink_now state (requests_of all) old new came kept
StopsAt Stops.Memory faults state taken all old new came kept = StopsWithin Stops.Memory faults.sink_before faults.sink_now state (requests_of all) old new came kept
StopsAt Stops.Book faults state taken all old new came kept = StopsWithin Stops.Book faults.sink_before faults.sink_now state (requests_of all) old new came kept
StopsAt Stops.Disk faults state taken all old new came kept = StopsWithin Stops.Disk faults.sink_before faults.sink_now state (requests_of all) old new came kept

-- The serving stopped: these bytes were taken. Where the disk is trusted, this is written of the text for the whole stream, and of its events
-- these came, and these were kept.
pub record IsStopped (trusted : Type 0) (each : List (List ℕ) → Type 0) (has : (List (List ℕ) → Type 0) → Type 0) (state : StaffedDesk) (stop : Stop) (faults : Faults) (left rest old new : Option (List ℕ)) : Type 0 where
  pub taken : List ℕ
  pub given : Consumes left rest taken
  pub few : length taken ≤ 16_777_217
  pub cause : StopCause trusted stop faults taken
  pub stops : trusted → Comes each has (StopsAt stop faults state taken (taken ++ unwrap_or rest []) old new)

abbrev pub faults_of : ℕ → ℕ → ℕ → ℕ → ℕ → ℕ → Faults
faults_of a b c d e f = record { source_before = a; source_now = b; sink_before = c; sink_now = d; disk_before = e; disk_now = f }

-- how the serving of a stream ended that began in this state of the desk
abbrev pub Serving : Type 0 → (List (List ℕ) → Type 0) → ((List (List ℕ) → Type 0) → Type 0) → StaffedDesk → Result Bool Stop → Faults → Option (List ℕ) → Option (List ℕ) → Option (List ℕ) → Option (List ℕ) → Type 0
Serving trusted each has state (Ok refused) faults left rest old new = IsServed trusted each has state refused left rest old new
Serving trusted each has state (Err stop) faults left rest old new = IsStopped trusted each has state stop faults left rest old new

module _ {D O : Type 0} (content : D → List ℕ) where
  -- so many bytes were given, and where the disk is trusted, they were served up to the line that waits
  pub record Feeding (trusted : Type 0) (first : View) (f : Flow D O) (count : ℕ) (left rest old now : Option (List ℕ)) : Type 0 where
    pub taken : List ℕ
    pub given : Consumes left rest taken
    pub counted : length taken ≡ count
    pub progress : trusted → StreamProgress content first taken f old now

  -- all bytes were given
  pub record FedAll (trusted : Type 0) (first : View) (f : Flow D O) (left rest old now : Option (List ℕ)) : Type 0 where
    pub all : List ℕ
    pub given : Consumes left rest all
    pub end : IsAtEnd rest
    pub few : length all ≤ 16_777_216
    pub progress : trusted → StreamProgress content first all f old now
