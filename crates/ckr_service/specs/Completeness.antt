-- A call comes to its end where nothing fails and there is room, unless it finds no memory.
use Rattle.std.specs.Prelude.{◌≡◌, ◌≤◌, ◌⊎◌, ℕ, true, List, length, Option, Some, Result, Ok, Err}
use Rattle.std.specs.Str.Lines.{lines}
use Rattle.ckr_console.specs.Answering.{Answering}
use Rattle.ckr_outside.specs.Faults.{Rose}
use Rattle.ckr_session.specs.Model.OpenError.{OpenError}
use Rattle.ckr_session.specs.Model.Soundness.{fresh_desk}
use Rattle.ckr_session.specs.Model.State.{RoomyDesk}
use Rattle.ckr_desk_format.specs.Installation.{installation_of}
use Rattle.ckr_session.specs.Calls.{all_fit}
use Rattle.ckr_service.specs.CallEnds.{serving_status}
use Rattle.ckr_service.specs.Feeds.{Faults}
use Rattle.ckr_service.specs.MadeDisk.{made_layout}
use Rattle.ckr_service.specs.MadeStream.{made_size, made_stream}
use Rattle.ckr_session.specs.Staff.{StaffedDesk, staffed_with}
use Rattle.ckr_service.specs.Stream.{has_refusal, requests_of}

-- neither the source, the sink nor the disk failed meanwhile
pub record NoneFailed (faults : Faults) : Type 0 where
  pub source : Rose faults.source_before faults.source_now → ⊥
  pub sink : Rose faults.sink_before faults.sink_now → ⊥
  pub disk : Rose faults.disk_before faults.disk_now → ⊥

-- these are all the bytes that the source gives, no more than a stream may have, and nothing failed
pub record GivesAll (all : List ℕ) (source : Option (List ℕ)) (faults : Faults) : Type 0 where
  pub bytes : source ≡ Some all
  pub few : length all ≤ 16_777_216
  pub works : NoneFailed faults

-- it ended with the status of its end, or with that of want of memory
abbrev pub EndsOrLacks : ℕ → ℕ → Type 0
EndsOrLacks status end = (status ≡ end) ⊎ (status ≡ 7)

-- the status of a stream that is served to its end: whether a line or a deck of it is refused
abbrev pub served_status : StaffedDesk → List ℕ → ℕ
served_status state all = serving_status (Ok (has_refusal state all))

-- A stream is served to its end, on a disk that opens and has room in its book for all of its events.
abbrev pub CompletesRun : Result RoomyDesk OpenError → List Answering → ℕ → Faults → Option (List ℕ) → Type 0
CompletesRun opening operators status faults source = (state : RoomyDesk) (all : List ℕ) → opening ≡ Ok state → GivesAll all source faults
    → all_fit (staffed_with operators state) (requests_of all) ≡ true → EndsOrLacks status (served_status (staffed_with operators state) all)

-- neither the sink nor the disk failed meanwhile, where no source is read
pub record NeitherFailed (sink_before sink_now disk_before disk_now : ℕ) : Type 0 where
  pub sink : Rose sink_before sink_now → ⊥
  pub disk : Rose disk_before disk_now → ⊥

-- A stream that is there, and no longer than one may be, is served to its end on a disk that opens, and its line is written.
abbrev pub CompletesStream : Result RoomyDesk OpenError → List Answering → List ℕ → ℕ → Type 0 → Type 0
CompletesStream opening operators stream status works = (state : RoomyDesk) → opening ≡ Ok state → works → all_fit (staffed_with operators state) (requests_of stream) ≡ true → EndsOrLacks status 0

-- A disk that tells what it holds and is large enough is formatted, and the made stream is served to its end from there, where the book has room for
-- all of its events.
abbrev pub CompletesMake : Type 0 → ℕ → List Answering → ℕ → ℕ → Type 0 → Type 0
CompletesMake told size operators jobs status works =
    told → made_size ≤ size → works → all_fit (staffed_with operators (fresh_desk made_layout)) (requests_of (made_stream jobs)) ≡ true → EndsOrLacks status 0

-- the status of cards that are carried out: whether they are refused
abbrev pub carried_status : {L E : Type 0} → Result L E → ℕ
carried_status (Ok layout) = 0
carried_status (Err refusal) = 8

-- What cards say of a disk of this size is carried out.
abbrev pub CompletesFormat : ℕ → ℕ → Faults → Option (List ℕ) → Type 0
CompletesFormat size status faults source = (all : List ℕ) → GivesAll all source faults → EndsOrLacks status (carried_status (installation_of (lines all) size))
