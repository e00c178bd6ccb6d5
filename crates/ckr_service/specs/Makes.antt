-- How `make` ends.
use Rattle.std.specs.Prelude.{◌≡◌, ◌≤◌, ◌<◌, ℕ, Bool, true, false, List, [], Option, None, Some, Result, Ok, Err}
use Rattle.std.specs.Io.KnownBytes.{Appends, Keeps}
use Rattle.ckr_console.specs.Answering.{Answering}
use Rattle.ckr_outside.specs.Disk.{EachSince}
use Rattle.ckr_outside.specs.Faults.{Rose}
use Rattle.ckr_outside.specs.Front.{AppendsFront}
use Rattle.ckr_session.specs.Model.FirstSync.{FromSync, IsLeft}
use Rattle.ckr_session.specs.Model.OpenImages.{event_records}
use Rattle.ckr_session.specs.Model.Soundness.{AllSound, HasKept, Sound, desk_opening}
use Rattle.ckr_session.specs.Model.State.{RoomyDesk}
use Rattle.ckr_desk_format.specs.declared.command.FormatOutcome.{FormatOutcome}
use Rattle.ckr_desk_format.specs.declared.command.FormatOutcome.TheVariants.{DiskFailed, NoMemory}
use Rattle.ckr_desk_format.specs.Formats.{IsFormatted}
use Rattle.ckr_session.specs.declared.counts.Counts.{Counts}
use Rattle.ckr_session.specs.declared.stop.Stop.{Stop}
use Rattle.ckr_session.specs.declared.stop.Stop.TheVariants as Stops
use Rattle.ckr_service.specs.CallEnds.{HasRun, RunEnd, NotOpened, Ended, formatting_status, serving_status, status_of}
use Rattle.ckr_session.specs.Counts.{counts_behind, made_text}
use Rattle.ckr_service.specs.Feeds.{faults_of}
use Rattle.ckr_service.specs.MadeDisk.{FormatsMade, made_layout}
use Rattle.ckr_service.specs.MadeStream.{made_size, made_stream}
use Rattle.ckr_session.specs.Staff.{staffed_with}
use Rattle.ckr_session.specs.Stops.{HasEverywhere}
use Rattle.ckr_service.specs.Stream.{requests_of}

-- ---- the line

-- The line is written of such counts; or the sink failed, and a front of it is; or there was no memory, and nothing is. Nothing is refused here.
abbrev pub TellsCounts : (Counts → Type 0) → Result Bool Stop → ℕ → ℕ → Option (List ℕ) → Option (List ℕ) → Type 0
TellsCounts Such (Ok false) before now old new = (counts : Counts) × Such counts × Appends old new (made_text counts)
TellsCounts Such (Ok true) before now old new = ⊥
TellsCounts Such (Err Stops.Sink) before now old new = (counts : Counts) × Such counts × Rose before now × AppendsFront old new (made_text counts)
TellsCounts Such (Err Stops.Memory) before now old new = Keeps old new
TellsCounts Such (Err _) before now old new = ⊥

-- what was told of what the stream came to, with a status
pub record Tells (Such : Counts → Type 0) (status before now : ℕ) (old new : Option (List ℕ)) : Type 0 where
  pub outcome : Result Bool Stop
  pub is : status ≡ serving_status outcome
  pub tells : TellsCounts Such outcome before now old new

-- nothing is written where the stream wasn't served to its end, and the status is that of the run
abbrev pub TellsNothing : ℕ → ℕ → Option (List ℕ) → Option (List ℕ) → Type 0
TellsNothing run_status status old new = (status ≡ run_status) × Keeps old new

-- what is written behind a run that ended so; neither the made stream nor the sink of the run fails, and the stream is short
abbrev pub TellsRun : (Counts → Type 0) → RunEnd → ℕ → ℕ → ℕ → Option (List ℕ) → Option (List ℕ) → Type 0
TellsRun Such (NotOpened error) status before now old new = TellsNothing (status_of (NotOpened error)) status old new
TellsRun Such (Ended (Ok refused)) status before now old new = Tells Such status before now old new
TellsRun Such (Ended (Err Stops.Source)) status before now old new = ⊥
TellsRun Such (Ended (Err Stops.Sink)) status before now old new = ⊥
TellsRun Such (Ended (Err Stops.Limit)) status before now old new = ⊥
TellsRun Such (Ended (Err stop)) status before now old new = TellsNothing (status_of (Ended (Err stop))) status old new

-- ---- the disk

-- it isn't large enough; or it isn't formatted for this cause; or it was formatted, and this disk was run on
pub data MadeEnd (D : Type 0) : Type 0 where
  TooSmall : MadeEnd D
  Unformatted : (outcome : FormatOutcome) → MadeEnd D
  Served : (formatted : D) → MadeEnd D

module _ {D : Type 0} (told : Type 0) (content : D → List ℕ) (may_leave : D → List ℕ → Type 0) (moment : D → ℕ) (left_since : D → ℕ → List ℕ → Type 0) (size faults : D → ℕ) where
  -- the disk failed while it was formatted, or there was no memory and it is as before
  abbrev pub FailsSo : FormatOutcome → D → D → Type 0
  FailsSo DiskFailed old new = Rose (faults old) (faults new) × FormatsMade told content may_leave moment left_since size faults old new
  FailsSo NoMemory old new = new ≡ old
  FailsSo _ old new = ⊥

  -- a run over this stream, from one disk to another, with a source and a sink that don't fail and a sink of which nothing is known
  abbrev pub HasRunOver : List ℕ → List ℕ → List Answering → D → D → ℕ → Type 0
  HasRunOver stream rest operators old new status =
      HasRun told (AllSound told may_leave size old) (desk_opening (content old) (size old)) operators
      (λ error. IsLeft content may_leave moment left_since size told (AllSound told may_leave size old) error old new)
      (λ layout came. FromSync content may_leave moment left_since old new (HasKept layout (size old) (event_records layout (content old)) came))
      (λ layout. HasEverywhere content may_leave layout (event_records layout (content old)) new)
      status (faults_of 0 0 0 0 (faults old) (faults new)) (Some stream) (Some rest) None None

  -- A run over a stream came to its end or not. Where the disk was sound, the line has what the calls over the stream come to, from the desk to which
  -- it opened.
  pub record RunsOver (stream : List ℕ) (operators : List Answering) (old new : D) (status before now : ℕ) (written written' : Option (List ℕ)) : Type 0 where
    pub rest : List ℕ
    pub run_status : ℕ
    pub run : HasRunOver stream rest operators old new run_status
    pub tells : TellsRun
        (λ counts. AllSound told may_leave size old → (state : RoomyDesk) → desk_opening (content old) (size old) ≡ Ok state → counts ≡ counts_behind (staffed_with operators state) (requests_of stream))
        run.end status before now written written'

  -- The disk was formatted for the made stream, and then that was served on it. Where the disk tells what it holds, it has no events behind the
  -- formatting and every image of it is sound, so is each image that a stop leaves from then on, and so is every image in the end.
  pub record ServesMade (operators : List Answering) (jobs : ℕ) (old formatted new : D) (status before now : ℕ) (written written' : Option (List ℕ)) : Type 0 where
    pub formats : FormatsMade told content may_leave moment left_since size faults old formatted
    pub is_formatted : IsFormatted told (content formatted) (may_leave formatted) (size formatted) made_layout
    pub same_size : size formatted ≡ size old
    pub fresh : told → event_records made_layout (content formatted) ≡ []
    pub opens : told → AllSound told may_leave size formatted
    pub runs : RunsOver (made_stream jobs) operators formatted new status before now written written'
    pub safe : told → EachSince moment left_since formatted new (Sound (size formatted))
    pub sound : told → AllSound told may_leave size new

  abbrev pub MadeSo : List Answering → ℕ → MadeEnd D → D → D → ℕ → ℕ → ℕ → Option (List ℕ) → Option (List ℕ) → Type 0
  MadeSo operators jobs TooSmall old new status before now written written' = (size old < made_size) × (status ≡ 8) × (new ≡ old) × Keeps written written'
  MadeSo operators jobs (Unformatted outcome) old new status before now written written' =
      (made_size ≤ size old) × (status ≡ formatting_status outcome) × FailsSo outcome old new × Keeps written written'
  MadeSo operators jobs (Served formatted) old new status before now written written' =
      (made_size ≤ size old) × ServesMade operators jobs old formatted new status before now written written'

  -- how `make` ended with a status, where these operators took office in order; the sink's faults are counted before and now
  pub record HasMade (operators : List Answering) (jobs : ℕ) (old new : D) (status before now : ℕ) (written written' : Option (List ℕ)) : Type 0 where
    pub end : MadeEnd D
    pub so : MadeSo operators jobs end old new status before now written written'
