-- How the calls on a disk end.
use Rattle.std.proofs.Common.{◌≡◌, ℕ, Bool, List, [], Option, None, Some, Result, Ok, Err, refl, ap, subst, arith}
use Rattle.std.specs.Prelude.{IsOkAnd}
use Rattle.std.specs.Io.KnownBytes.{Keeps}
use Rattle.ckr_console.specs.Answering.{Answering}
use Rattle.ckr_outside.specs.Faults.{Rose}
use Rattle.ckr_session.specs.Model.Layout.{Layout}
use Rattle.ckr_desk_format.specs.declared.command.FormatOutcome.{FormatOutcome}
use Rattle.ckr_desk_format.specs.declared.command.FormatOutcome.TheVariants as Outcomes
use Rattle.ckr_desk_format.specs.Formats.{Ends, CausedBy, IsFormatted, CarriedOut}
use Rattle.ckr_session.specs.Model.OpenError.{OpenError}
use Rattle.ckr_session.specs.Model.Replay.{OpenCause}
use Rattle.ckr_session.specs.Model.Opening.{opening_of}
use Rattle.ckr_session.specs.Model.Soundness.{AllSound, desk_of_opened, desk_opening}
use Rattle.ckr_session.specs.Model.State.{Opened, RoomyDesk}
use Rattle.ckr_session.specs.declared.stop.Stop.{Stop}
use Rattle.ckr_service.specs.Feeds.{Faults, Serving, faults_of}
use Rattle.ckr_session.specs.Staff.{StaffedDesk, staffed_with}
use Rattle.ckr_service.specs.CallEnds.{Ended, NotOpened, HasRun, TakesAtMost, HasFormatted, opening_status, serving_status, formatting_status}
use Rattle.ckr_service.proofs.Streams.Feeds.{Consumes-nil}
use Rattle.ckr_session.proofs.FreshDisks.{fresh_image}

pub Keeps-refl : (a : Option (List ℕ)) → Keeps a a
Keeps-refl None = tt
Keeps-refl (Some xs) = refl

-- ---- a stream

takes_served : (trusted : Type 0) (each : List (List ℕ) → Type 0) (has : (List (List ℕ) → Type 0) → Type 0) (state : StaffedDesk) (outcome : Result Bool Stop) (faults : Faults) (source rest old new : Option (List ℕ))
    → Serving trusted each has state outcome faults source rest old new → TakesAtMost 16_777_217 source rest
takes_served trusted each has state (Ok refused) faults source rest old new s = record { taken = s.all; given = s.given; few = omega (arith, s.few) }
takes_served trusted each has state (Err stop) faults source rest old new s = record { taken = s.taken; given = s.given; few = s.few }

takes_none : (source : Option (List ℕ)) → TakesAtMost 16_777_217 source source
takes_none source = record { taken = []; given = Consumes-nil source; few = omega arith }

-- a disk that tells what it holds opens in some state of the desk
opens_told : (image : List ℕ) (size : ℕ) (opened : Opened) → opening_of image size ≡ Ok opened → (desk : RoomyDesk) × (desk_opening image size ≡ Ok desk)
unfolding desk_opening
opens_told image size opened is = (_, ap (desk_of_opened image) is)

pub run_ended : (told trusted : Type 0) (image : List ℕ) (size : ℕ) (opened : Opened) (state : RoomyDesk) (operators : List Answering) (leaves : OpenError → Type 0) (each : Layout → List (List ℕ) → Type 0) (has : Layout → (List (List ℕ) → Type 0) → Type 0) (outcome : Result Bool Stop)
    (status : ℕ) (faults : Faults) (source rest old new : Option (List ℕ))
    → (told → opening_of image size ≡ Ok opened) → (trusted → desk_opening image size ≡ Ok state) → status ≡ serving_status outcome
    → Serving trusted (each state.desk.layout) (has state.desk.layout) (staffed_with operators state) outcome faults source rest old new
    → HasRun told trusted (desk_opening image size) operators leaves each has status faults source rest old new
run_ended told trusted image size opened state operators leaves each has outcome status faults source rest old new reads opens is s = record {
  end = Ended outcome;
  is = is;
  takes = takes_served trusted (each state.desk.layout) (has state.desk.layout) (staffed_with operators state) outcome faults source rest old new s;
  so = record { state = state; opens = λ tells. opens_told image size opened (reads tells); opened = opens; serving = s };
}

pub run_not_opened : (told trusted : Type 0) (opening : Result RoomyDesk OpenError) (operators : List Answering) (leaves : OpenError → Type 0) (each : Layout → List (List ℕ) → Type 0) (has : Layout → (List (List ℕ) → Type 0) → Type 0) (error : OpenError) (status a c before now : ℕ)
    (source old : Option (List ℕ))
    → status ≡ opening_status error → OpenCause (Rose before now) told opening error → leaves error → HasRun told trusted opening operators leaves each has status (faults_of a a c c before now) source source old old
run_not_opened told trusted opening operators leaves each has error status a c before now source old is cause left = record {
  end = NotOpened error;
  is = is;
  takes = takes_none source;
  so = record { cause = cause; left = left; takes_nothing = Keeps-refl source; writes_nothing = Keeps-refl old };
}

-- ---- formatting

module _ {D : Type 0} (told : Type 0) (content : D → List ℕ) (may_leave : D → List ℕ → Type 0) (size : D → ℕ) (disk : D) where
  pub all_sound : {E : Type 0} (said : Result Layout E) → told → IsOkAnd said (IsFormatted told (content disk) (may_leave disk) (size disk)) → AllSound told may_leave size disk
  all_sound (Ok layout) holds f = record {
    tells = holds;
    sound = λ image left. fresh_image layout (content disk) image (size disk) (f.settled image left) (f.header holds) (f.empty holds);
  }
  all_sound (Err e) holds f = absurd f

  pub has_formatted : (outcome : FormatOutcome) (status bytes a b c d before now : ℕ) (left rest old new : Option (List ℕ)) (formats : Layout → Type 0) (same : Type 0)
      → status ≡ formatting_status outcome → Ends outcome left rest bytes (IsFormatted told (content disk) (may_leave disk) (size disk)) formats same old new
      → CausedBy outcome (Rose a b) (Rose c d) (Rose before now)
      → HasFormatted told bytes (IsFormatted told (content disk) (may_leave disk) (size disk)) formats same (AllSound told may_leave size disk) status (faults_of a b c d before now) left rest old new
  has_formatted outcome status bytes a b c d before now left rest old new formats same is ends cause = record {
    outcome = outcome;
    is = is;
    ends = ends;
    cause = cause;
    opens = λ formatted holds.
        (let done : CarriedOut Outcomes.Formatted left rest bytes (IsFormatted told (content disk) (may_leave disk) (size disk)) formats same old new =
        subst (λ (o : FormatOutcome). Ends o left rest bytes (IsFormatted told (content disk) (may_leave disk) (size disk)) formats same old new) formatted ends in
        all_sound _ holds done.carried.0);
  }
