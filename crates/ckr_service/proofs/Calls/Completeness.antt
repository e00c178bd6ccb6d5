-- A call comes to its end where nothing fails and there is room.
use Rattle.std.proofs.Common.{◌≡◌, ◌≤◌, ℕ, Bool, true, List, [], ◌++◌, length, Option, None, Some, Result, Ok, Err, unwrap_or, refl, inl, inr, sym, ap, subst, ◌∙◌, append-nil, length-append, arith}
use Rattle.std.specs.Prelude.{IsErr, IsOkAnd}
use Rattle.std.specs.Io.KnownBytes.{Consumes, IsAtEnd}
use Rattle.std.specs.Str.Lines.{lines}
use Rattle.ckr_base.proofs.Bools.{false-not-true, true-not-false}
use Rattle.ckr_console.specs.Answering.{Answering}
use Rattle.ckr_outside.specs.Faults.{Rose}
use Rattle.ckr_session.specs.Model.Layout.{Layout}
use Rattle.ckr_session.specs.Model.OpenError.{OpenError}
use Rattle.ckr_session.specs.Model.OpenError.TheVariants as OpenErrors
use Rattle.ckr_session.specs.Model.Replay.{OpenCause}
use Rattle.ckr_session.specs.Model.State.{RoomyDesk}
use Rattle.ckr_desk_format.specs.declared.command.FormatOutcome.{FormatOutcome}
use Rattle.ckr_desk_format.specs.declared.command.FormatOutcome.TheVariants as Outcomes
use Rattle.ckr_desk_format.specs.Formats.{CausedBy, Ends}
use Rattle.ckr_desk_format.specs.Installation.{installation_of}
use Rattle.ckr_session.specs.declared.stop.Stop.{Stop}
use Rattle.ckr_session.specs.declared.stop.Stop.TheVariants as Stops
use Rattle.ckr_session.specs.Calls.{all_fit}
use Rattle.ckr_service.specs.CallEnds.{Ended, EndsSo, HasFormatted, HasRun, NotOpened, RunEnd, formatting_status, opening_status, serving_status, status_of}
use Rattle.ckr_service.specs.Completeness.{CompletesFormat, CompletesRun, EndsOrLacks, NoneFailed, carried_status, served_status}
use Rattle.ckr_service.specs.Feeds.{Faults, IsServed, IsStopped, Serving}
use Rattle.ckr_session.specs.Staff.{StaffedDesk, staffed_with}
use Rattle.ckr_service.specs.Stream.{has_refusal, requests_of}

-- ---- the bytes of the source

all_taken : (all taken : List ℕ) (rest : Option (List ℕ)) → Consumes (Some all) rest taken → IsAtEnd rest → taken ≡ all
all_taken all taken None given end = absurd given
all_taken all taken (Some left) given end = sym (given ∙ ap (λ l. taken ++ l) end ∙ append-nil taken)

all_known : (all taken : List ℕ) (rest : Option (List ℕ)) → Consumes (Some all) rest taken → taken ++ unwrap_or rest [] ≡ all
all_known all taken None given = absurd given
all_known all taken (Some left) given = sym given

not_too_many : (all taken : List ℕ) (rest : Option (List ℕ)) → Consumes (Some all) rest taken → length all ≤ 16_777_216 → length taken ≡ 16_777_217 → ⊥
not_too_many all taken None given few many = given
not_too_many all taken (Some left) given few many = let sum = ap length given ∙ length-append taken left in omega (arith, sum, few, many)

-- ---- a stream

not-both : {T E A : Type 0} (result : Result T E) (value : T) (error : E) → result ≡ Ok value → result ≡ Err error → A
not-both result value error ok err = cc

ok-same : {T E : Type 0} (result : Result T E) (one other : T) → result ≡ Ok one → result ≡ Ok other → one ≡ other
ok-same result one other first second = cc

module _ (told trusted : Type 0) (opening : Result RoomyDesk OpenError) (operators : List Answering) (leaves : OpenError → Type 0) (each : Layout → List (List ℕ) → Type 0) (has : Layout → (List (List ℕ) → Type 0) → Type 0)
    (holds : told) (trusts : trusted) (state : RoomyDesk) (opens : opening ≡ Ok state)
    (all : List ℕ) (few : length all ≤ 16_777_216) (faults : Faults) (works : NoneFailed faults) (rest old new : Option (List ℕ)) (status : ℕ)
    (fits : all_fit (staffed_with operators state) (requests_of all) ≡ true) where
  -- the disk opens, so that it is want of memory
  not_opened : (error : OpenError) → status ≡ opening_status error → OpenCause (Rose faults.disk_before faults.disk_now) told opening error
      → EndsOrLacks status (served_status (staffed_with operators state) all)
  not_opened OpenErrors.NoMemory is cause = inr is
  not_opened OpenErrors.Fault is cause = absurd (works.disk cause)
  not_opened OpenErrors.NotFormatted is cause = not-both opening state _ opens (cause holds)
  not_opened (OpenErrors.Version version) is cause = not-both opening state _ opens (cause holds)
  not_opened (OpenErrors.BadHeader offset) is cause = not-both opening state _ opens (cause holds)
  not_opened (OpenErrors.BadBook offset) is cause = not-both opening state _ opens (cause holds)
  not_opened (OpenErrors.BadEntry job offset) is cause = not-both opening state _ opens (cause holds)

  -- all of the stream is served
  served : (desk : StaffedDesk) (refused : Bool) → desk ≡ staffed_with operators state → status ≡ serving_status (Ok refused)
      → IsServed trusted (each state.desk.layout) (has state.desk.layout) desk refused (Some all) rest old new → EndsOrLacks status (served_status (staffed_with operators state) all)
  served desk refused same is s =
      inl
      (is ∙ ap (λ r. serving_status (Ok r)) ((s.answered trusts).refusals ∙ ap (has_refusal desk) (all_taken all s.all rest s.given s.end) ∙ ap (λ w. has_refusal w all) same))

  -- of all the causes only want of memory is left
  stopped : (desk : StaffedDesk) (stop : Stop) → desk ≡ staffed_with operators state → status ≡ serving_status (Err stop)
      → IsStopped trusted (each state.desk.layout) (has state.desk.layout) desk stop faults (Some all) rest old new → EndsOrLacks status (served_status (staffed_with operators state) all)
  stopped desk Stops.Source same is s = absurd (works.source s.cause)
  stopped desk Stops.Limit same is s = absurd (not_too_many all s.taken rest s.given few s.cause)
  stopped desk Stops.Sink same is s = absurd (works.sink s.cause)
  stopped desk Stops.Memory same is s = inr is
  stopped desk Stops.Book same is s =
      true-not-false (sym fits ∙ sym (ap (λ w. all_fit w (requests_of all)) same) ∙ sym (ap (λ l. all_fit desk (requests_of l)) (all_known all s.taken rest s.given)) ∙ (s.stops trusts).so.0)
  stopped desk Stops.Disk same is s = absurd (works.disk s.cause)

  by_outcome : (desk : StaffedDesk) (outcome : Result Bool Stop) → desk ≡ staffed_with operators state → status ≡ serving_status outcome
      → Serving trusted (each state.desk.layout) (has state.desk.layout) desk outcome faults (Some all) rest old new → EndsOrLacks status (served_status (staffed_with operators state) all)
  by_outcome desk (Ok refused) same is s = served desk refused same is s
  by_outcome desk (Err stop) same is s = stopped desk stop same is s

  by_end : (end : RunEnd) → status ≡ status_of end → EndsSo told trusted opening operators leaves each has end faults (Some all) rest old new
      → EndsOrLacks status (served_status (staffed_with operators state) all)
  by_end (NotOpened error) is so = not_opened error is so.cause
  by_end (Ended outcome) is so =
      let same : so.state ≡ state = ok-same opening so.state state (so.opened trusts) opens in
      by_outcome (staffed_with operators so.state) outcome (ap (staffed_with operators) same) is
      (subst (λ (w : RoomyDesk). Serving trusted (each w.desk.layout) (has w.desk.layout) (staffed_with operators so.state) outcome faults (Some all) rest old new) same so.serving)

pub run-completes : (told trusted : Type 0) (opening : Result RoomyDesk OpenError) (operators : List Answering) (leaves : OpenError → Type 0) (each : Layout → List (List ℕ) → Type 0) (has : Layout → (List (List ℕ) → Type 0) → Type 0)
    (status : ℕ) (faults : Faults) (source rest old new : Option (List ℕ))
    → HasRun told trusted opening operators leaves each has status faults source rest old new → told → trusted → CompletesRun opening operators status faults source
run-completes told trusted opening operators leaves each has status faults source rest old new run holds trusts state all opens gives fits =
    let known : HasRun told trusted opening operators leaves each has status faults (Some all) rest old new = subst (λ (w : Option (List ℕ)). HasRun told trusted opening operators leaves each has status faults w rest old new) gives.bytes run in
    by_end told trusted opening operators leaves each has holds trusts state opens all gives.few faults gives.works rest old new status fits known.end known.is known.so

-- ---- formatting

same-all : (all taken : List ℕ) (rest : Option (List ℕ)) (size : ℕ) → Consumes (Some all) rest taken → IsAtEnd rest
    → carried_status (installation_of (lines taken) size) ≡ carried_status (installation_of (lines all) size)
same-all all taken rest size given end = ap (λ l. carried_status (installation_of (lines l) size)) (all_taken all taken rest given end)

ok-carried : {L E : Type 0} (said : Result L E) (formatted : L → Type 0) → IsOkAnd said formatted → 0 ≡ carried_status said
ok-carried (Ok layout) formatted holds = refl
ok-carried (Err refusal) formatted holds = absurd holds

err-carried : {L E : Type 0} (said : Result L E) → IsErr said → 8 ≡ carried_status said
err-carried (Ok layout) holds = false-not-true holds
err-carried (Err refusal) holds = refl

module _ (size : ℕ) (formatted formats : Layout → Type 0) (same : Type 0) (all : List ℕ) (few : length all ≤ 16_777_216) (faults : Faults) (works : NoneFailed faults) (rest old new : Option (List ℕ)) (status : ℕ) where
  formats_by : (outcome : FormatOutcome) → status ≡ formatting_status outcome → Ends outcome (Some all) rest size formatted formats same old new
      → CausedBy outcome (Rose faults.source_before faults.source_now) (Rose faults.sink_before faults.sink_now) (Rose faults.disk_before faults.disk_now)
      → EndsOrLacks status (carried_status (installation_of (lines all) size))
  formats_by Outcomes.Formatted is ends cause = inl (is ∙ ok-carried (installation_of (lines ends.all) size) formatted ends.carried.0 ∙ same-all all ends.all rest size ends.took.given ends.took.end)
  formats_by Outcomes.Refused is ends cause = inl (is ∙ err-carried (installation_of (lines ends.all) size) ends.carried.0 ∙ same-all all ends.all rest size ends.took.given ends.took.end)
  formats_by Outcomes.SourceFailed is ends cause = absurd (works.source cause)
  formats_by Outcomes.SinkFailed is ends cause = absurd (works.sink cause)
  formats_by Outcomes.DiskFailed is ends cause = absurd (works.disk cause)
  formats_by Outcomes.NoMemory is ends cause = inr is
  formats_by Outcomes.TooLong is ends cause = absurd (not_too_many all ends.0.taken rest ends.0.given few ends.0.many)

pub format-completes : (told : Type 0) (size : ℕ) (formatted formats : Layout → Type 0) (same sound : Type 0) (status : ℕ) (faults : Faults) (source rest old new : Option (List ℕ))
    → HasFormatted told size formatted formats same sound status faults source rest old new → CompletesFormat size status faults source
format-completes told size formatted formats same sound status faults source rest old new has all gives =
    let known : HasFormatted told size formatted formats same sound status faults (Some all) rest old new = subst (λ (w : Option (List ℕ)). HasFormatted told size formatted formats same sound status faults w rest old new) gives.bytes has in
    formats_by size formatted formats same all gives.few faults gives.works rest old new status known.outcome known.is known.ends known.cause
