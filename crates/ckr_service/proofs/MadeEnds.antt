-- A stream that is made comes to its line where nothing fails and there is room.
use Rattle.std.proofs.Common.{◌≡◌, ◌≤◌, ℕ, Bool, true, false, List, Option, Result, Ok, Err, refl, inl, inr, sym, ap, ◌∙◌, arith}
use Rattle.ckr_base.proofs.Bools.{true-not-false}
use Rattle.ckr_outside.specs.Faults.{Rose}
use Rattle.ckr_desk_format.specs.declared.command.FormatOutcome.{FormatOutcome}
use Rattle.ckr_desk_format.specs.declared.command.FormatOutcome.TheVariants as Outcomes
use Rattle.ckr_session.specs.declared.counts.Counts.{Counts}
use Rattle.ckr_session.specs.declared.stop.Stop.{Stop}
use Rattle.ckr_session.specs.declared.stop.Stop.TheVariants as Stops
use Rattle.ckr_service.specs.CallEnds.{formatting_status, is_whole, serving_status}
use Rattle.ckr_service.specs.Completeness.{EndsOrLacks, served_status}
use Rattle.ckr_service.specs.MadeDisk.{FormatsSo}
use Rattle.ckr_service.specs.Makes.{TellsCounts}
use Rattle.ckr_session.specs.Staff.{StaffedDesk}
use Rattle.ckr_service.specs.Stream.{has_refusal}

-- a count that rose rose from a lower one too
pub rose-sooner : (one two three : ℕ) → one ≤ two → Rose two three → Rose one three
rose-sooner one two three less (inl rose) = inl (omega arith)
rose-sooner one two three less (inr greatest) = inr greatest

served-whole : (refused : Bool) → is_whole (serving_status (Ok refused)) ≡ true
served-whole false = refl
served-whole true = refl

-- a run that isn't served to its end found no memory
pub lacks-memory : (status : ℕ) (state : StaffedDesk) (all : List ℕ) → is_whole status ≡ false → EndsOrLacks status (served_status state all) → EndsOrLacks status 0
lacks-memory status state all part (inl is) = true-not-false (sym (served-whole (has_refusal state all)) ∙ sym (ap is_whole is) ∙ part)
lacks-memory status state all part (inr is) = inr is

-- the line is written where the sink doesn't fail
pub line-completes : (Such : Counts → Type 0) (outcome : Result Bool Stop) (status sink sink' : ℕ) (written written' : Option (List ℕ)) → (Rose sink sink' → ⊥) → status ≡ serving_status outcome
    → TellsCounts Such outcome sink sink' written written' → EndsOrLacks status 0
line-completes Such (Ok false) status sink sink' written written' works is tells = inl is
line-completes Such (Ok true) status sink sink' written written' works is tells = absurd tells
line-completes Such (Err Stops.Sink) status sink sink' written written' works is tells = absurd (works tells.2)
line-completes Such (Err Stops.Memory) status sink sink' written written' works is tells = inr is
line-completes Such (Err Stops.Source) status sink sink' written written' works is tells = absurd tells
line-completes Such (Err Stops.Limit) status sink sink' written written' works is tells = absurd tells
line-completes Such (Err Stops.Book) status sink sink' written written' works is tells = absurd tells
line-completes Such (Err Stops.Disk) status sink sink' written written' works is tells = absurd tells

-- a disk that isn't formatted, and that doesn't fail, found no memory
pub unformatted-lacks : {D : Type 0} (told : Type 0) (content : D → List ℕ) (may_leave : D → List ℕ → Type 0) (moment : D → ℕ) (left_since : D → ℕ → List ℕ → Type 0) (size faults : D → ℕ) (old new : D) (outcome : FormatOutcome) (status : ℕ)
    → (outcome ≡ Outcomes.Formatted → ⊥) → status ≡ formatting_status outcome → FormatsSo told content may_leave moment left_since size faults outcome old new → (Rose (faults old) (faults new) → ⊥) → EndsOrLacks status 0
unformatted-lacks told content may_leave moment left_since size faults old new Outcomes.Formatted status other is so works = absurd (other refl)
unformatted-lacks told content may_leave moment left_since size faults old new Outcomes.DiskFailed status other is so works = absurd (works so.0)
unformatted-lacks told content may_leave moment left_since size faults old new Outcomes.NoMemory status other is so works = inr is
unformatted-lacks told content may_leave moment left_since size faults old new Outcomes.Refused status other is so works = absurd so
unformatted-lacks told content may_leave moment left_since size faults old new Outcomes.SourceFailed status other is so works = absurd so
unformatted-lacks told content may_leave moment left_since size faults old new Outcomes.SinkFailed status other is so works = absurd so
unformatted-lacks told content may_leave moment left_since size faults old new Outcomes.TooLong status other is so works = absurd so
