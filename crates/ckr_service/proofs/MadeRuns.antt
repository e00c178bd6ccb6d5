-- A run over a made stream, and what is told of it.
use Rattle.std.proofs.Common.{◌≡◌, ◌≤◌, ◌<◌, ℕ, suc, Bool, true, false, List, ◌++◌, length, Option, None, Some, Result, Ok, Err, refl, sym, ap, subst, ◌∙◌, arith}
use Rattle.std.specs.Prelude.{IfSome}
use Rattle.std.specs.Io.KnownBytes.{Consumes, Keeps}
use Rattle.std.proofs.lemmas.Bool.{false≢true}
use Rattle.std.proofs.lemmas.List.{length-append}
use Rattle.ckr_console.specs.Answering.{Answering}
use Rattle.ckr_outside.specs.Disk.{EachSince}
use Rattle.ckr_session.specs.Model.Layout.{Layout}
use Rattle.ckr_session.specs.Model.Soundness.{AllSound, Sound, desk_opening}
use Rattle.ckr_desk_format.specs.declared.command.FormatOutcome.{FormatOutcome}
use Rattle.ckr_desk_format.specs.declared.command.FormatOutcome.TheVariants as Outcomes
use Rattle.ckr_session.specs.Model.State.{RoomyDesk}
use Rattle.ckr_session.specs.Model.OpenError.{OpenError}
use Rattle.ckr_session.specs.Model.OpenError.TheVariants as OpenErrors
use Rattle.ckr_session.specs.declared.counts.Counts.{Counts}
use Rattle.ckr_session.specs.declared.stop.Stop.{Stop}
use Rattle.ckr_session.specs.declared.stop.Stop.TheVariants as Stops
use Rattle.ckr_service.specs.CallEnds.{EndsSo, Ended, NotOpened, RunEnd, formatting_status, is_whole, opening_status, serving_status, status_of}
use Rattle.ckr_session.specs.Counts.{counts_behind}
use Rattle.ckr_service.specs.Feeds.{IsCounted, faults_of}
use Rattle.ckr_service.specs.MadeDisk.{FormatsSo, made_layout}
use Rattle.ckr_service.specs.MadeStream.{made_size, made_stream}
use Rattle.ckr_service.specs.Makes.{FailsSo, HasMade, HasRunOver, MadeEnd, MadeSo, RunsOver, Served, TellsCounts, TellsRun, TooSmall, Unformatted}
use Rattle.ckr_session.specs.Staff.{StaffedDesk, staffed_with}
use Rattle.ckr_service.specs.Stream.{requests_of}
use Rattle.ckr_service.proofs.Calls.Ends.{Keeps-refl, all_sound}
use Rattle.ckr_service.proofs.MadeDisks.{all_read, not_rose}
use Rattle.ckr_service.proofs.Streams.Totals.{not_whole}

not_opened_whole : (error : OpenError) → is_whole (opening_status error) ≡ true → ⊥
not_opened_whole OpenErrors.NoMemory whole = false≢true whole
not_opened_whole OpenErrors.Fault whole = false≢true whole
not_opened_whole _ whole = false≢true whole

-- a stream that is short isn't cut at the limit
within_limit : (stream rest taken : List ℕ) → length stream ≤ 16_777_216 → Consumes (Some stream) (Some rest) taken → length taken ≡ 16_777_217 → ⊥
within_limit stream rest taken few given long =
    (let all : length stream ≡ length (taken ++ rest) = ap length given in
    let both = length-append taken rest in
    omega (arith, few, all, both, long))

module _ (Such : Counts → Type 0) (sink sink' : ℕ) (written written' : Option (List ℕ)) where
  -- the stream was served to its end, and something was told
  pub told_whole : (end : RunEnd) (run_status status : ℕ) (outcome : Result Bool Stop) → run_status ≡ status_of end → is_whole run_status ≡ true → status ≡ serving_status outcome → TellsCounts Such outcome sink sink' written written'
      → TellsRun Such end status sink sink' written written'
  told_whole (NotOpened error) run_status status outcome is whole by tells = absurd (not_opened_whole error (ap is_whole (sym is) ∙ whole))
  told_whole (Ended (Ok refused)) run_status status outcome is whole by tells = record { outcome = outcome; is = by; tells = tells }
  told_whole (Ended (Err stop)) run_status status outcome is whole by tells = absurd (not_whole stop (ap is_whole (sym is) ∙ whole))

module _ (told trusted : Type 0) (opening : Result RoomyDesk OpenError) (operators : List Answering) (leaves : OpenError → Type 0) (each : Layout → List (List ℕ) → Type 0) (has : Layout → (List (List ℕ) → Type 0) → Type 0) (disk disk' : ℕ)
    (stream rest : List ℕ) (few : length stream ≤ 16_777_216) (Such : Counts → Type 0) (sink sink' : ℕ) (written written' : Option (List ℕ)) where
  abbrev So : RunEnd → Type 0
  So end = EndsSo told trusted opening operators leaves each has end (faults_of 0 0 0 0 disk disk') (Some stream) (Some rest) None None

  -- it wasn't, and nothing is written
  pub told_nothing : (end : RunEnd) (status : ℕ) → So end → status ≡ status_of end → is_whole status ≡ false → Keeps written written' → TellsRun Such end status sink sink' written written'
  told_nothing (NotOpened error) status so is part kept = (is, kept)
  told_nothing (Ended (Ok true)) status so is part kept = absurd (false≢true (sym part ∙ ap is_whole is))
  told_nothing (Ended (Ok false)) status so is part kept = absurd (false≢true (sym part ∙ ap is_whole is))
  told_nothing (Ended (Err Stops.Source)) status so is part kept = absurd (not_rose so.serving.cause)
  told_nothing (Ended (Err Stops.Sink)) status so is part kept = absurd (not_rose so.serving.cause)
  told_nothing (Ended (Err Stops.Limit)) status so is part kept = absurd (within_limit stream rest so.serving.taken few so.serving.given so.serving.cause)
  told_nothing (Ended (Err Stops.Memory)) status so is part kept = (is, kept)
  told_nothing (Ended (Err Stops.Book)) status so is part kept = (is, kept)
  told_nothing (Ended (Err Stops.Disk)) status so is part kept = (is, kept)

-- what is told of such counts is told of others
pub told_of : (One Other : Counts → Type 0) (outcome : Result Bool Stop) (sink sink' : ℕ) (written written' : Option (List ℕ)) → ((counts : Counts) → One counts → Other counts) → TellsCounts One outcome sink sink' written written'
    → TellsCounts Other outcome sink sink' written written'
told_of One Other (Ok false) sink sink' written written' so tells = (tells.0, so tells.0 tells.1, tells.2)
told_of One Other (Ok true) sink sink' written written' so tells = absurd tells
told_of One Other (Err Stops.Sink) sink sink' written written' so tells = (tells.0, so tells.0 tells.1, tells.2, tells.3)
told_of One Other (Err Stops.Memory) sink sink' written written' so tells = tells
told_of One Other (Err Stops.Source) sink sink' written written' so tells = absurd tells
told_of One Other (Err Stops.Limit) sink sink' written written' so tells = absurd tells
told_of One Other (Err Stops.Book) sink sink' written written' so tells = absurd tells
told_of One Other (Err Stops.Disk) sink sink' written written' so tells = absurd tells

-- the counts are those of the whole stream
pub counts_so : (trusted : Type 0) (stream rest : List ℕ) (state : StaffedDesk) (found : Option Counts) (counts : Counts) → found ≡ Some counts → IfSome found (λ c. IsCounted trusted state c (Some stream) (Some rest)) → trusted
    → counts ≡ counts_behind state (requests_of stream)
counts_so trusted stream rest state found counts is counted holds =
    let it : IsCounted trusted state counts (Some stream) (Some rest) = subst (λ (w : Option Counts). IfSome w (λ c. IsCounted trusted state c (Some stream) (Some rest))) is counted in
    it.counted holds ∙ ap (λ (l : List ℕ). counts_behind state (requests_of l)) (all_read stream rest it.all it.given it.end)

module _ {D : Type 0} (told : Type 0) (content : D → List ℕ) (may_leave : D → List ℕ → Type 0) (moment : D → ℕ) (left_since : D → ℕ → List ℕ → Type 0) (size faults : D → ℕ) (old new : D) (operators : List Answering) (given rest : List ℕ) (run_status : ℕ)
    (few : length given ≤ 16_777_216) (run : HasRunOver told content may_leave moment left_since size faults given rest operators old new run_status) where
  abbrev Comes : Counts → Type 0
  Comes counts = AllSound told may_leave size old → (state : RoomyDesk) → desk_opening (content old) (size old) ≡ Ok state → counts ≡ counts_behind (staffed_with operators state) (requests_of given)

  over_nothing : (sink : ℕ) (written : Option (List ℕ)) → is_whole run_status ≡ false → RunsOver told content may_leave moment left_since size faults given operators old new run_status sink sink written written
  over_nothing sink written part = record {
    rest = rest;
    run_status = run_status;
    run = run;
    tells = told_nothing told (AllSound told may_leave size old) (desk_opening (content old) (size old)) operators _ _ _ (faults old) (faults new) given rest few _ sink sink written written run.end run_status run.so run.is part (Keeps-refl written);
  }

  over_whole : (counts : Option Counts) (status sink sink' : ℕ) (written written' : Option (List ℕ)) (outcome : Result Bool Stop) → is_whole run_status ≡ true
      → (AllSound told may_leave size old → (state : RoomyDesk) → desk_opening (content old) (size old) ≡ Ok state → is_whole run_status ≡ true → IfSome counts (λ c. IsCounted (AllSound told may_leave size old) (staffed_with operators state) c (Some given) (Some rest)))
      → status ≡ serving_status outcome → TellsCounts (λ c. counts ≡ Some c) outcome sink sink' written written' → RunsOver told content may_leave moment left_since size faults given operators old new status sink sink' written written'
  over_whole counts status sink sink' written written' outcome whole counted is tells = record {
    rest = rest;
    run_status = run_status;
    run = run;
    tells = told_whole Comes sink sink' written written' run.end run_status status outcome run.is whole is
        (told_of (λ c. counts ≡ Some c) Comes outcome sink sink' written written'
        (λ c found all state opens. counts_so (AllSound told may_leave size old) given rest (staffed_with operators state) counts c found (counted all state opens whole) all) tells);
  }

module _ {D : Type 0} (told : Type 0) (content : D → List ℕ) (may_leave : D → List ℕ → Type 0) (moment : D → ℕ) (left_since : D → ℕ → List ℕ → Type 0) (size faults : D → ℕ) (old new : D) (operators : List Answering) (stream given rest : List ℕ) (run_status : ℕ)
    (same : given ≡ stream) (few : length stream ≤ 16_777_216) (run : HasRunOver told content may_leave moment left_since size faults given rest operators old new run_status) where
  pub runs_nothing : (sink : ℕ) (written : Option (List ℕ)) → is_whole run_status ≡ false → RunsOver told content may_leave moment left_since size faults stream operators old new run_status sink sink written written
  runs_nothing sink written part =
      subst (λ (s : List ℕ). RunsOver told content may_leave moment left_since size faults s operators old new run_status sink sink written written) same
      (over_nothing told content may_leave moment left_since size faults old new operators given rest run_status (subst (λ (s : List ℕ). length s ≤ 16_777_216) (sym same) few) run sink written part)

  pub runs_whole : (counts : Option Counts) (status sink sink' : ℕ) (written written' : Option (List ℕ)) (outcome : Result Bool Stop) → is_whole run_status ≡ true
      → (AllSound told may_leave size old → (state : RoomyDesk) → desk_opening (content old) (size old) ≡ Ok state → is_whole run_status ≡ true → IfSome counts (λ c. IsCounted (AllSound told may_leave size old) (staffed_with operators state) c (Some given) (Some rest)))
      → status ≡ serving_status outcome → TellsCounts (λ c. counts ≡ Some c) outcome sink sink' written written' → RunsOver told content may_leave moment left_since size faults stream operators old new status sink sink' written written'
  runs_whole counts status sink sink' written written' outcome whole counted is tells =
      subst (λ (s : List ℕ). RunsOver told content may_leave moment left_since size faults s operators old new status sink sink' written written') same
      (over_whole told content may_leave moment left_since size faults old new operators given rest run_status (subst (λ (s : List ℕ). length s ≤ 16_777_216) (sym same) few) run counts status sink sink' written written' outcome whole counted is tells)

-- ---- the whole command

module _ {D : Type 0} (told : Type 0) (content : D → List ℕ) (may_leave : D → List ℕ → Type 0) (moment : D → ℕ) (left_since : D → ℕ → List ℕ → Type 0) (size faults : D → ℕ) (operators : List Answering) (jobs : ℕ) (old new : D) (status sink sink' : ℕ) (written written' : Option (List ℕ)) where
  abbrev Made' : Type 0
  Made' = HasMade told content may_leave moment left_since size faults operators jobs old new status sink sink' written written'

  pub too_small : size old < made_size → status ≡ 8 → new ≡ old → Keeps written written' → Made'
  too_small less is same kept = record { end = TooSmall; so = (less, is, same, kept) }

  pub no_memory : made_size ≤ size old → status ≡ 7 → new ≡ old → Keeps written written' → Made'
  no_memory enough is same kept = record { end = Unformatted Outcomes.NoMemory; so = (enough, is, same, kept) }

  pub not_formatted : (outcome : FormatOutcome) → (outcome ≡ Outcomes.Formatted → ⊥) → made_size ≤ size old → status ≡ formatting_status outcome → FormatsSo told content may_leave moment left_since size faults outcome old new → Keeps written written' → Made'
  not_formatted Outcomes.Formatted other enough is so kept = absurd (other refl)
  not_formatted Outcomes.DiskFailed other enough is so kept = record { end = Unformatted Outcomes.DiskFailed; so = (enough, is, so, kept) }
  not_formatted Outcomes.NoMemory other enough is so kept = record { end = Unformatted Outcomes.NoMemory; so = (enough, is, so, kept) }
  not_formatted Outcomes.Refused other enough is so kept = absurd so
  not_formatted Outcomes.SourceFailed other enough is so kept = absurd so
  not_formatted Outcomes.SinkFailed other enough is so kept = absurd so
  not_formatted Outcomes.TooLong other enough is so kept = absurd so

  pub made_and_served : (formatted : D) (stream : List ℕ) → made_size ≤ size old → stream ≡ made_stream jobs → FormatsSo told content may_leave moment left_since size faults Outcomes.Formatted old formatted → size formatted ≡ size old
      → RunsOver told content may_leave moment left_since size faults stream operators formatted new status sink sink' written written'
      → (AllSound told may_leave size formatted → EachSince moment left_since formatted new (Sound (size formatted))) → (AllSound told may_leave size formatted → AllSound told may_leave size new) → Made'
  made_and_served formatted stream enough is so same runs safe sound =
      let opens : told → AllSound told may_leave size formatted = λ tells. all_sound told content may_leave size formatted {E = Unit {0}} (Ok made_layout) tells so.0 in
      record {
        end = Served formatted;
        so = (
          enough,
          record {
            formats = so.1;
            is_formatted = so.0;
            same_size = same;
            fresh = λ tells. (so.0.empty tells).records;
            opens = opens;
            runs = subst (λ (s : List ℕ). RunsOver told content may_leave moment left_since size faults s operators formatted new status sink sink' written written') is runs;
            safe = λ tells. safe (opens tells);
            sound = λ tells. sound (opens tells);
          },
        );
      }

  -- behind status 0 it is sound
  pub made_sound : Made' → told → status ≡ 0 → AllSound told may_leave size new
  made_sound made tells zero = by_end made.end made.so
    where
      never : (n : ℕ) → status ≡ suc n → ⊥
      never n is = (let same : suc n ≡ 0 = sym is ∙ zero in omega (arith, same))

      by_outcome : (outcome : FormatOutcome) → status ≡ formatting_status outcome → FailsSo told content may_leave moment left_since size faults outcome old new → ⊥
      by_outcome Outcomes.DiskFailed is so = never 5 is
      by_outcome Outcomes.NoMemory is so = never 6 is
      by_outcome other is so = so

      by_end : (end : MadeEnd D) → MadeSo told content may_leave moment left_since size faults operators jobs end old new status sink sink' written written' → AllSound told may_leave size new
      by_end TooSmall so = absurd (never 7 so.1)
      by_end (Unformatted outcome) so = absurd (by_outcome outcome so.1 so.2)
      by_end (Served formatted) so = so.1.sound tells
