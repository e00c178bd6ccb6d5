-- How a call ends.
use Rattle.std.proofs.Common.{◌≡◌, ◌≤◌, ℕ, Bool, List, [], ◌++◌, Option, Result, Ok, Err, unwrap_or, sym, subst}
use Rattle.ckr_session.specs.Model.Soundness.{IsTrusted}
use Rattle.ckr_session.specs.Model.State.{DeskView, disk_of}
use Rattle.ckr_session.specs.declared.stop.Stop.{Stop}
use Rattle.ckr_session.specs.declared.stop.Stop.TheVariants as Stops
use Rattle.ckr_service.specs.Feeds.{Faults, StopCause, StopsAt, Serving, faults_of}
use Rattle.ckr_session.specs.Service.{staffed_by}
use Rattle.ckr_session.specs.Staff.{RosterView, StaffedDesk}
use Rattle.ckr_session.specs.Stops.{AllOrKept, HasSuch, KeepsTo}
use Rattle.ckr_session.proofs.Service.Halts.{rose_earlier}

-- the disk's faults are counted from an earlier moment on
cause_counted : (trusted trusted' : Type 0) (stop : Stop) (a b c d before between now : ℕ) (taken : List ℕ) → before ≤ between → (trusted' → trusted)
    → StopCause trusted stop (faults_of a b c d between now) taken → StopCause trusted' stop (faults_of a b c d before now) taken
cause_counted trusted trusted' Stops.Source a b c d before between now taken later holds cause = cause
cause_counted trusted trusted' Stops.Limit a b c d before between now taken later holds cause = cause
cause_counted trusted trusted' Stops.Sink a b c d before between now taken later holds cause = cause
cause_counted trusted trusted' Stops.Memory a b c d before between now taken later holds cause = tt
cause_counted trusted trusted' Stops.Book a b c d before between now taken later holds cause = tt
cause_counted trusted trusted' Stops.Disk a b c d before between now taken later holds cause = rose_earlier before between now later cause

stops_counted : (stop : Stop) (a b c d before between now : ℕ) (state : StaffedDesk) (taken all : List ℕ) (old new : Option (List ℕ)) (came kept : List (List ℕ))
    → StopsAt stop (faults_of a b c d between now) state taken all old new came kept → StopsAt stop (faults_of a b c d before now) state taken all old new came kept
stops_counted Stops.Source a b c d before between now state taken all old new came kept so = so
stops_counted _ a b c d before between now state taken all old new came kept so = so

module _ (trusted trusted' : Type 0) (each each' : List (List ℕ) → Type 0) (has has' : (List (List ℕ) → Type 0) → Type 0) (holds : trusted' → trusted) (each_so : trusted' → (came : List (List ℕ)) → each came → each' came)
    (has_so : trusted' → (Such : List (List ℕ) → Type 0) → has Such → has' Such) where
  -- the same of a disk that was opened before
  serving_from : (state : StaffedDesk) (outcome : Result Bool Stop) (a b c d before between now : ℕ) (left rest old new : Option (List ℕ)) → before ≤ between
      → Serving trusted each has state outcome (faults_of a b c d between now) left rest old new → Serving trusted' each' has' state outcome (faults_of a b c d before now) left rest old new
  serving_from state (Ok refused) a b c d before between now left rest old new later s = record {
    all = s.all;
    given = s.given;
    end = s.end;
    few = s.few;
    answered = λ h. s.answered (holds h);
    came = λ h. (each_so h _ (s.came (holds h)).0, has_so h _ (s.came (holds h)).1);
  }
  serving_from state (Err stop) a b c d before between now left rest old new later s = record {
    taken = s.taken;
    given = s.given;
    few = s.few;
    cause = cause_counted trusted trusted' stop a b c d before between now s.taken later holds s.cause;
    stops = λ h.
        (let it = s.stops (holds h) in
        record {
          came = it.came;
          kept = it.kept;
          so = stops_counted stop a b c d before between now state s.taken (s.taken ++ unwrap_or rest []) old new it.came it.kept it.so;
          each = each_so h it.came it.each;
          has = has_so h (AllOrKept it.came it.kept) it.has;
        });
  }

  -- in other words for the desk that it began with
  pub serving_so : (state state' : StaffedDesk) (outcome : Result Bool Stop) (a b c d before between now : ℕ) (left rest old new : Option (List ℕ)) → before ≤ between → state ≡ state'
      → Serving trusted each has state outcome (faults_of a b c d between now) left rest old new → Serving trusted' each' has' state' outcome (faults_of a b c d before now) left rest old new
  serving_so state state' outcome a b c d before between now left rest old new later same s =
      serving_from state' outcome a b c d before between now left rest old new later
      (subst (λ (w : StaffedDesk). Serving trusted each has w outcome (faults_of a b c d between now) left rest old new) same s)

-- which events came
pub some_came : (trusted : Type 0) (each : List (List ℕ) → Type 0) (has : (List (List ℕ) → Type 0) → Type 0) (state : StaffedDesk) (outcome : Result Bool Stop) (faults : Faults) (left rest old new : Option (List ℕ))
    → Serving trusted each has state outcome faults left rest old new → trusted → (came : List (List ℕ)) × each came
some_came trusted each has state (Ok refused) faults left rest old new s holds = (_, (s.came holds).0)
some_came trusted each has state (Err stop) faults left rest old new s holds = ((s.stops holds).came, (s.stops holds).each)

-- the same of the desk and the roster that were handed in, and of the disk that is handed back
pub serving_by : {D : Type 0} (told : Type 0) (content : D → List ℕ) (may_leave : D → List ℕ → Type 0) (moment : D → ℕ) (left_since : D → ℕ → List ℕ → Type 0) (size faults : D → ℕ) (inside desk : DeskView D) (within roster : RosterView) (end disk : D)
    (outcome : Result Bool Stop) (a b c d : ℕ) (left rest old new : Option (List ℕ))
    → inside ≡ desk → within ≡ roster → disk ≡ end
    → Serving (IsTrusted told content may_leave inside) (KeepsTo content moment left_since size inside end) (HasSuch content moment left_since size inside end) (staffed_by content inside within) outcome
    (faults_of a b c d (faults (disk_of inside)) (faults end)) left rest old new
    → Serving (IsTrusted told content may_leave desk) (KeepsTo content moment left_since size desk disk) (HasSuch content moment left_since size desk disk) (staffed_by content desk roster) outcome
    (faults_of a b c d (faults (disk_of desk)) (faults disk)) left rest old new
serving_by {D = D} told content may_leave moment left_since size faults inside desk within roster end disk outcome a b c d left rest old new is same back s =
    subst (λ (w : RosterView). Serving (IsTrusted told content may_leave desk) (KeepsTo content moment left_since size desk disk) (HasSuch content moment left_since size desk disk) (staffed_by content desk w) outcome
    (faults_of a b c d (faults (disk_of desk)) (faults disk)) left rest old new) same
    (subst (λ (w : DeskView D). Serving (IsTrusted told content may_leave w) (KeepsTo content moment left_since size w disk) (HasSuch content moment left_since size w disk) (staffed_by content w within) outcome
    (faults_of a b c d (faults (disk_of w)) (faults disk)) left rest old new) is
    (subst (λ (w : D). Serving (IsTrusted told content may_leave inside) (KeepsTo content moment left_since size inside w) (HasSuch content moment left_since size inside w) (staffed_by content inside within) outcome
    (faults_of a b c d (faults (disk_of inside)) (faults w)) left rest old new) (sym back) s))
