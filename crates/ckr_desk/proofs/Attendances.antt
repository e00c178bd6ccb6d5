-- A turn with its machine room: how its step comes by its volumes, from what its plan is, and what it comes to then.
use Rattle.std.proofs.Common.{◌≡◌, ◌≤◌, ◌++◌, length, ◌&&◌, ℕ, Bool, List, true, false, refl, ap, sym, ◌∙◌, subst, inl, inr, Option, Some, None, Result, Ok, Err, IfErr, IfOk, OnOk}
use Rattle.std.proofs.lemmas.Bool.{and_from, true≢false}
use Rattle.std.specs.Option.{is_none, is_some, option_map_or}
use Rattle.ckr_base.proofs.Bools.{bool-cases}
use Rattle.ckr_console.specs.Answering.{Answering, restart_answer}
use Rattle.ckr_console.specs.declared.question.Answer.{Answer}
use Rattle.ckr_desk_refines.specs.Memory.Plans.{NeedsRoom}
use Rattle.ckr_desk_refines.specs.Memory.View.{PointView, jobs_of}
use Rattle.ckr_desk_refines.proofs.Standing.Plans.{plans-so}
use Rattle.ckr_desk_turn.proofs.Mounts.{taken-stays}
use Rattle.ckr_desk_turn.specs.Mounts.{Attempt, Wanting, asked_for, at_hand, attempt_for, gives_up, plan_by, unless_held, volumes_of, wanting, wants}
use Rattle.ckr_desk_turn.specs.Plans.{plan_of}
use Rattle.ckr_desk_turn.specs.Turns.{MountedTurn}
use Rattle.ckr_desk_turn.specs.declared.plan.Plan.{Plan}
use Rattle.ckr_points.specs.declared.reply.Reply.{Reply}
use Rattle.ckr_desk_turn.specs.declared.reply.Turn.{Turn}
use Rattle.ckr_desk_turn.specs.declared.taking.Taking.{Taking}
use Rattle.ckr_desk_turn.specs.declared.taking.Taking.TheVariants.{Taken}
use Rattle.ckr_desk_store.specs.OpenImages.{event_records}
use Rattle.ckr_desk_store.specs.State.{StoreView}
use Rattle.ckr_outside.specs.Disk.{EachSince}
use Rattle.ckr_outside.specs.Moments.{and_then, in_other_words}
use Rattle.ckr_points.specs.Rows.{TablesModel}
use Rattle.ckr_queue.specs.Mounts.{MountTable, held_at, with_held}
use Rattle.ckr_volumes.specs.declared.layout.Layout.{Layout}
use Rattle.ckr_desk.proofs.Calls.FullBooks.{turn-fits, turn-full, turn-has_room}
use Rattle.ckr_desk.proofs.Calls.OneEvent.{turn-few}
use Rattle.ckr_desk.proofs.Calls.Requests.{if-err, on-ok}
use Rattle.ckr_desk.proofs.Images.Soundness.{kept-left}
use Rattle.ckr_desk.proofs.Trust.Sameness.{IsAsBefore, state-same}
use Rattle.ckr_desk.proofs.Turns.Plans.{go-needs}
use Rattle.ckr_desk.proofs.Turns.Preparation.{as-before, planned-before, same-unchanged, turned-before, twice-stayed}
use Rattle.ckr_desk.specs.Attendance.{AttendedDesk, HasAttended, LacksBy, RoomIsTaken, answer_in, attempt_in, attended, attended_asks, attended_event, attended_fits, attended_reply, behind_attended, mounted, plan_before, RoomStandsBy, room_behind_answers, room_taken, untaken, wants_volumes, with_room_taken}
use Rattle.ckr_desk_turn.specs.MachineRoom.{MachineRoomView, behind_attempt, given_up_if}
use Rattle.ckr_desk.specs.Calls.{HasSameJobs}
use Rattle.ckr_desk.specs.Continuation.{PlanStandsAt}
use Rattle.ckr_desk.specs.Preparation.{LacksMemory, NotWorkedOut}
use Rattle.ckr_desk.specs.Records.{ReadingCause}
use Rattle.ckr_desk.specs.Requests.{FailsBy, came_by, has_room, spelled}
use Rattle.ckr_desk.specs.Rewrite.{OpensSame}
use Rattle.ckr_desk.specs.Soundness.{HasKept, IsTrusted, state_of}
use Rattle.ckr_desk.specs.State.{DeskView, RoomyDesk}
use Rattle.ckr_desk.specs.Turn.{AnswerStands, AnswerStandsBy, asks, event_of_turn, reply_of, room_behind_answer}
use Rattle.ckr_desk.specs.Units.{HasTurned, IsPlanned, TakesBy}
use Rattle.ckr_desk.specs.declared.error.DeskError.{DeskError}
use Rattle.ckr_desk.specs.declared.error.DeskError.TheVariants.{NoMemory, DiskFault, BookFull, Stopped}

-- ---- how the step comes by its volumes

abbrev pub attempt_to : Taking → Option (List ℕ) → MachineRoomView → Attempt
attempt_to taking takes room = record { taking = taking; takes = takes; mounts = room.mounts; operator = room.operator }

pub attempt-so : (attempt : Attempt) (taking : Taking) (takes : Option (List ℕ)) (room : MachineRoomView) → attempt.taking ≡ taking → attempt.takes ≡ takes → behind_attempt attempt ≡ room → attempt ≡ attempt_to taking takes room
attempt-so attempt taking takes room is_taking is_takes same =
    ap (λ (t : Taking). attempt_to t attempt.takes (behind_attempt attempt)) is_taking ∙ ap (λ (t : Option (List ℕ)). attempt_to taking t (behind_attempt attempt)) is_takes ∙ ap (attempt_to taking takes) same

module _ (layout : Layout) (tables : TablesModel) (initiator : ℕ) (plan : Plan) (mounts : MountTable) (operator : Option Answering) where
  -- it holds them
  pub held-at-hand : is_some (held_at mounts initiator) ≡ true → attempt_for layout tables initiator plan mounts operator ≡ at_hand mounts operator
  unfolding attempt_for
  held-at-hand held = by (wanting tables plan) (held_at mounts initiator) held
    where
      by : (step : Option Wanting) (its : Option (List ℕ)) → is_some its ≡ true
          → option_map_or (λ step. unless_held layout (volumes_of layout step) mounts operator its) step (at_hand mounts operator) ≡ at_hand mounts operator
      by None its is = refl
      by (Some step) (Some volumes) is = refl
      by (Some step) None is = absurd (subst (λ b. elim b as (λ _. Type 0) [ true ↦ ⊥ | false ↦ Unit {0} ]) is tt)

  -- it wants none
  pub unwanted-at-hand : wanting tables plan ≡ None → attempt_for layout tables initiator plan mounts operator ≡ at_hand mounts operator
  unfolding attempt_for
  unwanted-at-hand none = ap (λ step. option_map_or (λ step. unless_held layout (volumes_of layout step) mounts operator (held_at mounts initiator)) step (at_hand mounts operator)) none

  -- it wants them
  pub wanted-asked : (step : Wanting) → wanting tables plan ≡ Some step → held_at mounts initiator ≡ None
      → attempt_for layout tables initiator plan mounts operator ≡ asked_for layout (volumes_of layout step) mounts operator
  unfolding attempt_for
  wanted-asked step is none =
      ap (λ step. option_map_or (λ step. unless_held layout (volumes_of layout step) mounts operator (held_at mounts initiator)) step (at_hand mounts operator)) is
      ∙ ap (unless_held layout (volumes_of layout step) mounts operator) none

-- ---- a desk with its plan

module _ {D : Type 0} (told : Type 0) (content : D → List ℕ) (may_leave : D → List ℕ → Type 0) (old : DeskView D) (turn : Turn) (plan : Plan) where
  module _ (p : IsPlanned told content may_leave old (untaken turn) plan) where
    -- the plan at the desk of the events
    pub plan-at : plan_before (state_of content old).desk turn ≡ plan
    plan-at =
        sym (taken-stays old.store.layout (state_of content old).desk.office.tables (plan_before (state_of content old).desk turn))
        ∙ sym (plans-so old.store.layout old.jobs (content old.store.disk) (state_of content old).desk (untaken turn) p.trusted.stands)
        ∙ p.planned

    -- the attempt by the jobs in memory
    pub attempt-at : attempt_in (attended content old) turn ≡ attempt_for old.store.layout old.jobs.tables.desk turn.initiator plan old.machine_room.mounts old.machine_room.operator
    unfolding attempt_in
    attempt-at =
        ap (λ plan. attempt_for old.store.layout (state_of content old).desk.office.tables turn.initiator plan old.machine_room.mounts old.machine_room.operator) plan-at
        ∙ ap (λ tables. attempt_for old.store.layout tables turn.initiator plan old.machine_room.mounts old.machine_room.operator) (sym p.trusted.stands.tables)

    -- whether volumes are wanted
    pub wants-at : wants_volumes (attended content old) turn ≡ (is_some (wanting old.jobs.tables.desk plan) && is_none (held_at old.machine_room.mounts turn.initiator))
    unfolding wants_volumes
    wants-at =
        ap (λ plan. is_some (wanting (state_of content old).desk.office.tables plan) && is_none (held_at old.machine_room.mounts turn.initiator)) plan-at
        ∙ ap (λ tables. is_some (wanting tables plan) && is_none (held_at old.machine_room.mounts turn.initiator)) (sym p.trusted.stands.tables)

    pub wants-so : (step : Wanting) → wanting old.jobs.tables.desk plan ≡ Some step → held_at old.machine_room.mounts turn.initiator ≡ None → wants_volumes (attended content old) turn ≡ true
    wants-so step is none = wants-at ∙ and_from _ _ (ap is_some is) (ap is_none none)

    -- and what it comes to by what has become of them
    pub planned-by : (taking : _) → IsPlanned told content may_leave old (record { turn = turn; taking = taking }) (plan_by old.store.layout old.jobs.tables.desk taking plan)
    unfolding jobs_of
    planned-by taking = record {
      trusted = p.trusted;
      its = p.its;
      planned = ap (plan_by old.store.layout old.jobs.tables.desk taking)
          (sym (taken-stays old.store.layout old.jobs.tables.desk (plan_of old.store.layout (jobs_of old.jobs) turn)) ∙ p.planned);
    }

-- ---- the machine room has no part in what a desk is trusted for

pub trusted-room : {D : Type 0} (told : Type 0) (content : D → List ℕ) (may_leave : D → List ℕ → Type 0) (desk : DeskView D) (room : MachineRoomView)
    → IsTrusted told content may_leave desk → IsTrusted told content may_leave (record desk { machine_room = room })
trusted-room told content may_leave desk room trusted = record {
  tells = trusted.tells;
  opens = trusted.opens;
  events = trusted.events;
  stands = trusted.stands;
  last = trusted.last;
  opens_left = trusted.opens_left;
  committed = trusted.committed;
  entries = trusted.entries;
  entries_left = trusted.entries_left;
}

module _ {D : Type 0} (told : Type 0) (content : D → List ℕ) (may_leave : D → List ℕ → Type 0) where
  pub planned-room : (desk : DeskView D) (room : MachineRoomView) (turn : MountedTurn) (plan : Plan) → IsPlanned told content may_leave desk turn plan → IsPlanned told content may_leave (record desk { machine_room = room }) turn plan
  planned-room desk room turn plan p = record { trusted = trusted-room told content may_leave desk room p.trusted; its = p.its; planned = p.planned }

module _ {D : Type 0} (told : Type 0) (content : D → List ℕ) (may_leave : D → List ℕ → Type 0) (moment : D → ℕ) (left_since : D → ℕ → List ℕ → Type 0) (size : D → ℕ)
    (turn : MountedTurn) (answer : Answer) (old new : DeskView D) (room : MachineRoomView) (result : Result Reply DeskError) where
  pub turned-later : HasTurned told content may_leave moment left_since size turn answer old new result → HasTurned told content may_leave moment left_since size turn answer old (record new { machine_room = room }) result
  turned-later done = record {
    reply = done.reply;
    fits = done.fits;
    after = done.after;
    trusted = on-ok (trusted-room told content may_leave new room) result done.trusted;
    events = done.events;
    cause = done.cause;
    takes = done.takes;
    kept = done.kept;
  }

  pub turned-from : HasTurned told content may_leave moment left_since size turn answer (record old { machine_room = room }) new result → HasTurned told content may_leave moment left_since size turn answer old new result
  turned-from done = record {
    reply = done.reply;
    fits = done.fits;
    after = done.after;
    trusted = done.trusted;
    events = done.events;
    cause = done.cause;
    takes = done.takes;
    kept = done.kept;
  }

-- ---- what it comes to

module _ {D : Type 0} (told : Type 0) (content : D → List ℕ) (may_leave : D → List ℕ → Type 0) (moment : D → ℕ) (left_since : D → ℕ → List ℕ → Type 0) (size : D → ℕ) (old : DeskView D) (turn : Turn) where
  abbrev before : AttendedDesk
  before = attended content old

  as-attended : (new : DeskView D) (result : Result Reply DeskError) → HasTurned told content may_leave moment left_since size (mounted before turn) (answer_in before turn) old new result
      → RoomIsTaken before turn new.machine_room result → HasAttended told content may_leave moment left_since size turn old new result
  unfolding attended_reply attended_event attended_fits attended_asks behind_attended
  as-attended new result done room = record {
    reply = done.reply;
    fits = done.fits;
    after = done.after;
    trusted = done.trusted;
    events = done.events;
    room = room;
    cause = done.cause;
    takes = if-err (λ error takes. inl takes) result done.takes;
    kept = done.kept;
  }

  -- what has become of the volumes, those that the step takes, and the machine room behind the questions for them
  module _ (taking : Taking) (takes : Option (List ℕ)) (from : MachineRoomView) (is : attempt_in before turn ≡ attempt_to taking takes from) where
    abbrev its_turn : MountedTurn
    its_turn = record { turn = turn; taking = taking }

    abbrev its_answer : Answer
    its_answer = restart_answer from.operator

    abbrev its_asks : Bool
    its_asks = asks (state_of content old) its_turn its_answer

    abbrev HasTurnedTo : DeskView D → Result Reply DeskError → Type 0
    HasTurnedTo new result = HasTurned told content may_leave moment left_since size its_turn its_answer old new result

    answers-from : room_behind_answers before turn ≡ room_behind_answer its_asks from
    unfolding room_behind_answers attended_asks
    answers-from =
        ap (λ (a : Attempt). room_behind_answer (asks (state_of content old) (record { turn = turn; taking = a.taking }) (restart_answer a.operator)) (behind_attempt a)) is

    room-from : room_taken before turn ≡ with_room_taken turn.initiator takes (room_behind_answer its_asks from)
    unfolding room_taken
    room-from = ap (λ (a : Attempt). with_room_taken turn.initiator a.takes (room_behind_answers before turn)) is ∙ ap (with_room_taken turn.initiator takes) answers-from

    attended-so : (new : DeskView D) (result : Result Reply DeskError) → HasTurnedTo new result → RoomIsTaken before turn new.machine_room result
        → HasAttended told content may_leave moment left_since size turn old new result
    attended-so new result done room =
        as-attended new result
        (subst (λ (a : Attempt). HasTurned told content may_leave moment left_since size (record { turn = turn; taking = a.taking }) (restart_answer a.operator) old new result) (sym is) done) room

    stands-by : (new : MachineRoomView) (error : DeskError) → (error ≡ NoMemory → new ≡ old.machine_room) → AnswerStandsBy its_asks from new error → RoomStandsBy before turn new error
    stands-by new NoMemory unspent stands = unspent refl
    stands-by new DiskFault unspent stands = tt
    stands-by new (BookFull need room) unspent stands = stands ∙ sym answers-from
    stands-by new (Stopped fault) unspent stands = tt

    -- it wasn't done
    pub attended-failed : (new : DeskView D) (error : DeskError) → (error ≡ NoMemory → new.machine_room ≡ old.machine_room) → HasTurnedTo new (Err error) → AnswerStandsBy its_asks from new.machine_room error
        → HasAttended told content may_leave moment left_since size turn old new (Err error)
    attended-failed new error unspent done stands = attended-so new (Err error) done (stands-by new.machine_room error unspent stands)

    -- nothing is taken
    pub attended-untaken : takes ≡ None → (new : DeskView D) (result : Result Reply DeskError) → IfErr result (λ error. error ≡ NoMemory → new.machine_room ≡ old.machine_room)
        → HasTurnedTo new result → AnswerStands its_asks from new.machine_room result → HasAttended told content may_leave moment left_since size turn old new result
    attended-untaken none new result unspent done stands = attended-so new result done (by result unspent stands)
      where
        by : (result : Result Reply DeskError) → IfErr result (λ error. error ≡ NoMemory → new.machine_room ≡ old.machine_room) → AnswerStands its_asks from new.machine_room result → RoomIsTaken before turn new.machine_room result
        by (Ok reply) unspent stands = stands ∙ sym (room-from ∙ ap (λ taken. with_room_taken turn.initiator taken (room_behind_answer its_asks from)) none)
        by (Err error) unspent stands = stands-by new.machine_room error unspent stands

    -- the step takes its volumes
    pub attended-taking : (volumes : List ℕ) → takes ≡ Some volumes → (new : DeskView D) (later : MachineRoomView) → later ≡ record new.machine_room { mounts = with_held turn.initiator volumes new.machine_room.mounts }
        → (reply : Reply) → HasTurnedTo new (Ok reply) → new.machine_room ≡ room_behind_answer its_asks from
        → HasAttended told content may_leave moment left_since size turn old (record new { machine_room = later }) (Ok reply)
    attended-taking volumes some new later so reply done stands =
        attended-so (record new { machine_room = later }) (Ok reply) (turned-later told content may_leave moment left_since size its_turn its_answer old new later (Ok reply) done)
        (so
        ∙ ap (with_room_taken turn.initiator (Some volumes)) stands
        ∙ sym (room-from ∙ ap (λ taken. with_room_taken turn.initiator taken (room_behind_answer its_asks from)) some))

  -- nobody was asked for a mount: where there was no memory the machine room is as it was
  pub unspent-so : (asks : Bool) (new : MachineRoomView) (result : Result Reply DeskError) → AnswerStands asks old.machine_room new result → IfErr result (λ error. error ≡ NoMemory → new ≡ old.machine_room)
  unspent-so asks new (Ok reply) stands = tt
  unspent-so asks new (Err error) stands = λ is. subst (AnswerStandsBy asks old.machine_room new) is stands

  -- nothing was to be taken
  pub attended-plainly : attempt_in before turn ≡ at_hand old.machine_room.mounts old.machine_room.operator → (new : DeskView D) (result : Result Reply DeskError)
      → HasTurned told content may_leave moment left_since size (untaken turn) (restart_answer old.machine_room.operator) old new result
      → AnswerStands (asks (state_of content old) (untaken turn) (restart_answer old.machine_room.operator)) old.machine_room new.machine_room result
      → HasAttended told content may_leave moment left_since size turn old new result
  attended-plainly is new result done stands =
      attended-untaken Taken None old.machine_room is refl new result
      (unspent-so (asks (state_of content old) (untaken turn) (restart_answer old.machine_room.operator)) new.machine_room result stands) done stands

-- ---- what callers ask of it

pub attended-fit : (a : AttendedDesk) (turn : Turn) → has_room a.state.room (attended_event a turn) ≡ true → attended_fits a turn ≡ true
unfolding attended_event attended_fits
attended-fit a turn room = turn-fits a.state (mounted a turn) (answer_in a turn) room

pub attended-full : (a : AttendedDesk) (turn : Turn) (error : DeskError) (need left : ℕ) → error ≡ BookFull need left → FailsBy a.state.room (attended_event a turn) error → attended_fits a turn ≡ false
unfolding attended_event attended_fits
attended-full a turn error need left is cause = turn-full a.state (mounted a turn) (answer_in a turn) error need left is cause

pub attended-few : (a : AttendedDesk) (turn : Turn) → length (spelled (attended_event a turn)) ≤ 1
unfolding attended_event
attended-few a turn = turn-few a.state (mounted a turn) (answer_in a turn)

pub attended-fits : (a : AttendedDesk) (turn : Turn) → attended_fits a turn ≡ true → has_room a.state.room (attended_event a turn) ≡ true
unfolding attended_event attended_fits
attended-fits a turn fits =
    let done : Result Bool DeskError = Ok true in
    turn-has_room a.state done (mounted a turn) (answer_in a turn) fits

-- ---- a turn whose desk was only read before

module _ {D : Type 0} (told : Type 0) (content : D → List ℕ) (may_leave : D → List ℕ → Type 0) (moment : D → ℕ) (left_since : D → ℕ → List ℕ → Type 0) (size : D → ℕ)
    (old mid : DeskView D) (is : IsAsBefore told content may_leave old mid) (sized : size mid.store.disk ≡ size old.store.disk)
    (since : EachSince moment left_since old.store.disk mid.store.disk (λ image. OpensSame content size old image × may_leave old.store.disk image))
    (roomed : mid.machine_room ≡ old.machine_room) (turn : Turn) (trusted : IsTrusted told content may_leave old) where
  abbrev records : List (List ℕ)
  records = event_records old.store.layout (content old.store.disk)

  abbrev its_came : List (List ℕ)
  its_came = spelled (attended_event (attended content old) turn)

  same-attended : attended content mid ≡ attended content old
  same-attended =
      ap (λ (s : RoomyDesk). let a : AttendedDesk = record { state = s; machine_room = mid.machine_room } in a) (state-same told content may_leave old mid is)
      ∙ ap (λ (r : MachineRoomView). let a : AttendedDesk = record { state = state_of content old; machine_room = r } in a) roomed

  read-kept : (its : List (List ℕ)) (image : List ℕ) → OpensSame content size old image × may_leave old.store.disk image → HasKept old.store.layout (size old.store.disk) records its image
  read-kept its image left = kept-left told content may_leave size old trusted its image left.0 left.1

  later-kept : (result : Result Reply DeskError) (image : List ℕ)
      → HasKept mid.store.layout (size mid.store.disk) (event_records mid.store.layout (content mid.store.disk)) (came_by result (spelled (attended_event (attended content mid) turn))) image
      → HasKept old.store.layout (size old.store.disk) records (came_by result its_came) image
  later-kept result image kept =
      subst (λ (a : AttendedDesk). HasKept old.store.layout (size old.store.disk) records (came_by result (spelled (attended_event a turn))) image) same-attended
      (subst (λ (bytes : List ℕ). HasKept old.store.layout (size old.store.disk) (event_records old.store.layout bytes) (came_by result (spelled (attended_event (attended content mid) turn))) image) is.reads
      (subst (λ (n : ℕ). HasKept old.store.layout n (event_records old.store.layout (content mid.store.disk)) (came_by result (spelled (attended_event (attended content mid) turn))) image) sized
      (subst (λ (l : Layout). HasKept l (size mid.store.disk) (event_records l (content mid.store.disk)) (came_by result (spelled (attended_event (attended content mid) turn))) image) is.layout kept)))

  -- it was done then
  pub attended-before : (new : DeskView D) (result : Result Reply DeskError) → HasAttended told content may_leave moment left_since size turn mid new result
      → HasAttended told content may_leave moment left_since size turn old new result
  attended-before new result done = record {
    reply = subst (λ (a : AttendedDesk). IfOk result (λ reply. reply ≡ attended_reply a turn)) same-attended done.reply;
    fits = subst (λ (a : AttendedDesk). OnOk result (attended_fits a turn ≡ true)) same-attended done.fits;
    after = subst (λ (a : AttendedDesk). OnOk result (state_of content new ≡ (behind_attended a turn).state)) same-attended done.after;
    trusted = done.trusted;
    events = subst (λ (a : AttendedDesk). OnOk result (event_records old.store.layout (content new.store.disk) ≡ records ++ spelled (attended_event a turn))) same-attended
        (subst (λ (bytes : List ℕ). OnOk result (event_records old.store.layout (content new.store.disk) ≡ event_records old.store.layout bytes ++ spelled (attended_event (attended content mid) turn))) is.reads
        (subst (λ (l : Layout). OnOk result (event_records l (content new.store.disk) ≡ event_records l (content mid.store.disk) ++ spelled (attended_event (attended content mid) turn))) is.layout done.events));
    room = subst (λ (a : AttendedDesk). RoomIsTaken a turn new.machine_room result) same-attended done.room;
    cause = subst (λ (a : AttendedDesk). IfErr result (FailsBy a.state.room (attended_event a turn))) same-attended done.cause;
    takes = subst (λ (a : AttendedDesk). IfErr result (LacksBy a turn)) same-attended done.takes;
    kept = and_then moment left_since old.store.disk mid.store.disk new.store.disk (λ image. OpensSame content size old image × may_leave old.store.disk image)
        (HasKept mid.store.layout (size mid.store.disk) (event_records mid.store.layout (content mid.store.disk)) (came_by result (spelled (attended_event (attended content mid) turn))))
        (HasKept old.store.layout (size old.store.disk) records (came_by result its_came)) since done.kept (read-kept (came_by result its_came)) (later-kept result);
  }

  -- it wasn't
  pub attended-not : (error : DeskError) → FailsBy (state_of content old).room (attended_event (attended content old) turn) error → LacksBy (attended content old) turn error
      → RoomStandsBy (attended content old) turn mid.machine_room error → HasAttended told content may_leave moment left_since size turn old mid (Err error)
  attended-not error cause takes room = record {
    reply = tt;
    fits = tt;
    after = tt;
    trusted = tt;
    events = tt;
    room = room;
    cause = cause;
    takes = takes;
    kept = in_other_words moment left_since old.store.disk mid.store.disk (λ image. OpensSame content size old image × may_leave old.store.disk image)
        (HasKept old.store.layout (size old.store.disk) records (came_by {T = Reply} (Err error) its_came)) since (read-kept (came_by {T = Reply} (Err error) its_came));
  }

  -- there was no memory, and its step wants volumes
  pub attended-unprepared : (error : DeskError) → error ≡ NoMemory → wants_volumes (attended content old) turn ≡ true → HasAttended told content may_leave moment left_since size turn old mid (Err error)
  attended-unprepared error is wants =
      subst (λ (e : DeskError). HasAttended told content may_leave moment left_since size turn old mid (Err e)) (sym is) (attended-not NoMemory tt (inr wants) roomed)

-- ---- a plan that needs memory

module _ (layout : Layout) (tables : TablesModel) (initiator : ℕ) (plan : Plan) (mounts : MountTable) (operator : Option Answering) where
  -- where no volumes are to be taken
  pub unless-wanted : (is_some (wanting tables plan) && is_none (held_at mounts initiator)) ≡ false → attempt_for layout tables initiator plan mounts operator ≡ at_hand mounts operator
  unfolding attempt_for
  unless-wanted off = by (wanting tables plan) (held_at mounts initiator) off
    where
      by : (step : Option Wanting) (its : Option (List ℕ)) → (is_some step && is_none its) ≡ false
          → option_map_or (λ step. unless_held layout (volumes_of layout step) mounts operator its) step (at_hand mounts operator) ≡ at_hand mounts operator
      by None its off = refl
      by (Some step) (Some volumes) off = refl
      by (Some step) None off = absurd (true≢false off)

module _ {D : Type 0} (told : Type 0) (content : D → List ℕ) (may_leave : D → List ℕ → Type 0) (moment : D → ℕ) (left_since : D → ℕ → List ℕ → Type 0) (size faults : D → ℕ) (old : DeskView D) (turn : Turn) (plan : Plan)
    (p : IsPlanned told content may_leave old (untaken turn) plan) where
  lacks-untaken : attempt_in (attended content old) turn ≡ at_hand old.machine_room.mounts old.machine_room.operator
      → TakesBy (reply_of (state_of content old) (untaken turn) (restart_answer old.machine_room.operator)) (event_of_turn (state_of content old) (untaken turn) (restart_answer old.machine_room.operator))
      (asks (state_of content old) (untaken turn) (restart_answer old.machine_room.operator)) NoMemory
      → TakesBy (attended_reply (attended content old) turn) (attended_event (attended content old) turn) (attended_asks (attended content old) turn) NoMemory
  unfolding attended_reply attended_event attended_asks
  lacks-untaken is takes =
      subst (λ (a : Attempt). let one : MountedTurn = record { turn = turn; taking = a.taking } in
      TakesBy (reply_of (state_of content old) one (restart_answer a.operator)) (event_of_turn (state_of content old) one (restart_answer a.operator)) (asks (state_of content old) one (restart_answer a.operator)) NoMemory)
      (sym is) takes

  -- there may be no memory for what the turn comes to before its step's volumes are looked at
  pub needs-lacks : NeedsRoom plan → LacksBy (attended content old) turn NoMemory
  needs-lacks needs =
      bool-cases (wants_volumes (attended content old) turn) (λ wants. inr wants)
      (λ off. inl
      (lacks-untaken
      (attempt-at told content may_leave old turn plan p
      ∙ unless-wanted old.store.layout old.jobs.tables.desk turn.initiator plan old.machine_room.mounts old.machine_room.operator (sym (wants-at told content may_leave old turn plan p) ∙ off))
      (go-needs told content may_leave moment left_since size faults old p.trusted (untaken turn) p.its (restart_answer old.machine_room.operator) (subst NeedsRoom (sym p.planned) needs))))

  -- for any other error there is nothing to be said
  pub lacks-so : LacksBy (attended content old) turn NoMemory → (error : DeskError) → LacksBy (attended content old) turn error
  lacks-so lacks NoMemory = lacks
  lacks-so lacks DiskFault = inl tt
  lacks-so lacks (BookFull need room) = inl tt
  lacks-so lacks (Stopped fault) = inl tt

-- ---- where a desk was only read, and memory was taken

module _ (a : AttendedDesk) (turn : Turn) {D : Type 0} (faults : D → ℕ) where
  pub reading-room : (old new : StoreView D) (room : MachineRoomView) (error : DeskError) → ReadingCause faults old new error → room ≡ a.machine_room → RoomStandsBy a turn room error
  reading-room old new room NoMemory not same = same
  reading-room old new room DiskFault not same = tt
  reading-room old new room (BookFull need left) not same = absurd not
  reading-room old new room (Stopped fault) not same = tt

  pub unworked-lacks : (old new : DeskView D) (error : DeskError) → NotWorkedOut faults old new error → LacksBy a turn error
  unworked-lacks old new NoMemory not = absurd not
  unworked-lacks old new DiskFault not = inl tt
  unworked-lacks old new (BookFull need left) not = absurd not
  unworked-lacks old new (Stopped fault) not = absurd not

  pub unworked-room : (old new : DeskView D) (room : MachineRoomView) (error : DeskError) → NotWorkedOut faults old new error → RoomStandsBy a turn room error
  unworked-room old new room NoMemory not = absurd not
  unworked-room old new room DiskFault not = tt
  unworked-room old new room (BookFull need left) not = absurd not
  unworked-room old new room (Stopped fault) not = absurd not

module _ {D : Type 0} (told : Type 0) (content : D → List ℕ) (may_leave : D → List ℕ → Type 0) (moment : D → ℕ) (left_since : D → ℕ → List ℕ → Type 0) (size : D → ℕ)
    (old mid later : DeskView D) (is : IsAsBefore told content may_leave old mid) (jobs : HasSameJobs mid later) (store : later.store ≡ mid.store) where
  abbrev two : IsAsBefore told content may_leave mid later
  two = as-before content may_leave mid later told (same-unchanged content may_leave mid later jobs store)

  pub later-before : IsAsBefore told content may_leave old later
  later-before = record {
    jobs = twice-stayed old.jobs mid.jobs later.jobs is.jobs two.jobs;
    layout = two.layout ∙ is.layout;
    room = two.room ∙ is.room;
    reads = two.reads ∙ is.reads;
    none_new = λ image may. is.none_new image (two.none_new image may);
  }

  pub later-sized : size mid.store.disk ≡ size old.store.disk → size later.store.disk ≡ size old.store.disk
  later-sized sized = ap (λ (s : StoreView D). size s.disk) store ∙ sized

  pub later-since : (P : List ℕ → Type 0) → EachSince moment left_since old.store.disk mid.store.disk P → EachSince moment left_since old.store.disk later.store.disk P
  later-since P since = subst (λ (s : StoreView D). EachSince moment left_since old.store.disk s.disk P) (sym store) since

pub unprepared : {D : Type 0} (old new : DeskView D) (error : DeskError) → LacksMemory old new error → error ≡ NoMemory
unprepared old new NoMemory lacks = refl
unprepared old new DiskFault lacks = absurd lacks
unprepared old new (BookFull need room) lacks = absurd lacks
unprepared old new (Stopped fault) lacks = absurd lacks

-- ---- where memory was taken, and the operator was asked

module _ {D : Type 0} (told : Type 0) (content : D → List ℕ) (may_leave : D → List ℕ → Type 0) (moment : D → ℕ) (left_since : D → ℕ → List ℕ → Type 0) (size : D → ℕ)
    (old mid inside : DeskView D) (is : IsAsBefore told content may_leave old mid) (sized : size mid.store.disk ≡ size old.store.disk)
    (since : EachSince moment left_since old.store.disk mid.store.disk (λ image. OpensSame content size old image × may_leave old.store.disk image)) (seen : inside ≡ mid) (room : MachineRoomView) where
  abbrev asked_desk : DeskView D
  asked_desk = record inside { machine_room = room }

  inside-state : state_of content inside ≡ state_of content old
  inside-state = ap (state_of content) seen ∙ state-same told content may_leave old mid is

  pub asked-planned : (turn : MountedTurn) (plan : Plan) → IsPlanned told content may_leave old turn plan → IsPlanned told content may_leave asked_desk turn plan
  asked-planned turn plan p =
      planned-room told content may_leave inside room turn plan
      (subst (λ (s : DeskView D). IsPlanned told content may_leave s turn plan) (sym seen) (planned-before told content may_leave moment left_since size old mid is sized since turn plan p))

  pub asked-turned : IsTrusted told content may_leave old → (turn : MountedTurn) (answer : Answer) (new : DeskView D) (result : Result Reply DeskError)
      → HasTurned told content may_leave moment left_since size turn answer asked_desk new result → HasTurned told content may_leave moment left_since size turn answer old new result
  asked-turned trusted turn answer new result done =
      turned-before told content may_leave moment left_since size old mid is sized since turn answer trusted new result
      (subst (λ (s : DeskView D). HasTurned told content may_leave moment left_since size turn answer s new result) seen (turned-from told content may_leave moment left_since size turn answer inside new room result done))

  pub asked-stands : (turn : MountedTurn) (answer : Answer) (new : MachineRoomView) (result : Result Reply DeskError)
      → AnswerStands (asks (state_of content asked_desk) turn answer) room new result → AnswerStands (asks (state_of content old) turn answer) room new result
  asked-stands turn answer new result stands = subst (λ (s : RoomyDesk). AnswerStands (asks s turn answer) room new result) inside-state stands

  pub asked-quiet : (turn : MountedTurn) (answer : Answer) → asks (state_of content asked_desk) turn answer ≡ false → asks (state_of content old) turn answer ≡ false
  asked-quiet turn answer quiet = ap (λ (s : RoomyDesk). asks s turn answer) (sym inside-state) ∙ quiet

  pub asked-at : inside.jobs.points ≡ old.jobs.points → (plan : Plan) → PlanStandsAt (state_of content old).desk old.jobs.points plan → PlanStandsAt (state_of content asked_desk).desk asked_desk.jobs.points plan
  asked-at points plan at =
      subst (λ (s : RoomyDesk). PlanStandsAt s.desk inside.jobs.points plan) (sym inside-state) (subst (λ (its : List PointView). PlanStandsAt (state_of content old).desk its plan) (sym points) at)

-- ---- behind the turn, units are given up

pub room-behind : (a : AttendedDesk) (turn : Turn) (reply : Reply) → reply ≡ attended_reply a turn → (opened : MachineRoomView) → opened ≡ room_taken a turn
    → (gives : Bool) → gives ≡ gives_up reply → given_up_if gives turn.initiator opened ≡ (behind_attended a turn).machine_room
unfolding behind_attended
room-behind a turn reply is opened room gives so =
    ap (λ b. given_up_if b turn.initiator opened) (so ∙ ap gives_up is) ∙ ap (given_up_if (gives_up (attended_reply a turn)) turn.initiator) room
