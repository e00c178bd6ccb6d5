-- A step comes by its volumes as they were looked up, and as the operator was asked for them.
use Rattle.std.proofs.Common.{◌≡◌, ℕ, List, false, refl, ap, sym, ◌∙◌, subst, Option, Some, None, Result, Ok, Err, IfErr, pred, slice_index_or}
use Rattle.std.proofs.lemmas.Option.{same_Some}
use Rattle.std.specs.Option.{option_map, option_map_or}
use Rattle.ckr_base.proofs.Options.{some-not-none}
use Rattle.ckr_console.specs.Answering.{restart_answer}
use Rattle.ckr_console.specs.declared.question.Answer.{Answer}
use Rattle.ckr_desk_turn.specs.Mounts.{Attempt, Wanting, asked_for, volumes_of, wanting, wanting_in, wants}
use Rattle.ckr_desk_turn.specs.Turns.{MountedTurn}
use Rattle.ckr_desk_turn.specs.declared.plan.Plan.{Plan}
use Rattle.ckr_points.specs.declared.reply.Reply.{Reply}
use Rattle.ckr_desk_turn.specs.declared.reply.Turn.{Turn}
use Rattle.ckr_desk_turn.specs.declared.taking.Taking.{Taking}
use Rattle.ckr_desk_turn.specs.declared.taking.Taking.TheVariants.{Taken}
use Rattle.ckr_outside.specs.Disk.{EachSince}
use Rattle.ckr_events.specs.declared.event.Made.{Made}
use Rattle.ckr_meaning.specs.EffectiveJob.{OwnedStep}
use Rattle.ckr_points.specs.Follows.{own_step}
use Rattle.ckr_points.specs.Rows.{RunRow, TablesModel, run_of}
use Rattle.ckr_queue.specs.Mounts.{held_at, with_held}
use Rattle.ckr_volumes.specs.declared.layout.Layout.{Layout}
use Rattle.ckr_desk.proofs.Calls.Requests.{if-err}
use Rattle.ckr_desk_turn.proofs.MachineRooms.{MayCome, asked-comes, asked-held, asked-takes, takes-none, takes_by}
use Rattle.ckr_desk.proofs.Trust.Sameness.{IsAsBefore}
use Rattle.ckr_desk.proofs.Turns.Answers.{unasked-stands}
use Rattle.ckr_desk.specs.Attendance.{HasAttended, IsToMount, attempt_in, attended, untaken}
use Rattle.ckr_desk_turn.specs.MachineRoom.{FitsUnits, MachineRoomView, NeedsNoQuestion, behind_attempt}
use Rattle.ckr_desk.specs.Rewrite.{OpensSame}
use Rattle.ckr_desk.specs.Soundness.{state_of}
use Rattle.ckr_desk.specs.State.{DeskView}
use Rattle.ckr_desk.specs.Turn.{AnswerStands, AnswerStandsBy, asks, room_behind_answer}
use Rattle.ckr_desk.specs.Units.{HasTurned, IsPlanned}
use Rattle.ckr_desk.specs.declared.error.DeskError.{DeskError}
use Rattle.ckr_desk.specs.declared.error.DeskError.TheVariants.{NoMemory}
use Rattle.ckr_desk.proofs.Attendances.{asked-quiet, asked-stands, asked-turned, attempt-at, attempt-so, attempt_to, attended-failed, attended-taking, attended-untaken, wanted-asked}

-- ---- the volumes that were looked up

-- the run that a plan wants volumes for is the step's
pub run-wanted : (tables : TablesModel) (plan : Plan) (step : Wanting) (run : ℕ) → wanting tables plan ≡ Some step → Some run ≡ option_map (λ (want : ℕ × List Made). want.0) (wants plan) → run_of tables run ≡ Some step.row
run-wanted tables plan step run is of = by (wants plan) is of
  where
    row_by : (want : ℕ × List Made) (row : Option RunRow) → run_of tables want.0 ≡ row
        → option_map_or (λ (one : RunRow). option_map_or (λ owned. Some (let made : Wanting = record { sets = tables.sets; row = one; owned = owned; items = want.1 } in made)) (own_step one) None) row None ≡ Some step
        → row ≡ Some step.row
    row_by want None at some = absurd (some-not-none step (sym some))
    row_by want (Some one) at some = own_by (own_step one) some
      where
        own_by : (own : Option OwnedStep) → option_map_or (λ owned. Some (let made : Wanting = record { sets = tables.sets; row = one; owned = owned; items = want.1 } in made)) own None ≡ Some step → Some one ≡ Some step.row
        own_by None some = absurd (some-not-none step (sym some))
        own_by (Some owned) some = ap (λ (w : Wanting). Some w.row) (same_Some _ step some)

    by : (o : Option (ℕ × List Made)) → option_map_or (wanting_in tables) o None ≡ Some step → Some run ≡ option_map (λ (want : ℕ × List Made). want.0) o → run_of tables run ≡ Some step.row
    by None some of = absurd (some-not-none step (sym some))
    by (Some want) some of = ap (run_of tables) (same_Some run want.0 of) ∙ row_by want (run_of tables want.0) refl some

pub wanted-none : (layout : Layout) (step : Option Wanting) → None ≡ option_map (volumes_of layout) step → step ≡ None
wanted-none layout None is = refl
wanted-none layout (Some step) is = absurd (some-not-none (volumes_of layout step) (sym is))

pub wanted-some : (layout : Layout) (step : Option Wanting) (volumes : List ℕ) → Some volumes ≡ option_map (volumes_of layout) step → (its : Wanting) × (step ≡ Some its) × (volumes ≡ volumes_of layout its)
wanted-some layout None volumes is = absurd (some-not-none volumes is)
wanted-some layout (Some step) volumes is = (step, refl, same_Some volumes (volumes_of layout step) is)

-- ---- volumes that the operator is asked for

-- this became of them, and so the machine room stands then
pub record HasAsked (layout : Layout) (volumes : List ℕ) (room : MachineRoomView) (taking : Taking) (later : MachineRoomView) : Type 0 where
  pub taking_is : taking ≡ (asked_for layout volumes room.mounts room.operator).taking
  pub behind : later ≡ behind_attempt (asked_for layout volumes room.mounts room.operator)

module _ (layout one : Layout) (volumes its : List ℕ) (room before : MachineRoomView) (taking : Taking) (later : MachineRoomView) where
  pub asked-alike : one ≡ layout → its ≡ volumes → before ≡ room → taking ≡ (asked_for one its before.mounts before.operator).taking → later ≡ behind_attempt (asked_for one its before.mounts before.operator)
      → HasAsked layout volumes room taking later
  asked-alike layouts same rooms is behind =
      let e : asked_for one its before.mounts before.operator ≡ asked_for layout volumes room.mounts room.operator =
      ap (λ (l : Layout). asked_for l its before.mounts before.operator) layouts
      ∙ ap (λ (v : List ℕ). asked_for layout v before.mounts before.operator) same
      ∙ ap (λ (r : MachineRoomView). asked_for layout volumes r.mounts r.operator) rooms
      in
      record { taking_is = is ∙ ap (λ (a : Attempt). a.taking) e; behind = behind ∙ ap behind_attempt e }

module _ (layout : Layout) (volumes : List ℕ) (room : MachineRoomView) (taking : Taking) (later : MachineRoomView) (a : HasAsked layout volumes room taking later) where
  pub asked-attempt : asked_for layout volumes room.mounts room.operator ≡ attempt_to taking (takes_by volumes taking) later
  asked-attempt =
      attempt-so (asked_for layout volumes room.mounts room.operator) taking (takes_by volumes taking) later (sym a.taking_is) (asked-takes layout volumes room ∙ ap (takes_by volumes) (sym a.taking_is)) (sym a.behind)

  pub asked-may : FitsUnits layout volumes room → MayCome volumes taking
  asked-may fits = subst (MayCome volumes) (sym a.taking_is) (asked-comes layout volumes room fits)

  pub asked-none : FitsUnits layout volumes room → (initiator : ℕ) → held_at room.mounts initiator ≡ None → held_at later.mounts initiator ≡ None
  asked-none fits initiator none =
      ap (λ (held : List (Option (List ℕ))). slice_index_or held (pred initiator) None) (ap (λ (r : MachineRoomView). r.mounts.held) a.behind ∙ asked-held layout volumes room fits) ∙ none

-- nobody was to be asked
pub unasked-alike : (layout one : Layout) (volumes its : List ℕ) (room before : MachineRoomView) (taking : Taking) → one ≡ layout → its ≡ volumes → before ≡ room → NeedsNoQuestion one its before taking → HasAsked layout volumes room taking room
unasked-alike layout one volumes its room before taking layouts same rooms question =
    subst (λ (r : MachineRoomView). HasAsked layout volumes room taking r) rooms
    (asked-alike layout one volumes its room before taking before layouts same rooms (sym question.taking_is) (sym question.same))

module _ {D : Type 0} (told : Type 0) (content : D → List ℕ) (may_leave : D → List ℕ → Type 0) (old : DeskView D) (turn : Turn) (plan : Plan) (p : IsPlanned told content may_leave old (untaken turn) plan) where
  pub attempt-by : (step : Wanting) → wanting old.jobs.tables.desk plan ≡ Some step → held_at old.machine_room.mounts turn.initiator ≡ None → (volumes : List ℕ) → volumes ≡ volumes_of old.store.layout step
      → (taking : Taking) (later : MachineRoomView) → HasAsked old.store.layout volumes old.machine_room taking later → attempt_in (attended content old) turn ≡ attempt_to taking (takes_by volumes taking) later
  attempt-by step is none volumes same taking later a =
      attempt-at told content may_leave old turn plan p
      ∙ wanted-asked old.store.layout old.jobs.tables.desk turn.initiator plan old.machine_room.mounts old.machine_room.operator step is none
      ∙ ap (λ (v : List ℕ). asked_for old.store.layout v old.machine_room.mounts old.machine_room.operator) (sym same)
      ∙ asked-attempt old.store.layout volumes old.machine_room taking later a

module _ {D : Type 0} (told : Type 0) (content : D → List ℕ) (may_leave : D → List ℕ → Type 0) (moment : D → ℕ) (left_since : D → ℕ → List ℕ → Type 0) (size : D → ℕ)
    (old mid inside : DeskView D) (is : IsAsBefore told content may_leave old mid) (sized : size mid.store.disk ≡ size old.store.disk)
    (since : EachSince moment left_since old.store.disk mid.store.disk (λ image. OpensSame content size old image × may_leave old.store.disk image)) (seen : inside ≡ mid)
    (turn : Turn) (plan : Plan) (volumes : List ℕ) (p : IsPlanned told content may_leave old (untaken turn) plan) (m : IsToMount old.store.layout old.jobs old.machine_room turn.initiator plan volumes)
    (taking : Taking) (later : MachineRoomView) (a : HasAsked old.store.layout volumes old.machine_room taking later) where
  abbrev desk_then : DeskView D
  desk_then = record inside { machine_room = later }

  abbrev turn_then : MountedTurn
  turn_then = record { turn = turn; taking = taking }

  abbrev answer_then : Answer
  answer_then = restart_answer later.operator

  attempt-then : attempt_in (attended content old) turn ≡ attempt_to taking (takes_by volumes taking) later
  attempt-then = attempt-by told content may_leave old turn plan p m.step m.wanting_is m.none volumes m.volumes_are taking later a

  turned-then : (new : DeskView D) (result : Result Reply DeskError) → HasTurned told content may_leave moment left_since size turn_then answer_then desk_then new result
      → HasTurned told content may_leave moment left_since size turn_then answer_then old new result
  turned-then = asked-turned told content may_leave moment left_since size old mid inside is sized since seen later p.trusted turn_then answer_then

  stands-then : (new : MachineRoomView) (result : Result Reply DeskError) → AnswerStands (asks (state_of content desk_then) turn_then answer_then) later new result → AnswerStands (asks (state_of content old) turn_then answer_then) later new result
  stands-then = asked-stands told content may_leave moment left_since size old mid inside is sized since seen later turn_then answer_then

  -- they are all mounted, and the turn wasn't done
  pub mount-failed : (new : DeskView D) (error : DeskError) → (error ≡ NoMemory → ⊥) → HasTurned told content may_leave moment left_since size turn_then answer_then desk_then new (Err error)
      → AnswerStandsBy (asks (state_of content desk_then) turn_then answer_then) later new.machine_room error → HasAttended told content may_leave moment left_since size turn old new (Err error)
  mount-failed new error never done stands =
      attended-failed told content may_leave moment left_since size old turn taking (takes_by volumes taking) later attempt-then new error (λ none. absurd (never none))
      (turned-then new (Err error) done) (stands-then new.machine_room (Err error) stands)

  -- it was, and the step takes them
  pub mount-done : takes_by volumes taking ≡ Some volumes → (new : DeskView D) (room : MachineRoomView) → room ≡ record new.machine_room { mounts = with_held turn.initiator volumes new.machine_room.mounts }
      → (reply : Reply) → HasTurned told content may_leave moment left_since size turn_then answer_then desk_then new (Ok reply)
      → new.machine_room ≡ room_behind_answer (asks (state_of content desk_then) turn_then answer_then) later
      → HasAttended told content may_leave moment left_since size turn old (record new { machine_room = room }) (Ok reply)
  mount-done takes new room so reply done stands =
      attended-taking told content may_leave moment left_since size old turn taking (takes_by volumes taking) later attempt-then volumes takes new room so reply
      (turned-then new (Ok reply) done) (stands-then new.machine_room (Ok reply) stands)

  -- they aren't
  pub mount-refused : (taking ≡ Taken → ⊥) → (new : DeskView D) (result : Result Reply DeskError) → IfErr result (λ error. error ≡ NoMemory → ⊥)
      → HasTurned told content may_leave moment left_since size turn_then answer_then desk_then new result → asks (state_of content desk_then) turn_then answer_then ≡ false → new.machine_room ≡ later
      → HasAttended told content may_leave moment left_since size turn old new result
  mount-refused isnt new result never done quiet same =
      attended-untaken told content may_leave moment left_since size old turn taking (takes_by volumes taking) later attempt-then (takes-none volumes taking isnt) new result
      (if-err (λ error no none. absurd (no none)) result never) (turned-then new result done)
      (unasked-stands (asks (state_of content old) turn_then answer_then) later new.machine_room
      (asked-quiet told content may_leave moment left_since size old mid inside is sized since seen later turn_then answer_then quiet) same result)
