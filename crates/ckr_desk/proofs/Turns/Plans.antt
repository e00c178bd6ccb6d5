-- A turn that is no unit and passes no checkpoint, with the operator's answer if it asks him, from the desk as it stood.
use Rattle.std.proofs.Common.{◌≡◌, ◌≤◌, ◌++◌, [], ℕ, List, Bool, true, false, refl, ap, sym, ◌∙◌, subst, append-nil, inl, inr, Option, Some, None, Result, Ok, Err, IfOk}
use Rattle.std.proofs.lemmas.Bool.{true≢false}
use Rattle.ckr_base.specs.declared.code.Code.{Code}
use Rattle.ckr_console.specs.declared.question.Answer.{Answer}
use Rattle.ckr_events.specs.declared.event.Event.{Event}
use Rattle.ckr_desk_refines.specs.Memory.Plans.{IsSpelledPlan, NeedsRoom}
use Rattle.ckr_desk_refines.specs.Memory.View.{PointView, jobs_of}
use Rattle.ckr_desk_turn.specs.Turns.{IsMountedTurnOf, MountedTurn, plan_for, turn_of}
use Rattle.ckr_outside.specs.Disk.{EachSince}
use Rattle.ckr_outside.specs.Moments.{in_other_words}
use Rattle.ckr_points.specs.Rows.{TablesModel}
use Rattle.ckr_desk_refines.specs.Moves.{event_in, reply_in}
use Rattle.ckr_desk_store.specs.OpenImages.{event_records}
use Rattle.ckr_desk_store.specs.State.{StoreView}
use Rattle.ckr_desk_turn.specs.declared.plan.Plan.{Plan}
use Rattle.ckr_desk_turn.specs.declared.plan.Plan.TheVariants.{Rest, Tell, Work, Pass, Take, Ask, Wait}
use Rattle.ckr_points.specs.declared.reply.Reply.{Reply}
use Rattle.ckr_desk_turn.specs.Desk.{DeskModel, TurnDone}
use Rattle.ckr_desk_turn.specs.Inquiries.{decide, is_ask}
use Rattle.ckr_desk.proofs.Turns.Preparation.{same-unchanged}
use Rattle.ckr_desk.proofs.Images.Soundness.{kept-left}
use Rattle.ckr_desk.proofs.Trust.Counts.{trusted-counted}
use Rattle.ckr_desk.proofs.Trust.Events.{trusted-behind}
use Rattle.ckr_desk.proofs.Turns.Events.{behind-turn-so, coming-turn, done_so, image-kept, plans-desk, state-behind, turn-fits-so, turned-settled}
use Rattle.ckr_desk.proofs.Turns.Decided.{by-answer, by-decide, decided-settled}
use Rattle.ckr_desk.proofs.Turns.Resting.{state-resting, trusted-resting}
use Rattle.ckr_desk_refines.proofs.Events.Turns.{turn-waits}
use Rattle.ckr_desk_refines.specs.Standing.{StandsForDesk}
use Rattle.ckr_desk.specs.declared.error.DeskError.{DeskError}
use Rattle.ckr_desk.specs.declared.error.DeskError.TheVariants.{NoMemory, DiskFault, BookFull, Stopped}
use Rattle.ckr_desk.specs.Continuation.{PlanKnows, PlanStandsAt}
use Rattle.ckr_desk.specs.Records.{ReadingCause}
use Rattle.ckr_desk.specs.Requests.{FailsBy, IsFull, MayFail, has_room, room_behind, spelled}
use Rattle.ckr_desk.specs.Preparation.{LacksAnswers, MayLack, NotReadyFor, NotSettled}
use Rattle.ckr_desk.specs.Rewrite.{OpensSame}
use Rattle.ckr_desk.specs.NoChange.{HasHalted, IsOfDisk, StaysBy}
use Rattle.ckr_desk.specs.Turn.{asks, behind_turn, event_of_turn, reply_of, turn_fits}
use Rattle.ckr_desk.specs.Units.{HasGoneBehind, IsLeftBehind, IsSettledPlan, NotBehind, OpensBehind, TakesBy, needs_some}
use Rattle.ckr_desk.specs.Soundness.{HasKept, IsTrusted, KeepsWithin, state_of}
use Rattle.ckr_desk.specs.State.{RoomyDesk, DeskView}

-- whether a running step goes on: by a unit, or with its checkpoint
abbrev pub is_work : Plan → Bool
is_work (Work job) = true
is_work (Pass job reply) = true
is_work (Take job) = true
is_work _ = false

-- a plan by which none does
pub rests-so : (plan : Plan) → ((job : ℕ) → plan ≡ Work job → ⊥) → ((job : ℕ) (reply : Reply) → plan ≡ Pass job reply → ⊥) → ((job : ℕ) → plan ≡ Take job → ⊥) → is_work plan ≡ false
rests-so (Work job) no_work no_pass no_take = absurd (no_work job refl)
rests-so (Pass job reply) no_work no_pass no_take = absurd (no_pass job reply refl)
rests-so (Take job) no_work no_pass no_take = absurd (no_take job refl)
rests-so _ no_work no_pass no_take = refl

-- what holds of an answer, holds in other words
pub if-ok : {T E : Type 0} {P Q : T → Type 0} → ((x : T) → P x → Q x) → (result : Result T E) → IfOk result P → IfOk result Q
if-ok of (Ok x) is = of x is
if-ok of (Err error) is = tt

-- why it wasn't done, on any disk
pub go-may-fail : {D : Type 0} (faults : D → ℕ) (old new : DeskView D) (plan : Plan) (error : DeskError) → NotBehind faults plan old new error → MayFail (faults old.store.disk) (faults new.store.disk) old.store.fault error
go-may-fail faults old new (Tell reply event) NoMemory not = absurd not
go-may-fail faults old new (Tell reply event) DiskFault not = not
go-may-fail faults old new (Tell reply event) (BookFull need room) not = absurd not
go-may-fail faults old new (Tell reply event) (Stopped fault) not = absurd not
go-may-fail faults old new _ error not = absurd not

-- where an entry wasn't read
pub reading-fails : {D : Type 0} (faults : D → ℕ) (old new : StoreView D) (room : ℕ) (event : Option Event) (error : DeskError) → ReadingCause faults old new error → FailsBy room event error
reading-fails faults old new room event NoMemory not = tt
reading-fails faults old new room event DiskFault not = tt
reading-fails faults old new room event (BookFull need left) not = absurd not
reading-fails faults old new room event (Stopped fault) not = tt

pub reading-takes : (reply : Reply) (event : Option Event) (asked : Bool) (error : DeskError) → TakesBy reply event asked NoMemory → TakesBy reply event asked error
reading-takes reply event asked NoMemory takes = takes
reading-takes reply event asked DiskFault takes = tt
reading-takes reply event asked (BookFull need room) takes = tt
reading-takes reply event asked (Stopped fault) takes = tt

-- only the disk fails then
pub go-of-disk : {D : Type 0} (faults : D → ℕ) (old new : DeskView D) (plan : Plan) (error : DeskError) → NotBehind faults plan old new error → IsOfDisk error
go-of-disk faults old new (Tell reply event) NoMemory not = absurd not
go-of-disk faults old new (Tell reply event) DiskFault not = tt
go-of-disk faults old new (Tell reply event) (BookFull need room) not = absurd not
go-of-disk faults old new (Tell reply event) (Stopped fault) not = absurd not
go-of-disk faults old new _ error not = absurd not

-- what is made ready before takes the memory
pub behind-takes : {D : Type 0} (faults : D → ℕ) (old new : DeskView D) (plan : Plan) (reply : Reply) (event : Option Event) (asked : Bool) (error : DeskError) → NotBehind faults plan old new error → TakesBy reply event asked error
behind-takes faults old new (Tell its told) reply event asked NoMemory not = absurd not
behind-takes faults old new (Tell its told) reply event asked DiskFault not = tt
behind-takes faults old new (Tell its told) reply event asked (BookFull need room) not = tt
behind-takes faults old new (Tell its told) reply event asked (Stopped fault) not = tt
behind-takes faults old new _ reply event asked error not = absurd not

pub of-disk-stays : {D : Type 0} (content : D → List ℕ) (may_leave : D → List ℕ → Type 0) (faults : D → ℕ) (old new : DeskView D) (error : DeskError) → IsOfDisk error → HasHalted faults new.store error → StaysBy content may_leave faults old new error
of-disk-stays content may_leave faults old new NoMemory is halted = absurd is
of-disk-stays content may_leave faults old new DiskFault is halted = halted
of-disk-stays content may_leave faults old new (BookFull need room) is halted = absurd is
of-disk-stays content may_leave faults old new (Stopped fault) is halted = absurd is

-- what isn't ready leaves all as it was
pub unready-stays : {D : Type 0} (content : D → List ℕ) (may_leave : D → List ℕ → Type 0) (faults : D → ℕ) (old new : DeskView D) (event : Option Event) (error : DeskError) → NotReadyFor event old new error
    → StaysBy content may_leave faults old new error × MayFail (faults old.store.disk) (faults new.store.disk) old.store.fault error
unready-stays content may_leave faults old new None error not = absurd not
unready-stays content may_leave faults old new (Some event) NoMemory not = (same-unchanged content may_leave old new not.0.jobs not.0.store, tt)
unready-stays content may_leave faults old new (Some event) DiskFault not = absurd not
unready-stays content may_leave faults old new (Some event) (BookFull need room) not = (same-unchanged content may_leave old new not.3.jobs not.3.store, tt)
unready-stays content may_leave faults old new (Some event) (Stopped fault) not = absurd not

lacking-stays : {D : Type 0} (content : D → List ℕ) (may_leave : D → List ℕ → Type 0) (faults : D → ℕ) (old new : DeskView D) (plan : Plan) (error : DeskError) → LacksAnswers plan old new error
    → StaysBy content may_leave faults old new error × MayFail (faults old.store.disk) (faults new.store.disk) old.store.fault error
lacking-stays content may_leave faults old new plan NoMemory not = (same-unchanged content may_leave old new not.0.jobs not.0.store, tt)
lacking-stays content may_leave faults old new plan DiskFault not = absurd not
lacking-stays content may_leave faults old new plan (BookFull need room) not = absurd not
lacking-stays content may_leave faults old new plan (Stopped fault) not = absurd not

-- so does what isn't settled
pub unsettled-stays : {D : Type 0} (content : D → List ℕ) (may_leave : D → List ℕ → Type 0) (faults : D → ℕ) (old new : DeskView D) (answer : Answer) (plan : Plan) (error : DeskError) → NotSettled answer plan old new error
    → StaysBy content may_leave faults old new error × MayFail (faults old.store.disk) (faults new.store.disk) old.store.fault error
unsettled-stays content may_leave faults old new answer plan error (inl lacks) = lacking-stays content may_leave faults old new plan error lacks
unsettled-stays content may_leave faults old new answer plan error (inr not) = unready-stays content may_leave faults old new (event_in (decide answer plan)) error not

decided-rests : (answer : Answer) (plan : Plan) → is_work plan ≡ false → is_work (decide answer plan) ≡ false
decided-rests answer plan rests =
    by-decide (λ its. is_work its ≡ false) answer plan (λ inquiry is. by-answer (λ its. is_work its ≡ false) answer inquiry refl refl refl refl refl) (λ other. rests)

-- what is no unit and asks nobody is settled
settled-by : (plan : Plan) → is_ask plan ≡ false → is_work plan ≡ false → IsSettledPlan plan
settled-by (Work job) settled rests = absurd (true≢false rests)
settled-by (Pass job reply) settled rests = absurd (true≢false rests)
settled-by (Take job) settled rests = absurd (true≢false rests)
settled-by (Ask inquiry) settled rests = absurd (true≢false settled)
settled-by _ settled rests = tt

pub settled-so : (answer : Answer) (plan : Plan) → is_work plan ≡ false → IsSettledPlan (decide answer plan)
settled-so answer plan rests = settled-by (decide answer plan) (decided-settled answer plan) (decided-rests answer plan rests)

-- the operator's answer goes on with no earlier run
pub decided-knows : (tables : TablesModel) (points : List PointView) (answer : Answer) (plan : Plan) → PlanKnows tables points plan → PlanKnows tables points (decide answer plan)
decided-knows tables points answer plan knows = by-decide (PlanKnows tables points) answer plan (λ inquiry is. by-answer (PlanKnows tables points) answer inquiry tt tt tt tt tt) (λ other. knows)

pub decided-stands : (desk : DeskModel) (points : List PointView) (answer : Answer) (plan : Plan) → PlanStandsAt desk points plan → PlanStandsAt desk points (decide answer plan)
decided-stands desk points answer plan stands = by-decide (PlanStandsAt desk points) answer plan (λ inquiry is. by-answer (PlanStandsAt desk points) answer inquiry tt tt tt tt tt) (λ other. stands)

-- the events behind it
same-told : {D : Type 0} (content : D → List ℕ) (old new : DeskView D) → new.store ≡ old.store → event_records old.store.layout (content new.store.disk) ≡ event_records old.store.layout (content old.store.disk) ++ []
same-told {D} content old new same = ap (λ (s : StoreView D). event_records old.store.layout (content s.disk)) same ∙ sym (append-nil (event_records old.store.layout (content old.store.disk)))

pub gone-told : {D : Type 0} (told : Type 0) (content : D → List ℕ) (may_leave : D → List ℕ → Type 0) (plan : Plan) (old new : DeskView D) → told → HasGoneBehind told content may_leave plan old new
    → event_records old.store.layout (content new.store.disk) ≡ event_records old.store.layout (content old.store.disk) ++ spelled (event_in plan)
gone-told {D} told content may_leave (Rest reply) old new tells gone = same-told content old new (ap (λ (s : DeskView D). s.store) gone)
gone-told told content may_leave (Tell reply event) old new tells gone = (gone.1 tells).events
gone-told {D} told content may_leave (Work job) old new tells gone = same-told content old new (ap (λ (s : DeskView D). s.store) gone)
gone-told {D} told content may_leave (Pass job reply) old new tells gone = same-told content old new (ap (λ (s : DeskView D). s.store) gone)
gone-told {D} told content may_leave (Take job) old new tells gone = same-told content old new (ap (λ (s : DeskView D). s.store) gone)
gone-told {D} told content may_leave (Ask inquiry) old new tells gone = same-told content old new (ap (λ (s : DeskView D). s.store) gone)
gone-told told content may_leave (Wait job code) old new tells gone = same-told content old new gone.1

abbrev state_with : RoomyDesk → Option Event → Bool
state_with state event = has_room state.room event

module _ {D : Type 0} (told : Type 0) (content : D → List ℕ) (may_leave : D → List ℕ → Type 0) (moment : D → ℕ) (left_since : D → ℕ → List ℕ → Type 0) (size faults : D → ℕ)
    (old : DeskView D) (trusted : IsTrusted told content may_leave old) (turn : MountedTurn) (its : IsMountedTurnOf old.store.layout turn) (answer : Answer) where
  abbrev state : RoomyDesk
  state = state_of content old

  -- this is what the turn comes to, with the answer
  abbrev pub ComesTo : Plan → Type 0
  ComesTo plan = (decide answer (plan_for old.store.layout (jobs_of old.jobs) turn) ≡ plan) × IsSettledPlan plan

  comes-so : (plan : Plan) → ComesTo plan → turn_of state.desk turn answer ≡ done_so plan (is_ask (plan_for old.store.layout (jobs_of old.jobs) turn)) state.desk
  comes-so plan is = turned-settled told content may_leave size old trusted turn its answer plan is.0 is.1

  pub go-reply : (plan : Plan) → ComesTo plan → reply_in plan ≡ reply_of state turn answer
  unfolding reply_of
  go-reply (Rest reply) is = sym (ap (λ (done : TurnDone). done.reply) (comes-so (Rest reply) is))
  go-reply (Tell reply event) is = sym (ap (λ (done : TurnDone). done.reply) (comes-so (Tell reply event) is))
  go-reply (Wait job code) is = sym (ap (λ (done : TurnDone). done.reply) (comes-so (Wait job code) is))
  go-reply (Work job) is = absurd is.1
  go-reply (Pass job reply) is = absurd is.1
  go-reply (Take job) is = absurd is.1
  go-reply (Ask inquiry) is = absurd is.1

  pub go-event : (plan : Plan) → ComesTo plan → event_in plan ≡ event_of_turn state turn answer
  unfolding event_of_turn
  go-event (Rest reply) is = sym (ap (λ (done : TurnDone). done.event) (comes-so (Rest reply) is))
  go-event (Tell reply event) is = sym (ap (λ (done : TurnDone). done.event) (comes-so (Tell reply event) is))
  go-event (Wait job code) is = sym (ap (λ (done : TurnDone). done.event) (comes-so (Wait job code) is))
  go-event (Work job) is = absurd is.1
  go-event (Pass job reply) is = absurd is.1
  go-event (Take job) is = absurd is.1
  go-event (Ask inquiry) is = absurd is.1

  -- the operator is asked where the plan asks him
  pub go-asks : (plan : Plan) → ComesTo plan → asks state turn answer ≡ is_ask (plan_for old.store.layout (jobs_of old.jobs) turn)
  unfolding asks
  go-asks plan is = ap (λ (done : TurnDone). done.asked) (comes-so plan is)

  -- ---- where no event comes

  rest-fits : (plan : Plan) → ComesTo plan → event_in plan ≡ None → turn_fits state turn answer ≡ true
  unfolding turn_fits
  rest-fits plan is none = ap (state_with state) (sym (go-event plan is) ∙ none)

  rest-state : (reply : Reply) → ComesTo (Rest reply) → state ≡ behind_turn state turn answer
  unfolding behind_turn event_of_turn
  rest-state reply is = sym (ap (λ (done : TurnDone). record { desk = done.desk; room = room_behind state.room done.event }) (comes-so (Rest reply) is))

  -- the run waits
  module _ (job : ℕ) (code : Code) (is : ComesTo (Wait job code)) (new : DeskView D) (gone : HasGoneBehind told content may_leave (Wait job code) old new) where
    wait-stands : StandsForDesk old.store.layout new.jobs (content old.store.disk) (turn_of state.desk turn answer).desk
    wait-stands =
        turn-waits old.store.layout old.jobs new.jobs (content old.store.disk) state.desk turn answer job code trusted.stands its
        (ap (decide answer) (sym (plans-desk told content may_leave size old trusted turn its)) ∙ is.0) gone.0

    wait-none : (turn_of state.desk turn answer).event ≡ None
    wait-none = ap (λ (done : TurnDone). done.event) (comes-so (Wait job code) is)

    wait-office : (turn_of state.desk turn answer).desk.office ≡ state.desk.office
    wait-office = ap (λ (done : TurnDone). done.desk.office) (comes-so (Wait job code) is)

    wait-state : state_of content new ≡ behind_turn state turn answer
    wait-state =
        state-resting told content may_leave moment left_since size old trusted turn answer new.jobs new.machine_room gone.0.tables (turn_of state.desk turn answer) refl wait-none wait-office wait-stands new.store gone.1

    wait-trusted : IsTrusted told content may_leave new
    wait-trusted =
        trusted-resting told content may_leave moment left_since size old trusted turn answer new.jobs new.machine_room gone.0.tables (turn_of state.desk turn answer) refl wait-none wait-office wait-stands new.store gone.1

  -- ---- what it comes to

  pub go-fits : (plan : Plan) (new : DeskView D) → ComesTo plan → IsSpelledPlan plan → HasGoneBehind told content may_leave plan old new → turn_fits state turn answer ≡ true
  go-fits (Rest reply) new is shape gone = rest-fits (Rest reply) is refl
  go-fits (Tell reply event) new is shape gone = turn-fits-so told content may_leave size old trusted turn its answer reply event is.0 shape.0 new gone.0
  go-fits (Wait job code) new is shape gone = rest-fits (Wait job code) is refl
  go-fits (Work job) new is shape gone = absurd is.1
  go-fits (Pass job reply) new is shape gone = absurd is.1
  go-fits (Take job) new is shape gone = absurd is.1
  go-fits (Ask inquiry) new is shape gone = absurd is.1

  pub go-told : (plan : Plan) (new : DeskView D) → ComesTo plan → HasGoneBehind told content may_leave plan old new
      → event_records old.store.layout (content new.store.disk) ≡ event_records old.store.layout (content old.store.disk) ++ spelled (event_of_turn state turn answer)
  go-told plan new is gone =
      subst (λ (e : Option Event). event_records old.store.layout (content new.store.disk) ≡ event_records old.store.layout (content old.store.disk) ++ spelled e) (go-event plan is)
      (gone-told told content may_leave plan old new trusted.tells gone)

  pub go-after : (plan : Plan) (new : DeskView D) → ComesTo plan → PlanStandsAt state.desk old.jobs.points plan → IsSpelledPlan plan → new.store.layout ≡ old.store.layout
      → HasGoneBehind told content may_leave plan old new → state_of content new ≡ behind_turn state turn answer
  go-after (Rest reply) new is stands shape same gone = ap (λ s. state_of content s) gone ∙ rest-state reply is
  go-after (Tell reply event) new is stands shape same gone =
      state-behind told content may_leave size old trusted turn its answer reply event is.0 shape.0 new gone.0.might gone.0
      (behind-turn-so told content may_leave size old trusted turn its answer reply event is.0 shape.0 stands new same trusted.tells gone)
  go-after (Wait job code) new is stands shape same gone = wait-state job code is new gone
  go-after (Work job) new is stands shape same gone = absurd is.1
  go-after (Pass job reply) new is stands shape same gone = absurd is.1
  go-after (Take job) new is stands shape same gone = absurd is.1
  go-after (Ask inquiry) new is stands shape same gone = absurd is.1

  pub go-trusted : (plan : Plan) (new : DeskView D) → ComesTo plan → PlanStandsAt state.desk old.jobs.points plan → IsSpelledPlan plan → new.store.layout ≡ old.store.layout
      → HasGoneBehind told content may_leave plan old new → OpensBehind content may_leave (event_in plan) old new → IsTrusted told content may_leave new
  go-trusted (Rest reply) new is stands shape same gone opens = subst (IsTrusted told content may_leave) (sym gone) trusted
  go-trusted (Tell reply event) new is stands shape same gone opens =
      trusted-behind told content may_leave event old new _ (coming-turn told content may_leave size old trusted turn its answer reply event is.0 shape.0 gone.0.might)
      (behind-turn-so told content may_leave size old trusted turn its answer reply event is.0 shape.0 stands new same trusted.tells gone) opens trusted
  go-trusted (Wait job code) new is stands shape same gone opens = wait-trusted job code is new gone
  go-trusted (Work job) new is stands shape same gone opens = absurd is.1
  go-trusted (Pass job reply) new is stands shape same gone opens = absurd is.1
  go-trusted (Take job) new is stands shape same gone opens = absurd is.1
  go-trusted (Ask inquiry) new is stands shape same gone opens = absurd is.1

  -- what a stop leaves
  image-left : (plan : Plan) → ComesTo plan → IsSpelledPlan plan
      → ((image : List ℕ) → may_leave old.store.disk image → OpensSame content size old image)
      → (image : List ℕ) → IsLeftBehind content may_leave size (event_in plan) old image → HasKept old.store.layout (size old.store.disk) (event_records old.store.layout (content old.store.disk)) (spelled (event_in plan)) image
  image-left (Rest reply) is shape opens image left = kept-left told content may_leave size old trusted [] image (opens image left) left
  image-left (Tell reply event) is shape opens image left = image-kept told content may_leave size old trusted turn its answer reply event is.0 shape.0 image left
  image-left (Wait job code) is shape opens image left = kept-left told content may_leave size old trusted [] image (opens image left) left
  image-left (Work job) is shape opens image left = absurd is.1
  image-left (Pass job reply) is shape opens image left = absurd is.1
  image-left (Take job) is shape opens image left = absurd is.1
  image-left (Ask inquiry) is shape opens image left = absurd is.1

  pub go-kept : (plan : Plan) (new : DeskView D) → ComesTo plan → IsSpelledPlan plan
      → ((image : List ℕ) → may_leave old.store.disk image → OpensSame content size old image)
      → EachSince moment left_since old.store.disk new.store.disk (IsLeftBehind content may_leave size (event_in plan) old)
      → KeepsWithin content moment left_since size old new (spelled (event_of_turn state turn answer))
  go-kept plan new is shape opens left =
      subst (λ e. KeepsWithin content moment left_since size old new (spelled e)) (go-event plan is)
      (in_other_words moment left_since old.store.disk new.store.disk (IsLeftBehind content may_leave size (event_in plan) old)
      (HasKept old.store.layout (size old.store.disk) (event_records old.store.layout (content old.store.disk)) (spelled (event_in plan))) left
      (image-left plan is shape opens))

  -- ---- why it wasn't done

  -- its event isn't ready
  unready : (event : Option Event) → event ≡ event_of_turn state turn answer → (new : DeskView D) (error : DeskError) → NotReadyFor event old new error → FailsBy state.room (event_of_turn state turn answer) error
  unready None is new error not = absurd not
  unready (Some event) is new NoMemory not = tt
  unready (Some event) is new DiskFault not = absurd not
  unready (Some event) is new (BookFull need room) not = subst (λ (e : Option Event). IsFull state.room e need room) is (not.0, not.1, not.2)
  unready (Some event) is new (Stopped fault) not = absurd not

  lacking : (plan : Plan) (new : DeskView D) (error : DeskError) → LacksAnswers plan old new error → FailsBy state.room (event_of_turn state turn answer) error
  lacking plan new NoMemory not = tt
  lacking plan new DiskFault not = absurd not
  lacking plan new (BookFull need room) not = absurd not
  lacking plan new (Stopped fault) not = absurd not

  pub go-unsettled : (plan : Plan) (new : DeskView D) (error : DeskError) → plan_for old.store.layout (jobs_of old.jobs) turn ≡ plan → IsSettledPlan (decide answer plan)
      → NotSettled answer plan old new error → FailsBy state.room (event_of_turn state turn answer) error
  go-unsettled plan new error is settled (inl lacks) = lacking plan new error lacks
  go-unsettled plan new error is settled (inr not) = unready (event_in (decide answer plan)) (go-event (decide answer plan) (ap (decide answer) is, settled)) new error not

  -- a plan that tells an event that needs memory, or asks the operator
  needs-by : (plan : Plan) → plan_for old.store.layout (jobs_of old.jobs) turn ≡ plan → NeedsRoom plan → TakesBy (reply_of state turn answer) (event_of_turn state turn answer) (asks state turn answer) NoMemory
  needs-by (Rest reply) is needs = absurd needs
  needs-by (Tell reply event) is needs = inl (ap needs_some (sym (go-event (Tell reply event) (ap (decide answer) is, tt))) ∙ needs)
  needs-by (Work job) is needs = absurd needs
  needs-by (Pass job reply) is needs = absurd needs
  needs-by (Take job) is needs = absurd needs
  needs-by (Ask inquiry) is needs = inr (inl (go-asks (decide answer (Ask inquiry)) (ap (decide answer) is, settled-so answer (Ask inquiry) refl) ∙ ap is_ask is))
  needs-by (Wait job code) is needs = absurd needs

  pub go-needs : NeedsRoom (plan_for old.store.layout (jobs_of old.jobs) turn) → TakesBy (reply_of state turn answer) (event_of_turn state turn answer) (asks state turn answer) NoMemory
  go-needs needs = needs-by (plan_for old.store.layout (jobs_of old.jobs) turn) refl needs

  unready-takes : (event : Option Event) → event ≡ event_of_turn state turn answer → (new : DeskView D) (error : DeskError) → old.store.layout.book ≤ 4294967295 → NotReadyFor event old new error
      → TakesBy (reply_of state turn answer) (event_of_turn state turn answer) (asks state turn answer) error
  unready-takes None is new error small not = absurd not
  unready-takes (Some event) is new NoMemory small not = lacks not.1
    where
      lacks : MayLack event old → TakesBy (reply_of state turn answer) (event_of_turn state turn answer) (asks state turn answer) NoMemory
      lacks (inl needs) = inl (ap needs_some (sym is) ∙ needs)
      lacks (inr off) = absurd (true≢false (sym (trusted-counted told content may_leave old trusted small event) ∙ off))
  unready-takes (Some event) is new DiskFault small not = absurd not
  unready-takes (Some event) is new (BookFull need room) small not = tt
  unready-takes (Some event) is new (Stopped fault) small not = absurd not

  lacking-takes : (plan : Plan) (new : DeskView D) (error : DeskError) → asks state turn answer ≡ is_ask plan → LacksAnswers plan old new error
      → TakesBy (reply_of state turn answer) (event_of_turn state turn answer) (asks state turn answer) error
  lacking-takes plan new NoMemory is not = inr (inl (is ∙ not.1))
  lacking-takes plan new DiskFault is not = absurd not
  lacking-takes plan new (BookFull need room) is not = absurd not
  lacking-takes plan new (Stopped fault) is not = absurd not

  pub unsettled-takes : (plan : Plan) (new : DeskView D) (error : DeskError) → old.store.layout.book ≤ 4294967295 → plan_for old.store.layout (jobs_of old.jobs) turn ≡ plan → IsSettledPlan (decide answer plan)
      → NotSettled answer plan old new error → TakesBy (reply_of state turn answer) (event_of_turn state turn answer) (asks state turn answer) error
  unsettled-takes plan new error small is settled (inl lacks) = lacking-takes plan new error (go-asks (decide answer plan) (ap (decide answer) is, settled) ∙ ap is_ask is) lacks
  unsettled-takes plan new error small is settled (inr not) = unready-takes (event_in (decide answer plan)) (go-event (decide answer plan) (ap (decide answer) is, settled)) new error small not

  told-cause : (reply : Reply) (event : Event) (new : DeskView D) (error : DeskError) → NotBehind faults (Tell reply event) old new error → FailsBy state.room (event_of_turn state turn answer) error
  told-cause reply event new NoMemory not = absurd not
  told-cause reply event new DiskFault not = tt
  told-cause reply event new (BookFull need room) not = absurd not
  told-cause reply event new (Stopped fault) not = absurd not

  pub go-cause : (plan : Plan) (new : DeskView D) (error : DeskError) → NotBehind faults plan old new error → FailsBy state.room (event_of_turn state turn answer) error
  go-cause (Tell reply event) new error not = told-cause reply event new error not
  go-cause _ new error not = absurd not
