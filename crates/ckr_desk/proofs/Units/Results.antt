-- What a turn that works has done, with an event or without one.
use Rattle.std.proofs.Common.{◌≡◌, ◌++◌, ℕ, Bool, List, length, true, refl, ap, sym, ◌∙◌, subst, Option, Some, None}
use Rattle.ckr_console.specs.declared.question.Answer.{Answer}
use Rattle.ckr_events.specs.declared.event.Event.{Event}
use Rattle.ckr_desk_refines.specs.Memory.Plans.{IsSpelledPlan}
use Rattle.ckr_desk_refines.specs.Memory.View.{jobs_of}
use Rattle.ckr_outside.specs.Disk.{EachSince}
use Rattle.ckr_outside.specs.Moments.{and_then, in_other_words}
use Rattle.ckr_desk_refines.specs.Moves.{event_in, reply_in}
use Rattle.ckr_desk_store.specs.OpenImages.{event_records}
use Rattle.ckr_desk_store.specs.State.{StoreView}
use Rattle.ckr_desk_turn.specs.declared.plan.Plan.{Plan}
use Rattle.ckr_desk_turn.specs.declared.plan.Plan.TheVariants.{Rest, Tell, Work, Pass, Take, Ask, Wait}
use Rattle.ckr_points.specs.declared.reply.Reply.{Reply}
use Rattle.ckr_desk_turn.specs.Turns.{MountedTurn, plan_for}
use Rattle.ckr_volumes.specs.declared.layout.Layout.{Layout}
use Rattle.ckr_desk.proofs.Turns.Plans.{gone-told}
use Rattle.ckr_desk.proofs.Units.Stops.{behind-kept}
use Rattle.ckr_desk.proofs.Units.Turn.{event-so, reply-so, rest-state, rest-trusted, unit-has_room, unit-kept, unit-state, unit-trusted}
use Rattle.ckr_desk.specs.Requests.{FailsBy, has_room, spelled}
use Rattle.ckr_desk.specs.Rewrite.{IsFault}
use Rattle.ckr_desk.specs.declared.error.DeskError.{DeskError}
use Rattle.ckr_desk.specs.declared.error.DeskError.TheVariants.{NoMemory, DiskFault, BookFull, Stopped}
use Rattle.ckr_desk.specs.Soundness.{HasKept, IsTrusted, KeepsWithin, state_of}
use Rattle.ckr_desk.specs.State.{RoomyDesk, DeskView}
use Rattle.ckr_desk.specs.Turn.{behind_turn, event_of_turn, reply_of, turn_fits}
use Rattle.ckr_desk.specs.Units.{HasDoneUnit, HasGoneBehind, IsLeftBehind, IsLeftByUnit, NotBehind, OpensBehind, TakesBy}

module _ {D : Type 0} (told : Type 0) (content : D → List ℕ) (may_leave : D → List ℕ → Type 0) (moment : D → ℕ) (left_since : D → ℕ → List ℕ → Type 0) (size : D → ℕ)
    (old : DeskView D) (trusted : IsTrusted told content may_leave old) (turn : MountedTurn) (run : ℕ)
    (planned : plan_for old.store.layout (jobs_of old.jobs) turn ≡ Work run) (answer : Answer) where
  abbrev state : RoomyDesk
  state = state_of content old

  abbrev before : List (List ℕ)
  before = event_records old.store.layout (content old.store.disk)

  -- ---- why a unit wasn't done

  pub unit-cause : (faulted now room : ℕ) (event : Option Event) (error : DeskError) → IsFault faulted now error → FailsBy room event error
  unit-cause faulted now room event NoMemory not = absurd not
  unit-cause faulted now room event DiskFault not = tt
  unit-cause faulted now room event (BookFull need left) not = absurd not
  unit-cause faulted now room event (Stopped fault) not = absurd not

  pub unit-takes : (faulted now : ℕ) (reply : Reply) (event : Option Event) (asked : Bool) (error : DeskError) → IsFault faulted now error → TakesBy reply event asked error
  unit-takes faulted now reply event asked NoMemory not = absurd not
  unit-takes faulted now reply event asked DiskFault not = tt
  unit-takes faulted now reply event asked (BookFull need room) not = tt
  unit-takes faulted now reply event asked (Stopped fault) not = tt

  -- what a stop within it leaves
  pub unit-keeps : (came : List (List ℕ)) (new : DeskView D) → EachSince moment left_since old.store.disk new.store.disk (IsLeftByUnit content may_leave size run old) → KeepsWithin content moment left_since size old new came
  unit-keeps came new left =
      in_other_words moment left_since old.store.disk new.store.disk (IsLeftByUnit content may_leave size run old) (HasKept old.store.layout (size old.store.disk) before came) left
      (unit-kept told content may_leave moment left_since size old trusted turn run planned answer came)

  module _ (mid : DeskView D) (plan : Plan) (done : HasDoneUnit told content may_leave moment left_since run old mid answer plan)
      (events : event_records old.store.layout (content mid.store.disk) ≡ event_records old.store.layout (content old.store.disk)) (shape : IsSpelledPlan plan)
      (stems : (image : List ℕ) → may_leave mid.store.disk image → IsLeftByUnit content may_leave size run old image) where
    event-of : event_in plan ≡ event_of_turn state turn answer
    event-of = event-so told content may_leave moment left_since size old trusted turn run planned answer mid plan done events shape stems

    pub done-reply : reply_in plan ≡ reply_of state turn answer
    done-reply = reply-so told content may_leave moment left_since size old trusted turn run planned answer mid plan done events shape stems

    -- a plan that tells an event, or one that tells none
    by-plan : (P : Type 0) → ((reply : Reply) (event : Event) → plan ≡ Tell reply event → P) → (event_in plan ≡ None → P) → P
    by-plan P tells none = by plan refl
      where
        by : (other : Plan) → plan ≡ other → P
        by (Tell reply event) is = tells reply event is
        by (Rest reply) is = none (ap event_in is)
        by (Work job) is = none (ap event_in is)
        by (Pass job reply) is = none (ap event_in is)
        by (Take job) is = none (ap event_in is)
        by (Ask inquiry) is = none (ap event_in is)
        by (Wait job code) is = none (ap event_in is)

    module _ (new : DeskView D) (gone : HasGoneBehind told content may_leave plan mid new) where
      told-so : (reply : Reply) (event : Event) → plan ≡ Tell reply event → HasGoneBehind told content may_leave (Tell reply event) mid new
      told-so reply event is = subst (λ (p : Plan). HasGoneBehind told content may_leave p mid new) is gone

      pub done-fits : turn_fits state turn answer ≡ true
      unfolding turn_fits
      done-fits =
          by-plan (has_room state.room (event_of_turn state turn answer) ≡ true)
          (λ reply event is. unit-has_room told content may_leave moment left_since size old trusted turn run planned answer mid plan done events shape stems event (ap event_in is) new (told-so reply event is).0)
          (λ none. ap (has_room state.room) (sym event-of ∙ none))

      pub done-told : event_records old.store.layout (content new.store.disk) ≡ before ++ spelled (event_of_turn state turn answer)
      done-told =
          let layouts : mid.store.layout ≡ old.store.layout = ap (λ (store : StoreView D). store.layout) done.store in
          subst (λ (e : Option Event). event_records old.store.layout (content new.store.disk) ≡ before ++ spelled e) event-of
          (subst (λ (l : Layout). event_records l (content new.store.disk) ≡ event_records l (content mid.store.disk) ++ spelled (event_in plan)) layouts
          (gone-told told content may_leave plan mid new trusted.tells gone)
          ∙ ap (λ records. records ++ spelled (event_in plan)) events)

      module _ (same : new.store.layout ≡ old.store.layout) where
        pub done-after : state_of content new ≡ behind_turn state turn answer
        done-after =
            by-plan (state_of content new ≡ behind_turn state turn answer)
            (λ reply event is. unit-state told content may_leave moment left_since size old trusted turn run planned answer mid plan done events shape stems event (ap event_in is) new same reply (told-so reply event is))
            (λ none. rest-state told content may_leave moment left_since size old trusted turn run planned answer mid plan done events shape stems new gone none)

        pub done-trusted : OpensBehind content may_leave (event_in plan) mid new → ((image : List ℕ) → may_leave new.store.disk image → length image ≡ size old.store.disk) → IsTrusted told content may_leave new
        done-trusted opens long =
            by-plan (IsTrusted told content may_leave new)
            (λ reply event is.
            unit-trusted told content may_leave moment left_since size old trusted turn run planned answer mid plan done events shape stems event (ap event_in is) new same reply (told-so reply event is)
            (subst (λ (e : Option Event). OpensBehind content may_leave e mid new) (ap event_in is) opens))
            (λ none. rest-trusted told content may_leave moment left_since size old trusted turn run planned answer mid plan done events shape stems new gone none long)

    -- ---- what a stop leaves

    abbrev came : List (List ℕ)
    came = spelled (event_of_turn state turn answer)

    image-behind : size mid.store.disk ≡ size old.store.disk → (event : Option Event) → event_in plan ≡ event → (image : List ℕ) → IsLeftBehind content may_leave size event mid image
        → HasKept old.store.layout (size old.store.disk) before came image
    image-behind sized None is image left = unit-kept told content may_leave moment left_since size old trusted turn run planned answer came image (stems image left)
    image-behind sized (Some event) is image left =
        subst (λ (e : Option Event). HasKept old.store.layout (size old.store.disk) before (spelled e) image) (sym is ∙ event-of)
        (behind-kept told content may_leave moment left_since size old trusted turn run planned answer mid plan done events shape stems event is sized image left)

    pub done-kept : size mid.store.disk ≡ size old.store.disk → (new : DeskView D) → EachSince moment left_since old.store.disk mid.store.disk (IsLeftByUnit content may_leave size run old)
        → EachSince moment left_since mid.store.disk new.store.disk (IsLeftBehind content may_leave size (event_in plan) mid) → KeepsWithin content moment left_since size old new came
    done-kept sized new unit behind =
        and_then moment left_since old.store.disk mid.store.disk new.store.disk (IsLeftByUnit content may_leave size run old) (IsLeftBehind content may_leave size (event_in plan) mid)
        (HasKept old.store.layout (size old.store.disk) before came) unit behind
        (unit-kept told content may_leave moment left_since size old trusted turn run planned answer came) (image-behind sized (event_in plan) refl)

    -- ---- why its event wasn't kept

    tell-cause : (reply : Reply) (event : Event) (faults : D → ℕ) (new : DeskView D) (error : DeskError) → NotBehind faults (Tell reply event) mid new error → FailsBy state.room (event_of_turn state turn answer) error
    tell-cause reply event faults new NoMemory not = absurd not
    tell-cause reply event faults new DiskFault not = tt
    tell-cause reply event faults new (BookFull need room) not = absurd not
    tell-cause reply event faults new (Stopped fault) not = absurd not

    cause-by : (by : Plan) (faults : D → ℕ) (new : DeskView D) (error : DeskError) → NotBehind faults by mid new error → FailsBy state.room (event_of_turn state turn answer) error
    cause-by (Tell reply event) faults new error not = tell-cause reply event faults new error not
    cause-by _ faults new error not = absurd not

    pub done-cause : (faults : D → ℕ) (new : DeskView D) (error : DeskError) → NotBehind faults plan mid new error → FailsBy state.room (event_of_turn state turn answer) error
    done-cause faults new error not = cause-by plan faults new error not
