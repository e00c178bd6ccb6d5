-- A turn in which the operator is asked for mounts: there is memory for what it tells before he is asked, and what becomes of the volumes decides.
use Rattle.std.proofs.Common.{◌≡◌, ◌≤◌, ◌∙◌, ℕ, Bool, true, false, refl, ap, sym, subst, inr, List, length, nat_le, Option, None, Some}
use Rattle.std.proofs.lemmas.Bool.{true≢false}
use Rattle.std.specs.Option.{is_some, option_map_or}
use Rattle.ckr_base.proofs.Bools.{and-second}
use Rattle.ckr_base.proofs.Numbers.{nat_le-true}
use Rattle.ckr_base.proofs.Options.{option-cases, some-not-none}
use Rattle.ckr_book.specs.Book.{room_of}
use Rattle.ckr_console.specs.declared.question.Answer.{Answer}
use Rattle.ckr_events.specs.declared.event.Event.{Event}
use Rattle.ckr_events.specs.declared.event.Event.TheVariants.{Ended, Selected}
use Rattle.ckr_events.specs.declared.event.Ending.TheVariants.{Allocation}
use Rattle.ckr_desk_refines.specs.Memory.MountMemory.{IsPreparedToTell, none_prepared}
use Rattle.ckr_desk_refines.specs.Memory.Preparation.{IsPrepared}
use Rattle.ckr_desk_refines.specs.Memory.Cause.TheVariants.{MountRefused}
use Rattle.ckr_desk_refines.specs.Memory.RewriteCounts.{may_count}
use Rattle.ckr_desk_refines.specs.Memory.OwnSteps.{KnowsItsPoint}
use Rattle.ckr_desk_refines.specs.Memory.View.{JobsView, PointView}
use Rattle.ckr_desk_refines.specs.Memory.Prepared.{Prepared}
use Rattle.ckr_points.specs.Rows.{TablesModel}
use Rattle.ckr_desk_refines.specs.Moves.{KnowsItsEntry, event_in}
use Rattle.ckr_desk_store.specs.State.{StoreView}
use Rattle.ckr_desk_turn.proofs.Mounts.{plan_by-cases}
use Rattle.ckr_desk_turn.specs.declared.plan.Plan.{Plan}
use Rattle.ckr_desk_turn.specs.declared.plan.Plan.TheVariants.{Rest, Tell, Work, Pass, Take, Ask, Wait}
use Rattle.ckr_points.specs.declared.reply.Reply.{Reply}
use Rattle.ckr_points.specs.declared.reply.Reply.TheVariants.{AwaitingReply}
use Rattle.ckr_desk_turn.specs.declared.taking.Taking.{Taking}
use Rattle.ckr_desk_turn.specs.declared.taking.Taking.TheVariants.{Taken, Exceeds, Lacks, Refused, Awaited}
use Rattle.ckr_desk_turn.specs.Allocation.{cause_numbers}
use Rattle.ckr_desk_turn.specs.Desk.{DeskModel}
use Rattle.ckr_desk_turn.specs.Inquiries.{decide, is_ask}
use Rattle.ckr_desk_turn.specs.Mounts.{Wanting, by_taking, dd_on, ended_at, plan_by, volumes_of, wanting}
use Rattle.ckr_desk_turn.specs.Plans.{allocation_ended}
use Rattle.ckr_volumes.specs.declared.layout.Layout.{Layout}
use Rattle.ckr_volumes.specs.Header.{IsHeader}
use Rattle.ckr_desk_turn.proofs.MachineRooms.{MayCome, wanted-dd}
use Rattle.ckr_desk.proofs.Turns.Plans.{is_work}
use Rattle.ckr_desk.proofs.Turns.Readiness.{prepared-by, unfit-unready}
use Rattle.ckr_desk.specs.Attendance.{EndsUnmounted}
use Rattle.ckr_desk.specs.Continuation.{PlanKnows, PlanStandsAt}
use Rattle.ckr_desk.specs.NoChange.{IsOfDisk}
use Rattle.ckr_desk.specs.Preparation.{IsPreparedPlan, IsPreparedToSettle, IsTellingPlan, NotFit, NotSettled, may_tell}
use Rattle.ckr_desk.specs.Requests.{IsFull}
use Rattle.ckr_desk.specs.State.{DeskView}
use Rattle.ckr_desk_turn.specs.MachineRoom.{MachineRoomView}
use Rattle.ckr_desk.specs.Turn.{room_behind_answer}
use Rattle.ckr_desk.specs.declared.error.DeskError.{DeskError}
use Rattle.ckr_desk.specs.declared.error.DeskError.TheVariants.{NoMemory, DiskFault, BookFull, Stopped}

-- a layout has at most 32 volumes
pub volumes-few : (layout : Layout) (size : ℕ) → IsHeader layout size → length layout.volumes.items ≤ 32
volumes-few layout size header =
    nat_le-true (length layout.volumes.items) 32 (and-second (nat_le 1 (length layout.volumes.items)) (nat_le (length layout.volumes.items) 32) header.volume_count)

-- ---- the memory

-- that for what a plan tells or asks is that for what the operator's answer makes of it
pub prepared-decided : (jobs : JobsView) (answer : Answer) (plan : Plan) (prepared : Prepared) → IsPreparedToSettle jobs plan prepared → IsPreparedPlan jobs (decide answer plan) prepared
prepared-decided jobs answer (Rest reply) prepared is = tt
prepared-decided jobs answer (Tell reply event) prepared is = is
prepared-decided jobs answer (Work job) prepared is = tt
prepared-decided jobs answer (Pass job reply) prepared is = tt
prepared-decided jobs answer (Take job) prepared is = tt
prepared-decided jobs answer (Ask inquiry) prepared is = prepared-by jobs answer inquiry prepared is
prepared-decided jobs answer (Wait job code) prepared is = tt

-- whether a rewrite can be counted is seen of the tables
pub may-tell-same : (one two : JobsView) (plan : Plan) → two.tables.desk ≡ one.tables.desk → may_tell two plan ≡ may_tell one plan
may-tell-same one two (Tell reply event) same = ap (λ (tables : TablesModel). may_count event tables.sets) same
may-tell-same one two _ same = refl

-- it was taken, and the rewrite of an event can be counted
pub told-prepared : (jobs : JobsView) (plan : Plan) (prepared : Prepared) → may_tell jobs plan ≡ true → IsPreparedToTell jobs plan prepared
    → IsPreparedToSettle jobs plan prepared
told-prepared jobs (Rest reply) prepared counts is = tt
told-prepared jobs (Tell reply event) prepared counts is = (counts, is)
told-prepared jobs (Work job) prepared counts is = tt
told-prepared jobs (Pass job reply) prepared counts is = tt
told-prepared jobs (Take job) prepared counts is = tt
told-prepared jobs (Ask inquiry) prepared counts is = is
told-prepared jobs (Wait job code) prepared counts is = tt

-- ---- why a plan wasn't settled for which there is memory: the book has no room for its event

-- nothing had changed before
pub unfit-before : {D : Type 0} (event : Option Event) (old mid new : DeskView D) → mid.jobs ≡ old.jobs → mid.store ≡ old.store → (error : DeskError) → NotFit event mid new error → NotFit event old new error
unfit-before event old mid new jobs store NoMemory not = absurd not
unfit-before event old mid new jobs store DiskFault not = absurd not
unfit-before {D} event old mid new jobs store (BookFull need room) not = (
  subst (λ (s : StoreView D). IsFull (room_of s.book) event need room) store not.0,
  record {
    jobs = record {
      tables = not.1.jobs.tables ∙ ap (λ (j : JobsView). j.tables.desk) jobs;
      running = not.1.jobs.running ∙ ap (λ (j : JobsView). j.running) jobs;
      failed = not.1.jobs.failed ∙ ap (λ (j : JobsView). j.failed) jobs;
      points = not.1.jobs.points ∙ ap (λ (j : JobsView). j.points) jobs;
    };
    store = not.1.store ∙ store;
  },
)
unfit-before event old mid new jobs store (Stopped fault) not = absurd not

pub unfit-unsettled : {D : Type 0} (answer : Answer) (plan : Plan) (old new : DeskView D) (error : DeskError) → NotFit (event_in (decide answer plan)) old new error → NotSettled answer plan old new error
unfit-unsettled answer plan old new error not =
    inr (unfit-unready (event_in (decide answer plan)) old old new (record { tables = refl; running = refl; failed = refl; points = refl }) refl error not)

-- there was memory
pub unfit-memory : {D : Type 0} (event : Option Event) (old new : DeskView D) (error : DeskError) → NotFit event old new error → error ≡ NoMemory → ⊥
unfit-memory event old new error not is = subst (NotFit event old new) is not

pub of-disk-memory : (error : DeskError) → IsOfDisk error → error ≡ NoMemory → ⊥
of-disk-memory error not is = subst IsOfDisk is not

-- ---- the operator's answer

-- asking a machine room keeps its units
pub answer-mounts : (asks : Bool) (room : MachineRoomView) → (room_behind_answer asks room).mounts ≡ room.mounts
answer-mounts true room = refl
answer-mounts false room = refl

-- ---- what becomes of the volumes

pub telling-rests : (plan : Plan) → IsTellingPlan plan → is_work plan ≡ false
telling-rests (Work job) telling = absurd telling
telling-rests (Pass job reply) telling = absurd telling
telling-rests (Take job) telling = absurd telling
telling-rests _ telling = refl

-- a step that wants its volumes is one of a run that was selected before
module _ (layout : Layout) (tables : TablesModel) (points : List PointView) (desk : DeskModel) where
  abbrev pub KnowsAndStands : Plan → Type 0
  KnowsAndStands plan = PlanKnows tables points plan × PlanStandsAt desk points plan

  event-knows : (reply : Reply) (event : Event) (step : Wanting) → wanting tables (Tell reply event) ≡ Some step → KnowsItsPoint event tables points × KnowsItsEntry event desk points
  event-knows reply (Selected job initiator earlier step id) wants is = absurd (some-not-none wants (sym is))
  event-knows reply _ wants is = (tt, tt)

  wanting-knows : (plan : Plan) (step : Wanting) → wanting tables plan ≡ Some step → KnowsAndStands plan
  wanting-knows (Tell reply event) step is = event-knows reply event step is
  wanting-knows _ step is = (tt, tt)

  pub mounted-knows : (taking : Taking) (plan : Plan) (step : Wanting) → wanting tables plan ≡ Some step → KnowsAndStands (plan_by layout tables taking plan)
  mounted-knows taking plan step is =
      plan_by-cases KnowsAndStands layout tables plan (wanting-knows plan step is) (λ step dd cause its. (tt, tt)) taking (λ need free. (tt, tt)) (λ awaited. (tt, tt))

-- a plan whose step wants volumes, and is no unit, tells an event
pub wanted-tells : (tables : TablesModel) (plan : Plan) (step : Wanting) → wanting tables plan ≡ Some step → ((run : ℕ) → plan ≡ Work run → ⊥) → IsTellingPlan plan
wanted-tells tables (Work run) step is isnt = absurd (isnt run refl)
wanted-tells tables (Pass job reply) step is isnt = absurd (some-not-none step (sym is))
wanted-tells tables (Take job) step is isnt = absurd (some-not-none step (sym is))
wanted-tells tables _ step is isnt = tt

-- where its volumes aren't all mounted, its run ends or an answer is awaited
module _ (layout : Layout) (jobs : JobsView) (plan : Plan) (step : Wanting) (is : wanting jobs.tables.desk plan ≡ Some step)
    (ends : (dd cause first second : ℕ) → IsPrepared jobs (Ended step.row.number (Allocation dd cause first second)) None none_prepared) where
  so-by : (taking : Taking) → plan_by layout jobs.tables.desk taking plan ≡ by_taking layout taking plan step
  unfolding plan_by
  so-by taking = ap (λ (o : Option Wanting). option_map_or (by_taking layout taking plan) o plan) is

  ends-as : (taking : Taking) (its : Plan) → plan_by layout jobs.tables.desk taking plan ≡ its → IsTellingPlan its → is_ask its ≡ false → IsPreparedToSettle jobs its none_prepared → EndsUnmounted layout jobs taking plan
  ends-as taking its same telling unasked prepared = record {
    step = step;
    wanting_is = is;
    telling = subst IsTellingPlan (sym same) telling;
    unasked = ap is_ask same ∙ unasked;
    prepared = subst (λ (p : Plan). IsPreparedToSettle jobs p none_prepared) (sym same) prepared;
  }

  pub ends-unmounted : (taking : Taking) → MayCome (volumes_of layout step) taking → (taking ≡ Taken → ⊥) → EndsUnmounted layout jobs taking plan
  ends-unmounted Taken may isnt = absurd (isnt refl)
  ends-unmounted (Exceeds need) may isnt = absurd may
  ends-unmounted (Lacks need free) may isnt = absurd may
  ends-unmounted (Refused volume) may isnt =
      option-cases (dd_on step (Some volume))
      (λ none. absurd (true≢false (sym (wanted-dd layout step volume may) ∙ ap is_some none)))
      (λ dd some.
      let numbers = cause_numbers (MountRefused volume) in
      ends-as (Refused volume) (allocation_ended step.row step.owned dd (MountRefused volume)) (so-by (Refused volume) ∙ ap (ended_at step (MountRefused volume) plan) some) tt refl
      (refl, ends dd numbers.0 numbers.1 numbers.2))
  ends-unmounted Awaited may isnt = ends-as Awaited (Rest AwaitingReply) (so-by Awaited) tt refl tt
