-- What an event needs before it is told, what the operator's answer comes to before anything is written, and what a unit comes to before it is done.
use Rattle.std.specs.Prelude.{◌≡◌, ◌≤◌, ◌<◌, ◌⊎◌, ℕ, List, [], ◌∷◌, length, find, Bool, true, false, Option, Some, None}
use Rattle.ckr_book.specs.Book.{room_of}
use Rattle.ckr_console.specs.declared.question.Answer.{Answer}
use Rattle.ckr_events.specs.declared.event.Event.{Event}
use Rattle.ckr_events.specs.Event.{IsCounted, spelling}
use Rattle.ckr_desk_refines.specs.Memory.RewriteCounts.{may_count}
use Rattle.ckr_jcl.specs.declared.deck.Job.{Job}
use Rattle.ckr_desk_refines.specs.Memory.EventChanges.{is_of_run}
use Rattle.ckr_desk_refines.specs.Memory.OwnSteps.{PlanCommits, PlanFollows, PlanIsOf}
use Rattle.ckr_desk_refines.specs.Memory.Plans.{IsSpelledPlan, IsUnitPlan, behind_unit, told_by}
use Rattle.ckr_desk_refines.specs.Memory.Preparation.{IsPrepared, IsPreparedFor, needs_room}
use Rattle.ckr_desk_refines.specs.Memory.View.{JobsView, RunningStepView, running_of}
use Rattle.ckr_meaning.specs.EffectiveJob.{OwnedStep}
use Rattle.ckr_points.specs.Rows.{RunRow, run_of}
use Rattle.ckr_desk_refines.specs.Moves.{event_in}
use Rattle.ckr_steps.specs.declared.unit_ahead.UnitAhead.{UnitAhead}
use Rattle.ckr_steps.specs.Inputs.{AreThere}
use Rattle.ckr_steps.specs.StepUnit.{HasWorkedOut}
use Rattle.ckr_desk_store.specs.Answers.{HasFailed}
use Rattle.ckr_desk_turn.specs.Inquiries.{decide, is_ask}
use Rattle.ckr_desk_turn.specs.declared.plan.Plan.{Plan}
use Rattle.ckr_desk_turn.specs.declared.plan.Plan.TheVariants.{Ask, Pass, Take, Tell, Work}
use Rattle.ckr_events.specs.declared.event.Event.TheVariants.{Ended}
use Rattle.ckr_events.specs.declared.event.Ending.TheVariants.{Allocation}
use Rattle.ckr_desk_refines.specs.Memory.MountMemory.{none_prepared}
use Rattle.ckr_desk.specs.declared.error.DeskError.{DeskError}
use Rattle.ckr_desk.specs.declared.error.DeskError.TheVariants.{NoMemory, DiskFault, BookFull}
use Rattle.ckr_desk_refines.specs.Memory.Prepared.{Prepared}
use Rattle.ckr_desk.specs.declared.preparation.Ready.{Ready}
use Rattle.ckr_desk.specs.declared.unit.Ahead.{Ahead}
use Rattle.ckr_desk.specs.Calls.{IsSame}
use Rattle.ckr_desk.specs.Requests.{IsFull}
use Rattle.ckr_desk.specs.State.{DeskView, need_of}
use Rattle.ckr_desk.specs.Units.{IsAt, IsToldOf}

-- ---- an event

-- four bytes count its cards, if it has a deck, and its bytes; the book has room for these, its rewrites can be counted, and there is memory for the jobs to go on by it
pub record IsReady {D : Type 0} (event : Event) (deck : Option Job) (desk : DeskView D) (ready : Ready) : Type 0 where
  pub counted : IsCounted event
  pub small : length (spelling event) ≤ 4294967289
  pub fits : need_of event ≤ room_of desk.store.book
  pub counts : may_count event desk.jobs.tables.desk.sets ≡ true
  pub prepared : IsPrepared desk.jobs event deck ready.prepared

-- the event of a plan is ready, if it has one
abbrev pub IsReadyFor : {D : Type 0} → Option Event → DeskView D → Option Ready → Type 0
IsReadyFor None desk ready = Unit {0}
IsReadyFor (Some event) desk None = ⊥
IsReadyFor (Some event) desk (Some ready) = IsReady event None desk ready

-- there may be no memory for it: it needs some, or its rewrite can't be counted
abbrev pub MayLack : {D : Type 0} → Event → DeskView D → Type 0
MayLack event desk = (needs_room event ≡ true) ⊎ (may_count event desk.jobs.tables.desk.sets ≡ false)

-- why an event isn't ready
abbrev pub NotReady : {D : Type 0} → Event → DeskView D → DeskView D → DeskError → Type 0
NotReady event old new NoMemory = IsSame old new × MayLack event old
NotReady event old new (BookFull need room) = (need ≡ need_of event) × (room ≡ room_of old.store.book) × (room < need) × IsSame old new
NotReady event old new _ = ⊥

abbrev pub NotReadyFor : {D : Type 0} → Option Event → DeskView D → DeskView D → DeskError → Type 0
NotReadyFor None old new error = ⊥
NotReadyFor (Some event) old new error = NotReady event old new error

-- the book has no room for an event
abbrev pub NotFit : {D : Type 0} → Option Event → DeskView D → DeskView D → DeskError → Type 0
NotFit event old new (BookFull need room) = IsFull (room_of old.store.book) event need room × IsSame old new
NotFit event old new _ = ⊥

-- ---- the operator's answer

-- a plan's event needs no more memory than this, if it tells one, and counts no rewrite
abbrev pub IsPreparedPlan : JobsView → Plan → Prepared → Type 0
IsPreparedPlan jobs (Tell reply event) prepared = (may_count event jobs.tables.desk.sets ≡ true) × IsPrepared jobs event None prepared
IsPreparedPlan jobs _ prepared = Unit {0}

-- there is no memory for his answers, and he wasn't asked
abbrev pub LacksAnswers : {D : Type 0} → Plan → DeskView D → DeskView D → DeskError → Type 0
LacksAnswers plan old new NoMemory = IsSame old new × (is_ask plan ≡ true)
LacksAnswers plan old new _ = ⊥

-- why a plan wasn't settled with this answer: there is no memory for it, or what it comes to isn't ready
abbrev pub NotSettled : {D : Type 0} → Answer → Plan → DeskView D → DeskView D → DeskError → Type 0
NotSettled answer plan old new error = LacksAnswers plan old new error ⊎ NotReadyFor (event_in (decide answer plan)) old new error

-- ---- a unit

-- the next unit of a run's running step was worked out, for records that the disk reads where it tells; the run waits with no code
pub record IsWorkedOut {D : Type 0} (told : Type 0) (content : D → List ℕ) (run : ℕ) (desk : DeskView D) (unit : UnitAhead) : Type 0 where
  pub on : RunningStepView
  pub found : find (is_of_run run) desk.jobs.running ≡ Some on
  pub uncoded : on.code ≡ None
  pub there : AreThere on.step.files on.sets
  pub out : HasWorkedOut told (content desk.store.disk) desk.store.layout on.step on.sets unit

-- why it wasn't: the disk failed
abbrev pub NotWorkedOut : {D : Type 0} → (D → ℕ) → DeskView D → DeskView D → DeskError → Type 0
NotWorkedOut faults old new DiskFault = HasFailed faults old.store new.store
NotWorkedOut faults old new _ = ⊥

-- whether the operator is asked behind it
abbrev pub asks_behind : {D : Type 0} → DeskView D → RunRow → RunningStepView → UnitAhead → Bool
asks_behind desk row on unit = is_ask (told_by desk.store.layout desk.jobs.tables.desk row (running_of desk.jobs.tables.desk (behind_unit on unit)) unit.worked)

-- And this is what the turn tells of it with the operator's answer: it follows, and commits what the step has behind the unit.
pub record IsLookedAhead {D : Type 0} (told : Type 0) (content : D → List ℕ) (run : ℕ) (desk : DeskView D) (unit : UnitAhead) (answer : Answer) (plan : Plan) : Type 0 where
  pub of : IsWorkedOut told content run desk unit
  pub planned : IsToldOf desk.store.layout desk.jobs.tables.desk (behind_unit of.on unit) unit.worked answer plan
  pub shape : IsUnitPlan plan
  pub settled : is_ask plan ≡ false
  pub spelled : IsSpelledPlan plan
  pub follows : PlanFollows desk.store.layout desk.jobs.tables.desk plan
  pub commits : PlanCommits desk.jobs.tables.desk (behind_unit of.on unit ∷ []) plan
  pub of_run : PlanIsOf of.on.run plan

-- what it tells is ready
pub record IsAhead {D : Type 0} (told : Type 0) (content : D → List ℕ) (run : ℕ) (answer : Answer) (desk : DeskView D) (ahead : Ahead) : Type 0 where
  pub looked : IsLookedAhead told content run desk ahead.unit answer ahead.plan
  pub ready : IsReadyFor (event_in ahead.plan) desk ahead.ready

-- it tells an event, with the operator's answer
pub record HasEventAhead {D : Type 0} (told : Type 0) (content : D → List ℕ) (run : ℕ) (answer : Answer) (desk : DeskView D) : Type 0 where
  pub unit : UnitAhead
  pub of : IsWorkedOut told content run desk unit
  pub plan : Plan
  pub planned : IsToldOf desk.store.layout desk.jobs.tables.desk (behind_unit of.on unit) unit.worked answer plan
  pub event : Event
  pub is : event_in plan ≡ Some event

-- and there may be no memory for it
pub record MayLackAhead {D : Type 0} (told : Type 0) (content : D → List ℕ) (run : ℕ) (answer : Answer) (desk : DeskView D) : Type 0 where
  pub ahead : HasEventAhead told content run answer desk
  pub lacks : MayLack ahead.event desk

-- or the operator is asked behind it
pub record AsksAhead {D : Type 0} (told : Type 0) (content : D → List ℕ) (run : ℕ) (desk : DeskView D) : Type 0 where
  pub unit : UnitAhead
  pub of : IsWorkedOut told content run desk unit
  pub asks : (row : RunRow) (own : OwnedStep) → IsAt run desk of.on row own → asks_behind desk row of.on unit ≡ true

-- or the book has no room for it: what it needs, and the room that is left
pub record HasNoRoomAhead {D : Type 0} (told : Type 0) (content : D → List ℕ) (run : ℕ) (answer : Answer) (desk : DeskView D) (need room : ℕ) : Type 0 where
  pub ahead : HasEventAhead told content run answer desk
  pub needed : need ≡ need_of ahead.event
  pub left : room ≡ room_of desk.store.book
  pub full : room_of desk.store.book < need_of ahead.event

-- why a unit wasn't looked at: what it tells isn't ready, or there is no memory for the operator's answers
abbrev pub NotLooked : {D : Type 0} → Type 0 → (D → List ℕ) → ℕ → Answer → DeskView D → DeskView D → DeskError → Type 0
NotLooked told content run answer old new NoMemory =
    (new.store ≡ record old.store { disk = new.store.disk }) × (MayLackAhead told content run answer new ⊎ AsksAhead told content run new)
NotLooked told content run answer old new (BookFull need room) =
    (new.store ≡ record old.store { disk = new.store.disk }) × HasNoRoomAhead told content run answer new need room
NotLooked told content run answer old new _ = ⊥

-- ---- memory before the operator is asked for mounts

-- a plan that tells an event or none, or asks whether a run may be restarted: no unit and no checkpoint
abbrev pub IsTellingPlan : Plan → Type 0
IsTellingPlan (Work job) = ⊥
IsTellingPlan (Pass job reply) = ⊥
IsTellingPlan (Take job) = ⊥
IsTellingPlan _ = Unit {0}

-- the rewrite of a plan's event, if it tells one, can be counted
abbrev pub may_tell : JobsView → Plan → Bool
may_tell jobs (Tell reply event) = may_count event jobs.tables.desk.sets
may_tell jobs _ = true

-- its event needs no more memory than this, if it tells one, and its rewrite can be counted; neither does whatever the operator answers, if it asks him
abbrev pub IsPreparedToSettle : JobsView → Plan → Prepared → Type 0
IsPreparedToSettle jobs (Tell reply event) prepared = (may_count event jobs.tables.desk.sets ≡ true) × IsPrepared jobs event None prepared
IsPreparedToSettle jobs (Ask inquiry) prepared = IsPreparedFor jobs inquiry prepared
IsPreparedToSettle jobs _ prepared = Unit {0}

-- and there is memory for the end of the run, at any DD and for any cause
pub record HasMemoryFor {D : Type 0} (run : ℕ) (plan : Plan) (desk : DeskView D) (prepared : Prepared) : Type 0 where
  pub tells : IsPreparedToSettle desk.jobs plan prepared
  pub ends : (row : RunRow) → run_of desk.jobs.tables.desk run ≡ Some row → (dd cause first second : ℕ) → IsPrepared desk.jobs (Ended row.number (Allocation dd cause first second)) None none_prepared

-- there is none
abbrev pub LacksMemory : {D : Type 0} → DeskView D → DeskView D → DeskError → Type 0
LacksMemory old new NoMemory = IsSame old new
LacksMemory old new _ = ⊥

-- What a turn tells of the next unit of a run's running step, before the operator is asked: it follows, and commits what the step has behind the unit.
pub record IsToldByUnit {D : Type 0} (run : ℕ) (desk : DeskView D) (unit : UnitAhead) (plan : Plan) : Type 0 where
  pub on : RunningStepView
  pub found : find (is_of_run run) desk.jobs.running ≡ Some on
  pub planned : (row : RunRow) (own : OwnedStep) → IsAt run desk on row own
      → plan ≡ told_by desk.store.layout desk.jobs.tables.desk row (running_of desk.jobs.tables.desk (behind_unit on unit)) unit.worked
  pub shape : IsUnitPlan plan
  pub spelled : IsSpelledPlan plan
  pub follows : PlanFollows desk.store.layout desk.jobs.tables.desk plan
  pub commits : PlanCommits desk.jobs.tables.desk (behind_unit on unit ∷ []) plan
  pub of_run : PlanIsOf on.run plan
