-- A unit of a running step, and what goes on behind what a turn comes to, on any disk.
use Rattle.std.specs.Prelude.{◌≡◌, ◌⊎◌, ◌++◌, ◌∷◌, [], ℕ, Bool, true, false, List, find, length, IfErr, IfOk, OnOk, Option, Some, None, Result}
use Rattle.std.specs.Option.{option_map_or}
use Rattle.ckr_console.specs.declared.question.Answer.{Answer}
use Rattle.ckr_events.specs.declared.event.Event.{Event}
use Rattle.ckr_events.specs.Event.{spelling}
use Rattle.ckr_desk_refines.specs.Memory.EventChanges.{is_of_run, without_first}
use Rattle.ckr_desk_refines.specs.Memory.Plans.{told_by}
use Rattle.ckr_desk_refines.specs.Memory.Preparation.{needs_room}
use Rattle.ckr_desk_refines.specs.Memory.View.{RunningStepView, jobs_of, running_of}
use Rattle.ckr_meaning.specs.EffectiveJob.{OwnedStep}
use Rattle.ckr_meaning.specs.StepRun.{StepStart}
use Rattle.ckr_points.specs.Restart.{after_event, place_of, step_in}
use Rattle.ckr_outside.specs.Faults.{Rose}
use Rattle.ckr_points.specs.Rows.{RunRow, TablesModel, run_of, step_of_run}
use Rattle.ckr_desk_refines.specs.Moves.{HasSameRecords, HasWaited}
use Rattle.ckr_steps.specs.declared.step_run.Worked.{Worked}
use Rattle.ckr_steps.specs.Places.{GoesOn, ShowsWithin, IsStepPlace}
use Rattle.ckr_steps.specs.StepUnit.{HasWorked}
use Rattle.ckr_steps.specs.Writes.{ChangesKeeping, StemsKeeping}
use Rattle.ckr_desk_store.specs.OpenImages.{event_records, Opens}
use Rattle.ckr_desk_turn.specs.Turns.{IsMountedTurnOf, MountedTurn, plan_for}
use Rattle.ckr_desk_turn.specs.declared.plan.Plan.{Plan}
use Rattle.ckr_desk_turn.specs.declared.plan.Plan.TheVariants.{Tell, Work, Pass, Take, Ask, Wait}
use Rattle.ckr_points.specs.declared.reply.Chkpt.{Chkpt}
use Rattle.ckr_points.specs.declared.reply.Chkpt.TheVariants.{Suppressed}
use Rattle.ckr_points.specs.declared.reply.Reply.{Reply}
use Rattle.ckr_points.specs.declared.reply.Reply.TheVariants.{Checkpointed}
use Rattle.ckr_desk_turn.specs.Inquiries.{decide}
use Rattle.ckr_volumes.specs.declared.layout.Layout.{Layout}
use Rattle.ckr_desk.specs.declared.error.DeskError.{DeskError}
use Rattle.ckr_desk.specs.declared.error.DeskError.TheVariants.{DiskFault, NoMemory}
use Rattle.ckr_desk.specs.Calls.{HasGoneOn, IsLeftBy, may_keep}
use Rattle.ckr_desk.specs.Soundness.{IsTrusted, KeepsWithin, state_of}
use Rattle.ckr_desk.specs.State.{DeskView}
use Rattle.ckr_desk.specs.Rewrite.{IsWrittenBy, LackAtMost, LacksAtMost, OpensSame}
use Rattle.ckr_desk.specs.Requests.{FailsBy, came_by, spelled}
use Rattle.ckr_desk.specs.Turn.{asks, behind_turn, event_of_turn, reply_of, turn_fits}

-- the running step of a run, with the row of the run and the step of its deck
pub record IsAt {D : Type 0} (run : ℕ) (desk : DeskView D) (on : RunningStepView) (row : RunRow) (own : OwnedStep) : Type 0 where
  pub found : find (is_of_run run) desk.jobs.running ≡ Some on
  pub row_at : run_of desk.jobs.tables.desk run ≡ Some row
  pub step_at : step_of_run row (step_in (place_of row)) ≡ Some own

-- the plan is what the turn tells of the unit with this answer, where its run is within a step of its deck
abbrev pub IsToldOf : Layout → TablesModel → RunningStepView → Worked → Answer → Plan → Type 0
IsToldOf layout tables moved worked answer plan =
    (row : RunRow) (own : OwnedStep) → run_of tables moved.run ≡ Some row → step_of_run row (step_in (place_of row)) ≡ Some own
    → plan ≡ decide answer (told_by layout tables row (running_of tables moved) worked)

module _ {D : Type 0} (told : Type 0) (content : D → List ℕ) (may_leave : D → List ℕ → Type 0) (moment : D → ℕ) (left_since : D → ℕ → List ℕ → Type 0) where
  -- One unit of the running step of a run was done, and the step stands before the others. The plan is what the turn tells of it with this answer.
  pub record HasDoneUnit (run : ℕ) (old new : DeskView D) (answer : Answer) (plan : Plan) : Type 0 where
    pub on : RunningStepView
    pub moved : RunningStepView
    pub worked : Worked
    pub found : find (is_of_run run) old.jobs.running ≡ Some on
    pub same_run : moved.run ≡ on.run
    pub same_code : moved.code ≡ on.code
    pub did : HasWorked told (content old.store.disk) (content new.store.disk) old.store.layout on.step moved.step on.sets moved.sets worked
    pub goes : told → (start : StepStart) (taken : ℕ) → IsStepPlace start taken false on.step on.sets
        → ShowsWithin told (content old.store.disk) old.store.layout start on.step.writes on.sets
        → GoesOn told (content new.store.disk) old.store.layout start taken on.step moved.step moved.sets worked
    pub keeps : ChangesKeeping told content may_leave moment left_since old.store.layout on.sets old.store.disk new.store.disk
    pub tables : new.jobs.tables.desk ≡ old.jobs.tables.desk
    pub failed : new.jobs.failed ≡ old.jobs.failed
    pub running : new.jobs.running ≡ moved ∷ without_first run old.jobs.running
    pub points : new.jobs.points ≡ old.jobs.points
    pub store : new.store ≡ record old.store { disk = new.store.disk }
    pub planned : IsToldOf old.store.layout old.jobs.tables.desk moved worked answer plan

-- ---- what a stop leaves

-- an image that a unit of the running step of a run may have made
abbrev pub StemsFromUnit : {D : Type 0} → (D → List ℕ → Type 0) → ℕ → DeskView D → List ℕ → Type 0
StemsFromUnit may_leave run old image =
    (on : RunningStepView) × (find (is_of_run run) old.jobs.running ≡ Some on) × StemsKeeping old.store.layout on.sets (may_leave old.store.disk) image

-- an image of a stop within a unit
abbrev pub IsLeftByUnit : {D : Type 0} → (D → List ℕ) → (D → List ℕ → Type 0) → (D → ℕ) → ℕ → DeskView D → List ℕ → Type 0
IsLeftByUnit content may_leave size run old image =
    OpensSame content size old image × (may_leave old.store.disk image ⊎ StemsFromUnit may_leave run old image)

-- the same with the event, which came before
pub record IsLeftRewriting {D : Type 0} (content : D → List ℕ) (size : D → ℕ) (event : Event) (old : DeskView D) (image : List ℕ) : Type 0 where
  pub might : may_keep event None old ≡ true
  pub opens : Opens old.store.layout (size old.store.disk) (λ records. records ≡ event_records old.store.layout (content old.store.disk) ++ spelling event ∷ []) image
  pub told_on : List ℕ
  pub same : HasSameRecords old.store.layout (content old.store.disk) told_on
  pub lacks : LacksAtMost old.store.layout (after_event event None old.jobs.tables.desk) event told_on image

-- an image of a stop while a turn goes on behind what it comes to
abbrev pub IsLeftBehind : {D : Type 0} → (D → List ℕ) → (D → List ℕ → Type 0) → (D → ℕ) → Option Event → DeskView D → List ℕ → Type 0
IsLeftBehind content may_leave size None old image = may_leave old.store.disk image
IsLeftBehind content may_leave size (Some event) old image =
    IsLeftBy content may_leave size event None old image ⊎ IsLeftRewriting content size event old image

-- ---- behind what a turn comes to

-- the event is in the book, and its record, if it tells one, is written, which alone a stop may leave otherwise
pub record HasWrittenBehind {D : Type 0} (content : D → List ℕ) (may_leave : D → List ℕ → Type 0) (event : Event) (old new : DeskView D) : Type 0 where
  pub events : event_records old.store.layout (content new.store.disk) ≡ event_records old.store.layout (content old.store.disk) ++ spelling event ∷ []
  pub told_on : List ℕ
  pub same : HasSameRecords old.store.layout (content old.store.disk) told_on
  pub written : IsWrittenBy old.store.layout new.jobs.tables.desk event told_on (content new.store.disk)
  pub left : LackAtMost old.store.layout new.jobs.tables.desk event told_on (may_leave new.store.disk)

-- what a turn comes to is done: its event is kept, or its run waits, and the disk isn't called
abbrev pub HasGoneBehind : {D : Type 0} → Type 0 → (D → List ℕ) → (D → List ℕ → Type 0) → Plan → DeskView D → DeskView D → Type 0
HasGoneBehind told content may_leave (Tell reply event) old new = HasGoneOn event None old new × (told → HasWrittenBehind content may_leave event old new)
HasGoneBehind told content may_leave (Wait job code) old new = HasWaited job code old.jobs new.jobs × (new.store ≡ old.store)
HasGoneBehind told content may_leave _ old new = new ≡ old

-- an image opens with the events before, and with the one that was kept
abbrev pub OpensBehind : {D : Type 0} → (D → List ℕ) → (D → List ℕ → Type 0) → Option Event → DeskView D → DeskView D → Type 0
OpensBehind content may_leave None old new = Unit {0}
OpensBehind content may_leave (Some event) old new = (image : List ℕ) → may_leave new.store.disk image
    → Opens old.store.layout (length image) (λ records. records ≡ event_records old.store.layout (content old.store.disk) ++ spelling event ∷ []) image

-- a plan that tells an event or none, and asks nobody
abbrev pub IsSettledPlan : Plan → Type 0
IsSettledPlan (Work job) = ⊥
IsSettledPlan (Pass job reply) = ⊥
IsSettledPlan (Take job) = ⊥
IsSettledPlan (Ask inquiry) = ⊥
IsSettledPlan _ = Unit {0}

-- why what a turn comes to wasn't done
abbrev pub NotTold : {D : Type 0} → (D → ℕ) → Event → DeskView D → DeskView D → DeskError → Type 0
NotTold faults event old new DiskFault = Rose (faults old.store.disk) (faults new.store.disk)
NotTold faults event old new _ = ⊥

abbrev pub NotBehind : {D : Type 0} → (D → ℕ) → Plan → DeskView D → DeskView D → DeskError → Type 0
NotBehind faults (Tell reply event) old new error = NotTold faults event old new error
NotBehind faults _ old new error = ⊥

-- ---- a turn

-- the reply of a checkpoint that was tried: it isn't suppressed
abbrev pub IsTriedCode : Chkpt → Type 0
IsTriedCode Suppressed = ⊥
IsTriedCode _ = Unit {0}

abbrev pub IsTried : Reply → Type 0
IsTried (Checkpointed job step code id) = IsTriedCode code
IsTried _ = ⊥

-- whether it tells an event that needs memory: one that submits a run, starts or ends a step, restarts or ends a run, or keeps an entry
abbrev pub needs_some : Option Event → Bool
needs_some event = option_map_or needs_room event false

-- there is no memory only where the turn tells such an event, asks the operator or tries a checkpoint
abbrev pub TakesBy : Reply → Option Event → Bool → DeskError → Type 0
TakesBy reply event asks NoMemory = (needs_some event ≡ true) ⊎ ((asks ≡ true) ⊎ IsTried reply)
TakesBy reply event asks _ = Unit {0}

-- the desk is trusted, and this is what the turn comes to, before the operator is asked
pub record IsPlanned {D : Type 0} (told : Type 0) (content : D → List ℕ) (may_leave : D → List ℕ → Type 0) (desk : DeskView D) (turn : MountedTurn) (plan : Plan) : Type 0 where
  pub trusted : IsTrusted told content may_leave desk
  pub its : IsMountedTurnOf desk.store.layout turn
  pub planned : plan_for desk.store.layout (jobs_of desk.jobs) turn ≡ plan

-- What a turn has come to on a trusted disk with the operator's answer: the reply, the desk behind it, why it wasn't done, and what a stop within it
-- leaves.
pub record HasTurned {D : Type 0} (told : Type 0) (content : D → List ℕ) (may_leave : D → List ℕ → Type 0) (moment : D → ℕ) (left_since : D → ℕ → List ℕ → Type 0) (size : D → ℕ)
    (turn : MountedTurn) (answer : Answer) (old new : DeskView D) (result : Result Reply DeskError) : Type 0 where
  pub reply : IfOk result (λ reply. reply ≡ reply_of (state_of content old) turn answer)
  pub fits : OnOk result (turn_fits (state_of content old) turn answer ≡ true)
  pub after : OnOk result (state_of content new ≡ behind_turn (state_of content old) turn answer)
  pub trusted : OnOk result (IsTrusted told content may_leave new)
  pub events : OnOk result (event_records old.store.layout (content new.store.disk) ≡ event_records old.store.layout (content old.store.disk) ++ spelled (event_of_turn (state_of content old) turn answer))
  pub cause : IfErr result (FailsBy (state_of content old).room (event_of_turn (state_of content old) turn answer))
  pub takes : IfErr result (TakesBy (reply_of (state_of content old) turn answer) (event_of_turn (state_of content old) turn answer) (asks (state_of content old) turn answer))
  pub kept : KeepsWithin content moment left_since size old new (came_by result (spelled (event_of_turn (state_of content old) turn answer)))
