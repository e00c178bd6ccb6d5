-- A turn that works, once its unit was looked at: what is ready for it, and why it wasn't done.
use Rattle.std.proofs.Common.{◌≡◌, ◌≤◌, ◌<◌, ℕ, List, [], ◌∷◌, find, refl, ap, sym, ◌∙◌, subst, arith, Option, Some, None, Result, Ok, Err, IsErrAnd, true, false, ◌⊎◌, inl, inr}
use Rattle.std.proofs.lemmas.Bool.{false≢true, true≢false}
use Rattle.std.proofs.lemmas.Option.{same_Some}
use Rattle.ckr_book.specs.Book.{room_of}
use Rattle.ckr_base.specs.declared.code.Code.{Code}
use Rattle.ckr_base.proofs.Numbers.{equal-true}
use Rattle.ckr_base.proofs.Sequences.{find-passes}
use Rattle.ckr_console.specs.declared.question.Answer.{Answer}
use Rattle.ckr_events.specs.declared.event.Event.{Event}
use Rattle.ckr_desk_refines.specs.Memory.EventChanges.{is_of_run}
use Rattle.ckr_desk_refines.specs.Memory.RewriteCounts.{may_count}
use Rattle.ckr_desk_refines.specs.Memory.Preparation.{needs_room}
use Rattle.ckr_desk_refines.specs.Memory.View.{RunningStepView, running_of}
use Rattle.ckr_desk_refines.specs.Memory.OwnSteps.{PlanCommits, PlanFollows, PlanIsOf}
use Rattle.ckr_desk_refines.specs.Memory.Plans.{IsSpelledPlan, IsToldReply, IsUnitPlan, IsWent, behind_unit, told_by}
use Rattle.ckr_meaning.specs.EffectiveJob.{OwnedStep}
use Rattle.ckr_points.specs.Restart.{place_of, step_in}
use Rattle.ckr_points.specs.Rows.{RunRow, TablesModel, run_of, step_of_run}
use Rattle.ckr_desk_refines.specs.Moves.{event_in}
use Rattle.ckr_desk_refines.specs.Memory.Extents.{IsShort}
use Rattle.ckr_library.specs.Catalog.{Catalog, Holding}
use Rattle.ckr_library.specs.NameMaps.{Named}
use Rattle.ckr_steps.specs.declared.step_run.StepRun.{StepRun}
use Rattle.ckr_steps.specs.declared.step_run.Worked.{Worked}
use Rattle.ckr_steps.specs.declared.step_run.Worked.TheVariants.{Abend, Rewrite, Went}
use Rattle.ckr_steps.specs.declared.unit_ahead.UnitAhead.{UnitAhead}
use Rattle.ckr_steps.specs.Inputs.{AreStored, AreThere}
use Rattle.ckr_steps.specs.StepUnit.{HasWorkedOut, behind_ahead}
use Rattle.ckr_steps.specs.Writes.{grown}
use Rattle.ckr_desk_store.specs.State.{StoreView}
use Rattle.ckr_desk_turn.specs.declared.plan.Plan.{Plan}
use Rattle.ckr_desk_turn.specs.declared.plan.Plan.TheVariants.{Rest, Work}
use Rattle.ckr_points.specs.declared.reply.Reply.{Reply}
use Rattle.ckr_desk_turn.specs.Turns.{MountedTurn}
use Rattle.ckr_desk_turn.specs.Inquiries.{decide, is_ask}
use Rattle.ckr_volumes.specs.declared.layout.Layout.{Layout}
use Rattle.ckr_desk.proofs.Units.Forecast.{full-ahead, needs-ahead}
use Rattle.ckr_desk.proofs.Units.Questions.{asks-ahead, at-step}
use Rattle.ckr_desk.proofs.Turns.Decided.{decided-commits, decided-follows, decided-of, decided-settled, decided-unit}
use Rattle.ckr_desk.proofs.Trust.Counts.{trusted-counted}
use Rattle.ckr_desk.proofs.Trust.Sameness.{IsAsBefore, state-same}
use Rattle.ckr_desk.specs.Requests.{FailsBy, IsFull}
use Rattle.ckr_desk.specs.Calls.{HasSameJobs}
use Rattle.ckr_desk.specs.declared.error.DeskError.{DeskError}
use Rattle.ckr_desk.specs.declared.error.DeskError.TheVariants.{NoMemory, DiskFault, BookFull, Stopped}
use Rattle.ckr_desk.specs.declared.preparation.Ready.{Ready}
use Rattle.ckr_desk.specs.Preparation.{AsksAhead, HasEventAhead, IsAhead, IsLookedAhead, IsReadyFor, IsWorkedOut, LacksAnswers, MayLack, MayLackAhead, NotLooked, NotReadyFor, NotSettled, asks_behind}
use Rattle.ckr_desk.specs.Soundness.{state_of}
use Rattle.ckr_desk.specs.State.{DeskView, RoomyDesk, need_of}
use Rattle.ckr_desk.specs.Turn.{asks, event_of_turn, reply_of}
use Rattle.ckr_desk.specs.Units.{IsAt, IsPlanned, IsToldOf, TakesBy, needs_some}

-- an error that is handed on is the answer
pub err-is : {T E : Type 0} (r : Result T E) (error : E) → IsErrAnd r (λ e. e ≡ error) → r ≡ Err error
err-is (Ok x) error is = absurd is
err-is (Err e) error is = ap Err is

-- a unit behind which the step goes on asks nobody
went-quiet : {D : Type 0} (desk : DeskView D) (row : RunRow) (on : RunningStepView) (unit : UnitAhead) → IsWent unit.worked → asks_behind desk row on unit ≡ false
went-quiet desk row on unit went = by unit.worked went
  where
    by : (worked : Worked) → IsWent worked → is_ask (told_by desk.store.layout desk.jobs.tables.desk row (running_of desk.jobs.tables.desk (behind_unit on unit)) worked) ≡ false
    by (Went taken) went = refl
    by (Rewrite place image taken) went = absurd went
    by (Abend code) went = absurd went

-- ---- what was looked at

module _ {D : Type 0} (told : Type 0) (content : D → List ℕ) (run : ℕ) (old new : DeskView D) (on : RunningStepView) (unit : UnitAhead) (said : Plan) (answer : Answer)
    (store : new.store ≡ old.store) (jobs : HasSameJobs old new)
    (found : find (is_of_run run) old.jobs.running ≡ Some on) (uncoded : on.code ≡ None) (there : AreThere on.step.files on.sets) (out : HasWorkedOut told (content old.store.disk) old.store.layout on.step on.sets unit)
    (so : (row : RunRow) (own : OwnedStep) → run_of old.jobs.tables.desk on.run ≡ Some row → step_of_run row (step_in (place_of row)) ≡ Some own
    → said ≡ told_by old.store.layout old.jobs.tables.desk row (running_of old.jobs.tables.desk (behind_unit on unit)) unit.worked) where
  layout-is : new.store.layout ≡ old.store.layout
  layout-is = ap (λ (s : StoreView D). s.layout) store

  content-is : content new.store.disk ≡ content old.store.disk
  content-is = ap (λ (s : StoreView D). content s.disk) store

  abbrev moved : RunningStepView
  moved = behind_unit on unit

  abbrev plan : Plan
  plan = decide answer said

  abbrev of : IsWorkedOut told content run new unit
  of = record {
    on = on;
    found = ap (find (is_of_run run)) jobs.running ∙ found;
    uncoded = uncoded;
    there = there;
    out = subst (λ (l : Layout). HasWorkedOut told (content new.store.disk) l on.step on.sets unit) (sym layout-is)
        (subst (λ (bytes : List ℕ). HasWorkedOut told bytes old.store.layout on.step on.sets unit) (sym content-is) out);
  }

  -- what is told by the desk behind it
  so-then : (row : RunRow) (own : OwnedStep) → run_of new.jobs.tables.desk on.run ≡ Some row → step_of_run row (step_in (place_of row)) ≡ Some own
      → said ≡ told_by new.store.layout new.jobs.tables.desk row (running_of new.jobs.tables.desk moved) unit.worked
  so-then row own at within =
      so row own (ap (λ (t : TablesModel). run_of t on.run) (sym jobs.tables) ∙ at) within
      ∙ ap (λ (l : Layout). told_by l old.jobs.tables.desk row (running_of old.jobs.tables.desk moved) unit.worked) (sym layout-is)
      ∙ ap (λ (t : TablesModel). told_by new.store.layout t row (running_of t moved) unit.worked) (sym jobs.tables)

  planned : IsToldOf new.store.layout new.jobs.tables.desk moved unit.worked answer plan
  planned row own at within = ap (decide answer) (so-then row own at within)

  pub is-ahead : (settled : Plan) → settled ≡ plan → IsUnitPlan said → IsSpelledPlan settled → PlanFollows old.store.layout old.jobs.tables.desk said → PlanCommits old.jobs.tables.desk (behind_unit on unit ∷ []) said → PlanIsOf on.run said
      → (ready : Option Ready) → IsReadyFor (event_in settled) new ready → IsAhead told content run answer new (record { unit = unit; plan = settled; ready = ready })
  is-ahead settled same shape spelled follows commits of_run ready is = record {
    looked = record {
      of = of;
      planned = λ row own at within. same ∙ planned row own at within;
      shape = subst IsUnitPlan (sym same) (decided-unit answer said shape);
      settled = ap is_ask same ∙ decided-settled answer said;
      spelled = spelled;
      follows = subst (λ (l : Layout). PlanFollows l new.jobs.tables.desk settled) (sym layout-is)
          (subst (λ (t : TablesModel). PlanFollows old.store.layout t settled) (sym jobs.tables)
          (subst (PlanFollows old.store.layout old.jobs.tables.desk) (sym same) (decided-follows old.store.layout old.jobs.tables.desk answer said follows)));
      commits = subst (λ (t : TablesModel). PlanCommits t (moved ∷ []) settled) (sym jobs.tables)
          (subst (PlanCommits old.jobs.tables.desk (moved ∷ [])) (sym same) (decided-commits old.jobs.tables.desk (moved ∷ []) answer said commits));
      of_run = subst (PlanIsOf on.run) (sym same) (decided-of on.run answer said of_run);
    };
    ready = is;
  }

  stored : new.store ≡ record old.store { disk = new.store.disk }
  stored = store ∙ ap (λ (s : StoreView D). let its : StoreView D = record old.store { disk = s.disk } in its) (sym store)

  run-found : on.run ≡ run
  run-found = equal-true on.run run (find-passes (is_of_run run) old.jobs.running on found)

  -- whether the operator is asked is seen of the plan
  asks-so : (row : RunRow) (own : OwnedStep) → IsAt run new on row own → is_ask said ≡ asks_behind new row on unit
  asks-so row own at = ap is_ask (so-then row own (ap (run_of new.jobs.tables.desk) run-found ∙ at.row_at) at.step_at)

  by-event : (event : Option Event) → event_in plan ≡ event → (error : DeskError) → NotReadyFor event old new error → NotLooked told content run answer old new error
  by-event None is error not = absurd not
  by-event (Some event) is NoMemory not = (
    stored,
    inl (record {
      ahead = record { unit = unit; of = of; plan = plan; planned = planned; event = event; is = is };
      lacks = subst (λ (t : TablesModel). (needs_room event ≡ true) ⊎ (may_count event t.sets ≡ false)) (sym jobs.tables) not.1;
    }),
  )
  by-event (Some event) is DiskFault not = absurd not
  by-event (Some event) is (BookFull need room) not =
      let there_is : room_of new.store.book ≡ room_of old.store.book = ap (λ (s : StoreView D). room_of s.book) store in
      let needed : need ≡ need_of event = not.0 in
      let left : room ≡ room_of old.store.book = not.1 in
      let less : room < need = not.2 in
      (stored, record { ahead = record { unit = unit; of = of; plan = plan; planned = planned; event = event; is = is }; needed = needed; left = left ∙ sym there_is; full = omega (arith, there_is, needed, left, less) })
  by-event (Some event) is (Stopped fault) not = absurd not

  lacking : (error : DeskError) → LacksAnswers said old new error → NotLooked told content run answer old new error
  lacking NoMemory not = (stored, inr (record { unit = unit; of = of; asks = λ row own at. sym (asks-so row own at) ∙ not.1 }))
  lacking DiskFault not = absurd not
  lacking (BookFull need room) not = absurd not
  lacking (Stopped fault) not = absurd not

  pub not-settled : (error : DeskError) → NotSettled answer said old new error → NotLooked told content run answer old new error
  not-settled error (inl lacks) = lacking error lacks
  not-settled error (inr not) = by-event (event_in plan) refl error not

  -- what is seen of it before it is settled
  pub asks-old : (other : RunningStepView) (row : RunRow) (own : OwnedStep) → IsAt run old other row own → is_ask said ≡ asks_behind old row other unit
  asks-old other row own at =
      let same : on ≡ other = same_Some on other (sym found ∙ at.found) in
      ap is_ask (so row own (ap (run_of old.jobs.tables.desk) run-found ∙ at.row_at) at.step_at) ∙ ap (λ (step : RunningStepView). asks_behind old row step unit) same

-- ---- why it wasn't looked at

module _ {D : Type 0} (told : Type 0) (content : D → List ℕ) (may_leave : D → List ℕ → Type 0) (moment : D → ℕ) (left_since : D → ℕ → List ℕ → Type 0) (size : D → ℕ) (run : ℕ) (answer : Answer) (old new : DeskView D) where
  pub look-cause : (turn : MountedTurn) → IsPlanned told content may_leave old turn (Work run) → IsPlanned told content may_leave new turn (Work run) → IsAsBefore told content may_leave old new
      → (error : DeskError) → NotLooked told content run answer old new error → FailsBy (state_of content old).room (event_of_turn (state_of content old) turn answer) error
  look-cause turn p later is NoMemory not = tt
  look-cause turn p later is DiskFault not = absurd not
  look-cause turn p later is (BookFull need room) not =
      subst (λ (s : RoomyDesk). IsFull s.room (event_of_turn s turn answer) need room) (state-same told content may_leave old new is)
      (full-ahead told content may_leave moment left_since size new later.trusted turn run later.planned not.1.ahead.unit not.1.ahead.of answer not.1.ahead.plan not.1.ahead.planned not.1.ahead.event not.1.ahead.is need room not.1.needed not.1.left not.1.full)
  look-cause turn p later is (Stopped fault) not = absurd not

  -- there is no memory only for what the turn tells, where that needs some
  lacks-ahead : (turn : MountedTurn) → IsPlanned told content may_leave new turn (Work run) → new.store.layout.book ≤ 4294967295 → (ahead : HasEventAhead told content run answer new) → MayLack ahead.event new
      → needs_some (event_of_turn (state_of content new) turn answer) ≡ true
  lacks-ahead turn later small ahead (inl needs) =
      needs-ahead told content may_leave moment left_since size new later.trusted turn run later.planned ahead.unit ahead.of answer ahead.plan ahead.planned ahead.event ahead.is needs
  lacks-ahead turn later small ahead (inr off) = absurd (true≢false (sym (trusted-counted told content may_leave new later.trusted small ahead.event) ∙ off))

  -- or where it asks the operator
  asks-some : (turn : MountedTurn) → IsPlanned told content may_leave new turn (Work run) → (ahead : AsksAhead told content run new) → asks (state_of content new) turn answer ≡ true
  asks-some turn later ahead =
      let at = at-step told content may_leave moment left_since size new later.trusted turn run later.planned ahead.unit ahead.of answer in
      asks-ahead told content may_leave moment left_since size new later.trusted turn run later.planned ahead.unit ahead.of
      answer (λ went. false≢true (sym (went-quiet new at.0 ahead.of.on ahead.unit went) ∙ ahead.asks at.0 at.1 at.2)) ahead.of.on at.0 at.1 at.2
      ∙ ahead.asks at.0 at.1 at.2

  pub look-takes : (turn : MountedTurn) → IsPlanned told content may_leave new turn (Work run) → IsAsBefore told content may_leave old new → new.store.layout.book ≤ 4294967295
      → (error : DeskError) → NotLooked told content run answer old new error
      → TakesBy (reply_of (state_of content old) turn answer) (event_of_turn (state_of content old) turn answer) (asks (state_of content old) turn answer) error
  look-takes turn later is small NoMemory not = by not.1
    where
      by : MayLackAhead told content run answer new ⊎ AsksAhead told content run new
          → TakesBy (reply_of (state_of content old) turn answer) (event_of_turn (state_of content old) turn answer) (asks (state_of content old) turn answer) NoMemory
      by (inl lacks) =
          inl (subst (λ (s : RoomyDesk). needs_some (event_of_turn s turn answer) ≡ true) (state-same told content may_leave old new is) (lacks-ahead turn later small lacks.ahead lacks.lacks))
      by (inr ahead) = inr (inl (subst (λ (s : RoomyDesk). asks s turn answer ≡ true) (state-same told content may_leave old new is) (asks-some turn later ahead)))
  look-takes turn later is small DiskFault not = absurd not
  look-takes turn later is small (BookFull need room) not = tt
  look-takes turn later is small (Stopped fault) not = absurd not

-- ---- behind the unit

-- the plan of a unit that was worked out is what the turn tells of the step that has done it
pub told-moved : (layout : Layout) (tables : TablesModel) (on moved : RunningStepView) (unit : UnitAhead) (worked : Worked) (answer : Answer) (plan : Plan) → moved.run ≡ on.run → moved.code ≡ None → moved.step ≡ behind_ahead on.step unit
    → moved.sets.sets ≡ grown on.step.files unit.writes.items on.sets.sets → worked ≡ unit.worked → IsToldOf layout tables (behind_unit on unit) unit.worked answer plan → IsToldOf layout tables moved worked answer plan
told-moved layout tables on moved unit worked answer plan run code step sets same planned row own at within =
    planned row own (ap (run_of tables) (sym run) ∙ at) within
    ∙ ap (λ w. told-with on.run (behind_ahead on.step unit) (grown on.step.files unit.writes.items on.sets.sets) None w) (sym same)
    ∙ ap (λ c. told-with on.run (behind_ahead on.step unit) (grown on.step.files unit.writes.items on.sets.sets) c worked) (sym code)
    ∙ ap (λ s. told-with on.run (behind_ahead on.step unit) s moved.code worked) (sym sets)
    ∙ ap (λ s. told-with on.run s moved.sets.sets moved.code worked) (sym step)
    ∙ ap (λ n. told-with n moved.step moved.sets.sets moved.code worked) (sym run)
  where
    told-with : ℕ → StepRun → Named Holding → Option Code → Worked → Plan
    told-with n s its c w = decide answer (told_by layout tables row (running_of tables (record { run = n; step = s; sets = record { sets = its; room = 0; entry_rooms = [] }; code = c })) w)

-- the step that was looked at is the one that is found
pub same-on : {D : Type 0} (told : Type 0) (content : D → List ℕ) (run : ℕ) (desk : DeskView D) (unit : UnitAhead) (of : IsWorkedOut told content run desk unit) (on : RunningStepView) → find (is_of_run run) desk.jobs.running ≡ Some on → of.on ≡ on
same-on told content run desk unit of on found = same_Some of.on on (sym of.found ∙ found)

-- its run waits with no code
pub uncoded-of : {D : Type 0} (told : Type 0) (content : D → List ℕ) (run : ℕ) (desk : DeskView D) (unit : UnitAhead) (of : IsWorkedOut told content run desk unit) (on : RunningStepView) → find (is_of_run run) desk.jobs.running ≡ Some on → on.code ≡ None
uncoded-of told content run desk unit of on found = subst (λ (on : RunningStepView). on.code ≡ None) (same-on told content run desk unit of on found) of.uncoded

-- it is the unit of that step that was worked out
pub out-of : {D : Type 0} (told : Type 0) (content : D → List ℕ) (run : ℕ) (desk : DeskView D) (unit : UnitAhead) → IsWorkedOut told content run desk unit → (on : RunningStepView) → find (is_of_run run) desk.jobs.running ≡ Some on
    → HasWorkedOut told (content desk.store.disk) desk.store.layout on.step on.sets unit
out-of told content run desk unit of on found =
    subst (λ (on : RunningStepView). HasWorkedOut told (content desk.store.disk) desk.store.layout on.step on.sets unit) (same-on told content run desk unit of on found) of.out

-- data sets that stand in a layout are short
pub short-so : (layout : Layout) (catalog : Catalog) → AreStored layout catalog → IsShort catalog
short-so layout catalog stored name set is =
    let stands = stored.stands name set is in
    omega (arith, stands.length_fits, stands.space_below)

-- a unit behind which the step goes on and tells no event was looked at
pub went-looked : {D : Type 0} (told : Type 0) (content : D → List ℕ) (run : ℕ) (desk : DeskView D) (unit : UnitAhead) → IsWorkedOut told content run desk unit → (on : RunningStepView) → find (is_of_run run) desk.jobs.running ≡ Some on
    → (answer : Answer) (reply : Reply) → ((row : RunRow) (own : OwnedStep) → run_of desk.jobs.tables.desk on.run ≡ Some row → step_of_run row (step_in (place_of row)) ≡ Some own
    → Rest reply ≡ told_by desk.store.layout desk.jobs.tables.desk row (running_of desk.jobs.tables.desk (behind_unit on unit)) unit.worked)
    → IsToldReply reply → IsLookedAhead told content run desk unit answer (Rest reply)
went-looked told content run desk unit of on found answer reply so told_reply = record {
  of = of;
  planned = subst (λ (on : RunningStepView). IsToldOf desk.store.layout desk.jobs.tables.desk (behind_unit on unit) unit.worked answer (Rest reply)) (sym (same-on told content run desk unit of on found))
      (λ row own at within. ap (decide answer) (so row own at within));
  shape = tt;
  settled = refl;
  spelled = told_reply;
  follows = tt;
  commits = tt;
  of_run = tt;
}
