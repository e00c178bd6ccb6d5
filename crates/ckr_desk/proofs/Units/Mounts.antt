-- A unit that was worked out before the operator is asked for mounts: what the turn tells of it, and what it comes to.
use Rattle.std.proofs.Common.{◌≡◌, ◌∙◌, ℕ, List, [], ◌∷◌, find, Bool, false, ap, sym, subst, ◌⊎◌, inl, inr, Option, Some, None, Result, Ok, Err, IfErr, OnOk}
use Rattle.std.proofs.lemmas.Option.{same_Some}
use Rattle.ckr_base.proofs.Numbers.{equal-true}
use Rattle.ckr_base.proofs.Sequences.{find-passes}
use Rattle.ckr_console.specs.declared.question.Answer.{Answer}
use Rattle.ckr_events.specs.declared.event.Event.{Event}
use Rattle.ckr_desk_refines.specs.Memory.EventChanges.{is_of_run}
use Rattle.ckr_desk_refines.specs.Memory.OwnSteps.{PlanCommits, PlanFollows, PlanIsOf}
use Rattle.ckr_desk_refines.specs.Memory.Plans.{IsSpelledPlan, IsUnitPlan, IsWent, behind_unit, told_by}
use Rattle.ckr_desk_refines.specs.Memory.View.{RunningStepView, running_of}
use Rattle.ckr_meaning.specs.EffectiveJob.{OwnedStep}
use Rattle.ckr_points.specs.Restart.{place_of, step_in}
use Rattle.ckr_points.specs.Rows.{RunRow, TablesModel, run_of, step_of_run}
use Rattle.ckr_desk_refines.specs.Moves.{event_in}
use Rattle.ckr_desk_store.specs.State.{StoreView}
use Rattle.ckr_volumes.specs.declared.layout.Layout.{Layout}
use Rattle.ckr_steps.specs.declared.step_run.Worked.{Worked}
use Rattle.ckr_steps.specs.declared.step_run.Worked.TheVariants.{Abend, Rewrite, Went}
use Rattle.ckr_steps.specs.declared.unit_ahead.UnitAhead.{UnitAhead}
use Rattle.ckr_desk_turn.specs.Inquiries.{decide, is_ask}
use Rattle.ckr_desk_turn.specs.declared.plan.Plan.{Plan}
use Rattle.ckr_desk.specs.NoChange.{IsOfDisk}
use Rattle.ckr_desk.specs.Calls.{HasSameJobs}
use Rattle.ckr_desk.specs.Preparation.{IsAhead, IsReadyFor, IsToldByUnit, IsWorkedOut, NotFit, NotLooked, NotSettled, asks_behind}
use Rattle.ckr_desk.specs.declared.preparation.Ready.{Ready}
use Rattle.ckr_desk.proofs.Units.Preparation.{is-ahead, not-settled, out-of, same-on, uncoded-of}
use Rattle.ckr_steps.specs.Inputs.{AreThere}
use Rattle.ckr_desk.specs.State.{DeskView}
use Rattle.ckr_desk_turn.specs.MachineRoom.{MachineRoomView}
use Rattle.ckr_desk.specs.Turn.{AnswerStands}
use Rattle.ckr_desk.specs.Units.{IsAt}
use Rattle.ckr_desk.specs.declared.error.DeskError.{DeskError}
use Rattle.ckr_desk.specs.declared.error.DeskError.TheVariants.{NoMemory, DiskFault, BookFull, Stopped}
use Rattle.ckr_desk.proofs.Turns.Answers.{unasked}

-- whether the step goes on behind a unit, and no event tells of it
pub went-cases : (worked : Worked) → IsWent worked ⊎ (IsWent worked → ⊥)
went-cases (Went taken) = inl tt
went-cases (Rewrite place image taken) = inr (λ on_it. on_it)
went-cases (Abend code) = inr (λ on_it. on_it)

module _ {D : Type 0} (run : ℕ) (desk : DeskView D) where
  run-of : (on : RunningStepView) → find (is_of_run run) desk.jobs.running ≡ Some on → on.run ≡ run
  run-of on found = equal-true on.run run (find-passes (is_of_run run) desk.jobs.running on found)

  pub is-told : (on : RunningStepView) (unit : UnitAhead) (plan : Plan) → find (is_of_run run) desk.jobs.running ≡ Some on
      → ((row : RunRow) (own : OwnedStep) → run_of desk.jobs.tables.desk on.run ≡ Some row → step_of_run row (step_in (place_of row)) ≡ Some own
      → plan ≡ told_by desk.store.layout desk.jobs.tables.desk row (running_of desk.jobs.tables.desk (behind_unit on unit)) unit.worked)
      → IsUnitPlan plan → IsSpelledPlan plan → PlanFollows desk.store.layout desk.jobs.tables.desk plan → PlanCommits desk.jobs.tables.desk (behind_unit on unit ∷ []) plan → PlanIsOf on.run plan
      → IsToldByUnit run desk unit plan
  is-told on unit plan found so shape spelled follows commits of_run = record {
    on = on;
    found = found;
    planned = λ row own at. so row own (ap (run_of desk.jobs.tables.desk) (run-of on found) ∙ at.row_at) at.step_at;
    shape = shape;
    spelled = spelled;
    follows = follows;
    commits = commits;
    of_run = of_run;
  }

  module _ (unit : UnitAhead) (plan : Plan) (by_unit : IsToldByUnit run desk unit plan) where
    -- whatever its run and step are
    pub told-so : (row : RunRow) (own : OwnedStep) → run_of desk.jobs.tables.desk by_unit.on.run ≡ Some row → step_of_run row (step_in (place_of row)) ≡ Some own
        → plan ≡ told_by desk.store.layout desk.jobs.tables.desk row (running_of desk.jobs.tables.desk (behind_unit by_unit.on unit)) unit.worked
    told-so row own at within =
        by_unit.planned row own (record { found = by_unit.found; row_at = ap (run_of desk.jobs.tables.desk) (sym (run-of by_unit.on by_unit.found)) ∙ at; step_at = within })

    pub told-asks-behind : (on : RunningStepView) (row : RunRow) (own : OwnedStep) → IsAt run desk on row own → asks_behind desk row on unit ≡ is_ask plan
    told-asks-behind on row own at =
        let same : on ≡ by_unit.on = same_Some on by_unit.on (sym at.found ∙ by_unit.found) in
        ap (λ (step : RunningStepView). asks_behind desk row step unit) same
        ∙ sym (ap is_ask (by_unit.planned row own (record { found = by_unit.found; row_at = at.row_at; step_at = at.step_at })))

    -- of one behind which the step goes on nobody is asked, and no event is told
    pub went-told : (on : RunningStepView) (row : RunRow) (own : OwnedStep) → IsAt run desk on row own → IsWent unit.worked → (answer : Answer) → (is_ask plan ≡ false) × (event_in (decide answer plan) ≡ None)
    went-told on row own at on_it answer =
        by unit.worked on_it (by_unit.planned row own (record { found = by_unit.found; row_at = at.row_at; step_at = at.step_at }))
      where
        by : (worked : Worked) → IsWent worked → plan ≡ told_by desk.store.layout desk.jobs.tables.desk row (running_of desk.jobs.tables.desk (behind_unit by_unit.on unit)) worked
            → (is_ask plan ≡ false) × (event_in (decide answer plan) ≡ None)
        by (Went taken) on_it is = (ap is_ask is, ap (λ (its : Plan). event_in (decide answer its)) is)
        by (Rewrite place image taken) on_it is = absurd on_it
        by (Abend code) on_it is = absurd on_it

-- what is told of it was settled
module _ {D : Type 0} (told : Type 0) (content : D → List ℕ) (run : ℕ) (old new : DeskView D) (unit : UnitAhead) (said : Plan) (answer : Answer) (of : IsWorkedOut told content run old unit) (by_unit : IsToldByUnit run old unit said)
    (store : new.store ≡ old.store) (jobs : HasSameJobs old new) where
  there : AreThere by_unit.on.step.files by_unit.on.sets
  there = subst (λ (on : RunningStepView). AreThere on.step.files on.sets) (same-on told content run old unit of by_unit.on by_unit.found) of.there

  pub ahead-with : (settled : Plan) → settled ≡ decide answer said → IsSpelledPlan settled → (ready : Option Ready) → IsReadyFor (event_in settled) new ready
      → IsAhead told content run answer new (record { unit = unit; plan = settled; ready = ready })
  ahead-with settled same spelled ready is =
      is-ahead told content run old new by_unit.on unit said answer store jobs by_unit.found (uncoded-of told content run old unit of by_unit.on by_unit.found) there
      (out-of told content run old unit of by_unit.on by_unit.found) (told-so run old unit said by_unit) settled same by_unit.shape spelled by_unit.follows by_unit.commits by_unit.of_run ready is

  pub unlooked-with : (error : DeskError) → NotSettled answer said old new error → NotLooked told content run answer old new error
  unlooked-with =
      not-settled told content run old new by_unit.on unit said answer store jobs by_unit.found (uncoded-of told content run old unit of by_unit.on by_unit.found) there
      (out-of told content run old unit of by_unit.on by_unit.found) (told-so run old unit said by_unit)

-- what is told of a unit is so too where only memory was taken and the machine room has changed
pub told-later : {D : Type 0} (run : ℕ) (old new : DeskView D) (room : MachineRoomView) (unit : UnitAhead) (plan : Plan) → new.store ≡ old.store → HasSameJobs old new → IsToldByUnit run old unit plan
    → IsToldByUnit run (record new { machine_room = room }) unit plan
told-later {D} run old new room unit plan store jobs told =
    let layouts : new.store.layout ≡ old.store.layout = ap (λ (s : StoreView D). s.layout) store in
    record {
      on = told.on;
      found = ap (find (is_of_run run)) jobs.running ∙ told.found;
      planned = λ row own at.
          told.planned row own (record { found = ap (find (is_of_run run)) (sym jobs.running) ∙ at.found; row_at = ap (λ (t : TablesModel). run_of t run) (sym jobs.tables) ∙ at.row_at; step_at = at.step_at })
          ∙ ap (λ (l : Layout). told_by l old.jobs.tables.desk row (running_of old.jobs.tables.desk (behind_unit told.on unit)) unit.worked) (sym layouts)
          ∙ ap (λ (t : TablesModel). told_by new.store.layout t row (running_of t (behind_unit told.on unit)) unit.worked) (sym jobs.tables);
      shape = told.shape;
      spelled = told.spelled;
      follows = subst (λ (l : Layout). PlanFollows l new.jobs.tables.desk plan) (sym layouts) (subst (λ (t : TablesModel). PlanFollows old.store.layout t plan) (sym jobs.tables) told.follows);
      commits = subst (λ (t : TablesModel). PlanCommits t (behind_unit told.on unit ∷ []) plan) (sym jobs.tables) told.commits;
      of_run = told.of_run;
    }

-- an event that isn't told always fits
pub none-fits : {D : Type 0} (event : Option Event) (old new : DeskView D) (error : DeskError) → event ≡ None → NotFit event old new error → ⊥
none-fits event old new NoMemory none not = not
none-fits event old new DiskFault none not = not
none-fits event old new (BookFull need room) none not = let its : NotFit None old new (BookFull need room) = subst (λ (e : Option Event). NotFit e old new (BookFull need room)) none not in its.0
none-fits event old new (Stopped fault) none not = not

-- the answer stands, where nobody is asked if the turn is done
pub went-stands : {T : Type 0} (asks : Bool) (old new : MachineRoomView) → new ≡ old → (result : Result T DeskError) → OnOk result (asks ≡ false) → IfErr result IsOfDisk → AnswerStands asks old new result
went-stands asks old new same (Ok done) quiet of_disk = unasked asks old new quiet same
went-stands asks old new same (Err NoMemory) quiet of_disk = absurd of_disk
went-stands asks old new same (Err DiskFault) quiet of_disk = tt
went-stands asks old new same (Err (BookFull need room)) quiet of_disk = absurd of_disk
went-stands asks old new same (Err (Stopped fault)) quiet of_disk = tt
