-- What a unit is going to tell, on a trusted disk: where the book has no room for it, it has none for what the turn tells.
use Rattle.std.proofs.Common.{◌≡◌, ◌<◌, ℕ, List, length, true, false, refl, ap, sym, ◌∙◌, subst, arith, Option, Some, None}
use Rattle.std.proofs.lemmas.Bool.{false≢true}
use Rattle.ckr_book.specs.Book.{room_of}
use Rattle.ckr_console.specs.declared.question.Answer.{Answer}
use Rattle.ckr_events.specs.declared.event.Event.{Event}
use Rattle.ckr_events.specs.declared.event.Event.TheVariants.{Ended, Held, Restarted, Rewritten}
use Rattle.ckr_events.specs.Event.{spelling}
use Rattle.ckr_desk_refines.specs.Memory.Plans.{behind_unit, told_by}
use Rattle.ckr_desk_refines.specs.Memory.Preparation.{needs_room}
use Rattle.ckr_desk_refines.specs.Memory.View.{RunningStepView, jobs_of, running_of}
use Rattle.ckr_meaning.specs.EffectiveJob.{OwnedStep}
use Rattle.ckr_points.specs.Office.{Office}
use Rattle.ckr_points.specs.Restart.{place_of, step_in}
use Rattle.ckr_points.specs.Rows.{RunRow, TablesModel, run_of, step_of_run}
use Rattle.ckr_desk_refines.specs.Moves.{event_in}
use Rattle.ckr_steps.specs.declared.unit_ahead.UnitAhead.{UnitAhead}
use Rattle.ckr_steps.specs.StepUnit.{HasLooked}
use Rattle.ckr_desk_turn.specs.declared.plan.Plan.{Plan}
use Rattle.ckr_desk_turn.specs.declared.plan.Plan.TheVariants.{Work}
use Rattle.ckr_desk_turn.specs.Turns.{MountedTurn, plan_for}
use Rattle.ckr_desk_turn.specs.Desk.{DeskModel, TurnDone, jobs_of as jobs_of_desk}
use Rattle.ckr_desk_turn.specs.Inquiries.{decide}
use Rattle.ckr_volumes.specs.declared.layout.Layout.{Layout}
use Rattle.ckr_desk_refines.proofs.Units.Forecasts.{BothTell, as-many, both-tell, foretold-so}
use Rattle.ckr_desk_refines.proofs.Units.RunningStep.{pair-found}
use Rattle.ckr_desk_refines.proofs.Units.StepLists.{IsPair}
use Rattle.ckr_desk_refines.specs.Forecast.{IsTold, is_end_of, is_hold_of, is_like, is_restart_of, is_rewrite_of}
use Rattle.ckr_desk.proofs.Units.Turn.{at-desk, row-within, turned}
use Rattle.ckr_desk.specs.Requests.{IsFull}
use Rattle.ckr_desk.specs.Preparation.{IsWorkedOut}
use Rattle.ckr_desk.specs.Soundness.{IsTrusted, office_on, state_of}
use Rattle.ckr_desk.specs.State.{DeskView, need_of}
use Rattle.ckr_desk.specs.Turn.{event_of_turn}
use Rattle.ckr_desk.specs.Units.{IsToldOf, needs_some}

-- an event that is like one that was foretold needs memory where that one does: an end or a restart of a run, and no rewrite and no hold
rewrite-needs : (run : ℕ) (event : Event) → is_rewrite_of run event ≡ true → needs_room event ≡ false
rewrite-needs run (Rewritten job taken writes lengths place image) is = refl
rewrite-needs run _ is = absurd (false≢true is)

end-needs : (run : ℕ) (event : Event) → is_end_of run event ≡ true → needs_room event ≡ true
end-needs run (Ended job ending) is = refl
end-needs run _ is = absurd (false≢true is)

restart-needs : (run : ℕ) (event : Event) → is_restart_of run event ≡ true → needs_room event ≡ true
restart-needs run (Restarted job initiator code checkpoint) is = refl
restart-needs run _ is = absurd (false≢true is)

hold-needs : (run : ℕ) (event : Event) → is_hold_of run event ≡ true → needs_room event ≡ false
hold-needs run (Held job code writes lengths) is = refl
hold-needs run _ is = absurd (false≢true is)

like-needs : (foretold event : Event) → is_like foretold event ≡ true → needs_room event ≡ needs_room foretold
like-needs (Rewritten job taken writes lengths place image) event is = rewrite-needs job event is
like-needs (Restarted job initiator code checkpoint) event is = restart-needs job event is
like-needs (Held job code writes lengths) event is = hold-needs job event is
like-needs (Ended job ending) event is = end-needs job event is
like-needs _ event is = absurd (false≢true is)

module _ {D : Type 0} (told : Type 0) (content : D → List ℕ) (may_leave : D → List ℕ → Type 0) (moment : D → ℕ) (left_since : D → ℕ → List ℕ → Type 0) (size : D → ℕ)
    (old : DeskView D) (trusted : IsTrusted told content may_leave old) (turn : MountedTurn) (run : ℕ)
    (planned : plan_for old.store.layout (jobs_of old.jobs) turn ≡ Work run) (unit : UnitAhead) (of : IsWorkedOut told content run old unit) (answer : Answer) (plan : Plan)
    (told_so : IsToldOf old.store.layout old.jobs.tables.desk (behind_unit of.on unit) unit.worked answer plan) where
  abbrev layout : Layout
  layout = old.store.layout

  abbrev image : List ℕ
  image = content old.store.disk

  abbrev office : Office
  office = office_on layout image

  abbrev desk : DeskModel
  desk = (state_of content old).desk

  worked-at : plan_for desk.layout (jobs_of_desk desk) turn ≡ Work run
  worked-at = at-desk told content may_leave moment left_since size old trusted turn run planned answer

  abbrev on : RunningStepView
  on = of.on

  looked-out : HasLooked (Unit {0}) image layout on.step on.sets unit.worked
  looked-out = record { heads = of.out.heads; read = λ is. of.out.read trusted.tells; answer = of.out.unit.answer }

  abbrev within : (row : RunRow) × (own : OwnedStep) × (run_of office.tables run ≡ Some row) × (step_of_run row (step_in (place_of row)) ≡ Some own) × (row.number ≡ run)
  within = row-within told content may_leave moment left_since size old trusted turn run planned answer

  abbrev row : RunRow
  row = within.0

  run-on : on.run ≡ run
  run-on =
      let pair : IsPair desk.layout desk.office image run on desk.running = pair-found layout old.jobs image desk turn run on trusted.stands worked-at of.found in
      pair.stands.run ∙ pair.same

  abbrev told-with : RunningStepView → Option Event
  told-with step = event_in (decide answer (told_by layout office.tables row (running_of office.tables step) unit.worked))

  told-is : event_in plan ≡ told-with (behind_unit on unit)
  told-is =
      ap event_in
      (told_so row within.1
      (ap (λ (tables : TablesModel). run_of tables on.run) trusted.stands.tables ∙ ap (run_of office.tables) run-on ∙ within.2) within.3
      ∙ ap (λ (tables : TablesModel). decide answer (told_by layout tables row (running_of tables (behind_unit on unit)) unit.worked)) trusted.stands.tables)

  -- as the step stands before the unit, the turn would tell as much
  both : BothTell (told-with on) (event_in plan)
  both =
      subst (BothTell (told-with on)) (sym told-is)
      (both-tell answer layout office.tables row (running_of office.tables on) (running_of office.tables (behind_unit on unit)) unit.worked (as-many office.tables on (behind_unit on unit) refl))

  told-before : (event : Event) → told-with on ≡ Some event → IsTold event (event_of_turn (state_of content old) turn answer)
  unfolding event_of_turn
  told-before event is =
      subst (λ (done : TurnDone). IsTold event done.event) (sym (turned told content may_leave moment left_since size old trusted turn run planned answer))
      (foretold-so layout old.jobs image desk turn run on unit.worked answer trusted.stands worked-at of.found of.there looked-out row within.2 event is)

  -- where the unit tells an event that needs memory, the turn tells one
  pub needs-ahead : (event : Event) → event_in plan ≡ Some event → needs_room event ≡ true → needs_some (event_of_turn (state_of content old) turn answer) ≡ true
  needs-ahead event is needs = by (told-with on) refl (subst (BothTell (told-with on)) is both)
    where
      by : (before : Option Event) → told-with on ≡ before → BothTell before (Some event) → needs_some (event_of_turn (state_of content old) turn answer) ≡ true
      by None at tells = absurd tells
      by (Some foretold) at tells =
          let its : IsTold foretold (event_of_turn (state_of content old) turn answer) = told-before foretold at in
          ap needs_some its.is ∙ like-needs foretold its.told its.so.like ∙ sym (like-needs foretold event tells.like) ∙ needs

  -- the book has no room for what the unit tells, so it has none for what the turn tells, which needs as much
  pub full-ahead : (event : Event) → event_in plan ≡ Some event → (need room : ℕ) → need ≡ need_of event → room ≡ room_of old.store.book → room_of old.store.book < need_of event
      → IsFull (room_of old.store.book) (event_of_turn (state_of content old) turn answer) need room
  full-ahead event is need room needed left full = by (told-with on) refl (subst (BothTell (told-with on)) is both)
    where
      by : (before : Option Event) → told-with on ≡ before → BothTell before (Some event) → IsFull (room_of old.store.book) (event_of_turn (state_of content old) turn answer) need room
      by None at tells = absurd tells
      by (Some foretold) at tells =
          let its : IsTold foretold (event_of_turn (state_of content old) turn answer) = told-before foretold at in
          let one : length (spelling its.told) ≡ length (spelling foretold) = its.so.long in
          let other : length (spelling event) ≡ length (spelling foretold) = tells.long in
          subst (λ (e : Option Event). IsFull (room_of old.store.book) e need room) (sym its.is) (omega (arith, one, other, needed), left, omega (arith, needed, left, full))
