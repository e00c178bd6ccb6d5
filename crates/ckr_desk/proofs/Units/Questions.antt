-- Whether the operator is asked in a turn that works: what its unit is going to tell shows it, before the unit is done.
use Rattle.std.proofs.Common.{◌≡◌, ℕ, Bool, true, false, List, refl, ap, sym, ◌∙◌, Option, Some, None}
use Rattle.std.specs.Option.{option_map_or}
use Rattle.std.proofs.lemmas.Bool.{false≢true}
use Rattle.std.proofs.lemmas.Option.{same_Some}
use Rattle.ckr_base.proofs.Numbers.{equal-true}
use Rattle.ckr_base.proofs.Options.{some-not-none}
use Rattle.ckr_base.proofs.Sequences.{find-passes}
use Rattle.ckr_console.specs.declared.question.Answer.{Answer}
use Rattle.ckr_console.specs.declared.question.Answer.TheVariants.{Yes}
use Rattle.ckr_events.specs.declared.event.Event.{Event}
use Rattle.ckr_events.specs.declared.event.Event.TheVariants.{Ended, Held, Restarted, Rewritten}
use Rattle.ckr_desk_refines.specs.Memory.EventChanges.{is_of_run}
use Rattle.ckr_desk_refines.specs.Memory.Plans.{IsWent, behind_unit, told_by}
use Rattle.ckr_desk_refines.specs.Memory.View.{RunningStepView, jobs_of, running_of}
use Rattle.ckr_meaning.specs.EffectiveJob.{OwnedStep}
use Rattle.ckr_points.specs.Office.{Office}
use Rattle.ckr_points.specs.Rows.{KeptEntry, RunRow, TablesModel, run_of}
use Rattle.ckr_rules.specs.declared.cases.Rule.TheVariants.{A6}
use Rattle.ckr_rules.specs.declared.cases.Verdict.{Verdict}
use Rattle.ckr_rules.specs.declared.cases.Verdict.TheVariants.{Checkpoint, Denied, Step}
use Rattle.ckr_desk_refines.proofs.Units.Forecasts.{foretold-so}
use Rattle.ckr_desk_refines.proofs.Units.Replies.{event-done}
use Rattle.ckr_desk_refines.specs.Forecast.{IsTold, is_end_of, is_hold_of, is_like, is_restart_of, is_rewrite_of}
use Rattle.ckr_desk_refines.specs.Moves.{event_in}
use Rattle.ckr_steps.specs.declared.step_run.Worked.{Worked}
use Rattle.ckr_steps.specs.declared.step_run.Worked.TheVariants.{Abend, Rewrite, Went}
use Rattle.ckr_steps.specs.declared.unit_ahead.UnitAhead.{UnitAhead}
use Rattle.ckr_steps.specs.StepUnit.{HasLooked}
use Rattle.ckr_desk_turn.proofs.Codes.{by-verdict}
use Rattle.ckr_desk_turn.specs.Codes.{asked_at_entry, ended_by, initiator_of, judged_plan, running_reached, verdict_for}
use Rattle.ckr_desk_turn.specs.declared.plan.Plan.{Plan}
use Rattle.ckr_desk_turn.specs.declared.plan.Plan.TheVariants.{Rest, Work}
use Rattle.ckr_points.specs.declared.reply.Reply.{Reply}
use Rattle.ckr_desk_turn.specs.Turns.{MountedTurn, plan_for}
use Rattle.ckr_desk_turn.specs.Desk.{DeskModel, TurnDone, progress_of, unit_done, with_progress, work_of, seen, jobs_of as jobs_of_desk}
use Rattle.ckr_desk_turn.specs.Inquiries.{decide, is_ask}
use Rattle.ckr_desk_turn.specs.Jobs.{TurnStep, effect_entry}
use Rattle.ckr_desk_turn.specs.Units.{UnitEnd, UnitOutcome, abended, unit_end, unit_plan, went}
use Rattle.ckr_volumes.specs.declared.layout.Layout.{Layout}
use Rattle.ckr_desk.proofs.Units.Turn.{at-desk, row-within, turned}
use Rattle.ckr_desk.specs.Preparation.{IsWorkedOut, asks_behind}
use Rattle.ckr_desk.specs.Soundness.{IsTrusted, office_on, state_of}
use Rattle.ckr_desk.specs.State.{DeskView}
use Rattle.ckr_desk.specs.Turn.{asks}
use Rattle.ckr_desk.specs.Units.{IsAt, IsToldOf}
use Rattle.ckr_points.specs.Payload.{start_in_office}

abbrev is_restarted : Event → Bool
is_restarted (Restarted job initiator code checkpoint) = true
is_restarted _ = false

-- ---- with a yes a turn tells a restart exactly where the operator is asked

-- a plan of a unit does
abbrev AsksByYes : Plan → Type 0
AsksByYes plan = (event : Event) → event_in (decide Yes plan) ≡ Some event → is_ask plan ≡ is_restarted event

told-asks : (layout : Layout) (tables : TablesModel) (row : RunRow) (step : TurnStep) (worked : Worked) → AsksByYes (told_by layout tables row step worked)
told-asks layout tables row step (Went taken) = λ event is. absurd (some-not-none event (sym is))
told-asks layout tables row step (Rewrite place image taken) = λ event is. ap is_restarted (same_Some _ event is)
told-asks layout tables row step (Abend code) =
    by-verdict AsksByYes layout tables row (initiator_of row) true code (running_reached step)
    (λ rule ends event is. ap is_restarted (same_Some _ event is)) (λ judged event is. ap is_restarted (same_Some _ event is)) (λ entry judged found event is. ap is_restarted (same_Some _ event is))

unit-asks : (desk : DeskModel) (row : RunRow) (step : TurnStep) (unit : UnitOutcome) → AsksByYes (unit_plan desk.layout (jobs_of_desk desk) row step unit)
unit-asks desk row step (went None) = λ event is. absurd (some-not-none event (sym is))
unit-asks desk row step (went (Some at)) = λ event is. ap is_restarted (same_Some _ event is)
unit-asks desk row step (abended code) =
    by-verdict AsksByYes desk.layout desk.office.tables row (initiator_of row) true code (running_reached step)
    (λ rule ends event is. ap is_restarted (same_Some _ event is)) (λ judged event is. ap is_restarted (same_Some _ event is)) (λ entry judged found event is. ap is_restarted (same_Some _ event is))

-- and so does the turn
abbrev AsksByEvent : TurnDone → TurnDone → Type 0
AsksByEvent answered done = (event : Event) → answered.event ≡ Some event → done.asked ≡ is_restarted event

either-asks : {X : Type 0} (o : Option X) (f g : X → TurnDone) (none other : TurnDone) → AsksByEvent none other → ((x : X) → AsksByEvent (f x) (g x)) → AsksByEvent (option_map_or f o none) (option_map_or g o other)
either-asks None f g none other first second = first
either-asks (Some x) f g none other first second = second x

unit-asked : (answer : Answer) (row : RunRow) (end : UnitEnd) (desk : DeskModel) → AsksByEvent (unit_done Yes row end desk) (unit_done answer row end desk)
unit-asked answer row end desk event is =
    let moved : DeskModel = with_progress row.number end.progress desk in
    unit-asks moved row (seen moved.office row.number end.progress) end.unit event (event-done _ moved ∙ is)

work-asked : (answer : Answer) (run : ℕ) (desk : DeskModel) → AsksByEvent (work_of Yes run desk) (work_of answer run desk)
work-asked answer run desk =
    either-asks (run_of desk.office.tables run) _ _ _ _ (λ event is. absurd (some-not-none event (sym is)))
    (λ row. either-asks (start_in_office desk.office row) _ _ _ _ (λ event is. absurd (some-not-none event (sym is)))
    (λ start. either-asks (progress_of desk run) _ _ _ _ (λ event is. absurd (some-not-none event (sym is)))
    (λ progress. unit-asked answer row (unit_end start progress) desk)))

-- ---- a unit that doesn't go on tells something, with a yes

tells-yes : (layout : Layout) (tables : TablesModel) (row : RunRow) (step : TurnStep) (worked : Worked) → (IsWent worked → ⊥) → (event : Event) × (event_in (decide Yes (told_by layout tables row step worked)) ≡ Some event)
tells-yes layout tables row step (Went taken) tells = absurd (tells tt)
tells-yes layout tables row step (Rewrite place image taken) tells = (_, refl)
tells-yes layout tables row step (Abend code) tells =
    by-verdict (λ plan. (event : Event) × (event_in (decide Yes plan) ≡ Some event)) layout tables row (initiator_of row) true code (running_reached step)
    (λ rule ends. (_, refl)) (λ judged. (_, refl)) (λ entry judged found. (_, refl))

-- whether the operator is asked doesn't rest on how far the step has come
asks-same : (layout : Layout) (tables : TablesModel) (row : RunRow) (one two : TurnStep) (worked : Worked) → is_ask (told_by layout tables row one worked) ≡ is_ask (told_by layout tables row two worked)
asks-same layout tables row one two (Went taken) = refl
asks-same layout tables row one two (Rewrite place image taken) = refl
asks-same layout tables row one two (Abend code) = by (verdict_for layout row code)
  where
    back : (entry : Option KeptEntry) → is_ask (option_map_or (asked_at_entry row (initiator_of row) true code (running_reached one)) entry (ended_by row code A6 (running_reached one)))
        ≡ is_ask (option_map_or (asked_at_entry row (initiator_of row) true code (running_reached two)) entry (ended_by row code A6 (running_reached two)))
    back None = refl
    back (Some entry) = refl

    by : (verdict : Verdict) → is_ask (judged_plan tables row (initiator_of row) true code (running_reached one) verdict) ≡ is_ask (judged_plan tables row (initiator_of row) true code (running_reached two) verdict)
    by (Denied rule) = refl
    by Step = refl
    by Checkpoint = back (effect_entry tables row)

-- ---- an event that is like one that was foretold is a restart where that one is

rewrite-goes : (run : ℕ) (event : Event) → is_rewrite_of run event ≡ true → is_restarted event ≡ false
rewrite-goes run (Rewritten job taken writes lengths place image) is = refl
rewrite-goes run _ is = absurd (false≢true is)

restart-goes : (run : ℕ) (event : Event) → is_restart_of run event ≡ true → is_restarted event ≡ true
restart-goes run (Restarted job initiator code checkpoint) is = refl
restart-goes run _ is = absurd (false≢true is)

hold-goes : (run : ℕ) (event : Event) → is_hold_of run event ≡ true → is_restarted event ≡ false
hold-goes run (Held job code writes lengths) is = refl
hold-goes run _ is = absurd (false≢true is)

end-goes : (run : ℕ) (event : Event) → is_end_of run event ≡ true → is_restarted event ≡ false
end-goes run (Ended job ending) is = refl
end-goes run _ is = absurd (false≢true is)

like-goes : (foretold event : Event) → is_like foretold event ≡ true → is_restarted event ≡ is_restarted foretold
like-goes (Rewritten job taken writes lengths place image) event is = rewrite-goes job event is
like-goes (Restarted job initiator code checkpoint) event is = restart-goes job event is
like-goes (Held job code writes lengths) event is = hold-goes job event is
like-goes (Ended job ending) event is = end-goes job event is
like-goes _ event is = absurd (false≢true is)

-- ---- on a trusted disk

module _ {D : Type 0} (told : Type 0) (content : D → List ℕ) (may_leave : D → List ℕ → Type 0) (moment : D → ℕ) (left_since : D → ℕ → List ℕ → Type 0) (size : D → ℕ)
    (old : DeskView D) (trusted : IsTrusted told content may_leave old) (turn : MountedTurn) (run : ℕ)
    (planned : plan_for old.store.layout (jobs_of old.jobs) turn ≡ Work run) (unit : UnitAhead) (of : IsWorkedOut told content run old unit) (answer : Answer) where
  abbrev layout : Layout
  layout = old.store.layout

  abbrev image : List ℕ
  image = content old.store.disk

  abbrev office : Office
  office = office_on layout image

  abbrev desk : DeskModel
  desk = (state_of content old).desk

  abbrev asks_by : TablesModel → RunRow → RunningStepView → Bool
  asks_by tables row step = is_ask (told_by layout tables row (running_of tables step) unit.worked)

  -- the run is within a step of its deck
  pub at-step : (row : RunRow) × (own : OwnedStep) × IsAt run old of.on row own
  at-step =
      let within = row-within told content may_leave moment left_since size old trusted turn run planned answer in
      (within.0, within.1, record { found = of.found; row_at = ap (λ (tables : TablesModel). run_of tables run) trusted.stands.tables ∙ within.2; step_at = within.3 })

  -- behind the unit the turn tells something, or asks him
  module _ (tells : IsWent unit.worked → ⊥) where
    -- he is asked in the turn where he is asked behind the unit
    asks-there : (row : RunRow) → run_of office.tables run ≡ Some row → asks (state_of content old) turn answer ≡ asks_by office.tables row (behind_unit of.on unit)
    unfolding asks
    asks-there row at =
        let looked : HasLooked (Unit {0}) image layout of.on.step of.on.sets unit.worked = record { heads = of.out.heads; read = λ is. of.out.read trusted.tells; answer = of.out.unit.answer } in
        let foretold : (event : Event) × (event_in (decide Yes (told_by layout office.tables row (running_of office.tables of.on) unit.worked)) ≡ Some event) =
        tells-yes layout office.tables row (running_of office.tables of.on) unit.worked tells in
        let its : IsTold foretold.0 (work_of Yes run desk).event =
        foretold-so layout old.jobs image desk turn run of.on unit.worked Yes trusted.stands (at-desk told content may_leave moment left_since size old trusted turn run planned answer) of.found of.there looked row at foretold.0 foretold.1 in
        ap (λ (done : TurnDone). done.asked) (turned told content may_leave moment left_since size old trusted turn run planned answer)
        ∙ work-asked answer run desk its.told its.is
        ∙ like-goes foretold.0 its.told its.so.like
        ∙ sym (told-asks layout office.tables row (running_of office.tables of.on) unit.worked foretold.0 foretold.1)
        ∙ asks-same layout office.tables row (running_of office.tables of.on) (running_of office.tables (behind_unit of.on unit)) unit.worked

    pub asks-ahead : (on : RunningStepView) (row : RunRow) (own : OwnedStep) → IsAt run old on row own → asks (state_of content old) turn answer ≡ asks_behind old row on unit
    asks-ahead on row own at =
        asks-there row (ap (λ (tables : TablesModel). run_of tables run) (sym trusted.stands.tables) ∙ at.row_at)
        ∙ ap (λ (step : RunningStepView). asks_by office.tables row (behind_unit step unit)) (same_Some of.on on (sym of.found ∙ at.found))
        ∙ ap (λ (tables : TablesModel). asks_by tables row (behind_unit on unit)) (sym trusted.stands.tables)

  -- what is told of a unit behind which the step goes on is a reply
  pub went-rests : IsWent unit.worked → (plan : Plan) → IsToldOf layout old.jobs.tables.desk (behind_unit of.on unit) unit.worked answer plan → (reply : Reply) × (plan ≡ Rest reply)
  went-rests on_it plan planned =
      let at = at-step in
      let found : of.on.run ≡ run = equal-true of.on.run run (find-passes (is_of_run run) old.jobs.running of.on of.found) in
      by at.0 unit.worked on_it (planned at.0 at.1 (ap (run_of old.jobs.tables.desk) found ∙ at.2.row_at) at.2.step_at)
    where
      by : (row : RunRow) (worked : Worked) → IsWent worked → plan ≡ decide answer (told_by layout old.jobs.tables.desk row (running_of old.jobs.tables.desk (behind_unit of.on unit)) worked)
          → (reply : Reply) × (plan ≡ Rest reply)
      by row (Went taken) on_it is = (_, is)
      by row (Rewrite place image taken) on_it is = absurd on_it
      by row (Abend code) on_it is = absurd on_it
