-- What a turn tells of a unit is what the desk tells of it.
use Rattle.std.proofs.Common.{◌≡◌, ◌≤◌, ℕ, true, List, [], length, refl, ap, sym, ◌∙◌, subst, Option, Some, None}
use Rattle.std.specs.Option.{option_map_or}
use Rattle.std.proofs.lemmas.Option.{same_Some}
use Rattle.ckr_console.specs.declared.question.Answer.{Answer}
use Rattle.ckr_desk_memory.specs.Plans.{told_by}
use Rattle.ckr_desk_memory.specs.View.{JobsView, RunningStepView, lengths_of_row, running_of}
use Rattle.ckr_points_invariant.specs.RunningSteps.{its_start}
use Rattle.ckr_desk_turn.proofs.RunningSteps.{going-within, seen-so}
use Rattle.ckr_desk_turn.proofs.NextEvents.WithinStep.{by-step}
use Rattle.ckr_desk_refines.specs.StepSets.{HasSets}
use Rattle.ckr_meaning.specs.EffectiveJob.{names_of}
use Rattle.ckr_meaning.specs.StepRun.{StepStart, case_at, work_at}
use Rattle.ckr_points.specs.Payload.{lengths_at, rewrites_nothing}
use Rattle.ckr_points.specs.Rows.{RunRow, TablesModel, run_of}
use Rattle.ckr_desk_refines.proofs.Standing.Lengths.{lengths-so}
use Rattle.ckr_desk_refines.specs.Moves.{event_in, reply_in}
use Rattle.ckr_steps.proofs.NextUnits.{taken_is}
use Rattle.ckr_steps.specs.declared.step_run.Worked.{Worked}
use Rattle.ckr_steps.specs.declared.step_run.Worked.TheVariants.{Went}
use Rattle.ckr_steps.specs.Places.{GoesTo, ShowsWithin}
use Rattle.ckr_steps.specs.Units.{due_of, taken_of}
use Rattle.ckr_desk_turn.specs.Desk.{DeskModel, TurnDone, done_by, jobs_of, seen, seen_from, unit_done, with_progress, work_of}
use Rattle.ckr_desk_turn.specs.declared.plan.Plan.{Plan}
use Rattle.ckr_desk_turn.specs.declared.plan.Plan.TheVariants.{Rest, Tell}
use Rattle.ckr_points.specs.declared.reply.Reply.TheVariants.{Worked as WorkedReply}
use Rattle.ckr_desk_turn.specs.Turns.{MountedTurn}
use Rattle.ckr_desk_turn.specs.Inquiries.{decide, is_ask}
use Rattle.ckr_desk_turn.specs.Jobs.{TurnStep, as_stopped, step_name_of}
use Rattle.ckr_desk_turn.specs.Units.{StepProgress, UnitEnd, unit_plan, went}
use Rattle.ckr_volumes.specs.declared.layout.Layout.{Layout}
use Rattle.ckr_desk_refines.specs.Unit.{StandsBehindUnit}
use Rattle.ckr_desk_refines.proofs.Units.Desk.{did-so, goes-to, its-desk, numbered, pair, row-at, run-moved, uncoded, went-done}
use Rattle.ckr_desk_refines.proofs.Units.Outcomes.{further_at}
use Rattle.ckr_desk_refines.proofs.Units.StepLists.{IsPair}
use Rattle.ckr_desk_refines.proofs.Units.OtherSteps.{same-start}
use Rattle.ckr_desk_refines.proofs.Units.OwnStep.{own-checked, own-sets}

reply-done : (plan : Plan) (desk : DeskModel) → reply_in plan ≡ (done_by plan desk).reply
reply-done (Tell reply event) desk = refl
reply-done _ desk = refl

pub event-done : (plan : Plan) (desk : DeskModel) → event_in plan ≡ (done_by plan desk).event
event-done (Tell reply event) desk = refl
event-done _ desk = refl

-- a turn tells in memory what the desk tells, and asks the operator where the desk asks him
abbrev pub TellsSo : Answer → ℕ → DeskModel → Plan → Type 0
TellsSo answer run desk plan =
    (reply_in (decide answer plan) ≡ (work_of answer run desk).reply) × (event_in (decide answer plan) ≡ (work_of answer run desk).event) × (is_ask plan ≡ (work_of answer run desk).asked)

-- a step that hasn't stopped, as a turn sees it
abbrev pub plain_of : TablesModel → RunningStepView → TurnStep
plain_of tables on = record {
  run = on.run;
  taken = taken_of on.step.state;
  writes = on.step.writes;
  due = due_of on.step.parm on.step.state;
  lengths = option_map_or (lengths_of_row on.sets.sets) (run_of tables on.run) [];
  code = None;
}

module _ (layout : Layout) (old : JobsView) (before after : List ℕ) (desk : DeskModel) (turn : MountedTurn) (run : ℕ) (on moved : RunningStepView) (worked : Worked) (unit : StandsBehindUnit layout old before after desk turn run on moved worked) where
  abbrev p : IsPair desk.layout desk.office before run on desk.running
  p = pair layout old before after desk turn run on moved worked unit

  abbrev its_row : RunRow
  its_row = p.stands.row

  -- the desk's plan for the unit
  abbrev pub plan_at : UnitEnd → Plan
  plan_at end = unit_plan desk.layout (jobs_of (with_progress p.stands.row.number end.progress desk)) p.stands.row (seen desk.office p.stands.row.number end.progress) end.unit

  -- where the plans are the same, so are what they tell
  pub told-so : (answer : Answer) (end : UnitEnd) → work_of answer run desk ≡ unit_done answer p.stands.row end desk → told_by layout desk.office.tables p.stands.row (running_of desk.office.tables moved) worked ≡ plan_at end
      → (row : RunRow) → run_of desk.office.tables run ≡ Some row → TellsSo answer run desk (told_by layout desk.office.tables row (running_of desk.office.tables moved) worked)
  told-so answer end done same row at =
      let mine : p.stands.row ≡ row = same_Some p.stands.row row (sym (row-at layout old before after desk turn run on moved worked unit) ∙ at) in
      let behind : DeskModel = with_progress p.stands.row.number end.progress desk in
      subst (λ (r : RunRow). TellsSo answer run desk (told_by layout desk.office.tables r (running_of desk.office.tables moved) worked)) mine (
        ap (λ plan. reply_in (decide answer plan)) same ∙ reply-done (decide answer (plan_at end)) behind ∙ sym (ap (λ (d : TurnDone). d.reply) done),
        ap (λ plan. event_in (decide answer plan)) same ∙ event-done (decide answer (plan_at end)) behind ∙ sym (ap (λ (d : TurnDone). d.event) done),
        ap is_ask same ∙ sym (ap (λ (d : TurnDone). d.asked) done),
      )

  -- the step behind the unit hasn't stopped
  pub moved-plain : running_of desk.office.tables moved ≡ plain_of desk.office.tables moved
  moved-plain = ap (λ code. as_stopped code (plain_of desk.office.tables moved)) (unit.same_code ∙ uncoded layout old before after desk turn run on moved worked unit)

  -- the step behind the unit, as the desk sees it
  pub seen-behind : (progress : StepProgress) → seen desk.office p.stands.row.number progress ≡ seen_from desk.office p.stands.row.number progress p.stands.start
  seen-behind progress =
      seen-so desk.office p.stands.row.number progress p.stands.row p.stands.start
      (ap (run_of desk.office.tables) (numbered layout old before after desk turn run on moved worked unit) ∙ row-at layout old before after desk turn run on moved worked unit) p.stands.start_at

  -- the lengths of its outputs
  pub lengths-behind : (to : ℕ) → p.going.committed ≤ to → to ≤ length (work_at p.going.start).writes → rewrites_nothing p.going.start p.going.committed to ≡ true → ShowsWithin (Unit {0}) after desk.layout p.stands.start to moved.sets
      → option_map_or (lengths_of_row moved.sets.sets) (run_of desk.office.tables moved.run) [] ≡ lengths_at p.stands.start desk.office.tables.sets to
  lengths-behind to behind fit plain shows =
      let desk_is = its-desk layout old before after desk turn run on moved worked unit in
      let did = did-so layout old before after desk turn run on moved worked unit in
      let same : p.going.start ≡ p.stands.start = same-start desk.layout desk.office before on p.step p.going p.stands in
      ap (λ n. option_map_or (lengths_of_row moved.sets.sets) (run_of desk.office.tables n) []) (run-moved layout old before after desk turn run on moved worked unit ∙ sym p.same)
      ∙ ap (λ (o : Option RunRow). option_map_or (lengths_of_row moved.sets.sets) o []) p.going.row_at
      ∙ by-step desk desk_is p.step.run p.going.row p.going.number p.going.committed p.going.start (going-within desk.office p.step p.going)
      (λ leg owned running starts spaced.
      let its : its_start leg owned p.going.number ≡ p.stands.start = sym starts ∙ same in
      lengths-so desk.layout desk.office p.step.run p.going.row leg owned p.going.number p.going.committed to desk_is.kept.events running spaced behind
      (subst (λ (s : StepStart). to ≤ length (work_at s).writes) starts fit)
      (subst (λ (s : StepStart). rewrites_nothing s p.going.committed to ≡ true) starts plain)
      after moved.sets
      (subst (λ (s : StepStart). HasSets desk.office.tables.sets (names_of s.root s.owned) moved.sets) (sym its) (own-sets desk desk_is before after on moved p.step p.going p.stands (uncoded layout old before after desk turn run on moved worked unit) worked did))
      (subst (λ (s : StepStart). ShowsWithin (Unit {0}) after desk.layout s to moved.sets) (sym its) shows)
      (own-checked desk desk_is before after on moved p.step p.going p.stands (uncoded layout old before after desk turn run on moved worked unit) worked did)
      ∙ ap (λ (s : StepStart). lengths_at s desk.office.tables.sets to) its)

-- ---- the step goes on

module _ (layout : Layout) (old : JobsView) (before after : List ℕ) (desk : DeskModel) (turn : MountedTurn) (run : ℕ) (on moved : RunningStepView) (taken : ℕ) (unit : StandsBehindUnit layout old before after desk turn run on moved (Went taken)) where
  abbrev q : IsPair desk.layout desk.office before run on desk.running
  q = pair layout old before after desk turn run on moved (Went taken) unit

  abbrev to : GoesTo (Unit {0}) after desk.layout q.stands.start taken on.step moved.step moved.sets
  to = goes-to layout old before after desk turn run on moved taken unit

  pub told-went : (answer : Answer) (row : RunRow) → run_of desk.office.tables run ≡ Some row → TellsSo answer run desk (told_by layout desk.office.tables row (running_of desk.office.tables moved) (Went taken))
  told-went answer =
      told-so layout old before after desk turn run on moved (Went taken) unit answer
      (record { unit = went None; progress = further_at on.step.state taken moved.step.writes to.closed })
      (went-done layout old before after desk turn run on moved taken unit answer)
      (ap (λ (s : TurnStep). Rest (WorkedReply q.stands.row.number (step_name_of q.stands.row) s.taken)) (moved-plain layout old before after desk turn run on moved (Went taken) unit)
      ∙ ap (λ n. Rest (WorkedReply q.stands.row.number (step_name_of q.stands.row) n))
      (taken_is moved.step.state (case_at q.stands.start) taken to.stands.state
      ∙ sym (ap (λ (s : TurnStep). s.taken) (seen-behind layout old before after desk turn run on moved (Went taken) unit (further_at on.step.state taken moved.step.writes to.closed)))))
