-- A unit that asks for a rewrite in place, as the desk has it.
use Rattle.std.proofs.Common.{◌≡◌, ℕ, suc, false, List, [], ap, sym, ◌∙◌, subst, Option, None, Some}
use Rattle.std.specs.Prelude.{◌==◌, find}
use Rattle.std.specs.Option.{option_map_or}
use Rattle.std.proofs.lemmas.Option.{same_Some}
use Rattle.ckr_base.specs.declared.programs.NextDue.TheVariants.{Unit as OneUnit}
use Rattle.ckr_base.proofs.Numbers.{equal-true}
use Rattle.ckr_base.proofs.Sequences.{find-holds, find-passes}
use Rattle.ckr_console.specs.declared.question.Answer.{Answer}
use Rattle.ckr_console.specs.declared.question.Answer.TheVariants.{Silent}
use Rattle.ckr_events.specs.declared.event.Event.{Event}
use Rattle.ckr_desk_memory.specs.Plans.{told_by}
use Rattle.ckr_desk_memory.specs.View.{JobsView, RunningStepView, lengths_in, lengths_of_row, running_of}
use Rattle.ckr_desk_turn.specs.NextEvents.{Comes}
use Rattle.ckr_desk_turn.specs.Invariant.{IsDesk, IsGoing, Keeps as KeepsDesk}
use Rattle.ckr_desk_turn.proofs.Units.AnyUnit.{work-keeps}
use Rattle.ckr_desk_refines.specs.SharedSets.{LeavesOthers, LieStill}
use Rattle.ckr_desk_refines.proofs.Durable.Fellows.{others-rewritten}
use Rattle.ckr_desk_refines.proofs.Durable.Extents.{rewritten-lie}
use Rattle.ckr_library.specs.Catalog.{set_of}
use Rattle.ckr_library.specs.NameMaps.{Name}
use Rattle.ckr_meaning.specs.EffectiveJob.{OwnedStep}
use Rattle.ckr_meaning.specs.StepRun.{StepStart, case_at}
use Rattle.ckr_points.specs.Office.{Office, office_after}
use Rattle.ckr_points.specs.Rows.{RunRow, run_of}
use Rattle.ckr_desk_refines.specs.Rewrite.{AsksToRewrite}
use Rattle.ckr_points_invariant.specs.Invariant.{IsKept, step_now}
use Rattle.ckr_points_invariant.specs.RunningSteps.{its_start}
use Rattle.ckr_desk_refines.specs.Moves.{event_in}
use Rattle.ckr_steps.specs.declared.files.Files.{Files}
use Rattle.ckr_steps.specs.declared.files.RecordSource.TheVariants.{InSet}
use Rattle.ckr_steps.specs.declared.step_run.Worked.TheVariants.{Rewrite}
use Rattle.ckr_steps.specs.Files.{set_of_source}
use Rattle.ckr_steps.specs.Places.{IsToRewrite, ShowsWithin, IsStepPlace}
use Rattle.ckr_steps.specs.Units.{taken_of}
use Rattle.ckr_steps.proofs.NextUnits.{taken_is}
use Rattle.ckr_desk_turn.specs.Desk.{DeskModel, DeskStep, TurnDone, progress_of, progress_unless, work_of}
use Rattle.ckr_desk_turn.specs.Jobs.{as_stopped}
use Rattle.ckr_desk_turn.specs.Turns.{MountedTurn}
use Rattle.ckr_desk_refines.proofs.Rewrites.Office.{behind, behind-is, lengths_now}
use Rattle.ckr_desk_refines.proofs.Rewrites.Legs.{IsLedStep, led-step}
use Rattle.ckr_desk_refines.proofs.Rewrites.StepLists.{StandsFound, stands-found}
use Rattle.ckr_desk_refines.proofs.Rewrites.OwnStep.{lengths-are, lrecl-so}
use Rattle.ckr_desk_refines.proofs.Rewrites.Replies.{rewritten_event, told_so, work-told}
use Rattle.ckr_desk_refines.proofs.Rewrites.Unit.{same-set, sets-same, takes-one-more}
use Rattle.ckr_desk_refines.proofs.Units.DueUnits.{IsDue, due-unclosed, is-due}
use Rattle.ckr_desk_refines.proofs.Units.Plans.{asked_in}
use Rattle.ckr_desk_refines.proofs.Units.Replies.{plain_of}

-- the unit, as the desk has it
pub record IsAsked (before after : List ℕ) (desk : DeskModel) (run : ℕ) (on moved : RunningStepView) (place : ℕ) (image : List ℕ) (taken : ℕ) : Type 0 where
  pub step : DeskStep
  pub at : find (λ (one : DeskStep). one.run == run) desk.running ≡ Some step
  pub run_is : step.run ≡ run
  pub open_yet : step.progress.closed ≡ false
  -- its run doesn't wait with a code
  pub none : on.code ≡ None
  pub unwaiting : step.code ≡ None
  pub led : IsLedStep desk before on step
  pub stood : IsStepPlace (its_start led.leg led.owned (step_now led.row)) step.progress.taken false on.step on.sets
  pub rewrite : IsToRewrite (Unit {0}) after desk.layout (its_start led.leg led.owned (step_now led.row)) step.progress.taken taken place image on.step moved.step moved.sets
  pub same : (name : Name) → set_of moved.sets name ≡ set_of on.sets name
  pub next : taken ≡ suc step.progress.taken

pub is-asked : (old : JobsView) (before after : List ℕ) (desk : DeskModel) (turn : MountedTurn) (run : ℕ) (on moved : RunningStepView) (place : ℕ) (image : List ℕ) (taken : ℕ) → AsksToRewrite desk.layout old before after desk turn run on moved place image taken
    → IsAsked before after desk run on moved place image taken
is-asked old before after desk turn run on moved place image taken asks =
    let is : IsDesk desk = asks.stands.is_desk in
    let both : StandsFound desk.layout desk.office before run desk.running on = stands-found desk.layout desk.office before run old.running desk.running on asks.stands.running asks.found in
    let going : IsGoing desk.office both.step = find-holds (IsGoing desk.office) (λ (step : DeskStep). step.run == run) desk.running both.step is.going both.at in
    let due : IsDue desk run OneUnit = is-due desk turn run OneUnit is (ap asked_in asks.planned) in
    let mine : both.step ≡ due.step = same_Some both.step due.step (sym both.at ∙ due.at) in
    let unclosed : both.step.progress.closed ≡ false = ap (λ (step : DeskStep). step.progress.closed) mine ∙ due-unclosed desk run due in
    let unwaiting : both.step.code ≡ None = ap (λ (step : DeskStep). step.code) mine ∙ due.uncoded in
    let none : on.code ≡ None = both.stands.code ∙ unwaiting in
    let led : IsLedStep desk before on both.step = led-step desk is before on both.step going both.stands in
    let start : StepStart = its_start led.leg led.owned (step_now led.row) in
    let stood : IsStepPlace start both.step.progress.taken false on.step on.sets = subst (λ b. IsStepPlace start both.step.progress.taken b on.step on.sets) unclosed (led.stands none) in
    let rewrite : IsToRewrite (Unit {0}) after desk.layout start both.step.progress.taken taken place image on.step moved.step moved.sets =
    asks.goes start both.step.progress.taken stood (subst (λ n. ShowsWithin (Unit {0}) before desk.layout start n on.sets) (sym led.writes) led.shows) in
    record {
      step = both.step;
      at = both.at;
      run_is = equal-true both.step.run run (find-passes (λ (one : DeskStep). one.run == run) desk.running both.step both.at);
      open_yet = unclosed;
      none = none;
      unwaiting = unwaiting;
      led = led;
      stood = stood;
      rewrite = rewrite;
      same = same-set on.sets moved.sets (sets-same place image taken asks.did.heads on.step moved.step on.sets moved.sets asks.did.done);
      next = takes-one-more (Unit {0}) after desk.layout start both.step.progress.taken taken place image on.step moved.step moved.sets rewrite asks.did.heads on.sets (Rewrite place image taken) stood asks.did.done;
    }

module _ (before after : List ℕ) (desk : DeskModel) (is : IsDesk desk) (run : ℕ) (on moved : RunningStepView) (place : ℕ) (image : List ℕ) (taken : ℕ) (asked : IsAsked before after desk run on moved place image taken) where
  abbrev start : StepStart
  start = its_start asked.led.leg asked.led.owned (step_now asked.led.row)

  abbrev pub then : Office
  then = behind desk before on asked.step asked.led moved.step.writes moved.sets asked.same

  abbrev pub lengths : List ℕ
  lengths = lengths_now desk before on asked.step asked.led moved.step.writes moved.sets asked.same

  abbrev pub event : Event
  event = rewritten_event asked.led.row.number taken moved.step.writes lengths place image

  abbrev pub done : TurnDone
  done = told_so asked.led.row taken moved.step.writes lengths place image desk

  pub number-is : asked.led.row.number ≡ run
  number-is = asked.led.numbered ∙ asked.run_is

  pub row-at : run_of desk.office.tables asked.led.row.number ≡ Some asked.led.row
  row-at = ap (run_of desk.office.tables) asked.led.numbered ∙ asked.led.running.holder.row_at

  found : progress_of desk run ≡ Some asked.step.progress
  found =
      ap (λ (o : Option DeskStep). option_map_or (λ (step : DeskStep). progress_unless step.code step.progress) o None) asked.at
      ∙ ap (λ code. progress_unless code asked.step.progress) asked.unwaiting

  -- the turn tells it
  pub work-is : (answer : Answer) → work_of answer run desk ≡ done
  work-is answer =
      ap (λ n. work_of answer n desk) (sym asked.run_is)
      ∙ work-told desk asked.step asked.led.row start asked.led.running.holder.row_at row-at asked.led.starts answer (ap (progress_of desk) asked.run_is ∙ found) (Unit {0}) after desk.layout taken place image on.step moved.step moved.sets asked.rewrite asked.led.writes asked.next
      (lrecl-so desk is before on asked.step asked.led after moved taken place image asked.rewrite asked.same asked.stood)
      ∙ ap (λ lengths. told_so asked.led.row taken moved.step.writes lengths place image desk) (lengths-are desk is before on asked.step asked.led after moved taken place image asked.rewrite asked.same asked.stood)

  pub event-is : (answer : Answer) (other : Event) → (work_of answer run desk).event ≡ Some other → event ≡ other
  event-is answer other e = same_Some event other (sym (ap (λ (one : TurnDone). one.event) (work-is answer)) ∙ e)

  kept-so : KeepsDesk desk done
  kept-so = subst (KeepsDesk desk) (work-is Silent) (work-keeps Silent desk is run asked.step.progress found asked.open_yet)

  pub desk-then : IsDesk done.desk
  desk-then = kept-so.kept

  pub comes : Comes desk event
  comes = kept-so.comes

  pub office-is : office_after (event, None) desk.office ≡ then
  office-is = behind-is desk.office asked.led.row.number asked.led.row asked.led.owned taken moved.step.writes place lengths image row-at asked.led.running.found

  pub kept-then : IsKept desk.layout then
  kept-then = subst (IsKept desk.layout) office-is kept-so.kept.kept

  pub still : LieStill desk.office.tables.sets then.tables.sets
  still =
      subst (λ (office : Office). LieStill desk.office.tables.sets office.tables.sets) office-is
      (rewritten-lie desk.layout desk.office asked.led.row.number taken moved.step.writes place (record { items = lengths }) image None is.kept comes.may)

  pub leaves : LeavesOthers desk.office asked.step.run then
  leaves =
      subst (λ n. LeavesOthers desk.office n then) asked.led.numbered
      (subst (LeavesOthers desk.office asked.led.row.number) office-is
      (others-rewritten desk.layout desk.office asked.led.row.number taken moved.step.writes place (record { items = lengths }) image None is.kept comes.may))

  -- the data set that the step updates, by the step in memory
  pub name-is : (name : Name) → moved.step.files.first ≡ InSet name → name ≡ asked.rewrite.name
  name-is name e =
      same_Some name asked.rewrite.name (sym (ap set_of_source e) ∙ ap (λ (files : Files). set_of_source files.first) asked.rewrite.stands.files ∙ ap set_of_source asked.rewrite.updates)

  -- the event, by the step in memory
  pub event-seen : moved.run ≡ on.run → moved.code ≡ on.code → (answer : Answer) (row : RunRow) → run_of desk.office.tables run ≡ Some row → (work_of answer run desk).event ≡ event_in (told_by desk.layout desk.office.tables row (running_of desk.office.tables moved) (Rewrite place image taken))
  event-seen same_run same_code answer row e =
      let mine : row ≡ asked.led.row = same_Some row asked.led.row (sym e ∙ ap (run_of desk.office.tables) (sym asked.run_is) ∙ asked.led.running.holder.row_at) in
      let records : taken_of moved.step.state ≡ taken = taken_is moved.step.state (case_at start) taken asked.rewrite.stands.state in
      let here : run_of desk.office.tables moved.run ≡ Some asked.led.row = ap (run_of desk.office.tables) (same_run ∙ asked.led.run) ∙ asked.led.running.holder.row_at in
      let long : option_map_or (lengths_of_row moved.sets.sets) (run_of desk.office.tables moved.run) [] ≡ lengths =
      ap (λ (o : Option RunRow). option_map_or (lengths_of_row moved.sets.sets) o []) here
      ∙ ap (λ (o : Option OwnedStep). option_map_or (lengths_in moved.sets.sets asked.led.row.job.root) o []) asked.led.running.found in
      ap (λ (one : TurnDone). one.event) (work-is answer)
      ∙ ap (λ (r : RunRow). Some (rewritten_event r.number taken moved.step.writes lengths place image)) (sym mine)
      ∙ ap (λ n. Some (rewritten_event row.number n moved.step.writes lengths place image)) (sym records)
      ∙ ap (λ l. Some (rewritten_event row.number (taken_of moved.step.state) moved.step.writes l place image)) (sym long)
      ∙ ap (λ code. event_in (told_by desk.layout desk.office.tables row (as_stopped code (plain_of desk.office.tables moved)) (Rewrite place image taken))) (sym (same_code ∙ asked.none))
