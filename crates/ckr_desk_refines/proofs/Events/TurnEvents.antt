-- What each event of a turn brings about is committed, and the jobs in memory stand for the desk behind it.
use Rattle.std.proofs.Common.{◌≡◌, ℕ, zero, suc, not, List, refl, ap, sym, ◌∙◌, subst, Option, Some, None}
use Rattle.std.proofs.lemmas.Bool.{and_from}
use Rattle.arrayvec.specs.ArrayVec.{ArrayVec}
use Rattle.ckr_base.specs.declared.code.Code.{Code}
use Rattle.ckr_events.specs.declared.event.Ending.{Ending}
use Rattle.ckr_events.specs.declared.event.Ending.TheVariants.{Allocation, Coded, Completed}
use Rattle.ckr_events.specs.declared.event.Event.{Event}
use Rattle.ckr_events.specs.declared.event.Event.TheVariants.{Cancelled, Denied, Ended, Held, Selected, Started, StepEnded}
use Rattle.ckr_events.specs.declared.event.Made.{Made}
use Rattle.ckr_desk_memory.specs.View.{JobsView, begun}
use Rattle.ckr_desk_memory.specs.Start.{HasNew}
use Rattle.ckr_desk_turn.specs.NextEvents.{Comes}
use Rattle.ckr_desk_turn.specs.Invariant.{IsDesk, IsGoing}
use Rattle.ckr_desk_turn.proofs.RunningSteps.{going-within}
use Rattle.ckr_desk_refines.specs.Commits.{HasCommitted, HasWithinRun}
use Rattle.ckr_desk_refines.specs.SharedSets.{LeavesOthers}
use Rattle.ckr_desk_refines.proofs.Durable.Continuation.{continued-stays}
use Rattle.ckr_desk_refines.proofs.Durable.Events.{coded-stays, completed-stays, held-stays, quiet-stays, refused-stays, step-ended-stays}
use Rattle.ckr_desk_refines.proofs.Durable.Fellows.{others-coded, others-completed, others-quiet, others-refused, others-started, others-step-ended}
use Rattle.ckr_desk_refines.proofs.Durable.Restart.{restarted-stays}
use Rattle.ckr_desk_refines.proofs.Durable.Start.{selected-stays, started-stays}
use Rattle.ckr_meaning.specs.EffectiveJob.{OwnedStep}
use Rattle.ckr_library.specs.NameMaps.{Name}
use Rattle.ckr_points.specs.Office.{office_after}
use Rattle.ckr_points.specs.Restart.{after_event, step_in}
use Rattle.ckr_points.specs.Rows.{TablesModel, run_of, step_of_run}
use Rattle.ckr_desk_refines.specs.Moves.{HasSameRecords, HaveMoved, KnowsItsEntry}
use Rattle.ckr_desk_refines.specs.Standing.{AllStand, StandsForDesk, steps_without}
use Rattle.ckr_desk_turn.specs.Desk.{DeskModel, at_first, behind, running_behind}
use Rattle.ckr_volumes.specs.declared.layout.Layout.{Layout}
use Rattle.ckr_desk_refines.proofs.Events.Continuation.{continued-stands}
use Rattle.ckr_desk_refines.proofs.Events.Cancel.{cancelled-differ, cancelled-running}
use Rattle.ckr_desk_refines.proofs.Events.Deny.{denied-stands}
use Rattle.ckr_desk_refines.proofs.Events.Desk.{behind-stands, ended-stands, entered-stands, hold-stands, out-stands, points-behind, restart-stands}
use Rattle.ckr_desk_refines.proofs.Events.OtherSteps.{left-differ, left-none, left-stand, rest-stand}
use Rattle.ckr_desk_refines.proofs.Events.Plans.{OfEach}
use Rattle.ckr_desk_refines.proofs.Events.IdleRuns.{cancelled-idle, ended-idle, started-idle, step_ended-idle}
use Rattle.ckr_desk_refines.proofs.Events.OtherRows.{EntersOut, cancelled-leaves, ended-leaves, selected-enters, started-leaves, step_ended-leaves}
use Rattle.ckr_desk_refines.proofs.Events.Start.{new-stand, started-place}
use Rattle.ckr_desk_refines.proofs.Standing.Points.{idle-stands}
use Rattle.ckr_desk_memory.specs.EventChanges.{without_run as seen_without}

-- ---- what is committed

-- an event has come, and what it brings about is committed on the image
abbrev pub IsCommitted : DeskModel → List ℕ → Event → Type 0
IsCommitted desk image event = Comes desk event → IsDesk (behind event None desk) → HasCommitted desk.layout (behind event None desk).office image

pub coded-committed : (desk : DeskModel) → IsDesk desk → (image : List ℕ) → HasCommitted desk.layout desk.office image → (job rule writes : ℕ) (code : Code) (lengths : ArrayVec ℕ) → HasWithinRun desk.layout desk.office job writes image → IsCommitted desk image (Ended job (Coded code rule writes lengths))
coded-committed desk is image had job rule writes code lengths has comes later =
    coded-stays desk.layout desk.office image job rule writes code lengths None is.kept comes.may comes.carried later.kept had has

pub held-committed : (desk : DeskModel) → IsDesk desk → (image : List ℕ) → HasCommitted desk.layout desk.office image → (job writes : ℕ) (code : Code) (lengths : ArrayVec ℕ) → HasWithinRun desk.layout desk.office job writes image → IsCommitted desk image (Held job code writes lengths)
held-committed desk is image had job writes code lengths has comes later =
    held-stays desk.layout desk.office image job writes code lengths None is.kept comes.may comes.carried later.kept had has

selected-committed : (desk : DeskModel) → IsDesk desk → (image : List ℕ) → HasCommitted desk.layout desk.office image → (job initiator earlier step : ℕ) (id : Option Name) → IsCommitted desk image (Selected job initiator earlier step id)
selected-committed desk is image had job initiator zero step id comes later = selected-stays desk.layout desk.office image job initiator step id None is.kept comes.may later.kept had
selected-committed desk is image had job initiator (suc before) step id comes later = continued-stays desk.layout desk.office image job initiator before step id None is.kept comes.may later.kept had

pub each-committed : (desk : DeskModel) → IsDesk desk → (image : List ℕ) → HasCommitted desk.layout desk.office image → OfEach desk image (IsCommitted desk image)
each-committed desk is image had = record {
  selected = selected-committed desk is image had;
  denied = λ job rule name comes later. quiet-stays desk.layout desk.office image (Denied job rule name) None refl is.kept later.kept had;
  started = λ job step items comes later. started-stays desk.layout desk.office image job step items None is.kept comes.may comes.carried later.kept had;
  cancelled = λ job step some is_due uncoded comes later. quiet-stays desk.layout desk.office image (Cancelled job) None refl is.kept later.kept had;
  step_ended = λ job step rc writes lengths has comes later. step-ended-stays desk.layout desk.office image job step rc writes lengths None is.kept comes.may comes.carried later.kept had has;
  restarted = λ job initiator code checkpoint comes later. restarted-stays desk.layout desk.office image job initiator code checkpoint None is.kept later.kept had;
  held = λ job writes code lengths has. held-committed desk is image had job writes code lengths has;
  completed = λ job comes later. completed-stays desk.layout desk.office image job None is.kept later.kept had;
  refused = λ job dd cause first second comes later. refused-stays desk.layout desk.office image job dd cause first second None is.kept later.kept had;
  coded = λ job rule writes code lengths has. coded-committed desk is image had job rule writes code lengths has;
}

-- ---- the jobs in memory

module _ (layout : Layout) (old new : JobsView) (before after : List ℕ) (desk : DeskModel) (stands : StandsForDesk layout old before desk) (records : HasSameRecords desk.layout before after) where
  -- an event has come, with the point that its run is to go on from, its jobs in memory have moved, and what it brings about is committed
  abbrev pub BehindStands : Event → Type 0
  BehindStands event =
      Comes desk event → IsDesk (behind event None desk) → KnowsItsEntry event desk old.points → HaveMoved event None old new → HasCommitted desk.layout (behind event None desk).office after → StandsForDesk layout new after (behind event None desk)

  rest : (job : ℕ) → AllStand desk.layout desk.office before (seen_without job old.running) (steps_without job desk.running)
  rest job = left-stand desk.layout desk.office before job old.running desk.running stands.running

  run-ended : (job : ℕ) (ending : Ending) → IsDesk (behind (Ended job ending) None desk) → HaveMoved (Ended job ending) None old new → LeavesOthers desk.office job (office_after (Ended job ending, None) desk.office) → HasCommitted desk.layout (behind (Ended job ending) None desk).office after → StandsForDesk layout new after (behind (Ended job ending) None desk)
  run-ended job ending later moved lies committed =
      ended-stands layout old new before after desk (Ended job ending) job refl stands.layout_is stands.is_desk stands.tables stands.failed stands.differ_so stands.points
      (idle-stands (office_after (Ended job ending, None) desk.office) new.points job (ended-idle desk.layout desk.office stands.is_desk.kept.events stands.is_desk.ready job ending)) (rest job) moved records refl later
      (ended-leaves desk.layout desk.office job ending stands.is_desk.kept.events) lies moved.running refl committed

  step-started : (job step : ℕ) (items : ArrayVec Made) → BehindStands (Started job step items)
  step-started job step items comes later knows moved committed =
      behind-stands layout old new after desk (Started job step items) None stands.layout_is stands.tables stands.failed moved refl later
      (new-stand (behind (Started job step items) None desk) later job going after committed old.running new.running starts (steps_without job desk.running)
      (rest-stand desk stands.is_desk (office_after (Started job step items, None) desk.office) job
      (started-leaves desk.layout desk.office job step items stands.is_desk.kept.events)
      (others-started desk.layout desk.office job step items None stands.is_desk.kept comes.may comes.carried)
      before after records old.running desk.running stands.is_desk.going (rest job)))
      (and_from _ _ (ap not (left-none job desk.running)) (left-differ job desk.running stands.differ_so))
      (points-behind old new desk stands.is_desk (Started job step items) job refl stands.points (office_after (Started job step items, None) desk.office)
      (started-leaves desk.layout desk.office job step items stands.is_desk.kept.events)
      (others-started desk.layout desk.office job step items None stands.is_desk.kept comes.may comes.carried) moved.points
      (idle-stands (office_after (Started job step items, None) desk.office) new.points job (started-idle desk.layout desk.office stands.is_desk.kept.events stands.is_desk.ready job step items comes.may))) committed
    where
      going : IsGoing (office_after (Started job step items, None) desk.office) (at_first job)
      going = later.going.0

      same_tables : new.tables.desk ≡ (office_after (Started job step items, None) desk.office).tables
      same_tables = moved.tables ∙ ap (after_event (Started job step items) None) stands.tables

      same_step : going.number ≡ step
      same_step =
          ap step_in (sym (going-within (office_after (Started job step items, None) desk.office) (at_first job) going).place)
          ∙ ap step_in (started-place desk.layout desk.office job step items stands.is_desk.kept.events comes.may comes.carried going.row going.row_at)

      starts : (owned : OwnedStep) → step_of_run going.row going.number ≡ Some owned → HasNew job going.row.job.root owned (begun going.row.job.root owned) (office_after (Started job step items, None) desk.office).tables.sets old.running new.running
      starts owned found =
          subst (λ (tables : TablesModel). HasNew job going.row.job.root owned (begun going.row.job.root owned) tables.sets old.running new.running) same_tables
          (moved.running going.row owned (ap (λ tables. run_of tables job) same_tables ∙ going.row_at) (ap (step_of_run going.row) (sym same_step) ∙ found))

  -- a run that is selected stands on its own, or goes on with an earlier one
  run-selected : (job initiator earlier step : ℕ) (id : Option Name) → BehindStands (Selected job initiator earlier step id)
  run-selected job initiator zero step id comes later knows moved committed =
      let out : EntersOut desk.office (office_after (Selected job initiator 0 step id, None) desk.office) = selected-enters desk.layout desk.office job initiator step id stands.is_desk.kept.events comes.may in
      entered-stands layout old new before after desk (Selected job initiator 0 step id) None stands moved records refl later out.enters moved.running refl moved.points
      (out-stands desk.office (office_after (Selected job initiator 0 step id, None) desk.office) out old.points) committed
  run-selected job initiator (suc run) step id comes later knows moved committed = continued-stands layout old new before after desk job initiator run step id stands comes later knows moved records

  pub each-stands : OfEach desk before BehindStands
  each-stands = record {
    selected = run-selected;
    denied = λ job rule name comes later knows moved committed. denied-stands layout old new before after desk job rule name stands comes later moved records;
    started = step-started;
    cancelled = λ job step some is_due uncoded comes later knows moved committed.
        behind-stands layout old new after desk (Cancelled job) None stands.layout_is stands.tables stands.failed moved refl later
        (subst (λ seen. AllStand desk.layout (office_after (Cancelled job, None) desk.office) after seen (running_behind desk.office.tables (Cancelled job) desk.running)) (sym moved.running)
        (cancelled-running desk stands.is_desk before after records old.running stands.running stands.differ_so job step some is_due uncoded))
        (cancelled-differ desk stands.is_desk before after records old.running stands.running stands.differ_so job step some is_due uncoded)
        (points-behind old new desk stands.is_desk (Cancelled job) job refl stands.points (office_after (Cancelled job, None) desk.office)
        (cancelled-leaves desk.layout desk.office job stands.is_desk.kept.events) (others-quiet desk.office (Cancelled job) None refl) moved.points
        (idle-stands (office_after (Cancelled job, None) desk.office) new.points job (cancelled-idle desk.layout desk.office stands.is_desk.kept.events stands.is_desk.ready job))) committed;
    step_ended = λ job step rc writes lengths has comes later knows moved committed.
        ended-stands layout old new before after desk (StepEnded job step rc writes lengths) job refl stands.layout_is stands.is_desk stands.tables stands.failed stands.differ_so stands.points
        (idle-stands (office_after (StepEnded job step rc writes lengths, None) desk.office) new.points job (step_ended-idle desk.layout desk.office stands.is_desk.kept.events stands.is_desk.ready job step rc writes lengths)) (rest job) moved records refl later
        (step_ended-leaves desk.layout desk.office job step rc writes lengths stands.is_desk.kept.events)
        (others-step-ended desk.layout desk.office job step rc writes lengths None stands.is_desk.kept comes.may comes.carried) moved.running refl committed;
    restarted = λ job initiator code checkpoint comes later knows moved committed.
        restart-stands layout old new before after desk job initiator code checkpoint stands.layout_is stands.is_desk stands.tables stands.failed stands.differ_so stands.points (rest job) moved records comes later committed;
    held = λ job writes code lengths has comes later knows moved committed.
        hold-stands layout old new before after desk job writes code lengths stands.layout_is stands.is_desk stands.tables stands.failed stands.differ_so stands.points (rest job) moved records comes later committed;
    completed = λ job comes later knows moved committed.
        run-ended job Completed later moved (others-completed desk.layout desk.office job None stands.is_desk.kept comes.may) committed;
    refused = λ job dd cause first second comes later knows moved committed.
        run-ended job (Allocation dd cause first second) later moved (others-refused desk.layout desk.office job dd cause first second None stands.is_desk.kept comes.may) committed;
    coded = λ job rule writes code lengths has comes later knows moved committed.
        run-ended job (Coded code rule writes lengths) later moved (others-coded desk.layout desk.office job rule writes code lengths None stands.is_desk.kept comes.may comes.carried) committed;
  }
