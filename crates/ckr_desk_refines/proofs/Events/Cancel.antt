-- The running steps in memory stand for those of the desk behind a cancel of restarts.
use Rattle.std.proofs.Common.{◌≡◌, true, ℕ, List, ◌∷◌, find, refl, ap, sym, ◌∙◌, subst, Option, Some, None}
use Rattle.std.specs.Option.{option_map_or}
use Rattle.std.proofs.lemmas.Option.{same_Some}
use Rattle.ckr_base.specs.declared.programs.NextDue.TheVariants.{Cancel}
use Rattle.ckr_events.specs.declared.event.Event.TheVariants.{Cancelled}
use Rattle.ckr_desk_memory.specs.EventChanges.{is_of_run, served_in, served_step, without_first}
use Rattle.ckr_desk_memory.specs.View.{RunningStepView}
use Rattle.ckr_desk_turn.specs.Desk.{DeskModel, DeskStep, cancel_done, jobs_of, running_behind, with_change, without_run}
use Rattle.ckr_desk_turn.specs.Invariant.{IsDesk}
use Rattle.ckr_desk_turn.specs.Jobs.{TurnStep, running_in}
use Rattle.ckr_desk_turn.proofs.RunningSteps.{FoundStep, found-step}
use Rattle.ckr_desk_refines.proofs.Durable.Events.{by-run-sets}
use Rattle.ckr_desk_refines.proofs.Durable.Fellows.{others-quiet}
use Rattle.ckr_library.specs.NameMaps.{entry_at}
use Rattle.ckr_points.specs.Office.{Office, office_after}
use Rattle.ckr_points.specs.Rows.{RunRow, run_of}
use Rattle.ckr_points.specs.Tables.{after_cancelled}
use Rattle.ckr_points_invariant.proofs.Holders.Rows.{run-same}
use Rattle.ckr_desk_refines.specs.Moves.{HasSameRecords}
use Rattle.ckr_desk_refines.specs.Standing.{AllStand, StandsForStep, differ}
use Rattle.ckr_steps.specs.Units.{due_of}
use Rattle.ckr_desk_refines.proofs.Events.OtherRows.{LeavesRuns, cancelled-leaves}
use Rattle.ckr_desk_refines.proofs.Events.OtherSteps.{step-stands, still-stands}
use Rattle.ckr_desk_refines.proofs.Rewrites.StepLists.{others-stand, put-differ}
use Rattle.ckr_desk_refines.proofs.Standing.Served.{cancel-stands, changed-first, served-first}
use Rattle.ckr_desk_refines.proofs.Units.DueUnits.{IsDue, due-found, due-there}
use Rattle.ckr_desk_refines.proofs.Units.StepLists.{IsPair, pair-of, seen-of}

module _ (desk : DeskModel) (is : IsDesk desk) (before after : List ℕ) (same : HasSameRecords desk.layout before after) (seen : List RunningStepView)
    (all : AllStand desk.layout desk.office before seen desk.running) (differs : differ desk.running ≡ true)
    (job : ℕ) (step : TurnStep) (some : running_in (jobs_of desk) job ≡ Some step) (is_due : step.due ≡ Cancel) (uncoded : step.code ≡ None) where
  abbrev later : Office
  later = office_after (Cancelled job, None) desk.office

  found : FoundStep desk.office desk.running job step
  found = found-step desk.office job desk.running step is.going some

  due : IsDue desk job Cancel
  due = due-found desk job Cancel step found is_due uncoded

  -- its row is changed, and nothing else
  row-later : (row : RunRow) → run_of desk.office.tables job ≡ Some row → run_of later.tables job ≡ Some (record row { in_effect = None })
  row-later row at =
      ap (λ (o : Option RunRow). run_of (option_map_or (λ row. after_cancelled row desk.office.tables) o desk.office.tables) job) at
      ∙ run-same desk.office.tables (record row { in_effect = None }) row job at (is.kept.events.numbered job row at)

  sets-same : later.tables.sets ≡ desk.office.tables.sets
  sets-same = by-run-sets _ (run_of desk.office.tables job) desk.office.tables (λ row. refl)

  module _ (on : RunningStepView) (there : find (is_of_run job) seen ≡ Some on) (pair : IsPair desk.layout desk.office before job on desk.running) where
    abbrev own : DeskStep
    own = record { run = job; progress = cancel_done pair.step.progress; code = None }

    paired : pair.step ≡ due.step
    paired = same_Some pair.step due.step (sym pair.at ∙ due.at)

    due-so : due_of on.step.parm on.step.state ≡ Cancel
    due-so =
        due-there desk is job Cancel due before on
        (subst (λ (step : DeskStep). StandsForStep desk.layout desk.office before on step) paired pair.stands)

    -- its own step stands, with the cancel done
    own-stands : StandsForStep desk.layout later after (served_step on) own
    own-stands =
        subst (λ (n : ℕ). StandsForStep desk.layout later after (served_step on) (record { run = n; progress = cancel_done pair.step.progress; code = None })) pair.same
        (cancel-stands desk.layout later after on pair.step
        (still-stands desk is later before after same on pair.step pair.going pair.stands (record pair.stands.row { in_effect = None })
        (ap (run_of later.tables) pair.same ∙ row-later pair.stands.row (ap (run_of desk.office.tables) (sym pair.same) ∙ pair.stands.row_at))
        pair.stands.start_at (λ name among. ap (λ sets. entry_at sets name) sets-same)) (pair.stands.code ∙ ap (λ (step : DeskStep). step.code) paired ∙ due.uncoded) due-so)

    leaves : LeavesRuns desk.office later job
    leaves = cancelled-leaves desk.layout desk.office job is.kept.events

    all-stand : AllStand desk.layout later after (served_step on ∷ without_first job seen) (own ∷ without_run job desk.running)
    all-stand = (
      own-stands,
      others-stand desk.layout desk.office later before after job
          (λ other one going apart stands. step-stands desk is later job leaves (others-quiet desk.office (Cancelled job) None refl) before after same other one going apart stands) seen desk.running differs is.going all,
    )

    all-behind : AllStand desk.layout later after (served_in job seen) (with_change job cancel_done desk.running)
    all-behind =
        subst (λ (running : List DeskStep). AllStand desk.layout later after (served_in job seen) running) (sym (changed-first job cancel_done pair.step desk.running pair.at))
        (subst (λ (seen : List RunningStepView). AllStand desk.layout later after seen (own ∷ without_run job desk.running)) (sym (served-first job on seen there)) all-stand)

  pub cancelled-running : AllStand desk.layout later after (served_in job seen) (running_behind desk.office.tables (Cancelled job) desk.running)
  cancelled-running =
      let there = seen-of desk.layout desk.office before job due.step seen desk.running all due.at in
      all-behind there.0 there.1 (pair-of desk.layout desk.office before job there.0 seen desk.running all is.going there.1)

  pub cancelled-differ : differ (running_behind desk.office.tables (Cancelled job) desk.running) ≡ true
  cancelled-differ =
      subst (λ (running : List DeskStep). differ running ≡ true) (sym (changed-first job cancel_done due.step desk.running due.at))
      (put-differ (record { run = job; progress = cancel_done due.step.progress; code = None }) desk.running differs)
