-- The jobs in memory stand for the desk behind a checkpoint that doesn't fit.
use Rattle.std.proofs.Common.{◌≡◌, ℕ, false, List, ◌∷◌, sym, ◌∙◌, subst, None}
use Rattle.ckr_desk_memory.specs.EventChanges.{served_step, without_first}
use Rattle.ckr_desk_memory.specs.View.{JobsView, RunningStepView}
use Rattle.ckr_desk_turn.specs.Checkpoints.{checkpoint_fits}
use Rattle.ckr_desk_turn.specs.Desk.{DeskModel, DeskStep, TurnDone, checkpoint_done, without_run}
use Rattle.ckr_desk_turn.specs.Invariant.{IsDesk}
use Rattle.ckr_desk_turn.specs.Taken.{taken_of}
use Rattle.ckr_desk_turn.specs.Turns.{MountedTurn}
use Rattle.ckr_volumes.specs.declared.layout.Layout.{Layout}
use Rattle.ckr_desk_refines.specs.Checkpoints.{IsToTake}
use Rattle.ckr_desk_refines.specs.Standing.{AllStand, PointsStand, StandsForDesk, StandsForStep}
use Rattle.ckr_desk_refines.specs.Unit.{HasPassed}
use Rattle.ckr_desk_refines.proofs.Checkpoints.Turn.{due-so, none, numbered, pair, taken-by, taken-kept}
use Rattle.ckr_desk_refines.proofs.Standing.Served.{checkpoint-stands, served-first}
use Rattle.ckr_desk_refines.proofs.Units.StepLists.{IsPair, others-stay}
use Rattle.ckr_desk_refines.proofs.Rewrites.StepLists.{put-differ}

module _ (layout : Layout) (old new : JobsView) (image : List ℕ) (desk : DeskModel) (turn : MountedTurn) (run : ℕ) (on : RunningStepView) (to : IsToTake layout old image desk turn run on) where
  abbrev its : IsPair desk.layout desk.office image run on desk.running
  its = pair layout old image desk turn run on to

  number_is : its.going.row.number ≡ run
  number_is = numbered layout old image desk turn run on to

  abbrev own : DeskStep
  own = record { run = its.going.row.number; progress = checkpoint_done its.step.progress; code = None }

  own-stands : StandsForStep desk.layout desk.office image (served_step on) own
  own-stands =
      subst (λ (n : ℕ). StandsForStep desk.layout desk.office image (served_step on) (record { run = n; progress = checkpoint_done its.step.progress; code = None })) (its.same ∙ sym number_is)
      (checkpoint-stands desk.layout desk.office image on its.step its.stands (none layout old image desk turn run on to) (due-so layout old image desk turn run on to))

  rest : AllStand desk.layout desk.office image (without_first run old.running) (without_run its.going.row.number desk.running)
  rest =
      subst (λ (n : ℕ). AllStand desk.layout desk.office image (without_first run old.running) (without_run n desk.running)) (sym number_is)
      (others-stay desk.layout desk.office image image run (λ other step going stands apart. stands) old.running desk.running to.stands.is_desk.going to.stands.differ_so to.stands.running)

  pub unwritten-stands : checkpoint_fits desk.office.tables.sets its.going.row its.going.start its.step.progress ≡ false → HasPassed run old new → StandsForDesk layout new image (taken_of run desk).desk
  unwritten-stands unfit passed =
      subst (λ (done : TurnDone). IsDesk done.desk → StandsForDesk layout new image done.desk) (sym (taken-by layout old image desk turn run on to false unfit))
      (λ kept. record {
        layout_is = to.stands.layout_is;
        is_desk = kept;
        tables = passed.tables ∙ to.stands.tables;
        failed = passed.failed ∙ to.stands.failed;
        running =
            subst (λ (seen : List RunningStepView). AllStand desk.layout desk.office image seen (own ∷ without_run its.going.row.number desk.running)) (sym (passed.running ∙ served-first run on old.running to.found))
            (own-stands, rest);
        differ_so = put-differ own desk.running to.stands.differ_so;
        points = subst (PointsStand desk.office) (sym passed.points) to.stands.points;
        committed = to.stands.committed;
      })
      (taken-kept layout old image desk turn run on to)
