-- The jobs in memory stand for the desk behind a checkpoint that is suppressed.
use Rattle.std.proofs.Common.{◌≡◌, ℕ, List, ◌∷◌, find, ap, sym, ◌∙◌, subst, Some, None}
use Rattle.std.proofs.lemmas.Option.{same_Some}
use Rattle.ckr_base.specs.declared.programs.NextDue.TheVariants.{Checkpoint}
use Rattle.ckr_console.specs.declared.question.Answer.{Answer}
use Rattle.ckr_console.specs.declared.question.Answer.TheVariants.{Silent}
use Rattle.ckr_desk_memory.specs.EventChanges.{is_of_run, served_step, without_first}
use Rattle.ckr_desk_memory.specs.View.{JobsView, RunningStepView}
use Rattle.ckr_desk_turn.specs.Desk.{DeskModel, DeskStep, checkpoint_done, done_by, jobs_of, with_change, without_run}
use Rattle.ckr_desk_turn.specs.Turns.{carried_out, IsMountedTurnOf, MountedTurn, plan_for, turn_of}
use Rattle.ckr_desk_turn.specs.Invariant.{Keeps}
use Rattle.ckr_desk_turn.specs.declared.plan.Plan.{Plan}
use Rattle.ckr_desk_turn.specs.declared.plan.Plan.TheVariants.{Pass}
use Rattle.ckr_points.specs.declared.reply.Reply.{Reply}
use Rattle.ckr_desk_turn.proofs.Turns.Initiator.{turn-keeps}
use Rattle.ckr_desk_refines.specs.Standing.{AllStand, PointsStand, StandsForDesk, StandsForStep, differ}
use Rattle.ckr_desk_refines.specs.Unit.{HasPassed}
use Rattle.ckr_steps.specs.Units.{due_of}
use Rattle.ckr_volumes.specs.declared.layout.Layout.{Layout}
use Rattle.ckr_desk_refines.proofs.Standing.Served.{changed-first, checkpoint-stands, served-first}
use Rattle.ckr_desk_refines.proofs.Units.DueUnits.{IsDue, due-there, is-due}
use Rattle.ckr_desk_refines.proofs.Units.Plans.{asked_in}
use Rattle.ckr_desk_refines.proofs.Units.StepLists.{IsPair, others-stay, pair-of, seen-of}
use Rattle.ckr_desk_refines.proofs.Rewrites.StepLists.{put-differ}

-- a turn that passes keeps the desk
pass-keeps : (desk : DeskModel) (turn : MountedTurn) (run : ℕ) (reply : Reply) → (answer : Answer) → Keeps desk (turn_of desk turn answer) → plan_for desk.layout (jobs_of desk) turn ≡ Pass run reply → Keeps desk (done_by (Pass run reply) desk)
unfolding turn_of
pass-keeps desk turn run reply answer keeps planned = subst (λ (plan : Plan). Keeps desk (carried_out answer plan desk)) planned keeps

module _ (layout : Layout) (old new : JobsView) (image : List ℕ) (desk : DeskModel) (turn : MountedTurn) (run : ℕ) (reply : Reply) (stands : StandsForDesk layout old image desk)
    (planned : plan_for desk.layout (jobs_of desk) turn ≡ Pass run reply) where
  due : IsDue desk run Checkpoint
  due = is-due desk turn run Checkpoint stands.is_desk (ap asked_in planned)

  there : (on : RunningStepView) × (find (is_of_run run) old.running ≡ Some on)
  there = seen-of desk.layout desk.office image run due.step old.running desk.running stands.running due.at

  abbrev on : RunningStepView
  on = there.0

  pair : IsPair desk.layout desk.office image run on desk.running
  pair = pair-of desk.layout desk.office image run on old.running desk.running stands.running stands.is_desk.going there.1

  paired : pair.step ≡ due.step
  paired = same_Some pair.step due.step (sym pair.at ∙ due.at)

  uncoded : on.code ≡ None
  uncoded = pair.stands.code ∙ ap (λ (step : DeskStep). step.code) paired ∙ due.uncoded

  due-so : due_of on.step.parm on.step.state ≡ Checkpoint
  due-so =
      due-there desk stands.is_desk run Checkpoint due image on
      (subst (λ (step : DeskStep). StandsForStep desk.layout desk.office image on step) paired pair.stands)

  abbrev own : DeskStep
  own = record { run = run; progress = checkpoint_done pair.step.progress; code = None }

  own-stands : StandsForStep desk.layout desk.office image (served_step on) own
  own-stands =
      subst (λ (n : ℕ). StandsForStep desk.layout desk.office image (served_step on) (record { run = n; progress = checkpoint_done pair.step.progress; code = None })) pair.same
      (checkpoint-stands desk.layout desk.office image on pair.step pair.stands uncoded due-so)

  all-stand : AllStand desk.layout desk.office image (served_step on ∷ without_first run old.running) (own ∷ without_run run desk.running)
  all-stand = (
    own-stands,
    others-stay desk.layout desk.office image image run (λ other step going stands apart. stands) old.running desk.running stands.is_desk.going stands.differ_so stands.running,
  )

  changed : with_change run checkpoint_done desk.running ≡ own ∷ without_run run desk.running
  changed = changed-first run checkpoint_done pair.step desk.running pair.at

  pub passed-stands : IsMountedTurnOf desk.layout turn → HasPassed run old new → StandsForDesk layout new image (done_by (Pass run reply) desk).desk
  passed-stands its passed = record {
    layout_is = stands.layout_is;
    is_desk = (pass-keeps desk turn run reply Silent (turn-keeps desk turn Silent stands.is_desk its.above its.below) planned).kept;
    tables = passed.tables ∙ stands.tables;
    failed = passed.failed ∙ stands.failed;
    running =
        subst (λ (running : List DeskStep). AllStand desk.layout desk.office image new.running running) (sym changed)
        (subst (λ (seen : List RunningStepView). AllStand desk.layout desk.office image seen (own ∷ without_run run desk.running)) (sym (passed.running ∙ served-first run on old.running there.1)) all-stand);
    differ_so = ap (λ (running : List DeskStep). differ running) changed ∙ put-differ own desk.running stands.differ_so;
    points = subst (PointsStand desk.office) (sym passed.points) stands.points;
    committed = stands.committed;
  }
