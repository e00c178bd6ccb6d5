-- The jobs in memory stand for the desk behind a rewrite and its record.
use Rattle.std.proofs.Common.{◌≡◌, ◌≢◌, ◌<◌, ℕ, List, ◌∷◌, length, refl, ap, sym, ◌∙◌, subst, None, Some}
use Rattle.ckr_base.proofs.Sequences.{length-fitted}
use Rattle.ckr_events.specs.declared.event.Event.{Event}
use Rattle.ckr_console.specs.declared.question.Answer.{Answer}
use Rattle.ckr_desk_memory.specs.EventChanges.{without_first}
use Rattle.ckr_desk_memory.specs.View.{JobsView, RunningStepView}
use Rattle.ckr_desk_turn.specs.Invariant.{IsDesk, IsGoing}
use Rattle.ckr_desk_refines.specs.Commits.{HasCommitted}
use Rattle.ckr_library.specs.declared.sets.DataSet.{DataSet}
use Rattle.ckr_library.specs.Catalog.{set_of}
use Rattle.ckr_library.specs.NameMaps.{Name}
use Rattle.ckr_points.specs.Office.{Office}
use Rattle.ckr_points.specs.Restart.{after_event}
use Rattle.ckr_desk_refines.specs.Rewrite.{AsksToRewrite, IsPutBack}
use Rattle.ckr_desk_refines.specs.Moves.{HasSameRecords, HaveMoved, IsWritten}
use Rattle.ckr_desk_refines.specs.Standing.{AllStand, PointsStand, StandsForDesk, StandsForStep}
use Rattle.ckr_steps.specs.declared.files.Files.{Files}
use Rattle.ckr_steps.specs.declared.files.RecordSource.TheVariants.{InSet}
use Rattle.ckr_desk_turn.specs.Desk.{DeskModel, DeskStep, TurnDone, without_run, work_of}
use Rattle.ckr_desk_turn.specs.Turns.{MountedTurn}
use Rattle.ckr_desk_turn.specs.Units.{arrived}
use Rattle.ckr_volumes.specs.declared.layout.Layout.{Layout}
use Rattle.ckr_volumes.specs.Layouts.{StandsIn}
use Rattle.ckr_desk_refines.proofs.Rewrites.Requests.{IsAsked, desk-then, done, event, event-is, is-asked, kept-then, leaves, name-is, number-is, office-is, still, then, work-is}
use Rattle.ckr_desk_refines.proofs.Rewrites.Points.{points-rewritten}
use Rattle.ckr_desk_refines.proofs.Rewrites.Commits.{written-committed}
use Rattle.ckr_desk_refines.proofs.Rewrites.Legs.{led-step}
use Rattle.ckr_desk_refines.proofs.Rewrites.StepLists.{others-stand, put-differ}
use Rattle.ckr_desk_refines.proofs.Rewrites.OtherSteps.{other-stands}
use Rattle.ckr_desk_refines.proofs.Rewrites.OwnStep.{goes-in-place, own-stands, stored, updated-shown}

module _ (old : JobsView) (before after : List ℕ) (desk : DeskModel) (turn : MountedTurn) (run : ℕ) (on moved : RunningStepView) (place : ℕ) (image : List ℕ) (taken : ℕ) (asks : AsksToRewrite desk.layout old before after desk turn run on moved place image taken) where
  abbrev is : IsDesk desk
  is = asks.stands.is_desk

  abbrev asked : IsAsked before after desk run on moved place image taken
  asked = is-asked old before after desk turn run on moved place image taken asks

  -- the data set that is updated is in memory
  pub has-set : (name : Name) × (set : DataSet) × (moved.step.files.first ≡ InSet name) × (set_of moved.sets name ≡ Some set) × (place < set.length) × (length image ≡ set.lrecl) × StandsIn desk.layout set
  has-set =
      let shown = updated-shown desk is before on asked.step asked.led after moved taken place image asked.rewrite asked.same asked.stood in (
        asked.rewrite.name,
        shown.set,
        ap (λ (files : Files). files.first) asked.rewrite.stands.files ∙ asked.rewrite.updates,
        shown.is,
        subst (λ n. place < n) (sym shown.shows.length) asked.rewrite.below,
        ap length asked.rewrite.fits ∙ length-fitted asked.rewrite.write.image asked.rewrite.rewritten.lrecl ∙ sym shown.shows.lrecl,
        (stored desk is before on asked.step asked.led after moved taken place image asked.rewrite asked.same asked.stood).stands asked.rewrite.name shown.set shown.is,
      )

  module _ (told written : List ℕ) (as_told : HasSameRecords desk.layout after told) (set : DataSet) (found : set_of moved.sets asked.rewrite.name ≡ Some set) (wrote : IsWritten desk.layout set place image told written) where
    abbrev moved_on : DeskStep
    moved_on = record { run = asked.led.row.number; progress = arrived taken moved.step.writes; code = None }

    abbrev office_then : Office
    office_then = then before after desk is run on moved place image taken asked

    other_stands : (seen : RunningStepView) (step : DeskStep) → IsGoing desk.office step → step.run ≢ asked.led.row.number → StandsForStep desk.layout desk.office before seen step → StandsForStep desk.layout office_then written seen step
    other_stands seen step going apart stands =
        other-stands desk is before on asked.step asked.led seen step (led-step desk is before seen step going stands) (λ e. apart (e ∙ sym asked.led.numbered)) place asked.rewrite.name
        (goes-in-place desk is before on asked.step asked.led after moved taken place image asked.rewrite asked.same asked.stood) after told written asks.keeps as_told set (sym (asked.same asked.rewrite.name) ∙ found) image wrote
        moved.step.writes moved.sets asked.same (leaves before after desk is run on moved place image taken asked)

    all_stand : AllStand desk.layout office_then written (moved ∷ without_first asked.led.row.number old.running) (moved_on ∷ without_run asked.led.row.number desk.running)
    all_stand = (
      own-stands desk is before on asked.step asked.led after moved taken place image asked.rewrite asked.same asked.stood (still before after desk is run on moved place image taken asked) told written as_told set found wrote asks.run (asks.code ∙ asked.none),
      others-stand desk.layout desk.office office_then before written asked.led.row.number other_stands old.running desk.running asks.stands.differ_so is.going asks.stands.running,
    )

    committed_then : HasCommitted desk.layout office_then written
    committed_then =
        written-committed desk is before on asked.step asked.led after moved taken place image asked.rewrite asked.same asked.stood (kept-then before after desk is run on moved place image taken asked)
        (still before after desk is run on moved place image taken asked) asks.keeps asks.stands.committed told as_told set found written wrote

    pub stand : (put later : JobsView) → IsPutBack run moved old put → HaveMoved (event before after desk is run on moved place image taken asked) None put later → StandsForDesk desk.layout later written (done before after desk is run on moved place image taken asked).desk
    stand put later back goes = record {
      layout_is = refl;
      is_desk = desk-then before after desk is run on moved place image taken asked;
      tables = goes.tables ∙ ap (after_event (event before after desk is run on moved place image taken asked) None) (back.tables ∙ asks.stands.tables);
      failed = goes.failed ∙ back.failed ∙ asks.stands.failed;
      running =
          subst (λ office. AllStand desk.layout office written later.running (moved_on ∷ without_run asked.led.row.number desk.running)) (sym (office-is before after desk is run on moved place image taken asked))
          (subst (λ seen. AllStand desk.layout office_then written seen (moved_on ∷ without_run asked.led.row.number desk.running))
          (sym (goes.running ∙ back.running ∙ ap (λ n. moved ∷ without_first n old.running) (sym (number-is before after desk is run on moved place image taken asked)))) all_stand);
      differ_so = put-differ moved_on desk.running asks.stands.differ_so;
      points =
          subst (λ office. PointsStand office later.points) (sym (office-is before after desk is run on moved place image taken asked))
          (subst (PointsStand office_then) (sym (goes.points ∙ back.points)) (points-rewritten before after desk is run on moved place image taken asked old.points asks.stands.points));
      committed = subst (λ office. HasCommitted desk.layout office written) (sym (office-is before after desk is run on moved place image taken asked)) committed_then;
    }

-- the desk behind the unit
pub stands-then : (layout : Layout) (old : JobsView) (before after : List ℕ) (desk : DeskModel) (turn : MountedTurn) (run : ℕ) (on moved : RunningStepView) (place : ℕ) (image : List ℕ) (taken : ℕ) (answer : Answer) → AsksToRewrite layout old before after desk turn run on moved place image taken
    → (put moved_on : JobsView) → IsPutBack run moved old put → (event : Event) → (work_of answer run desk).event ≡ Some event → HaveMoved event None put moved_on
    → (told written : List ℕ) → HasSameRecords desk.layout after told → (name : Name) (set : DataSet) → moved.step.files.first ≡ InSet name → set_of moved.sets name ≡ Some set
    → IsWritten layout set place image told written → StandsForDesk layout moved_on written (work_of answer run desk).desk
stands-then layout old before after desk turn run on moved place image taken answer asks put later back other is_event goes told written as_told name set first found wrote =
    subst (λ (l : Layout). AsksToRewrite l old before after desk turn run on moved place image taken → IsWritten l set place image told written → StandsForDesk l later written (work_of answer run desk).desk) asks.stands.layout_is
    (λ asks wrote.
    let is : IsDesk desk = asks.stands.is_desk in
    let asked : IsAsked before after desk run on moved place image taken = is-asked old before after desk turn run on moved place image taken asks in
    subst (λ (one : TurnDone). StandsForDesk desk.layout later written one.desk) (sym (work-is before after desk is run on moved place image taken asked answer))
    (stand old before after desk turn run on moved place image taken asks told written as_told set
    (ap (set_of moved.sets) (sym (name-is before after desk is run on moved place image taken asked name first)) ∙ found) wrote put later back
    (subst (λ (e : Event). HaveMoved e None put later) (sym (event-is before after desk is run on moved place image taken asked answer other is_event)) goes)))
    asks wrote
