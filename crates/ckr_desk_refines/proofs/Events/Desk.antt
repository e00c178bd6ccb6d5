-- The jobs in memory stand for the desk behind an event: in general, behind one with which a step no longer runs, a hold and a restart.
use Rattle.std.proofs.Common.{◌≡◌, ℕ, Bool, true, false, not, List, ◌∷◌, find, refl, ap, sym, ◌∙◌, subst, Option, None}
use Rattle.std.proofs.lemmas.Bool.{and_from, false≢true}
use Rattle.arrayvec.specs.ArrayVec.{ArrayVec}
use Rattle.ckr_base.specs.declared.code.Code.{Code}
use Rattle.ckr_events.specs.declared.event.Event.{Event}
use Rattle.ckr_events.specs.declared.event.Event.TheVariants.{Held, Restarted}
use Rattle.ckr_events.specs.Jobs.{job_of}
use Rattle.ckr_jcl.specs.declared.deck.Job.{Job}
use Rattle.ckr_desk_memory.specs.EventChanges.{is_point_of, points_behind, without_run, without_run as seen_without}
use Rattle.ckr_desk_memory.specs.RunningSteps.{StepGoesBack}
use Rattle.ckr_desk_memory.specs.View.{JobsView, PointView}
use Rattle.ckr_desk_memory.proofs.Points.{other-point}
use Rattle.ckr_desk_turn.specs.NextEvents.{Comes}
use Rattle.ckr_desk_turn.specs.Invariant.{IsDesk}
use Rattle.ckr_desk_refines.specs.Commits.{HasCommitted}
use Rattle.ckr_desk_refines.specs.SharedSets.{LeavesOthers}
use Rattle.ckr_desk_refines.proofs.Durable.Fellows.{others-held}
use Rattle.ckr_desk_refines.proofs.Durable.Restart.{others-restarted}
use Rattle.ckr_library.specs.NameMaps.{entry_at}
use Rattle.ckr_points.specs.Office.{Office, office_after}
use Rattle.ckr_points.specs.Restart.{after_event}
use Rattle.ckr_points.specs.Rows.{TablesModel}
use Rattle.ckr_desk_refines.specs.Moves.{HasSameRecords, HaveMoved}
use Rattle.ckr_desk_refines.specs.Standing.{AllStand, OwnStands, PointsStand, StandsForDesk, differ, steps_without}
use Rattle.ckr_desk_turn.specs.Desk.{DeskModel, behind, failed_behind, running_behind}
use Rattle.ckr_volumes.specs.declared.layout.Layout.{Layout}
use Rattle.ckr_desk_refines.proofs.Events.Restarts.{again-stand, back-stands, running-is, step_back}
use Rattle.ckr_desk_refines.proofs.Events.OtherSteps.{all-stand, left-differ, left-none, rest-stand}
use Rattle.ckr_desk_refines.proofs.Events.IdleRuns.{restarted-idle}
use Rattle.ckr_desk_refines.proofs.Events.OtherRows.{Enters, EntersOut, LeavesRuns, held-leaves, restarted-leaves}
use Rattle.ckr_desk_refines.proofs.Events.OffRuns.{held-stands}
use Rattle.ckr_desk_refines.proofs.Standing.Points.{idle-stands, points-next}

-- the jobs in memory stand for the desk behind an event, once its running steps do
pub behind-stands : (layout : Layout) (old new : JobsView) (after : List ℕ) (desk : DeskModel) (event : Event) (deck : Option Job) → desk.layout ≡ layout → old.tables.desk ≡ desk.office.tables → old.failed ≡ desk.failed → HaveMoved event deck old new
    → (office_after (event, deck) desk.office).tables ≡ after_event event deck desk.office.tables → IsDesk (behind event deck desk)
    → AllStand desk.layout (office_after (event, deck) desk.office) after new.running (running_behind desk.office.tables event desk.running) → differ (running_behind desk.office.tables event desk.running) ≡ true
    → PointsStand (office_after (event, deck) desk.office) new.points → HasCommitted desk.layout (office_after (event, deck) desk.office) after → StandsForDesk layout new after (behind event deck desk)
behind-stands layout old new after desk event deck at tables failed moved same is running differs points committed = record {
  layout_is = at;
  is_desk = is;
  tables = moved.tables ∙ ap (after_event event deck) tables ∙ sym same;
  failed = moved.failed ∙ ap (failed_behind event) failed;
  running = running;
  differ_so = differs;
  points = points;
  committed = committed;
}

-- behind the event of a run that was on no initiator all running steps stand
pub entered-stands : (layout : Layout) (old new : JobsView) (before after : List ℕ) (desk : DeskModel) (event : Event) (deck : Option Job) → StandsForDesk layout old before desk → HaveMoved event deck old new → HasSameRecords desk.layout before after
    → (office_after (event, deck) desk.office).tables ≡ after_event event deck desk.office.tables → IsDesk (behind event deck desk)
    → (enters : Enters desk.office (office_after (event, deck) desk.office)) → new.running ≡ old.running → running_behind desk.office.tables event desk.running ≡ desk.running → new.points ≡ old.points
    → OwnStands (office_after (event, deck) desk.office) old.points enters.run → HasCommitted desk.layout (office_after (event, deck) desk.office) after → StandsForDesk layout new after (behind event deck desk)
entered-stands layout old new before after desk event deck stands moved records same is enters stay still points own committed =
    behind-stands layout old new after desk event deck stands.layout_is stands.tables stands.failed moved same is
    (subst (λ running. AllStand desk.layout (office_after (event, deck) desk.office) after new.running running) (sym still)
    (subst (λ seen. AllStand desk.layout (office_after (event, deck) desk.office) after seen desk.running) (sym stay)
    (all-stand desk stands.is_desk (office_after (event, deck) desk.office) enters before after records old.running desk.running stands.is_desk.going stands.running)))
    (ap differ still ∙ stands.differ_so)
    (subst (PointsStand (office_after (event, deck) desk.office)) (sym points)
    (points-next desk.layout desk.office stands.is_desk.kept.events stands.is_desk.ready (office_after (event, deck) desk.office) enters.run enters.leaves
    (λ number row leg name holder apart among. ap (λ sets. entry_at sets name) enters.sets) old.points old.points (λ number apart. refl) stands.points
    own)) committed

-- one that isn't within a step has no point
pub out-stands : (now later : Office) (out : EntersOut now later) (points : List PointView) → OwnStands later points out.enters.run
out-stands now later out points = idle-stands later points out.enters.run (λ row at inside. absurd (false≢true (sym (out.out row at) ∙ inside)))

-- the points stand behind an event of a run, if its own does
pub points-behind : (old new : JobsView) (desk : DeskModel) → IsDesk desk → (event : Event) (job : ℕ) → job_of event ≡ job → PointsStand desk.office old.points → (later : Office) → LeavesRuns desk.office later job → LeavesOthers desk.office job later
    → new.points ≡ points_behind event new.running old.points → OwnStands later new.points job → PointsStand later new.points
points-behind old new desk is event job own stand later leaves others moved mine =
    points-next desk.layout desk.office is.kept.events is.ready later job leaves others old.points new.points
    (λ number apart. ap (find (is_point_of number)) moved ∙ other-point event new.running old.points number (λ e. apart (e ∙ own))) stand mine

-- behind an event with which the step of its run no longer runs those of the other runs stand
pub ended-stands : (layout : Layout) (old new : JobsView) (before after : List ℕ) (desk : DeskModel) (event : Event) (job : ℕ) → job_of event ≡ job → desk.layout ≡ layout → IsDesk desk → old.tables.desk ≡ desk.office.tables → old.failed ≡ desk.failed → differ desk.running ≡ true
    → PointsStand desk.office old.points → OwnStands (office_after (event, None) desk.office) new.points job
    → AllStand desk.layout desk.office before (seen_without job old.running) (steps_without job desk.running) → HaveMoved event None old new → HasSameRecords desk.layout before after
    → (office_after (event, None) desk.office).tables ≡ after_event event None desk.office.tables → IsDesk (behind event None desk)
    → LeavesRuns desk.office (office_after (event, None) desk.office) job → LeavesOthers desk.office job (office_after (event, None) desk.office)
    → new.running ≡ without_run job old.running → running_behind desk.office.tables event desk.running ≡ steps_without job desk.running
    → HasCommitted desk.layout (office_after (event, None) desk.office) after → StandsForDesk layout new after (behind event None desk)
ended-stands layout old new before after desk event job own at was tables failed differs points mine others moved records same is leaves lies left gone committed =
    behind-stands layout old new after desk event None at tables failed moved same is
    (subst (λ running. AllStand desk.layout (office_after (event, None) desk.office) after new.running running) (sym gone)
    (subst (λ seen. AllStand desk.layout (office_after (event, None) desk.office) after seen (steps_without job desk.running)) (sym left)
    (rest-stand desk was (office_after (event, None) desk.office) job leaves lies before after records old.running desk.running was.going others)))
    (ap differ gone ∙ left-differ job desk.running differs)
    (points-behind old new desk was event job own points (office_after (event, None) desk.office) leaves lies moved.points mine) committed

-- behind the hold of a run too, whose point stands still
pub hold-stands : (layout : Layout) (old new : JobsView) (before after : List ℕ) (desk : DeskModel) (job writes : ℕ) (code : Code) (lengths : ArrayVec ℕ) → desk.layout ≡ layout → IsDesk desk → old.tables.desk ≡ desk.office.tables → old.failed ≡ desk.failed → differ desk.running ≡ true
    → PointsStand desk.office old.points → AllStand desk.layout desk.office before (seen_without job old.running) (steps_without job desk.running) → HaveMoved (Held job code writes lengths) None old new → HasSameRecords desk.layout before after
    → Comes desk (Held job code writes lengths) → IsDesk (behind (Held job code writes lengths) None desk)
    → HasCommitted desk.layout (office_after (Held job code writes lengths, None) desk.office) after → StandsForDesk layout new after (behind (Held job code writes lengths) None desk)
hold-stands layout old new before after desk job writes code lengths at is tables failed differs points others moved records comes later committed =
    ended-stands layout old new before after desk (Held job code writes lengths) job refl at is tables failed differs points
    (subst (λ points. OwnStands (office_after (Held job code writes lengths, None) desk.office) points job) (sym moved.points)
    (held-stands desk.layout desk.office is.kept.events is.ready old.points points job writes code lengths comes.may comes.carried)) others moved records refl later
    (held-leaves desk.layout desk.office job writes code lengths is.kept.events)
    (others-held desk.layout desk.office job writes code lengths None is.kept comes.may comes.carried) moved.running refl committed

-- behind the restart of a run the running steps of the others stand; at the start of its step it has none, and at its checkpoint in effect it goes on
-- from its point
pub restart-stands : (layout : Layout) (old new : JobsView) (before after : List ℕ) (desk : DeskModel) (job initiator : ℕ) (code : Code) (checkpoint : Bool) → desk.layout ≡ layout → IsDesk desk → old.tables.desk ≡ desk.office.tables → old.failed ≡ desk.failed → differ desk.running ≡ true
    → PointsStand desk.office old.points → AllStand desk.layout desk.office before (seen_without job old.running) (steps_without job desk.running) → HaveMoved (Restarted job initiator code checkpoint) None old new → HasSameRecords desk.layout before after
    → Comes desk (Restarted job initiator code checkpoint) → IsDesk (behind (Restarted job initiator code checkpoint) None desk)
    → HasCommitted desk.layout (office_after (Restarted job initiator code checkpoint, None) desk.office) after → StandsForDesk layout new after (behind (Restarted job initiator code checkpoint) None desk)
restart-stands layout old new before after desk job initiator code false at is tables failed differs points others moved records comes later committed =
    ended-stands layout old new before after desk (Restarted job initiator code false) job refl at is tables failed differs points
    (idle-stands (office_after (Restarted job initiator code false, None) desk.office) new.points job (restarted-idle desk.layout desk.office is.kept.events is.ready job initiator code comes.may)) others moved records refl later
    (restarted-leaves desk.layout desk.office job initiator code false is.kept.events)
    (others-restarted desk.layout desk.office job initiator code false None is.kept is.pointed is.ready comes.may comes.carried) moved.running refl committed
restart-stands layout old new before after desk job initiator code true at is tables failed differs points others moved records comes later committed =
    behind-stands layout old new after desk (Restarted job initiator code true) None at tables failed moved refl later
    (subst (λ running. AllStand desk.layout office after new.running running) (sym running)
    (again-stand desk is job initiator code comes old.points points later after committed old.running new.running
    (subst (λ (tables : TablesModel). StepGoesBack (find (is_point_of job) old.points) job tables old.running new.running) (moved.tables ∙ ap (after_event (Restarted job initiator code true) None) tables) moved.running)
    (rest-stand desk is office job leaves lies before after records old.running desk.running is.going others)))
    (ap differ running ∙ and_from _ _ (ap not (left-none job desk.running)) (left-differ job desk.running differs))
    (points-behind old new desk is (Restarted job initiator code true) job refl points office leaves lies moved.points
    (subst (λ points. OwnStands office points job) (sym moved.points) (back-stands desk is job initiator code comes old.points points))) committed
  where
    office : Office
    office = office_after (Restarted job initiator code true, None) desk.office

    running : running_behind desk.office.tables (Restarted job initiator code true) desk.running ≡ step_back desk is job initiator code comes ∷ steps_without job desk.running
    running = running-is desk is job initiator code comes old.points points later

    leaves : LeavesRuns desk.office office job
    leaves = restarted-leaves desk.layout desk.office job initiator code true is.kept.events

    lies : LeavesOthers desk.office job office
    lies = others-restarted desk.layout desk.office job initiator code true None is.kept is.pointed is.ready comes.may comes.carried
