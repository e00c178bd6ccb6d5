-- What the event brings about that selects a run to continue another one is committed, and it leaves the rows and the legs of the other runs. Behind it the
-- jobs in memory stand for the desk: at the start of a step the run has no running step, and at a checkpoint its step goes on from the point in memory.
use Rattle.std.proofs.Common.{◌≡◌, ℕ, suc, true, not, List, ◌∷◌, find, refl, ap, sym, ◌∙◌, subst, Option, Some, None}
use Rattle.std.specs.Option.{option_map_or}
use Rattle.std.proofs.lemmas.Bool.{and_from, false≢true}
use Rattle.std.proofs.lemmas.Option.{same_Some}
use Rattle.ckr_base.proofs.Bools.{and-second}
use Rattle.ckr_base.proofs.Options.{some-one}
use Rattle.ckr_events.specs.declared.event.Event.TheVariants.{Selected}
use Rattle.ckr_jcl.specs.declared.deck.Job.{Job}
use Rattle.ckr_library.specs.NameMaps.{Name}
use Rattle.ckr_meaning.specs.declared.place.Place.{Place}
use Rattle.ckr_meaning.specs.declared.place.Place.TheVariants.{Before, Opened}
use Rattle.ckr_points.specs.declared.run.RunState.TheVariants.{On, Queued}
use Rattle.ckr_points.specs.Follows.{is_within}
use Rattle.ckr_points.specs.Office.{Office, is_holder, office_after}
use Rattle.ckr_points.specs.Payload.{writes_in}
use Rattle.ckr_points.specs.Restart.{after_event, place_of, syschk_name}
use Rattle.ckr_points.specs.Rows.{RunRow, TablesModel, run_of}
use Rattle.ckr_points.specs.Soundness.{may_come}
use Rattle.ckr_points_invariant.specs.Invariant.{IsAgreed}
use Rattle.ckr_points_invariant.specs.EarlierRuns.{MayContinue}
use Rattle.ckr_points_invariant.proofs.Continuations.Events.{continued-at-start}
use Rattle.ckr_points_invariant.proofs.Holders.Rows.{queued-is}
use Rattle.ckr_volumes.specs.declared.layout.Layout.{Layout}
use Rattle.ckr_desk_memory.specs.EventChanges.{is_point_of}
use Rattle.ckr_desk_memory.specs.Invariant.{is_in_step}
use Rattle.ckr_desk_memory.specs.RunningSteps.{StepGoesBack}
use Rattle.ckr_desk_memory.specs.View.{JobsView, PointView}
use Rattle.ckr_desk_turn.specs.Desk.{DeskModel, DeskStep, at_entry, behind, running_behind, running_from}
use Rattle.ckr_desk_turn.specs.Invariant.{IsDesk, IsGoing}
use Rattle.ckr_desk_turn.specs.Jobs.{effect_entry}
use Rattle.ckr_desk_turn.specs.NextEvents.{Comes}
use Rattle.ckr_desk_turn.proofs.Deferred.Desks as desks
use Rattle.ckr_desk_turn.proofs.Readiness.{desk-kept}
use Rattle.ckr_desk_refines.specs.Commits.{HasCommitted}
use Rattle.ckr_desk_refines.specs.Moves.{HasSameRecords, HaveMoved, KnowsItsEntry}
use Rattle.ckr_desk_refines.specs.SharedSets.{LeavesOthers}
use Rattle.ckr_desk_refines.specs.Standing.{AllStand, OwnStands, PointsStand, StandsForDesk, StandsForPoint, differ, steps_without}
use Rattle.ckr_desk_refines.proofs.Durable.Continuation.{continued-stays, legs-behind, may-so, others-continued, rows-behind}
use Rattle.ckr_desk_refines.proofs.Entries.EffectContinuation.{HasWanted, wanted-behind}
use Rattle.ckr_desk_refines.proofs.Events.Commits.{committed-moves}
use Rattle.ckr_desk_refines.proofs.Events.Desk.{behind-stands}
use Rattle.ckr_desk_refines.proofs.Events.EntrySteps.{entry-stand}
use Rattle.ckr_desk_refines.proofs.Events.OtherRows.{LeavesRuns}
use Rattle.ckr_desk_refines.proofs.Events.OtherSteps.{left-differ, left-none, left-stand, none-waits, others-stand, rest-stand}
use Rattle.ckr_desk_refines.proofs.Standing.Points.{IsIdle, entry_in_effect, idle-stands, points-next}

pub continued-leaves : (layout : Layout) (now : Office) (job initiator before step : ℕ) (id : Option Name) (deck : Option Job) → IsAgreed layout now → may_come layout now (Selected job initiator (suc before) step id, deck) ≡ true
    → LeavesRuns now (office_after (Selected job initiator (suc before) step id, deck) now) job
continued-leaves layout now job initiator before step id deck kept may = record {
  rows = rows-behind layout now kept job initiator before step id deck may;
  legs = legs-behind layout now kept job initiator before step id deck may;
}

pub continued-committed : (layout : Layout) (jobs : JobsView) (image : List ℕ) (desk : DeskModel) (run initiator earlier step : ℕ) (id : Option Name) → StandsForDesk layout jobs image desk → Comes desk (Selected run initiator (suc earlier) step id)
    → IsDesk (behind (Selected run initiator (suc earlier) step id) None desk)
    → (other : List ℕ) → HasSameRecords desk.layout image other → HasCommitted desk.layout (behind (Selected run initiator (suc earlier) step id) None desk).office other
continued-committed layout jobs image desk run initiator earlier step id stands comes later other same =
    committed-moves desk.layout (behind (Selected run initiator (suc earlier) step id) None desk).office image other later.kept same
    (continued-stays desk.layout desk.office image run initiator earlier step id None stands.is_desk.kept comes.may later.kept stands.committed)

-- ---- at the start of a step

queued-on : Queued ≡ On → ⊥
queued-on same = cc

module _ (desk : DeskModel) (is : IsDesk desk) (run initiator earlier step : ℕ) (comes : Comes desk (Selected run initiator (suc earlier) step None)) where
  abbrev later : Office
  later = office_after (Selected run initiator (suc earlier) step None, None) desk.office

  its : MayContinue desk.layout desk.office.tables run initiator (suc earlier) step None
  its = may-so desk.layout desk.office is.kept.events run initiator earlier step None None comes.may

  -- it waited, so it had no running step
  waited : (row : RunRow) → run_of desk.office.tables run ≡ Some row → row.state ≡ On → ⊥
  waited row at on =
      queued-on (
      sym (queued-is its.row.state its.queued)
      ∙ ap (λ (row : RunRow). row.state) (some-one its.row row (run_of desk.office.tables run) its.row_at at) ∙ on)

  -- it isn't within a step
  idle : IsIdle later.tables run
  idle row at runs =
      let stood = continued-at-start desk.layout desk.office (desk-kept desk is) run initiator earlier step None its.other its.point comes its.other_at its.at_point in
      let place : row.place ≡ Some (Opened step) =
      ap (λ (row : RunRow). row.place) (some-one row stood.1.row (run_of later.tables run) at stood.1.holder.row_at) ∙ stood.1.stands in
      absurd (false≢true (
      sym (ap (λ (o : Option Place). is_within (option_map_or (λ place. place) o (Before 1))) place)
      ∙ and-second (is_holder row.state) (is_within (place_of row)) runs))

start-stands : (layout : Layout) (old new : JobsView) (before after : List ℕ) (desk : DeskModel) (run initiator earlier step : ℕ) → StandsForDesk layout old before desk → Comes desk (Selected run initiator (suc earlier) step None)
    → IsDesk (behind (Selected run initiator (suc earlier) step None) None desk) → HaveMoved (Selected run initiator (suc earlier) step None) None old new → HasSameRecords desk.layout before after
    → StandsForDesk layout new after (behind (Selected run initiator (suc earlier) step None) None desk)
start-stands layout old new before after desk run initiator earlier step stands comes next moved same =
    behind-stands layout old new after desk (Selected run initiator (suc earlier) step None) None stands.layout_is stands.tables stands.failed moved refl next
    (subst (λ seen. AllStand desk.layout office after seen desk.running) (sym moved.running)
    (others-stand desk stands.is_desk office run leaves lies before after same old.running desk.running stands.is_desk.going
    (none-waits desk.office run desk.running stands.is_desk.going (waited desk stands.is_desk run initiator earlier step comes)) stands.running))
    stands.differ_so
    (subst (PointsStand office) (sym moved.points)
    (points-next desk.layout desk.office stands.is_desk.kept.events stands.is_desk.ready office run leaves lies old.points old.points (λ number apart. refl) stands.points
    (idle-stands office old.points run (idle desk stands.is_desk run initiator earlier step comes))))
    (continued-committed layout old before desk run initiator earlier step None stands comes next after same)
  where
    office : Office
    office = office_after (Selected run initiator (suc earlier) step None, None) desk.office

    leaves : LeavesRuns desk.office office run
    leaves = continued-leaves desk.layout desk.office run initiator earlier step None None stands.is_desk.kept.events comes.may

    lies : LeavesOthers desk.office run office
    lies = others-continued desk.layout desk.office stands.is_desk.kept run initiator earlier step None None comes.may next.kept

-- ---- at a checkpoint

module _ (desk : DeskModel) (is : IsDesk desk) (run initiator earlier step : ℕ) (id : Name) (comes : Comes desk (Selected run initiator (suc earlier) step (Some id))) where
  abbrev then : Office
  then = office_after (Selected run initiator (suc earlier) step (Some id), None) desk.office

  abbrev continues : MayContinue desk.layout desk.office.tables run initiator (suc earlier) step (Some id)
  continues = desks.its desk is run initiator earlier step (Some id) comes

  -- the entry at which it goes on is in effect behind the event
  wanted : HasWanted desk.office.tables then.tables run (syschk_name continues.row.deck) id
  wanted = wanted-behind desk.layout desk.office (desk-kept desk is) run initiator earlier step id None continues

  abbrev on : DeskStep
  on = at_entry run wanted.entry.point

  running-is : running_from desk.office.tables run id desk.running ≡ on ∷ steps_without run desk.running
  running-is = desks.running-from desk is run initiator earlier step id comes wanted.entry wanted.found

  going : IsGoing then on
  going = desks.entry-going desk is run initiator earlier step id comes wanted.entry wanted.found

  same-row : going.row ≡ wanted.next
  same-row = some-one going.row wanted.next (run_of then.tables run) going.row_at wanted.next_at

  committed-is : going.committed ≡ wanted.entry.point.writes
  committed-is =
      let stood = desks.entry-stands desk is run initiator earlier step id comes wanted.entry wanted.found in
      ap writes_in
      (same_Some _ _ (sym going.place ∙ ap (λ (row : RunRow). row.place) (some-one going.row stood.1.row (run_of then.tables run) going.row_at stood.1.holder.row_at) ∙ stood.1.stands))

  within : is_in_step going.row ≡ true
  within =
      and_from (is_holder going.row.state) (is_within (place_of going.row)) (ap is_holder going.on)
      (ap (λ (o : Option Place). is_within (option_map_or (λ place. place) o (Before 1))) going.place)

  point-stands : (points : List PointView) → OwnStands then points run → StandsForPoint points run going.start wanted.entry
  point-stands points own =
      own going.row wanted.entry going.start going.row_at within
      (ap (effect_entry then.tables) same-row ∙ ap (entry_in_effect then.tables) wanted.got ∙ wanted.still) going.start_at

entry-stands : (layout : Layout) (old new : JobsView) (before after : List ℕ) (desk : DeskModel) (run initiator earlier step : ℕ) (id : Name) → StandsForDesk layout old before desk → Comes desk (Selected run initiator (suc earlier) step (Some id))
    → IsDesk (behind (Selected run initiator (suc earlier) step (Some id)) None desk) → KnowsItsEntry (Selected run initiator (suc earlier) step (Some id)) desk old.points
    → HaveMoved (Selected run initiator (suc earlier) step (Some id)) None old new → HasSameRecords desk.layout before after
    → StandsForDesk layout new after (behind (Selected run initiator (suc earlier) step (Some id)) None desk)
entry-stands layout old new before after desk run initiator earlier step id stands comes next knows moved same =
    behind-stands layout old new after desk (Selected run initiator (suc earlier) step (Some id)) None stands.layout_is stands.tables stands.failed moved refl next
    (subst (λ running. AllStand desk.layout office after new.running running) (sym running)
    (entry-stand later next run its.entry (going desk is run initiator earlier step id comes) (committed-is desk is run initiator earlier step id comes) old.points
    (point-stands desk is run initiator earlier step id comes old.points knows) after committed old.running new.running
    (subst (λ (tables : TablesModel). StepGoesBack (find (is_point_of run) old.points) run tables old.running new.running)
    (moved.tables ∙ ap (after_event (Selected run initiator (suc earlier) step (Some id)) None) stands.tables) moved.running)
    (steps_without run desk.running)
    (rest-stand desk is office run leaves lies before after same old.running desk.running is.going
    (left-stand desk.layout desk.office before run old.running desk.running stands.running))))
    (ap differ running ∙ and_from _ _ (ap not (left-none run desk.running)) (left-differ run desk.running stands.differ_so))
    (subst (PointsStand office) (sym moved.points)
    (points-next desk.layout desk.office is.kept.events is.ready office run leaves lies old.points old.points (λ number apart. refl) stands.points knows))
    committed
  where
    is : IsDesk desk
    is = stands.is_desk

    later : DeskModel
    later = behind (Selected run initiator (suc earlier) step (Some id)) None desk

    office : Office
    office = office_after (Selected run initiator (suc earlier) step (Some id), None) desk.office

    its : HasWanted desk.office.tables (then desk is run initiator earlier step id comes).tables run (syschk_name (continues desk is run initiator earlier step id comes).row.deck) id
    its = wanted desk is run initiator earlier step id comes

    running : running_behind desk.office.tables (Selected run initiator (suc earlier) step (Some id)) desk.running ≡ at_entry run its.entry.point ∷ steps_without run desk.running
    running = running-is desk is run initiator earlier step id comes

    committed : HasCommitted desk.layout office after
    committed = continued-committed layout old before desk run initiator earlier step (Some id) stands comes next after same

    leaves : LeavesRuns desk.office office run
    leaves = continued-leaves desk.layout desk.office run initiator earlier step (Some id) None is.kept.events comes.may

    lies : LeavesOthers desk.office run office
    lies = others-continued desk.layout desk.office is.kept run initiator earlier step (Some id) None comes.may next.kept

-- ---- at either

pub continued-stands : (layout : Layout) (old new : JobsView) (before after : List ℕ) (desk : DeskModel) (run initiator earlier step : ℕ) (id : Option Name) → StandsForDesk layout old before desk → Comes desk (Selected run initiator (suc earlier) step id)
    → IsDesk (behind (Selected run initiator (suc earlier) step id) None desk) → KnowsItsEntry (Selected run initiator (suc earlier) step id) desk old.points
    → HaveMoved (Selected run initiator (suc earlier) step id) None old new → HasSameRecords desk.layout before after
    → StandsForDesk layout new after (behind (Selected run initiator (suc earlier) step id) None desk)
continued-stands layout old new before after desk run initiator earlier step None stands comes next knows moved same = start-stands layout old new before after desk run initiator earlier step stands comes next moved same
continued-stands layout old new before after desk run initiator earlier step (Some id) stands comes next knows moved same = entry-stands layout old new before after desk run initiator earlier step id stands comes next knows moved same
