-- What the deferred rules say of a queued run with RESTART that comes to an initiator, and where it stands behind its selection.
use Rattle.std.specs.Prelude.{◌≡◌, ◌≤◌, ℕ, None, Some}
use Rattle.ckr_events.specs.declared.event.Event.TheVariants.{Selected as SelectedEvent}
use Rattle.ckr_jcl.specs.declared.deck.Restart.{Restart}
use Rattle.ckr_meaning.specs.declared.place.Place.TheVariants.{Opened, Within}
use Rattle.ckr_points.specs.declared.run.RunState.TheVariants.{Queued}
use Rattle.ckr_points.specs.Marks.{point_at}
use Rattle.ckr_points.specs.Office.{Leg}
use Rattle.ckr_points.specs.RuleCases.{wanted_of}
use Rattle.ckr_points.specs.Rows.{KeptEntry, RunRow, StartPoint}
use Rattle.ckr_points_invariant.specs.Restorability.{StandsAt}
use Rattle.ckr_rules.specs.declared.cases.Verdict.{Verdict}
use Rattle.ckr_desk_turn.specs.Deferred.{deferred_verdict}
use Rattle.ckr_desk_turn.specs.Desk.{DeskModel, at_entry, behind, progress_of}
use Rattle.ckr_desk_turn.specs.Invariant.{IsGoing}
use Rattle.ckr_desk_turn.specs.Restarts.{GoesOnBy}
use Rattle.ckr_desk_turn.specs.Select.{next_run, run_on_initiator}

-- a queued run with RESTART that comes to an initiator of the layout which no run is on, and what the rules say of it
pub record IsJudgedNext (desk : DeskModel) (initiator : ℕ) (row : RunRow) (restart : Restart) (verdict : Verdict) : Type 0 where
  pub above : 1 ≤ initiator
  pub below : initiator ≤ desk.layout.initiators
  pub free : run_on_initiator desk.office.tables initiator ≡ None
  pub next : next_run desk.office.tables ≡ Some row
  pub queued : row.state ≡ Queued
  pub has : row.deck.restart ≡ Some restart
  pub judged : deferred_verdict desk.layout desk.office.tables row (wanted_of row desk.office.tables restart) ≡ verdict

-- It goes on with the earlier run at the start of the step, with the entries counted that this one's point tells.
pub record GoesOnAtStart (desk : DeskModel) (initiator : ℕ) (row : RunRow) (restart : Restart) : Type 0 where
  pub other : RunRow
  pub earlier : (wanted_of row desk.office.tables restart).earlier ≡ Some other
  pub goes : GoesOnBy desk (SelectedEvent row.number initiator other.number restart.step None)
  pub point : StartPoint
  pub at_point : point_at other.points restart.step ≡ Some point
  pub own : Leg
  pub stands : StandsAt (behind (SelectedEvent row.number initiator other.number restart.step None) None desk).office row.number own (Opened restart.step) point.count

-- It goes on with the earlier run at the checkpoint of the entry: it is running, behind the records taken and the writes that the entry tells.
pub record GoesOnAtEntry (desk : DeskModel) (initiator : ℕ) (row : RunRow) (restart : Restart) : Type 0 where
  pub entry : KeptEntry
  pub wanted : (wanted_of row desk.office.tables restart).entry ≡ Some entry
  pub other : RunRow
  pub earlier : (wanted_of row desk.office.tables restart).earlier ≡ Some other
  pub goes : GoesOnBy desk (SelectedEvent row.number initiator other.number restart.step (Some entry.kept.id))
  pub own : Leg
  pub stands : StandsAt (behind (SelectedEvent row.number initiator other.number restart.step (Some entry.kept.id)) None desk).office row.number own (Within restart.step entry.point.writes) entry.point.count
  pub going : IsGoing (behind (SelectedEvent row.number initiator other.number restart.step (Some entry.kept.id)) None desk).office (at_entry row.number entry.point)
  pub running : progress_of (behind (SelectedEvent row.number initiator other.number restart.step (Some entry.kept.id)) None desk) row.number ≡ Some (at_entry row.number entry.point).progress
