-- A run that is restarted at its checkpoint in effect goes on from its point, in memory as at the desk.
use Rattle.std.proofs.Common.{◌≡◌, ◌&&◌, ◌||◌, ℕ, Bool, true, false, List, ◌∷◌, find, refl, ap, sym, ◌∙◌, subst, Option, Some, None}
use Rattle.std.specs.Prelude.{nat_eq}
use Rattle.std.specs.List.{AllByRecursion}
use Rattle.std.specs.Option.{option_eq, option_map_or}
use Rattle.std.proofs.lemmas.Bool.{and_from}
use Rattle.std.proofs.lemmas.Option.{same_Some}
use Rattle.ckr_base.specs.declared.code.Code.{Code}
use Rattle.ckr_base.proofs.Bools.{and-first, and-second}
use Rattle.ckr_base.proofs.Options.{option_map_or-true, some-one}
use Rattle.ckr_events.specs.declared.event.Event.TheVariants.{Restarted}
use Rattle.ckr_meaning.specs.EffectiveJob.{OwnedStep, names_of}
use Rattle.ckr_meaning.specs.JobRun.{start_at}
use Rattle.ckr_meaning.specs.declared.place.Place.{Place}
use Rattle.ckr_meaning.specs.declared.place.Place.TheVariants.{Before, Within}
use Rattle.ckr_points_library.specs.Commit.{output_names}
use Rattle.ckr_points.specs.declared.run.RunState.TheVariants.{Released}
use Rattle.ckr_points.specs.Follows.{is_free, is_in_state, is_running, is_within, may_restart_again}
use Rattle.ckr_points.specs.Office.{Leg, Office, is_holder, leg_of, office_after}
use Rattle.ckr_points.specs.Payload.{writes_in, start_in_office}
use Rattle.ckr_points.specs.Restart.{after_put_back, after_restarted, back_to_entry, by_step, effect_restarted, kept_at, place_of, row_on, step_in}
use Rattle.ckr_points.specs.Rows.{EffectPoint, KeptEntry, RunRow, TablesModel, run_of}
use Rattle.ckr_points_invariant.specs.Invariant.{step_now}
use Rattle.ckr_points_invariant.proofs.Readiness.Runs.{kept-entry}
use Rattle.ckr_points_invariant.proofs.Steps.Events.{led-by, running-holds, running-within}
use Rattle.ckr_points_invariant.proofs.WaitingRuns.{follows-of, tested-run}
use Rattle.ckr_desk_memory.specs.EventChanges.{is_point_of, without_run}
use Rattle.ckr_desk_memory.specs.Invariant.{is_in_step}
use Rattle.ckr_desk_memory.specs.RunningSteps.{StepGoesBack}
use Rattle.ckr_desk_memory.specs.View.{PointView, RunningStepView}
use Rattle.ckr_desk_memory.proofs.Holders.RowTests.{by-some}
use Rattle.ckr_desk_memory.proofs.Holders.Moves.{by-own, by-row, row-as_is, row-next}
use Rattle.ckr_desk_turn.specs.Desk.{DeskModel, DeskStep, at_entry, behind, running_again, without_run as without_steps}
use Rattle.ckr_desk_turn.specs.Invariant.{IsDesk, IsGoing}
use Rattle.ckr_desk_turn.specs.Jobs.{effect_entry}
use Rattle.ckr_desk_turn.specs.NextEvents.{Comes}
use Rattle.ckr_desk_refines.specs.Commits.{HasCommitted}
use Rattle.ckr_desk_refines.specs.Standing.{AllStand, OwnStands, PointsStand, StandsForPoint}
use Rattle.ckr_desk_refines.proofs.Entries.KeptEntries.{kept_at-put_back}
use Rattle.ckr_desk_refines.proofs.Events.EntrySteps.{entry-stand}
use Rattle.ckr_desk_refines.proofs.Standing.Points.{check-by, entry_in_effect}

-- a run that may be restarted is running, or was released
abbrev restartable : Bool → Bool → Bool → Bool → Bool
restartable on lodged off free = on && lodged || off && free

running-or-off : (on lodged off free : Bool) → restartable on lodged off free ≡ true → (on || off) ≡ true
running-or-off true lodged off free may = refl
running-or-off false lodged off free may = and-first off free may

-- The run is running, with this entry in effect. Behind its restart it is within its step again, behind the entry's writes, and the entry is still in
-- effect.
pub record IsBack (tables after : TablesModel) (job : ℕ) : Type 0 where
  pub row : RunRow
  pub entry : KeptEntry
  pub next : RunRow
  pub row_at : run_of tables job ≡ Some row
  pub runs : is_in_step row ≡ true
  pub there : effect_entry tables row ≡ Some entry
  pub next_at : run_of after job ≡ Some next
  pub number : next.number ≡ row.number
  pub place : next.place ≡ Some (Within (step_now row) entry.point.writes)
  pub still : effect_entry after next ≡ Some entry

module _ (desk : DeskModel) (is : IsDesk desk) (job initiator : ℕ) (code : Code) (comes : Comes desk (Restarted job initiator code true)) where
  abbrev tables : TablesModel
  tables = desk.office.tables

  abbrev later : Office
  later = office_after (Restarted job initiator code true, None) desk.office

  abbrev Back : TablesModel → Type 0
  Back after = IsBack tables after job

  abbrev change : RunRow → OwnedStep → EffectPoint → KeptEntry → TablesModel
  change row owned effect entry = after_put_back (record (row_on initiator row) { in_effect = Some (effect_restarted effect) }) owned (back_to_entry row owned (step_now row) entry.point) tables

  run-back : (row : RunRow) → run_of tables job ≡ Some row → is_in_step row ≡ true → (effect : EffectPoint) → row.in_effect ≡ Some effect → Back later.tables
  run-back row at running effect got =
      check-by desk.layout desk.office is.kept.events is.ready job row effect at running got
      (λ leg holder check.
      let there : kept_at tables.sets effect.set effect.kept.id ≡ Some check.entry = kept-entry tables.sets effect.set effect.kept.id check.entry check.keeps in
      by-row Back tables job (λ row. by_step (λ owned step. after_restarted row owned step initiator true tables) row tables) row at
      (by-own Back tables (λ owned step. after_restarted row owned step initiator true tables) row check.owned check.found_step
      (by-some Back row.in_effect (λ effect. option_map_or (change row check.owned effect) (kept_at tables.sets effect.set effect.kept.id) tables) tables effect got
      (by-some Back (kept_at tables.sets effect.set effect.kept.id) (change row check.owned effect) tables check.entry there
      (record {
        row = row;
        entry = check.entry;
        next = _;
        row_at = at;
        runs = running;
        there = ap (entry_in_effect tables) got ∙ there;
        next_at = (row-next tables tables job row _ (change row check.owned effect check.entry).sets (row-as_is tables job row at) (is.kept.events.numbered job row at)).now;
        number = refl;
        place = refl;
        still = kept_at-put_back check.entry.point.marks (output_names row.job.root check.owned) (names_of row.job.root check.owned) tables.sets effect.set effect.kept.id check.entry check.back there;
      })))))

  pub back : Back later.tables
  back =
      tested-run tables job (λ row. (is_running row && option_eq nat_eq row.initiator (Some initiator) || is_in_state Released row && is_free desk.layout tables initiator) && may_restart_again true row)
      (follows-of desk.layout desk.office (Restarted job initiator code true) None comes.may)
      (λ row at passes.
      let goes : (is_running row || is_in_state Released row) ≡ true =
      running-or-off (is_running row) (option_eq nat_eq row.initiator (Some initiator)) (is_in_state Released row) (is_free desk.layout tables initiator) (and-first _ (may_restart_again true row) passes) in
      let running : is_in_step row ≡ true =
      led-by desk.layout desk.office job row is.kept.events at (running-holds row goes)
      (λ leg holder. and_from (is_holder row.state) (is_within (place_of row)) (running-holds row goes) (running-within tables row leg (is.kept.events.places job row leg holder) goes)) in
      option_map_or-true row.in_effect _ (and-second (is_running row && option_eq nat_eq row.initiator (Some initiator) || is_in_state Released row && is_free desk.layout tables initiator) _ passes)
      (λ effect got few. run-back row at running effect got))

  -- the step with which it goes on at the desk
  abbrev pub step_back : DeskStep
  step_back = at_entry job back.entry.point

  -- the run starts its step as it did
  start-same : start_in_office later back.next ≡ start_in_office desk.office back.row
  start-same =
      ap (λ (o : Option Leg). option_map_or (λ leg. start_at leg.job leg.start (step_in (place_of back.next))) o None) (ap (leg_of desk.office) back.number)
      ∙ ap (λ (o : Option Place). option_map_or (λ leg. start_at leg.job leg.start (step_in (option_map_or (λ place. place) o (Before 1)))) (leg_of desk.office back.row.number) None) back.place

  module _ (points : List PointView) (stand : PointsStand desk.office points) where
    -- its point still stands
    pub back-stands : OwnStands later points job
    back-stands row entry start at running found starts =
        let same_row : back.next ≡ row = some-one back.next row (run_of later.tables job) back.next_at at in
        let same_entry : back.entry ≡ entry = some-one back.entry entry (effect_entry later.tables row) (ap (effect_entry later.tables) (sym same_row) ∙ back.still) found in
        stand job back.row entry start back.row_at back.runs (back.there ∙ ap Some same_entry) (sym start-same ∙ ap (start_in_office later) same_row ∙ starts)

    module _ (kept : IsDesk (behind (Restarted job initiator code true) None desk)) where
      abbrev then : DeskModel
      then = behind (Restarted job initiator code true) None desk

      pub running-is : running_again tables job desk.running ≡ step_back ∷ without_steps job desk.running
      running-is =
          ap (λ (o : Option KeptEntry). option_map_or (λ entry. at_entry job entry.point ∷ without_steps job desk.running) o (without_steps job desk.running))
          (ap (λ (o : Option RunRow). option_map_or (effect_entry tables) o None) back.row_at ∙ back.there)

      going : IsGoing later step_back
      going = (subst (AllByRecursion (IsGoing later)) running-is kept.going).0

      same-row : going.row ≡ back.next
      same-row = some-one going.row back.next (run_of later.tables job) going.row_at back.next_at

      writes-is : going.committed ≡ back.entry.point.writes
      writes-is = ap writes_in (same_Some _ _ (sym going.place ∙ ap (λ (r : RunRow). r.place) same-row ∙ back.place))

      point : StandsForPoint points job going.start back.entry
      point = stand job back.row back.entry going.start back.row_at back.runs back.there (sym start-same ∙ ap (start_in_office later) (sym same-row) ∙ going.start_at)

      -- it stands before the other ones
      pub again-stand : (image : List ℕ) → HasCommitted desk.layout later image → (old new : List RunningStepView) → StepGoesBack (find (is_point_of job) points) job later.tables old new
          → AllStand desk.layout later image (without_run job old) (without_steps job desk.running) → AllStand desk.layout later image new (step_back ∷ without_steps job desk.running)
      again-stand image committed old new goes rest =
          entry-stand then kept job back.entry going writes-is points point image committed old new goes (without_steps job desk.running) rest
