-- A step that goes on from its run's point in memory stands where the desk has it, at the entry for which the point stands.
use Rattle.std.proofs.Common.{◌≡◌, ◌≤◌, ◌==◌, ℕ, Bool, true, false, List, [], ◌∷◌, find, length, refl, ap, sym, ◌∙◌, subst, Option, Some}
use Rattle.std.specs.Option.{is_some}
use Rattle.std.proofs.lemmas.Bool.{and_from, or_left, or_right}
use Rattle.ckr_points_invariant.specs.RunningSteps.{IsRunning, its_start}
use Rattle.ckr_base.proofs.Options.{some-one}
use Rattle.ckr_library.specs.NameMaps.{Name, Named, entry_at, same_name}
use Rattle.ckr_library.proofs.Named.{name-itself}
use Rattle.ckr_meaning.specs.EffectiveJob.{OwnedStep, is_among, names_of}
use Rattle.ckr_meaning.specs.StepRun.{StepStart, work_at}
use Rattle.ckr_points.specs.declared.run.RunState.{RunState}
use Rattle.ckr_points.specs.declared.run.RunState.TheVariants.{On}
use Rattle.ckr_points.specs.Follows.{is_in_state, is_running, own_step, state_number}
use Rattle.ckr_points.specs.Office.{Leg}
use Rattle.ckr_points.specs.Restart.{step_in}
use Rattle.ckr_points.specs.Rows.{KeptEntry, RunRow, TableSet, run_of, step_of_run}
use Rattle.ckr_steps.specs.declared.files.Files.{Files}
use Rattle.ckr_steps.specs.declared.step_run.StepRun.{StepRun}
use Rattle.ckr_steps.specs.Places.{HasWithin, IsPointOf, IsStepPlace}
use Rattle.ckr_steps.specs.Units.{AreServed}
use Rattle.ckr_steps.proofs.Start.{shows-within, stands-at_point}
use Rattle.ckr_desk_memory.specs.EventChanges.{is_point_of, without_run}
use Rattle.ckr_desk_memory.specs.RunningSteps.{GoesFrom, StepGoesBack}
use Rattle.ckr_desk_memory.specs.Start.{HasNew, has_sets}
use Rattle.ckr_desk_memory.specs.View.{PointView, RunningStepView, resumed}
use Rattle.ckr_desk_turn.specs.Desk.{DeskModel, DeskStep, at_entry}
use Rattle.ckr_desk_turn.specs.Invariant.{IsDesk, IsGoing, IsOpen}
use Rattle.ckr_desk_turn.specs.NextEvents.{IsWithinStep}
use Rattle.ckr_desk_turn.proofs.NextEvents.WithinStep.{by-step, runs}
use Rattle.ckr_desk_turn.proofs.RunningSteps.{going-within}
use Rattle.ckr_desk_refines.specs.Commits.{HasCommitted}
use Rattle.ckr_desk_refines.specs.Standing.{AllStand, StandsForPoint, StandsForStep}
use Rattle.ckr_desk_refines.proofs.Entries.RunningStep.{has-names}
use Rattle.ckr_desk_refines.proofs.Events.Start.{files_are, may-so, placed-stands, shows_so}

-- the tables have each of these data sets
sets-there : (sets : Named TableSet) (names : List Name) → ((name : Name) → is_among names name ≡ true → is_some (entry_at sets name) ≡ true) → has_sets sets names ≡ true
sets-there sets [] each = refl
sets-there sets (name ∷ names) each =
    and_from (is_some (entry_at sets name)) (has_sets sets names) (each name (or_left (same_name name name) (is_among names name) (name-itself name)))
    (sets-there sets names (λ other among. each other (or_right (same_name other name) (is_among names other) among)))

module _ (desk : DeskModel) (is : IsDesk desk) (job : ℕ) (entry : KeptEntry) (going : IsGoing desk.office (at_entry job entry.point)) (committed-is : going.committed ≡ entry.point.writes)
    (points : List PointView) (point : StandsForPoint points job going.start entry) (image : List ℕ) (committed : HasCommitted desk.layout desk.office image) (old new : List RunningStepView) where
  abbrev on : DeskStep
  on = at_entry job entry.point

  within : IsWithinStep desk.office job going.row going.number going.committed going.start
  within = going-within desk.office on going

  opened : IsOpen going.start on.progress
  opened = going.come

  module _ (leg : Leg) (owned : OwnedStep) (running : IsRunning desk.office job going.row leg owned going.number entry.point.writes) (same : going.start ≡ its_start leg owned going.number)
      (has : HasNew job going.row.job.root owned (resumed going.row.job.root owned point.point) desk.office.tables.sets old new) where
    abbrev start : StepStart
    start = its_start leg owned going.number

    abbrev place : StepRun
    place = resumed going.row.job.root owned point.point

    is-point : IsPointOf start entry.point.taken point.point.state point.point.writes
    is-point =
        subst (λ (s : StepStart). IsPointOf s entry.point.taken point.point.state point.point.writes) same
        (record { stands = point.stands; open_yet = point.unclosed; made = point.writes ∙ opened.writes; had_space = subst (λ n. n ≤ length (work_at going.start).writes) (sym point.writes) going.fit })

    has-within : HasWithin desk.layout start point.point.writes has.on.sets
    has-within =
        subst (λ n. HasWithin desk.layout start n has.on.sets) (sym point.writes)
        (shows-within (Unit {0}) image desk.layout start entry.point.writes has.on.sets (shows_so desk is on going image committed old new leg owned running same place has))

    stands_so : IsStepPlace start entry.point.taken false has.on.step has.on.sets
    stands_so =
        subst (λ (s : StepRun). IsStepPlace start entry.point.taken false s has.on.sets)
        (ap (λ (files : Files). (let step : StepRun = record { state = point.point.state; parm = owned.step.parm; files = files; writes = point.point.writes } in step))
        (files_are desk is on going image committed old new leg owned running same place has) ∙ sym has.step)
        (stands-at_point desk.layout start (may-so desk is on going image committed old new leg owned running same place has) has.on.sets
        point.point.state point.point.writes has-within entry.point.taken is-point owned.step.parm refl)

    placed : StandsForStep desk.layout desk.office image has.on on
    placed =
        placed-stands desk is on going image committed old new leg owned running same place has refl stands_so
        (subst (λ (s : StepRun). AreServed true false s.state) (sym has.step) point.served) refl
        (ap (λ (s : StepRun). s.writes) has.step ∙ point.writes)

  module _ (goes : StepGoesBack (find (is_point_of job) points) job desk.office.tables old new) where
    -- the step goes on from its point
    has-new : (leg : Leg) (owned : OwnedStep) → IsRunning desk.office job going.row leg owned going.number entry.point.writes → HasNew job going.row.job.root owned (resumed going.row.job.root owned point.point) desk.office.tables.sets old new
    has-new leg owned running =
        subst (λ (b : Bool). GoesFrom b job going.row.job.root owned point.point desk.office.tables old new)
        (and_from (is_in_state On going.row) (has_sets desk.office.tables.sets (names_of going.row.job.root owned)) (ap (λ (state : RunState). state_number state == 2) going.on)
        (sets-there desk.office.tables.sets (names_of going.row.job.root owned)
        (λ name among.
        has-names desk.layout desk.office is.kept.events job
        (λ row at. subst (λ (r : RunRow). is_running r ≡ true) (some-one going.row row (run_of desk.office.tables job) going.row_at at) (runs desk is job going.row going.number going.committed going.start within))
        going.row owned name going.row_at found among)))
        (subst (λ (o : Option PointView). StepGoesBack o job desk.office.tables old new) point.found goes going.row owned going.row_at found)
      where
        found : own_step going.row ≡ Some owned
        found = ap (λ place. step_of_run going.row (step_in place)) running.stands ∙ running.found

    -- it stands before the other ones
    pub entry-stand : (rest : List DeskStep) → AllStand desk.layout desk.office image (without_run job old) rest → AllStand desk.layout desk.office image new (on ∷ rest)
    entry-stand rest all =
        by-step desk is job going.row going.number going.committed going.start within
        (λ leg owned its same spaced.
        let running : IsRunning desk.office job going.row leg owned going.number entry.point.writes = subst (λ n. IsRunning desk.office job going.row leg owned going.number n) committed-is its in
        let has : HasNew job going.row.job.root owned (resumed going.row.job.root owned point.point) desk.office.tables.sets old new = has-new leg owned running in
        subst (λ seen. AllStand desk.layout desk.office image seen (on ∷ rest)) (sym has.first)
        (placed leg owned running same has, all))
