-- A system that stands for a desk plans what the desk plans.
use Rattle.std.proofs.Common.{◌≡◌, ◌≤◌, ℕ, Bool, true, false, cond, List, [], ◌∷◌, length, map, find, refl, ap, sym, ◌∙◌, subst, Option, Some, None}
use Rattle.std.specs.Prelude.{◌==◌}
use Rattle.std.specs.Option.{option_map, option_map_or}
use Rattle.std.proofs.lemmas.Option.{same_Some}
use Rattle.ckr_points_invariant.specs.RunningSteps.{its_start}
use Rattle.ckr_base.proofs.Sequences.{find-holds}
use Rattle.ckr_desk_memory.specs.View.{JobsView, RunningStepView, jobs_of, lengths_of_row, running_of}
use Rattle.ckr_desk_turn.specs.Invariant.{IsDesk, IsGoing}
use Rattle.ckr_desk_turn.proofs.RunningSteps.{going-within, nothing_seen, seen-so as seen-as, stopped-run}
use Rattle.ckr_desk_turn.proofs.NextEvents.WithinStep.{by-step}
use Rattle.ckr_desk_refines.specs.StepSets.{HasSets}
use Rattle.ckr_meaning.specs.EffectiveJob.{names_of}
use Rattle.ckr_meaning.specs.StepRun.{StepStart, work_at}
use Rattle.ckr_points.specs.Payload.{lengths_at, rewrites_nothing, start_in_office}
use Rattle.ckr_points.specs.Office.{Office}
use Rattle.ckr_points.specs.Rows.{RunRow, TablesModel, run_of}
use Rattle.ckr_steps.specs.Places.{ShowsWithin}
use Rattle.ckr_desk_turn.specs.Desk.{DeskModel, DeskStep, seen, seen_from, seen_step, jobs_of as jobs_of_desk}
use Rattle.ckr_desk_turn.specs.Jobs.{TurnJobs, TurnStep, as_stopped}
use Rattle.ckr_desk_turn.specs.declared.failed_run.FailedRun.{FailedRun}
use Rattle.ckr_desk_turn.specs.Turns.{MountedTurn, plan_for}
use Rattle.ckr_desk_refines.specs.Standing.{AllStand, StandsForStep, StandsForDesk}
use Rattle.ckr_volumes.specs.declared.layout.Layout.{Layout}
use Rattle.ckr_desk_refines.proofs.Standing.Lengths.{lengths-so}
use Rattle.ckr_desk_refines.proofs.Standing.PlanInputs.{same-plan}
use Rattle.ckr_desk_refines.proofs.Standing.StepViews.{seen-so}

-- the first one of a run among what is seen is what is seen of the first one
find-seen : {X : Type 0} (view : X → TurnStep) (number : X → ℕ) → ((x : X) → (view x).run ≡ number x) → (run : ℕ) (xs : List X) → find (λ (step : TurnStep). step.run == run) (map view xs) ≡ option_map view (find (λ x. number x == run) xs)
find-seen view number same run [] = refl
find-seen view number same run (x ∷ xs) =
    ap (λ (n : ℕ). cond (n == run) (Some (view x)) (find (λ (step : TurnStep). step.run == run) (map view xs))) (same x)
    ∙ by (find-seen view number same run xs) (number x == run)
  where
    by : find (λ (step : TurnStep). step.run == run) (map view xs) ≡ option_map view (find (λ x. number x == run) xs) → (b : Bool) → cond b (Some (view x)) (find (λ (step : TurnStep). step.run == run) (map view xs)) ≡ option_map view (cond b (Some x) (find (λ x. number x == run) xs))
    by later true = refl
    by later false = later

seen-run : (office : Office) (step : DeskStep) → (seen_step office step).run ≡ step.run
seen-run office step = stopped-run step.code (seen office step.run step.progress) ∙ by (run_of office.tables step.run)
  where
    of_start : (o : Option StepStart) → (option_map_or (seen_from office step.run step.progress) o (nothing_seen step.run step.progress)).run ≡ step.run
    of_start None = refl
    of_start (Some start) = refl

    by : (o : Option RunRow) → (option_map_or (seen_from office step.run step.progress) (option_map_or (start_in_office office) o None) (nothing_seen step.run step.progress)).run ≡ step.run
    by None = refl
    by (Some row) = of_start (start_in_office office row)

on-run : (tables : TablesModel) (on : RunningStepView) → (running_of tables on).run ≡ on.run
on-run tables on = stopped-run on.code _

module _ (desk : DeskModel) (is : IsDesk desk) (image : List ℕ) where
  -- a running step as a turn sees it, by the jobs in memory and by the desk
  same-step : (on : RunningStepView) (step : DeskStep) → IsGoing desk.office step → StandsForStep desk.layout desk.office image on step → running_of desk.office.tables on ≡ seen_step desk.office step
  same-step on step going stands =
      let row : going.row ≡ stands.row = same_Some going.row stands.row (sym going.row_at ∙ stands.row_at) in
      let start : going.start ≡ stands.start = same_Some going.start stands.start (sym going.start_at ∙ ap (start_in_office desk.office) row ∙ stands.start_at) in
      seen-so desk.layout desk.office image on step stands
      (ap (λ run. option_map_or (lengths_of_row on.sets.sets) (run_of desk.office.tables run) []) stands.run
      ∙ ap (λ (o : Option RunRow). option_map_or (lengths_of_row on.sets.sets) o []) going.row_at
      ∙ by-step desk is step.run going.row going.number going.committed going.start (going-within desk.office step going)
      (λ leg owned running starts spaced.
      let its : its_start leg owned going.number ≡ stands.start = sym starts ∙ start in
      lengths-so desk.layout desk.office step.run going.row leg owned going.number going.committed step.progress.writes is.kept.events running spaced going.behind
      (subst (λ (s : StepStart). step.progress.writes ≤ length (work_at s).writes) starts going.fit)
      (subst (λ (s : StepStart). rewrites_nothing s going.committed step.progress.writes ≡ true) starts going.plain)
      image on.sets
      (subst (λ (s : StepStart). HasSets desk.office.tables.sets (names_of s.root s.owned) on.sets) (sym its) stands.sets)
      (subst (λ (s : StepStart). ShowsWithin (Unit {0}) image desk.layout s step.progress.writes on.sets) (sym its) stands.shows)
      stands.checked
      ∙ ap (λ (s : StepStart). lengths_at s desk.office.tables.sets step.progress.writes) its))
      ∙ ap (as_stopped step.code) (sym (seen-as desk.office step.run step.progress stands.row stands.start stands.row_at stands.start_at))

  -- the running step of a run, on both sides or on none
  abbrev BothStand : Option RunningStepView → Option DeskStep → Type 0
  BothStand None None = Unit {0}
  BothStand None (Some step) = ⊥
  BothStand (Some on) None = ⊥
  BothStand (Some on) (Some step) = StandsForStep desk.layout desk.office image on step

  both-stand : (run : ℕ) (seen : List RunningStepView) (running : List DeskStep) → AllStand desk.layout desk.office image seen running
      → BothStand (find (λ (on : RunningStepView). on.run == run) seen) (find (λ (step : DeskStep). step.run == run) running)
  both-stand run [] [] all = tt
  both-stand run [] (step ∷ running) all = absurd all
  both-stand run (on ∷ seen) [] all = absurd all
  both-stand run (on ∷ seen) (step ∷ running) all =
      subst (λ (n : ℕ). BothStand (cond (n == run) (Some on) (find (λ (on : RunningStepView). on.run == run) seen)) (cond (step.run == run) (Some step) (find (λ (step : DeskStep). step.run == run) running))) (sym all.0.run)
      (by (step.run == run) (both-stand run seen running all.1))
    where
      by : (b : Bool) → BothStand (find (λ (on : RunningStepView). on.run == run) seen) (find (λ (step : DeskStep). step.run == run) running)
          → BothStand (cond b (Some on) (find (λ (on : RunningStepView). on.run == run) seen)) (cond b (Some step) (find (λ (step : DeskStep). step.run == run) running))
      by true later = all.0
      by false later = later

  same-found : (found : Option RunningStepView) (other : Option DeskStep) → ((step : DeskStep) → other ≡ Some step → IsGoing desk.office step) → BothStand found other → option_map (running_of desk.office.tables) found ≡ option_map (seen_step desk.office) other
  same-found None None going both = refl
  same-found None (Some step) going both = absurd both
  same-found (Some on) None going both = absurd both
  same-found (Some on) (Some step) going both = ap Some (same-step on step (going step refl) both)

  pub same-running : (running : List RunningStepView) → AllStand desk.layout desk.office image running desk.running
      → (run : ℕ) → find (λ (step : TurnStep). step.run == run) (map (running_of desk.office.tables) running) ≡ find (λ (step : TurnStep). step.run == run) (jobs_of_desk desk).running
  same-running running all run =
      find-seen (running_of desk.office.tables) (λ (on : RunningStepView). on.run) (on-run desk.office.tables) run running
      ∙ same-found (find (λ (on : RunningStepView). on.run == run) running) (find (λ (step : DeskStep). step.run == run) desk.running)
      (λ step found. find-holds (IsGoing desk.office) (λ (step : DeskStep). step.run == run) desk.running step is.going found) (both-stand run running desk.running all)
      ∙ sym (find-seen (seen_step desk.office) (λ (step : DeskStep). step.run) (seen-run desk.office) run desk.running)

abbrev with_running : TablesModel → List FailedRun → List TurnStep → TurnJobs
with_running tables failed running = record { tables = tables; running = running; failed = failed }

-- what a turn comes to by the jobs in memory is what it comes to at the desk
pub plans-so : (layout : Layout) (jobs : JobsView) (image : List ℕ) (desk : DeskModel) (turn : MountedTurn) → StandsForDesk layout jobs image desk → plan_for layout (jobs_of jobs) turn ≡ plan_for desk.layout (jobs_of_desk desk) turn
unfolding jobs_of
plans-so layout jobs image desk turn stands =
    ap (λ layout. plan_for layout (with_running jobs.tables.desk jobs.failed (map (running_of jobs.tables.desk) jobs.running)) turn) (sym stands.layout_is)
    ∙ ap (λ tables. plan_for desk.layout (with_running tables jobs.failed (map (running_of tables) jobs.running)) turn) stands.tables
    ∙ ap (λ failed. plan_for desk.layout (with_running desk.office.tables failed (map (running_of desk.office.tables) jobs.running)) turn) stands.failed
    ∙ same-plan desk.layout desk.office.tables desk.failed (map (running_of desk.office.tables) jobs.running) (jobs_of_desk desk).running
    (same-running desk stands.is_desk image jobs.running stands.running) turn
