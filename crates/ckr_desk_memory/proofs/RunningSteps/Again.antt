-- A run that is restarted at its checkpoint: its row, and its step that goes on from its point.
use Rattle.std.proofs.Common.{◌≡◌, ℕ, Bool, true, false, List, find, refl, Option, None, Some}
use Rattle.std.specs.Prelude.{IsSome, nat_lt}
use Rattle.std.specs.List.{AllByRecursion}
use Rattle.std.specs.Option.{is_some, option_map_or}
use Rattle.std.proofs.lemmas.Bool.{false≢true}
use Rattle.ckr_base.specs.declared.code.Code.{Code}
use Rattle.ckr_base.proofs.Bools.{and-first, and-second}
use Rattle.ckr_events.specs.declared.event.Event.TheVariants.{Restarted}
use Rattle.ckr_jcl.specs.declared.deck.Job.{Job}
use Rattle.ckr_meaning.specs.EffectiveJob.{OwnedStep, names_of}
use Rattle.ckr_meaning.specs.declared.place.Place.{Place}
use Rattle.ckr_meaning.specs.declared.place.Place.TheVariants.{Before, Opened, Within}
use Rattle.ckr_points.specs.declared.run.RunState.TheVariants.{On}
use Rattle.ckr_points.specs.Follows.{follows, is_in_state, is_within, may_restart_again, own_step}
use Rattle.ckr_points.specs.Marks.{put_back}
use Rattle.ckr_desk_plans.specs.Model.Commit.{output_names}
use Rattle.ckr_points.specs.Restart.{after_event, kept_at, place_of, step_in}
use Rattle.ckr_points.specs.Rows.{EffectPoint, RunRow, TablesModel, run_of, step_of_run}
use Rattle.ckr_volumes.specs.declared.layout.Layout.{Layout}
use Rattle.ckr_desk_turn.specs.Queue.{AreNumbered}
use Rattle.ckr_desk_turn.proofs.Queue.Events.{run_number}
use Rattle.ckr_desk_memory.specs.EventChanges.{is_point_of, without_run}
use Rattle.ckr_desk_memory.specs.Invariant.{IsAnyPlaceOf, IsPlacedRow, is_in_step}
use Rattle.ckr_desk_memory.specs.RunningSteps.{GoesFrom, StepGoesBack, may_go_back}
use Rattle.ckr_desk_memory.specs.Start.{HasNew, has_sets}
use Rattle.ckr_desk_memory.specs.View.{PointView, RunningStepView, resumed}
use Rattle.ckr_desk_memory.proofs.Holders.Moves.{row-as_is, row-next}
use Rattle.ckr_desk_memory.proofs.Invariant.{in_step-within, hand-in_step}
use Rattle.ckr_desk_memory.proofs.Queue.{on-is}
use Rattle.ckr_desk_memory.proofs.Runs.{by-step}
use Rattle.ckr_desk_memory.proofs.Starts.Steps.{row-among}
use Rattle.ckr_desk_memory.proofs.EventRows.{by-restarted}

-- ---- the row of the run

-- a run within a step has that step
pub step-of-within : (row : RunRow) → IsPlacedRow row → is_within (place_of row) ≡ true → (owned : OwnedStep) × (own_step row ≡ Some owned)
step-of-within row placed within = of_some (own_step row) (by row.place placed.place within)
  where
    by : (place : Option Place) → IsAnyPlaceOf row.job place → is_within (option_map_or (λ one. one) place (Before 1)) ≡ true → IsSome (step_of_run row (step_in (option_map_or (λ one. one) place (Before 1))))
    by None is within = absurd (false≢true within)
    by (Some (Before number)) is within = absurd (false≢true within)
    by (Some (Opened number)) is within = absurd (false≢true within)
    by (Some (Within number writes)) is within = is

    of_some : (found : Option OwnedStep) → IsSome found → (owned : OwnedStep) × (found ≡ Some owned)
    of_some None some = absurd (false≢true some)
    of_some (Some owned) some = (owned, refl)

-- behind the restart it is within the step that it was within, and its checkpoint was in effect
pub record IsBack (tables after : TablesModel) (job : ℕ) : Type 0 where
  pub row : RunRow
  pub owned : OwnedStep
  pub next : RunRow
  pub row_at : run_of tables job ≡ Some row
  pub inside : is_in_step row ≡ true
  pub effect : is_some row.in_effect ≡ true
  pub was : own_step row ≡ Some owned
  pub next_at : run_of after job ≡ Some next
  pub within : is_within (place_of next) ≡ true
  pub found : own_step next ≡ Some owned
  pub job_is : next.job ≡ row.job

in_effect_of : (row : RunRow) → may_restart_again true row ≡ true → is_some row.in_effect ≡ true
in_effect_of row again = by row.in_effect again
  where
    by : (effect : Option EffectPoint) → option_map_or (λ (effect : EffectPoint). nat_lt effect.restarts 3) effect false ≡ true → is_some effect ≡ true
    by None again = absurd (false≢true again)
    by (Some effect) again = refl

pub is-back : (layout : Layout) (tables : TablesModel) (job initiator : ℕ) (code : Code) (deck : Option Job) → AreNumbered 1 tables.runs → AllByRecursion IsPlacedRow tables.runs → follows layout tables (Restarted job initiator code true) deck ≡ true
    → IsBack tables (after_event (Restarted job initiator code true) deck tables) job
is-back layout tables job initiator code deck numbered placed follow =
    by-restarted (λ after. IsBack tables after job) layout tables job deck initiator code true follow
    (λ row its.
    let is = row-among IsPlacedRow tables job row placed its.row_at in
    let inside = hand-in_step row its.hand is in
    let owned = step-of-within row is (in_step-within row inside) in
    let effect = in_effect_of row its.again in
    let Back : TablesModel → Type 0 = λ after. IsBack tables after job in
    let same : Back tables = record {
      row = row;
      owned = owned.0;
      next = row;
      row_at = its.row_at;
      inside = inside;
      effect = effect;
      was = owned.1;
      next_at = its.row_at;
      within = in_step-within row inside;
      found = owned.1;
      job_is = refl;
    } in
    by-step Back tables (own_step row) _ same
    (λ own found.
    by-step Back tables row.in_effect _ same
    (λ effect_now now.
    by-step Back tables (kept_at tables.sets effect_now.set effect_now.kept.id) _ same
    (λ entry kept. record {
      row = row;
      owned = owned.0;
      next = _;
      row_at = its.row_at;
      inside = inside;
      effect = effect;
      was = owned.1;
      next_at = (row-next tables tables job row _ (put_back entry.point.marks (output_names row.job.root own) (names_of row.job.root own) tables.sets) (row-as_is tables job row its.row_at) (run_number tables job row numbered its.row_at)).now;
      within = refl;
      found = owned.1;
      job_is = refl;
    }))))

-- ---- its step

-- its run is on its initiator, and it goes on from its point, with the data sets that the tables have
pub record IsOnAgain (after : TablesModel) (job : ℕ) (next : RunRow) (owned : OwnedStep) (point : PointView) (old new : List RunningStepView) : Type 0 where
  pub state : next.state ≡ On
  pub has : has_sets after.sets (names_of next.job.root owned) ≡ true
  pub starts : HasNew job next.job.root owned (resumed next.job.root owned point) after.sets old new

-- so it is, or no step of the run is running
pub again-cases : {A : Type 0} (after : TablesModel) (job : ℕ) (next : RunRow) (owned : OwnedStep) (points : List PointView) (old new : List RunningStepView) → run_of after job ≡ Some next → own_step next ≡ Some owned
    → StepGoesBack (find (is_point_of job) points) job after old new
    → (new ≡ without_run job old → A) → ((point : PointView) → find (is_point_of job) points ≡ Some point → IsOnAgain after job next owned point old new → A) → A
again-cases {A = A} after job next owned points old new next_at found goes gone again = by (find (is_point_of job) points) refl goes
  where
    by : (found : Option PointView) → find (is_point_of job) points ≡ found → StepGoesBack found job after old new → A
    by None is goes = gone goes
    by (Some point) is goes = sets (may_go_back after owned next) refl (goes next owned next_at found)
      where
        sets : (goes_on : Bool) → may_go_back after owned next ≡ goes_on → GoesFrom goes_on job next.job.root owned point after old new → A
        sets true may starts = again point is (record {
          state = on-is next.state (and-first (is_in_state On next) _ may);
          has = and-second (is_in_state On next) _ may;
          starts = starts;
        })
        sets false lacks leaves = gone leaves
