-- The step of a run that starts.
use Rattle.std.proofs.Common.{◌≡◌, ◌≤◌, ◌<◌, ℕ, zero, suc, true, List, [], ◌∷◌, map, slice_get, refl, ap, sym, ◌∙◌, subst, Option, None, Some, length, Result, Ok, Err}
use Rattle.std.proofs.lemmas.Option.{same_Some}
use Rattle.std.specs.List.{AllByRecursion}
use Rattle.std.specs.Prelude.{IfOk, IfSome, find}
use Rattle.std.specs.Option.{option_map}
use Rattle.ckr_base.proofs.Options.{some-not-none}
use Rattle.arrayvec.specs.ArrayVec.{ArrayVec}
use Rattle.ckr_base.specs.declared.code.Code.{Code}
use Rattle.ckr_events.specs.declared.event.Event.{Event}
use Rattle.ckr_events.specs.declared.event.Event.TheVariants.{Checkpointed, Restarted, Selected, Started}
use Rattle.ckr_events.specs.declared.event.Made.{Made}
use Rattle.ckr_jcl.specs.declared.deck.Job.{Job}
use Rattle.ckr_jcl.specs.declared.deck.Step.{Step}
use Rattle.ckr_library.specs.declared.uses.Use.{Use}
use Rattle.ckr_library.specs.NameMaps.{Name}
use Rattle.ckr_meaning.specs.EffectiveJob.{Effective, OwnedStep, owned_by, plain_job, step_at}
use Rattle.ckr_programs.specs.Ranges.{IsInRange}
use Rattle.ckr_points.specs.Follows.{own_step as own_step_of}
use Rattle.ckr_points.specs.Restart.{place_of, step_in}
use Rattle.ckr_points.specs.Rows.{RunRow, TablesModel, run_of, step_of_run}
use Rattle.ckr_desk_turn.specs.DeckLimits.{IsWithinLimits}
use Rattle.ckr_desk_turn.proofs.Decks.DeckLimits.{steps_within}
use Rattle.ckr_points_tables.specs.Model.OwnStep.{OwnStep}
use Rattle.ckr_points_tables.specs.Model.RunTable.{RunTable}
use Rattle.ckr_points_tables.specs.RunJobs.{effective, own_of}
use Rattle.ckr_points_tables.proofs.RunJobs.{fits-at}
use Rattle.ckr_points_tables.specs.Invariant.{HasRoom}
use Rattle.ckr_desk_plans.specs.declared.running_step.RunningStep.{RunningStep}
use Rattle.ckr_desk_memory.specs.Invariant.{IsAcceptedRow}
use Rattle.ckr_desk_memory.specs.EventChanges.{HasUses, is_point_of}
use Rattle.ckr_desk_memory.specs.Preparation.{HasAgain, HasPointRoom, HasQueueRoom, HasStarted, HasStep, HasTaken, IsEmpty, IsPrepared, StandsEmpty}
use Rattle.ckr_desk_memory.specs.Plans.{IsKnown, row_for}
use Rattle.ckr_desk_memory.specs.View.{JobsView, PointView, begun, resumed}
use Rattle.ckr_desk_memory.proofs.FoundRuns.{known-by, known-row}

-- a row among rows
pub row-among : (P : RunRow → Type 0) (tables : TablesModel) (job : ℕ) (row : RunRow) → AllByRecursion P tables.runs → run_of tables job ≡ Some row → P row
row-among P tables zero row all at = absurd (some-not-none row (sym at))
row-among P tables (suc place) row all at = each tables.runs place all at
  where
    each : (rows : List RunRow) (place : ℕ) → AllByRecursion P rows → slice_get rows place ≡ Some row → P row
    each [] place all at = absurd (some-not-none row (sym at))
    each (first ∷ rows) zero all at = subst P (same_Some _ _ at) all.0
    each (first ∷ rows) (suc place) all at = each rows place all.1 at

-- a step among the steps of a deck
pub step-among : (P : Step → Type 0) (run : ℕ) (deck : Job) (step : ℕ) (owned : OwnedStep) → AllByRecursion P deck.steps → step_at (plain_job run deck) step ≡ Some owned → P owned.step
step-among P run deck zero owned all at = absurd (some-not-none owned (sym at))
step-among P run deck (suc place) owned all at = each deck.steps place all at
  where
    each : (steps : List Step) (place : ℕ) → AllByRecursion P steps → slice_get (map (owned_by run deck) steps) place ≡ Some owned → P owned.step
    each [] place all at = absurd (some-not-none owned (sym at))
    each (first ∷ steps) zero all at = subst (λ (o : OwnedStep). P o.step) (same_Some _ _ at) all.0
    each (first ∷ steps) (suc place) all at = each steps place all.1 at

-- a step of the run, as the code finds it
abbrev pub IsStepAt : ℕ → RunTable → ℕ → Option OwnStep → Type 0
IsStepAt run table step own = option_map own_of own ≡ step_at (effective run table.job) step

-- the number of the step that the run is in
abbrev pub IsNumberOf : RunTable → ℕ → Type 0
IsNumberOf table step = (run : ℕ) → step ≡ step_in (place_of (row_for run table))

module _ (tables : TablesModel) (job : ℕ) (table : RunTable) (known : IsKnown tables job table) where
  -- its PARM is one that the deck reader gives
  pub begun-parm : (step : ℕ) (own : OwnStep) → AllByRecursion IsAcceptedRow tables.runs → IsStepAt job table step (Some own) → IsInRange own.step.now.parm
  begun-parm step own rows is =
      let accepted = row-among IsAcceptedRow tables job known.row rows known.found in
      let its = accepted.steps step (own_of own) (ap (λ (j : Effective). step_at j step) known.job ∙ sym is) in
      (step-among IsWithinLimits own.owner its.deck step (own_of own) (steps_within its.cards its.deck its.accepted) its.owned_so).parm

  -- the step of the run is that
  pub step-is : (step : ℕ) (found : Option OwnStep) → IsStepAt job table step found → (row : RunRow) → run_of tables job ≡ Some row → step_of_run row step ≡ option_map own_of found
  step-is step found is row at =
      ap (λ (r : RunRow). step_of_run r step) (sym (known-row tables job table known row at)) ∙ ap (λ (j : Effective). step_at j step) known.job ∙ sym is

  pub owned-is : (step : ℕ) (own : OwnStep) → IsStepAt job table step (Some own) → (row : RunRow) (owned : OwnedStep) → run_of tables job ≡ Some row → step_of_run row step ≡ Some owned → owned ≡ own_of own
  owned-is step own is row owned at there = same_Some _ _ (sym there ∙ step-is step (Some own) is row at)

  -- the root of its job
  pub root-is : (row : RunRow) → run_of tables job ≡ Some row → row.job.root ≡ table.job.root
  root-is row at = ap (λ (r : RunRow). r.job.root) (sym (known-row tables job table known row at)) ∙ ap (λ (j : Effective). j.root) known.job

  pub has-step : (root step : ℕ) (own : OwnStep) (on : RunningStep) → root ≡ table.job.root → IsStepAt job table step (Some own) → StandsEmpty job (begun root (own_of own)) on → HasStep tables job step (Some on)
  has-step root step own on root_is is stands = λ row owned at there. (
    on,
    refl,
    subst (λ (o : OwnedStep). StandsEmpty job (begun row.job.root o) on) (sym (owned-is step own is row owned at there))
        (subst (λ n. StandsEmpty job (begun n (own_of own)) on) (root_is ∙ sym (root-is row at)) stands),
  )

  -- where there is no such step, none starts
  pub none-starts : {A : Type 0} (step : ℕ) → IsStepAt job table step None → (row : RunRow) (owned : OwnedStep) → run_of tables job ≡ Some row → step_of_run row step ≡ Some owned → A
  none-starts step is row owned at there = absurd (some-not-none owned (sym (sym (step-is step None is row at) ∙ there)))

  pub no-step : (step : ℕ) → IsStepAt job table step None → HasStep tables job step None
  no-step step is = λ row owned at there. none-starts step is row owned at there

  -- ---- the step that the run is in

  pub number-in : (step : ℕ) → IsNumberOf table step → (row : RunRow) → run_of tables job ≡ Some row → step ≡ step_in (place_of row)
  number-in step is row at = is job ∙ sym (known-by tables job table known (λ (r : RunRow). step_in (place_of r)) refl row at)

  -- the step that the run is in is found by that
  pub own-found : (step : ℕ) → IsNumberOf table step → (row : RunRow) (owned : OwnedStep) → run_of tables job ≡ Some row → own_step_of row ≡ Some owned → step_of_run row step ≡ Some owned
  own-found step is row owned at there = ap (step_of_run row) (number-in step is row at) ∙ there

  -- what is prepared at its number is that step
  pub taken-again : (step : ℕ) (point : Option PointView) (again : Option RunningStep) → IsNumberOf table step → HasTaken point tables job step job again → HasAgain point tables job again
  taken-again step None again number has = has
  taken-again step (Some point) again number has = λ row owned at there. has row owned at (own-found step number row owned at there)

  pub ok-again : {E : Type 0} (step : ℕ) (point : Option PointView) (result : Result (Option RunningStep) E) → IsNumberOf table step → IfOk result (HasTaken point tables job step job) → IfOk result (HasAgain point tables job)
  ok-again step point (Ok again) number has = taken-again step point again number has
  ok-again step point (Err error) number has = tt

  -- ---- a step in which this run or another one goes on

  pub has-taken : (root step run : ℕ) (own : OwnStep) (point : PointView) (on : RunningStep) → root ≡ table.job.root → IsStepAt job table step (Some own) → StandsEmpty run (resumed root (own_of own) point) on → HasTaken (Some point) tables job step run (Some on)
  has-taken root step run own point on root_is is stands = λ row owned at there. (
    on,
    refl,
    subst (λ (o : OwnedStep). StandsEmpty run (resumed row.job.root o point) on) (sym (owned-is step own is row owned at there))
        (subst (λ n. StandsEmpty run (resumed n (own_of own) point) on) (root_is ∙ sym (root-is row at)) stands),
  )

  pub no-taken-step : (step run : ℕ) (point : PointView) → IsStepAt job table step None → HasTaken (Some point) tables job step run None
  no-taken-step step run point is = λ row owned at there. none-starts step is row owned at there

  -- it has at most 16 DDs
  pub few-dds : (step : ℕ) (own : OwnStep) → IsStepAt job table step (Some own) → length own.step.now.dds ≤ 16
  few-dds step own is = (fits-at (effective job table.job) known.fits step (own_of own) (sym is)).dds

pub no-run : (tables : TablesModel) (job step : ℕ) → run_of tables job ≡ None → HasStep tables job step None
no-run tables job step none = λ row owned at there. absurd (some-not-none row (sym at ∙ none))

pub no-taken-run : (tables : TablesModel) (job step run : ℕ) (point : PointView) → run_of tables job ≡ None → HasTaken (Some point) tables job step run None
no-taken-run tables job step run point none = λ row owned at there. absurd (some-not-none row (sym at ∙ none))

pub no-again-run : (tables : TablesModel) (job : ℕ) (point : Option PointView) → run_of tables job ≡ None → HasAgain point tables job None
no-again-run tables job None none = refl
no-again-run tables job (Some point) none = λ row owned at there. absurd (some-not-none row (sym at ∙ none))

-- ---- the memory for a step

-- for one that starts
pub prepared-start : (jobs : JobsView) (event : Event) (deck : Option Job) (job step : ℕ) (items : ArrayVec Made) (uses : Option (List Use)) (prepared : Option RunningStep) → event ≡ Started job step items
    → HasRoom jobs.tables event → HasQueueRoom event jobs.queue_room → HasUses event deck uses → 0 < jobs.running_room → IfSome prepared (IsEmpty job) → HasStep jobs.tables.desk job step prepared → IsPrepared jobs event deck (record { uses = uses; step = prepared })
prepared-start jobs event deck job step items uses prepared is tables queue its room empty has = record {
  tables = tables;
  queue = queue;
  uses = its;
  started = subst (λ (e : Event). HasStarted e jobs prepared) (sym is) (record { room = room; empty = empty; step = has });
  points = subst (λ (e : Event). HasPointRoom e jobs.points_room) (sym is) tt;
}

-- for one that goes on from its run's point
pub prepared-again : (jobs : JobsView) (event : Event) (deck : Option Job) (job initiator : ℕ) (code : Code) (uses : Option (List Use)) (prepared : Option RunningStep) → event ≡ Restarted job initiator code true
    → HasRoom jobs.tables event → HasQueueRoom event jobs.queue_room → HasUses event deck uses → 0 < jobs.running_room → IfSome prepared (IsEmpty job) → HasAgain (find (is_point_of job) jobs.points) jobs.tables.desk job prepared
    → IsPrepared jobs event deck (record { uses = uses; step = prepared })
prepared-again jobs event deck job initiator code uses prepared is tables queue its room empty has = record {
  tables = tables;
  queue = queue;
  uses = its;
  started = subst (λ (e : Event). HasStarted e jobs prepared) (sym is) (record { room = room; empty = empty; step = has });
  points = subst (λ (e : Event). HasPointRoom e jobs.points_room) (sym is) tt;
}

-- for one that goes on with an earlier run at a checkpoint
pub prepared-over : (jobs : JobsView) (event : Event) (deck : Option Job) (job initiator earlier step : ℕ) (id : Name) (uses : Option (List Use)) (prepared : Option RunningStep) → event ≡ Selected job initiator earlier step (Some id)
    → HasRoom jobs.tables event → HasQueueRoom event jobs.queue_room → HasUses event deck uses → 0 < jobs.running_room → IfSome prepared (IsEmpty job)
    → HasTaken (find (is_point_of job) jobs.points) jobs.tables.desk earlier step job prepared → IsPrepared jobs event deck (record { uses = uses; step = prepared })
prepared-over jobs event deck job initiator earlier step id uses prepared is tables queue its room empty has = record {
  tables = tables;
  queue = queue;
  uses = its;
  started = subst (λ (e : Event). HasStarted e jobs prepared) (sym is) (by earlier has);
  points = subst (λ (e : Event). HasPointRoom e jobs.points_room) (sym is) tt;
}
  where
    by : (number : ℕ) → HasTaken (find (is_point_of job) jobs.points) jobs.tables.desk number step job prepared → HasStarted (Selected job initiator number step (Some id)) jobs prepared
    by zero has = tt
    by (suc before) has = record { room = room; empty = empty; step = has }

-- for one that continues none
pub prepared-alone : (jobs : JobsView) (event : Event) (deck : Option Job) (job initiator step : ℕ) (id : Name) (uses : Option (List Use)) → event ≡ Selected job initiator 0 step (Some id)
    → HasRoom jobs.tables event → HasQueueRoom event jobs.queue_room → HasUses event deck uses → IsPrepared jobs event deck (record { uses = uses; step = None })
prepared-alone jobs event deck job initiator step id uses is tables queue its = record {
  tables = tables;
  queue = queue;
  uses = its;
  started = subst (λ (e : Event). HasStarted e jobs None) (sym is) tt;
  points = subst (λ (e : Event). HasPointRoom e jobs.points_room) (sym is) tt;
}

-- for the point of a checkpoint
pub prepared-point : (jobs : JobsView) (event : Event) (deck : Option Job) (job taken writes place bytes : ℕ) (id : Name) (lengths : ArrayVec ℕ) (uses : Option (List Use)) → event ≡ Checkpointed job id taken writes lengths place bytes
    → HasRoom jobs.tables event → HasQueueRoom event jobs.queue_room → HasUses event deck uses → 0 < jobs.points_room → IsPrepared jobs event deck (record { uses = uses; step = None })
prepared-point jobs event deck job taken writes place bytes id lengths uses is tables queue its room = record {
  tables = tables;
  queue = queue;
  uses = its;
  started = subst (λ (e : Event). HasStarted e jobs None) (sym is) tt;
  points = subst (λ (e : Event). HasPointRoom e jobs.points_room) (sym is) room;
}
