-- A step has started: it is running before the others.
use Rattle.std.proofs.Common.{◌≡◌, ◌==◌, ◌&&◌, ℕ, Bool, true, false, not, filter, List, [], ◌∷◌, map, refl, ap, sym, ◌∙◌, subst, Option, None, Some}
use Rattle.std.proofs.lemmas.Option.{same_Some}
use Rattle.std.specs.Prelude.{if◌then◌else◌}
use Rattle.std.specs.List.{cons_option, filter_map}
use Rattle.std.specs.Option.{is_some, option_map, option_map_or}
use Rattle.std.proofs.lemmas.Bool.{false≢true}
use Rattle.ckr_base.proofs.Options.{some-not-none}
use Rattle.ckr_jcl.specs.declared.deck.Dd.{Dd}
use Rattle.ckr_library.specs.Catalog.{Catalog, Holding}
use Rattle.ckr_library.specs.NameMaps.{Name, Named, entry_at}
use Rattle.ckr_library.proofs.Named.{at-viewed}
use Rattle.ckr_meaning.specs.EffectiveJob.{OwnedStep, name_of, names_of}
use Rattle.ckr_points.specs.declared.run.RunState.TheVariants.{On}
use Rattle.ckr_points.specs.Follows.{is_in_state, of_run, own_step}
use Rattle.ckr_points.specs.Restart.{place_of, step_in}
use Rattle.ckr_points.specs.Rows.{RunRow, TableSet, TablesModel, holding_of, run_of, step_of_run}
use Rattle.ckr_points_tables.specs.Model.RunTable.{RunTable}
use Rattle.ckr_points_tables.specs.Model.OwnStep.{OwnStep}
use Rattle.ckr_points_tables.specs.RunJobs.{own_of}
use Rattle.ckr_points_tables.specs.View.{seen_by}
use Rattle.ckr_desk_plans.specs.StepTypes.StepRun.{StepRun}
use Rattle.ckr_desk_plans.specs.declared.running_step.RunningStep.{RunningStep}
use Rattle.ckr_desk_memory.specs.Parts.{step_seen}
use Rattle.ckr_desk_memory.specs.Plans.{IsKnown}
use Rattle.ckr_desk_memory.specs.Preparation.{HasAgain, HasStep, IsEmpty}
use Rattle.ckr_desk_memory.specs.EventChanges.{without_run}
use Rattle.ckr_desk_memory.specs.View.{PointView, RunningStepView}
use Rattle.ckr_desk_memory.specs.RunningSteps.{GoesFrom, StepGoesBack, StepStarts, may_go_back}
use Rattle.ckr_desk_memory.specs.Start.{HasNew, has_all, has_any, has_sets, with_all_taken}
use Rattle.ckr_desk_memory.proofs.Starts.Steps.{IsNumberOf, IsStepAt, number-in, own-found, owned-is, root-is}
use Rattle.ckr_desk_memory.proofs.Invariant.{seen-without}
use Rattle.ckr_desk_memory.proofs.SetCopies.{taken-sets}

module _ (tables : TablesModel) (job step : ℕ) (table : RunTable) (known : IsKnown tables job table) (own : OwnStep) (is : IsStepAt job table step (Some own)) (on : RunningStep) where
  pub has-new : (root : ℕ) (sets : Catalog) (from : Named Holding) (before after : List RunningStep) → root ≡ table.job.root → IsEmpty job on
      → from ≡ seen_by holding_of tables.sets → sets.sets ≡ with_all_taken (name_of root (own_of own)) from own.step.now.dds on.sets.sets
      → after ≡ record on { sets = sets } ∷ filter (λ (other : RunningStep). not (other.run == job)) before
      → (row : RunRow) (owned : OwnedStep) → run_of tables job ≡ Some row → step_of_run row step ≡ Some owned → HasNew job row.job.root owned on.step tables.sets (map step_seen before) (map step_seen after)
  has-new root sets from before after root_is empty from_is sets_is after_is row its at there =
      subst (λ (o : OwnedStep). HasNew job row.job.root o on.step tables.sets (map step_seen before) (map step_seen after))
      (sym (owned-is tables job table known step own is row its at there))
      (subst (λ n. HasNew job n (own_of own) on.step tables.sets (map step_seen before) (map step_seen after)) (root_is ∙ sym (root-is tables job table known row at))
      (record {
        on = step_seen (record on { sets = sets });
        first =
            ap (map step_seen) after_is
            ∙ ap (λ (others : List RunningStepView). step_seen (record on { sets = sets }) ∷ others) (seen-without job before);
        run = empty.run;
        step = refl;
        code = empty.code;
        sets = taken-sets (name_of root (own_of own)) own.step.now.dds tables.sets from sets from_is (sets_is ∙ ap (with_all_taken (name_of root (own_of own)) from own.step.now.dds) empty.empty);
      }))

-- ---- the step that a run is in

-- whether the tables have its data sets, as a library shows them
seen-has : (sets : Named TableSet) (name : Name) → is_some (entry_at (seen_by holding_of sets) name) ≡ is_some (entry_at sets name)
seen-has sets name = ap is_some (at-viewed holding_of sets name) ∙ by (entry_at sets name)
  where
    by : (entry : Option TableSet) → is_some (option_map holding_of entry) ≡ is_some entry
    by None = refl
    by (Some table) = refl

has-all : (sets : Named TableSet) (name : Dd → Option Name) (dds : List Dd) → has_all name (seen_by holding_of sets) dds ≡ has_sets sets (filter_map name dds)
has-all sets name [] = refl
has-all sets name (dd ∷ dds) = by (name dd) (has-all sets name dds)
  where
    by : (named : Option Name) → has_all name (seen_by holding_of sets) dds ≡ has_sets sets (filter_map name dds)
        → (has_any (seen_by holding_of sets) named && has_all name (seen_by holding_of sets) dds) ≡ has_sets sets (cons_option named (filter_map name dds))
    by None same = same
    by (Some one) same = ap (λ b. b && has_all name (seen_by holding_of sets) dds) (seen-has sets one) ∙ ap (λ b. is_some (entry_at sets one) && b) same

-- a run that isn't on an initiator doesn't go back
pub off-there : (tables : TablesModel) (job : ℕ) → of_run tables job (is_in_state On) ≡ false → (row : RunRow) (owned : OwnedStep) → run_of tables job ≡ Some row → own_step row ≡ Some owned → None ≡ (if may_go_back tables owned row then Some (step_in (place_of row)) else None)
off-there tables job off row owned at found =
    ap (λ b. if b && has_sets tables.sets (names_of row.job.root owned) then Some (step_in (place_of row)) else None)
    (sym off ∙ ap (λ (o : Option RunRow). option_map_or (is_in_state On) o false) at)

-- one that is has its step found, and its number
pub found-there : (tables : TablesModel) (job root step : ℕ) (table : RunTable) (known : IsKnown tables job table) (own : OwnStep) (from : Named Holding) (there : Bool) → of_run tables job (is_in_state On) ≡ true → root ≡ table.job.root
    → IsStepAt job table step (Some own) → IsNumberOf table step → from ≡ seen_by holding_of tables.sets → there ≡ has_all (name_of root (own_of own)) from own.step.now.dds
    → (row : RunRow) (owned : OwnedStep) → run_of tables job ≡ Some row → own_step row ≡ Some owned → (if there then Some step else None) ≡ (if may_go_back tables owned row then Some (step_in (place_of row)) else None)
found-there tables job root step table known own from there on root_is is number from_is there_is row its at found =
    let same = owned-is tables job table known step own is row its at (own-found tables job table known step number row its at found) in
    ap (λ n. if there then Some n else None) (number-in tables job table known step number row at)
    ∙ ap (λ b. if b then Some (step_in (place_of row)) else None)
    (there_is ∙ ap (λ sets. has_all (name_of root (own_of own)) sets own.step.now.dds) from_is ∙ has-all tables.sets (name_of root (own_of own)) own.step.now.dds
    ∙ ap (λ n. has_sets tables.sets (names_of n (own_of own))) (root_is ∙ sym (root-is tables job table known row at))
    ∙ ap (λ (o : OwnedStep). has_sets tables.sets (names_of row.job.root o)) (sym same)
    ∙ ap (λ b. b && has_sets tables.sets (names_of row.job.root its)) (sym on ∙ ap (λ (o : Option RunRow). option_map_or (is_in_state On) o false) at))

-- what its number says of its data sets
pub is-there : (has : Bool) (number step : ℕ) → Some step ≡ (if has then Some number else None) → (has ≡ true) × (step ≡ number)
is-there true number step is = (refl, same_Some step number is)
is-there false number step is = absurd (some-not-none step is)

pub isnt-there : (has : Bool) (number : ℕ) → None ≡ (if has then Some number else None) → has ≡ false
isnt-there true number is = absurd (some-not-none number (sym is))
isnt-there false number is = refl

-- ---- as it was prepared

-- at its beginning
pub starts-prepared : (tables : TablesModel) (job step : ℕ) (old new : List RunningStepView) (begun : Option RunningStep) → HasStep tables job step begun
    → ((on : RunningStep) (row : RunRow) (owned : OwnedStep) → begun ≡ Some on → run_of tables job ≡ Some row → step_of_run row step ≡ Some owned → HasNew job row.job.root owned on.step tables.sets old new)
    → StepStarts job step tables old new
starts-prepared tables job step old new begun has goes row owned at there =
    let prepared = has row owned at there in
    subst (λ (place : StepRun). HasNew job row.job.root owned place tables.sets old new) prepared.2.step (goes prepared.0 row owned prepared.1 at there)

-- ---- as a run goes on from its point

module _ (tables : TablesModel) (job : ℕ) (old new : List RunningStepView) where
  -- none is prepared where no point is known, or where the run is in no step
  pub again-none : (point : Option PointView) (again : Option RunningStep) → is_some again ≡ false → HasAgain point tables job again → new ≡ without_run job old → StepGoesBack point job tables old new
  again-none None again none has leaves = leaves
  again-none (Some point) again none has leaves = λ row owned at found.
      let prepared = has row owned at found in absurd (false≢true (sym none ∙ ap is_some prepared.1))

  -- the run isn't on an initiator, or the tables don't have all its data sets
  pub again-left : (point : Option PointView) (again : Option RunningStep) → HasAgain point tables job again → new ≡ without_run job old
      → ((row : RunRow) (owned : OwnedStep) → run_of tables job ≡ Some row → own_step row ≡ Some owned → may_go_back tables owned row ≡ false) → StepGoesBack point job tables old new
  again-left None again has leaves lacks = leaves
  again-left (Some point) again has leaves lacks = λ row owned at found.
      subst (λ b. GoesFrom b job row.job.root owned point tables old new) (sym (lacks row owned at found)) leaves

  -- it is, they have, and it goes on from there
  pub again-some : (point : Option PointView) (again : Option RunningStep) → is_some again ≡ true → HasAgain point tables job again
      → ((on : RunningStep) (row : RunRow) (owned : OwnedStep) → again ≡ Some on → run_of tables job ≡ Some row → own_step row ≡ Some owned
      → (may_go_back tables owned row ≡ true) × HasNew job row.job.root owned on.step tables.sets old new)
      → StepGoesBack point job tables old new
  again-some None again there has goes = absurd (false≢true (sym (ap is_some has) ∙ there))
  again-some (Some point) again there has goes = λ row owned at found.
      let prepared = has row owned at found in
      let gone = goes prepared.0 row owned prepared.1 at found in
      subst (λ b. GoesFrom b job row.job.root owned point tables old new) (sym gone.0)
      (subst (λ (place : StepRun). HasNew job row.job.root owned place tables.sets old new) prepared.2.step gone.1)
