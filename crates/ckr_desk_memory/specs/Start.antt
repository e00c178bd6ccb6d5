-- The data sets of a step that starts.
use Rattle.std.specs.Prelude.{◌≡◌, ◌≤◌, ◌&&◌, ℕ, Bool, true, if◌then◌else◌, List, [], ◌∷◌, Option, None, Some}
use Rattle.std.specs.List.{list_all}
use Rattle.std.specs.Option.{is_some, option_map, option_map_or}
use Rattle.ckr_jcl.specs.declared.deck.Dd.{Dd}
use Rattle.ckr_library.specs.declared.sets.DataSet.{DataSet}
use Rattle.ckr_library.specs.Catalog.{Holding, fresh_holding, set_of}
use Rattle.ckr_library.specs.NameMaps.{Name, Named, entry_at, has_entry, with_entry}
use Rattle.ckr_meaning.specs.EffectiveJob.{OwnedStep, is_among, names_of}
use Rattle.ckr_points.specs.Rows.{TableSet}
use Rattle.ckr_desk_plans.specs.StepTypes.StepRun.{StepRun}
use Rattle.ckr_desk_memory.specs.EventChanges.{without_run}
use Rattle.ckr_desk_memory.specs.View.{RunningStepView}

-- with the data set of a name, where it isn't there yet
abbrev pub with_taken : Named Holding → Name → Named Holding → Named Holding
with_taken from name sets =
    if has_entry sets name then sets
    else option_map_or (λ (held : Holding). with_entry name (fresh_holding held.set) sets) (entry_at from name) sets

abbrev pub with_any_taken : Named Holding → Option Name → Named Holding → Named Holding
with_any_taken from None sets = sets
with_any_taken from (Some name) sets = with_taken from name sets

-- with the data sets of DDs, by their names
abbrev pub with_all_taken : (Dd → Option Name) → Named Holding → List Dd → Named Holding → Named Holding
with_all_taken name from [] sets = sets
with_all_taken name from (dd ∷ dds) sets = with_all_taken name from dds (with_any_taken from (name dd) sets)

-- whether there is the data set of a DD, where it names one
abbrev pub has_any : Named Holding → Option Name → Bool
has_any sets None = true
has_any sets (Some name) = is_some (entry_at sets name)

-- so it is with all DDs
abbrev pub has_all : (Dd → Option Name) → Named Holding → List Dd → Bool
has_all name sets [] = true
has_all name sets (dd ∷ dds) = has_any sets (name dd) && has_all name sets dds

-- no data set is longer than its space
abbrev pub AllFit : Named Holding → Type 0
AllFit sets = (name : Name) (held : Holding) → entry_at sets name ≡ Some held → held.set.length ≤ held.set.space

-- the data set of a name in the tables
abbrev pub set_in_tables : Named TableSet → Name → Option DataSet
set_in_tables sets name = option_map (λ (table : TableSet). table.set) (entry_at sets name)

-- whether the tables have each of these data sets
abbrev pub has_sets : Named TableSet → List Name → Bool
has_sets sets names = list_all (λ name. is_some (entry_at sets name)) names

-- A step of a run of this root has started: it stands before the other running steps, at this place of its work, with the data sets of its names as
-- the tables have them, and its run waits with no code. No other step of its run is running.
pub record HasNew (job root : ℕ) (owned : OwnedStep) (place : StepRun) (tables : Named TableSet) (old new : List RunningStepView) : Type 0 where
  pub on : RunningStepView
  pub first : new ≡ on ∷ without_run job old
  pub run : on.run ≡ job
  pub step : on.step ≡ place
  pub code : on.code ≡ None
  pub sets : (name : Name) → set_of on.sets name ≡ (if is_among (names_of root owned) name then set_in_tables tables name else None)
