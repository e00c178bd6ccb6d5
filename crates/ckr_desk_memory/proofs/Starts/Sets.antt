-- A step that has started can go on: its data sets are there, and stand apart.
use Rattle.std.proofs.Common.{◌≡◌, ℕ, true, cond, [], refl, ap, sym, ◌∙◌, subst, Option, None, Some, arith, slice_get}
use Rattle.std.specs.Prelude.{option_and_then}
use Rattle.std.proofs.lemmas.Bool.{false≢true}
use Rattle.std.specs.List.{AllByRecursion}
use Rattle.std.specs.Option.{is_some, option_map, option_map_or}
use Rattle.ckr_base.proofs.Options.{some-not-none}
use Rattle.ckr_base.proofs.Sequences.{find-holds}
use Rattle.arrayvec.specs.ArrayVec.{ArrayVec}
use Rattle.ckr_uses.specs.SetNames.{library_name}
use Rattle.ckr_uses.specs.Uses.{are_distinct}
use Rattle.ckr_events.specs.declared.event.Event.TheVariants.{Started}
use Rattle.ckr_events.specs.declared.event.Made.{Made}
use Rattle.ckr_jcl.specs.declared.deck.Dd.{Dd}
use Rattle.ckr_jcl.specs.declared.deck.Job.{Job}
use Rattle.ckr_jcl.specs.declared.deck.Origin.{Origin}
use Rattle.ckr_jcl.specs.declared.deck.Origin.TheVariants.{InStream}
use Rattle.ckr_jcl.specs.declared.deck.Step.{Step}
use Rattle.ckr_library.specs.declared.sets.DataSet.{DataSet}
use Rattle.ckr_library.specs.Catalog.{set_of}
use Rattle.ckr_library.specs.NameMaps.{Name, Named, entry_at, same_name}
use Rattle.ckr_meaning.specs.EffectiveJob.{OwnedStep, is_among, names_of}
use Rattle.ckr_meaning.specs.StepRun.{StepStart, input_names}
use Rattle.ckr_volumes.specs.declared.layout.Layout.{Layout}
use Rattle.ckr_points.specs.Tables.{after_started}
use Rattle.ckr_points.specs.Restart.{after_event}
use Rattle.ckr_points.specs.Rows.{RunRow, TableSet, TablesModel, run_of, step_of_run}
use Rattle.ckr_points.specs.Soundness.{AreLaidOut}
use Rattle.ckr_desk_plans.specs.StepTypes.StepRun.{StepRun}
use Rattle.ckr_desk_plans.specs.Model.Files.{dd_in, files_of, input_dd, source_by, source_in}
use Rattle.ckr_desk_plans.specs.Model.Inputs.{AreThere}
use Rattle.ckr_desk_plans.specs.Model.Places.{HasFewCards, files_at}
use Rattle.ckr_desk_plans.specs.Model.StepUnit.{AreCounted}
use Rattle.ckr_desk_turn.specs.DeckLimits.{HasNamesOnce}
use Rattle.ckr_desk_turn.proofs.Decks.JobForm.{steps_once}
use Rattle.ckr_desk_memory.specs.Plans.{IsAnyCode}
use Rattle.ckr_desk_memory.specs.Invariant.{IsAcceptedRow, IsRunnable}
use Rattle.ckr_desk_memory.specs.View.{RunningStepView, begun}
use Rattle.ckr_desk_memory.specs.Start.{set_in_tables}
use Rattle.ckr_desk_memory.proofs.Starts.Steps.{row-among, step-among}
use Rattle.ckr_desk_memory.proofs.RecordCounts.{HasFew, IsStepFew, steps-few}
use Rattle.ckr_desk_memory.proofs.Starts.Names.{names-there}
use Rattle.ckr_desk_memory.proofs.SetCopies.{are-stored}
use Rattle.ckr_desk_memory.proofs.Starts.ProgramSets.{are-there}
use Rattle.ckr_desk_memory.proofs.EventRows.{IsStarting}

-- ---- the records in the deck are few

source_few : (origin : Origin) (name : Option Name) → HasFew 100000 origin → HasFewCards (source_by origin name)
source_few (InStream cards) name few = omega arith
source_few _ None few = tt
source_few _ (Some name) few = tt

few_in : (root owner : ℕ) (step : Step) (dd : Option Dd) → ((one : Dd) → dd ≡ Some one → HasFew 100000 one.origin) → HasFewCards (source_in root owner step dd)
few_in root owner step None few = tt
few_in root owner step (Some one) few = source_few one.origin (library_name one root owner step.name) (few one refl)

few_of_input : (root owner : ℕ) (step : Step) (input : ℕ) → IsStepFew 100000 step → HasFewCards (source_in root owner step (input_dd step input))
few_of_input root owner step input few = few_in root owner step (input_dd step input) (by (slice_get (input_names step.program) input))
  where
    by : (name : Option Name) (one : Dd) → option_and_then (dd_in step) name ≡ Some one → HasFew 100000 one.origin
    by None one is = absurd (some-not-none one (sym is))
    by (Some name) one is = find-holds (λ (dd : Dd). HasFew 100000 dd.origin) (λ dd. same_name name dd.name) step.dds one few is

-- ---- a run's step, by its deck

-- a step of a run that is accepted
record IsOwn (row : RunRow) (owned : OwnedStep) : Type 0 where
  few : IsStepFew 100000 owned.step
  distinct : are_distinct (names_of row.job.root owned) ≡ true

is_own : (tables : TablesModel) (job step : ℕ) (row : RunRow) (owned : OwnedStep) → AllByRecursion IsAcceptedRow tables.runs → run_of tables job ≡ Some row → step_of_run row step ≡ Some owned → IsOwn row owned
is_own tables job step row owned rows at there =
    let its = (row-among IsAcceptedRow tables job row rows at).steps step owned there in
    record {
      few = step-among (IsStepFew 100000) owned.owner its.deck step owned (steps-few its.cards its.deck its.accepted) its.owned_so;
      distinct = step-among HasNamesOnce owned.owner its.deck step owned (steps_once its.cards its.deck its.accepted) its.owned_so row.job.root owned.owner owned.tests;
    }

-- ---- behind the start

behind_start : (tables : TablesModel) (job step : ℕ) (items : ArrayVec Made) (deck : Option Job) (row : RunRow) (owned : OwnedStep) → run_of tables job ≡ Some row → step_of_run row step ≡ Some owned
    → after_event (Started job step items) deck tables ≡ after_started row owned step items.items tables
behind_start tables job step items deck row owned at there =
    ap (λ found. option_map_or (λ row. option_map_or (λ owned. after_started row owned step items.items tables) (step_of_run row step) tables) found tables) at
    ∙ ap (λ found. option_map_or (λ owned. after_started row owned step items.items tables) found tables) there

set_there : (tables : Named TableSet) (name : Name) → is_some (entry_at tables name) ≡ true → (set : DataSet) × (set_in_tables tables name ≡ Some set)
set_there tables name has = by (entry_at tables name) has
  where
    by : (entry : Option TableSet) → is_some entry ≡ true → (set : DataSet) × (option_map (λ (table : TableSet). table.set) entry ≡ Some set)
    by None has = absurd (false≢true has)
    by (Some table) has = (table.set, refl)

few_first : (job : ℕ) (owned : OwnedStep) → IsStepFew 100000 owned.step → HasFewCards (files_of job owned.owner owned.step).first
unfolding files_of
few_first job owned few = few_of_input job owned.owner owned.step 0 few

few_second : (job : ℕ) (owned : OwnedStep) → IsStepFew 100000 owned.step → HasFewCards (files_of job owned.owner owned.step).second
unfolding files_of
few_second job owned few = few_of_input job owned.owner owned.step 1 few

-- a running step can go on whose data sets the tables have
pub runnable-at : (layout : Layout) (tables : TablesModel) (job step : ℕ) (row : RunRow) (owned : OwnedStep) (on : RunningStepView) (after : Named TableSet) → AllByRecursion IsAcceptedRow tables.runs
    → run_of tables job ≡ Some row → step_of_run row step ≡ Some owned → AreLaidOut layout after → on.step.files ≡ files_of row.job.root owned.owner owned.step → AreCounted on.step
    → ((name : Name) → is_among (names_of row.job.root owned) name ≡ true → is_some (entry_at after name) ≡ true)
    → ((name : Name) → set_of on.sets name ≡ cond (is_among (names_of row.job.root owned) name) (set_in_tables after name) None)
    → on.code ≡ None → IsRunnable layout on
runnable-at layout tables job step row owned on after rows at there laid is counted kept has code =
    let own = is_own tables job step row owned rows at there in
    let start : StepStart = record { root = row.job.root; owned = owned; number = step; standing = record { sets = []; passed = [] }; earlier = [] } in
    let names : (name : Name) → is_among (names_of row.job.root owned) name ≡ true → (set : DataSet) × (set_of on.sets name ≡ Some set) =
    λ name among.
    let set = set_there after name (kept name among) in
    (set.0, has name ∙ ap (λ b. cond b (set_in_tables after name) None) among ∙ set.1) in
    let first : HasFewCards (files_at start).first = few_first row.job.root owned own.few in
    let second : HasFewCards (files_at start).second = few_second row.job.root owned own.few in
    record {
      stored = are-stored layout after on.sets (is_among (names_of row.job.root owned)) laid has;
      there =
          subst (λ files. AreThere files on.sets) (sym is)
          (are-there start on.sets names own.distinct first second);
      counted = counted;
      coded = subst IsAnyCode (sym code) tt;
    }

-- a step that has started can go on
pub is-runnable : (layout : Layout) (tables : TablesModel) (job step : ℕ) (items : ArrayVec Made) (deck : Option Job) (row : RunRow) (owned : OwnedStep) (on : RunningStepView) → AllByRecursion IsAcceptedRow tables.runs
    → IsStarting layout tables job step items.items row owned → AreLaidOut layout (after_event (Started job step items) deck tables).sets
    → on.step ≡ begun row.job.root owned → AreCounted on.step
    → ((name : Name) → set_of on.sets name ≡ cond (is_among (names_of row.job.root owned) name) (set_in_tables (after_event (Started job step items) deck tables).sets name) None)
    → on.code ≡ None → IsRunnable layout on
is-runnable layout tables job step items deck row owned on rows its laid is counted has code =
    let after : Named TableSet = (after_event (Started job step items) deck tables).sets in
    runnable-at layout tables job step row owned on after rows its.row_at its.found laid (ap (λ (s : StepRun). s.files) is) counted
    (λ name among.
    subst (λ (t : TablesModel). is_some (entry_at t.sets name) ≡ true) (sym (behind_start tables job step items deck row owned its.row_at its.found))
    (names-there tables row owned step items.items its.flawless name among)) has code
