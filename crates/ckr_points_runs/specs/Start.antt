-- What the start of a step makes of a run, and of the library.
use Rattle.std.specs.Prelude.{◌≤◌, ◌<◌, ℕ, false, List, length, Option, None, Some}
use Rattle.std.specs.Option.{option_map, option_map_or}
use Rattle.ckr_points_library.specs.Holdings.{holding_ways, standing}
use Rattle.ckr_events.specs.declared.event.Made.{Made}
use Rattle.ckr_library.specs.Catalog.{Catalog, Holding, fresh_holding}
use Rattle.ckr_library.specs.NameMaps.{Named}
use Rattle.ckr_meaning.specs.Allotments.{opened_all}
use Rattle.ckr_meaning.specs.EffectiveJob.{OwnedStep, name_of, names_of_job, placed_in, stamp_of, step_at}
use Rattle.ckr_meaning.specs.declared.place.Place.TheVariants.{Within}
use Rattle.ckr_points_runs.specs.NewSets.{made_from, MayMakeAll}
use Rattle.ckr_points.specs.Marks.{mark_now, point_at, with_point}
use Rattle.ckr_points.specs.Rows.{StartPoint, TableSet}
use Rattle.ckr_points_runs.specs.RunJobs.{effective}
use Rattle.ckr_points_runs.specs.RunMarks.{point_marks}
use Rattle.ckr_points_runs.specs.View.{RunTableView, facts_of, seen_by, table_of}
use Rattle.ckr_points_runs.specs.declared.spare.Spare.{Spare}
use Rattle.ckr_points_runs.specs.declared.run_table.RunTable.{RunTable}

-- the step point of a step that starts
abbrev pub fresh_point : ℕ → RunTableView → ℕ → Named TableSet → StartPoint
fresh_point run facts step sets = record {
  step = step;
  restarts = option_map_or (λ (point : StartPoint). point.restarts) (point_at facts.points step) 0;
  rewritten = false;
  count = facts.count;
  marks = point_marks run facts (mark_now sets);
  passed = facts.passed;
}

-- the library with a step's outputs opened
abbrev pub opened_by_step : ℕ → ℕ → OwnedStep → RunTableView → Named Holding → Named Holding
opened_by_step run step owned facts sets =
    opened_all holding_ways (stamp_of owned step) (placed_in holding_ways (standing sets facts.passed) facts.job.root owned) sets

abbrev pub started_sets_in : ℕ → ℕ → List Made → RunTableView → Named Holding → OwnedStep → Named Holding
started_sets_in run step items facts sets owned =
    made_from fresh_holding (stamp_of owned step) items (name_of facts.job.root owned) 1 owned.step.dds (opened_by_step run step owned facts sets)

abbrev pub started_point_in : ℕ → ℕ → RunTableView → Named Holding → OwnedStep → StartPoint
started_point_in run step facts sets owned = fresh_point run facts step (seen_by table_of (opened_by_step run step owned facts sets))

abbrev pub started_sets : ℕ → ℕ → List Made → RunTableView → Named Holding → Named Holding
started_sets run step items facts sets =
    option_map_or (started_sets_in run step items facts sets) (step_at (effective run facts.job) step) sets

-- its step point
abbrev pub started_point : ℕ → ℕ → RunTableView → Named Holding → Option StartPoint
started_point run step facts sets = option_map (started_point_in run step facts sets) (step_at (effective run facts.job) step)

abbrev pub started_facts : ℕ → Option StartPoint → RunTableView → RunTableView
started_facts step None facts = facts
started_facts step (Some point) facts = record facts { place = Some (Within step 0); points = with_point point facts.points }

abbrev pub MayStartIn : ℕ → ℕ → List Made → RunTableView → Named Holding → Option OwnedStep → Type 0
MayStartIn run step items facts sets None = Unit {0}
MayStartIn run step items facts sets (Some owned) =
    MayMakeAll fresh_holding (stamp_of owned step) items (name_of facts.job.root owned) 1 owned.step.dds (opened_by_step run step owned facts sets)

-- what the step makes isn't there
abbrev pub MayStart : ℕ → ℕ → List Made → RunTableView → Named Holding → Type 0
MayStart run step items facts sets = MayStartIn run step items facts sets (step_at (effective run facts.job) step)

-- room for a step point
pub record HasPointRoom (run : ℕ) (table : RunTable) (spare : Spare) : Type 0 where
  pub sorted : length (names_of_job (effective run table.job)) ≤ spare.sorted.room
  pub marks : length (names_of_job (effective run table.job)) ≤ spare.marks.room
  pub passed : length table.passed.items ≤ spare.passed.room

-- what the start of a step needs
pub record MayStartNow (run step : ℕ) (items : List Made) (table : RunTable) (library : Catalog) (spare : Spare) : Type 0 where
  pub room : HasPointRoom run table spare
  pub point : 0 < table.points.room
  pub sets : 16 ≤ library.room
  pub may : MayStart run step items (facts_of table) library.sets
