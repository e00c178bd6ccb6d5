-- The dispositions of a step, and what its end needs.
use Rattle.std.specs.Prelude.{◌≡◌, ◌≤◌, ◌<◌, ℕ, Bool, true, List, length, Option, None, Some}
use Rattle.std.specs.List.{list_all}
use Rattle.ckr_points_library.specs.Commit.{is_named, output_names, AreWithinSpace}
use Rattle.ckr_points_library.specs.Disposals.{disposals_in}
use Rattle.ckr_events.specs.declared.event.Ending.{Ending}
use Rattle.ckr_events.specs.declared.event.Ending.TheVariants.{Completed, Coded, Allocation}
use Rattle.ckr_library.specs.Catalog.{Catalog, Holding}
use Rattle.ckr_library.specs.NameMaps.{Name, Named, entry_at}
use Rattle.ckr_meaning.specs.Dispositions.{Disposal}
use Rattle.ckr_meaning.specs.EffectiveJob.{OwnedStep, step_at}
use Rattle.ckr_points_runs.specs.RunJobs.{effective}
use Rattle.ckr_points_runs.specs.declared.run_table.RunTable.{RunTable}
use Rattle.ckr_points_runs.specs.MadeNames.{made_flags}
use Rattle.ckr_points_runs.specs.Rewrite.{master_name, MayRestamp}
use Rattle.ckr_points.specs.Rows.{StartPoint}

-- the dispositions of a step, in the order of its DDs, by which of its names the steps before it made
abbrev pub disposals_at : ℕ → List StartPoint → List Bool → ℕ → Bool → OwnedStep → List Disposal
disposals_at root points earlier step abnormal own = disposals_in root own (made_flags root points step own) earlier abnormal

-- one length for each output of a step, at most its space
pub record AreLengths (root : ℕ) (lengths : List ℕ) (sets : Named Holding) (own : OwnedStep) : Type 0 where
  pub count : length lengths ≡ length (output_names root own)
  pub space : AreWithinSpace (output_names root own) lengths sets

abbrev pub AreLengthsOf : ℕ → List ℕ → Named Holding → Option OwnedStep → Type 0
AreLengthsOf root lengths sets None = Unit {0}
AreLengthsOf root lengths sets (Some own) = AreLengths root lengths sets own

-- each output of a step has a name
abbrev pub HasNamedOutputs : ℕ → Option OwnedStep → Type 0
HasNamedOutputs root None = Unit {0}
HasNamedOutputs root (Some own) = list_all is_named (output_names root own) ≡ true

-- a spare place in a passed list for each name of a step
abbrev pub HasPassedRoom : ℕ → Option OwnedStep → Type 0
HasPassedRoom room None = Unit {0}
HasPassedRoom room (Some own) = length own.step.dds ≤ room

-- the lengths that an ending carries are those of the step
abbrev pub HasLengths : ℕ → Ending → Named Holding → Option OwnedStep → Type 0
HasLengths root Completed sets found = Unit {0}
HasLengths root (Coded code rule writes lengths) sets found = AreLengthsOf root lengths.items sets found
HasLengths root (Allocation dd cause first second) sets found = Unit {0}

-- what the end of a step needs
pub record MayEndStep (run step : ℕ) (lengths : List ℕ) (table : RunTable) (library : Catalog) : Type 0 where
  pub fits : AreLengthsOf table.job.root lengths library.sets (step_at (effective run table.job) step)
  pub passed : HasPassedRoom table.passed.room (step_at (effective run table.job) step)
  pub codes : 0 < table.codes.room

-- MASTER of the step has a data set, whose rewrites can be counted
abbrev pub MayRewriteIn : ℕ → Named Holding → Option OwnedStep → Type 0
MayRewriteIn root sets None = Unit {0}
MayRewriteIn root sets (Some own) = (name : Name) × (master_name root own ≡ Some name) × ((one : Name) → MayRestamp (entry_at sets one))

-- what the rewrite of a record needs
pub record MayRewrite (run step : ℕ) (lengths : List ℕ) (table : RunTable) (library : Catalog) : Type 0 where
  pub fits : AreLengthsOf table.job.root lengths library.sets (step_at (effective run table.job) step)
  pub master : MayRewriteIn table.job.root library.sets (step_at (effective run table.job) step)

-- what the end of a run in a step needs
pub record MayEnd (run step : ℕ) (ending : Ending) (table : RunTable) (library : Catalog) : Type 0 where
  pub fits : HasLengths table.job.root ending library.sets (step_at (effective run table.job) step)
  pub passed : HasPassedRoom table.passed.room (step_at (effective run table.job) step)
