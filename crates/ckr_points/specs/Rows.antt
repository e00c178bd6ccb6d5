-- The tables of the desk, as the events are folded into them.
use Rattle.std.specs.Prelude.{ℕ, zero, suc, Bool, List, [], filter, map, slice_get, slice_set, Option, None}
use Rattle.ckr_base.specs.declared.code.Code.{Code}
use Rattle.ckr_jcl.specs.declared.deck.Job.{Job}
use Rattle.ckr_library.specs.declared.sets.DataSet.{DataSet}
use Rattle.ckr_library.specs.declared.sets.Kept.{Kept}
use Rattle.ckr_library.specs.Catalog.{ends_within, Holding}
use Rattle.ckr_library.specs.NameMaps.{Name, Named}
use Rattle.ckr_meaning.specs.LibrarySet.{SetWays}
use Rattle.ckr_entry.specs.declared.point.Passed.{Passed}
use Rattle.ckr_meaning.specs.Dispositions.{Stock}
use Rattle.ckr_meaning.specs.EffectiveJob.{Effective, OwnedStep, step_at}
use Rattle.ckr_entry.specs.declared.point.Mark.{Mark}
use Rattle.ckr_meaning.specs.JobRun.{StepCodes}
use Rattle.ckr_meaning.specs.declared.place.Place.{Place}
use Rattle.ckr_points.specs.declared.run.RunState.{RunState}

-- the point of a checkpoint, its state aside
pub record EntryPoint : Type 0 where
  pub job : Name
  pub run : ℕ
  pub owner : ℕ
  pub step : ℕ
  pub step_name : Name
  pub count : ℕ
  pub taken : ℕ
  pub writes : ℕ
  pub marks : List Mark
  pub passed : List Passed

-- an entry that a data set keeps, with its point
pub record KeptEntry : Type 0 where
  pub kept : Kept
  pub point : EntryPoint

-- a data set with the entries that it keeps
pub record TableSet : Type 0 where
  pub set : DataSet
  pub entries : List KeptEntry

-- what was at the start of a step
pub record StartPoint : Type 0 where
  pub step : ℕ
  pub restarts : ℕ
  pub rewritten : Bool
  pub count : ℕ
  pub marks : List Mark
  pub passed : List Passed

-- the checkpoint in effect
pub record EffectPoint : Type 0 where
  pub set : Name
  pub kept : Kept
  pub restarts : ℕ
  pub rewritten : Bool

-- A run. Its passed list is that of its job; a run that was continued may have lost some of these names.
pub record RunRow : Type 0 where
  pub number : ℕ
  pub deck : Job
  pub job : Effective
  pub state : RunState
  pub initiator : Option ℕ
  pub earlier : ℕ
  pub earlier_step : ℕ
  pub place : Option Place
  pub code : Option Code
  pub count : ℕ
  pub rcs : StepCodes
  pub passed : List Passed
  pub lost : List Name
  pub points : List StartPoint
  pub in_effect : Option EffectPoint

pub record TablesModel : Type 0 where
  pub sets : Named TableSet
  pub runs : List RunRow

-- the tables of no events
abbrev pub no_tables : TablesModel
no_tables = record { sets = []; runs = [] }

-- a run by its number, from 1
abbrev pub run_of : TablesModel → ℕ → Option RunRow
run_of tables zero = None
run_of tables (suc before) = slice_get tables.runs before

abbrev pub with_row : RunRow → ℕ → List RunRow → List RunRow
with_row row zero runs = runs
with_row row (suc before) runs = slice_set runs before row

-- the tables with a run's row, in the place of its number
abbrev pub with_run : RunRow → TablesModel → TablesModel
with_run row tables = record tables { runs = with_row row row.number tables.runs }

-- the data sets, and the passed list of a run
abbrev pub standing_of : RunRow → TablesModel → Stock TableSet
standing_of row tables = record { sets = tables.sets; passed = row.passed }

-- the tables with a run's row and these data sets, the passed list with them
abbrev pub with_standing : RunRow → Stock TableSet → TablesModel → TablesModel
with_standing row standing tables =
    with_run (record row { passed = standing.passed }) (record tables { sets = standing.sets })

-- a data set cut to a length, without the entries that end beyond it
abbrev pub cut_set : ℕ → TableSet → TableSet
cut_set most table = record {
  set = record table.set { length = most };
  entries = filter (λ entry. ends_within most entry.kept) table.entries;
}

-- the changes of a data set with its length
abbrev pub table_ways : SetWays TableSet
table_ways = record {
  known = λ table. record { cataloged = table.set.cataloged; content = table.set.content };
  marked = λ on table. record table { set = record table.set { cataloged = on } };
  emptied = λ table. cut_set 0 table;
  stamped = λ stamp table. record table { set = record table.set { stamp = stamp } };
}

-- a data set as the library has it, without the points of its entries
abbrev pub holding_of : TableSet → Holding
holding_of table = record { set = table.set; kept = map (λ entry. entry.kept) table.entries }

-- the step of a run by its number
abbrev pub step_of_run : RunRow → ℕ → Option OwnedStep
step_of_run row number = step_at row.job number
