-- The data set that a step rewrites in place, and the place there for the record that an event tells.
use Rattle.std.specs.Prelude.{◌≡◌, ◌<◌, ℕ, List, length, find, Option, None, Some, option_and_then}
use Rattle.std.specs.Option.{option_map_or}
use Rattle.ckr_events.specs.declared.event.Event.{Event}
use Rattle.ckr_events.specs.declared.event.Event.TheVariants.{Rewritten}
use Rattle.ckr_library.specs.NameMaps.{Name, entry_at}
use Rattle.ckr_meaning.specs.EffectiveJob.{OwnedStep, name_of}
use Rattle.ckr_points.specs.Tables.{is_updates}
use Rattle.ckr_points.specs.Restart.{place_of, step_in}
use Rattle.ckr_points.specs.Rows.{RunRow, TableSet, TablesModel, run_of, step_of_run}

-- the name of what the step updates that a run is in
abbrev pub updated_in : RunRow → OwnedStep → Option Name
updated_in row owned = option_and_then (name_of row.job.root owned) (find (λ dd. is_updates dd.role) owned.step.dds)

abbrev pub updated_by : RunRow → Option Name
updated_by row = option_map_or (updated_in row) (step_of_run row (step_in (place_of row))) None

-- a run is in a step whose updated data set is there, with a place of this number and records as long as this one
pub record HasPlaceFor (tables : TablesModel) (job place : ℕ) (image : List ℕ) : Type 0 where
  pub row : RunRow
  pub found : run_of tables job ≡ Some row
  pub name : Name
  pub updates : updated_by row ≡ Some name
  pub table : TableSet
  pub there : entry_at tables.sets name ≡ Some table
  pub within : place < table.set.space
  pub long : length image ≡ table.set.lrecl

-- so it is with the record that an event tells, if it tells one, by the tables behind it
abbrev pub HasRecordPlace : Event → TablesModel → Type 0
HasRecordPlace (Rewritten job taken writes lengths place image) tables = HasPlaceFor tables job place image
HasRecordPlace _ tables = Unit {0}
