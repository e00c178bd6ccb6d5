-- The data sets of a running step in memory, beside the tables and the disk.
use Rattle.std.specs.Prelude.{◌≡◌, ◌≤◌, true, List, Some}
use Rattle.ckr_library.specs.declared.sets.DataSet.{DataSet}
use Rattle.ckr_library.specs.Catalog.{Catalog, set_of}
use Rattle.ckr_library.specs.NameMaps.{Name, Named, entry_at}
use Rattle.ckr_meaning.specs.EffectiveJob.{is_among}
use Rattle.ckr_points.specs.Rows.{TableSet}
use Rattle.ckr_volumes.specs.SamePlaces.{SamePlaces}

-- a data set in memory lies where the tables have it, and is no shorter
pub record LiesThere (table : TableSet) (set : DataSet) : Type 0 where
  pub places : SamePlaces table.set set
  pub space : set.space ≡ table.set.space
  pub longer : table.set.length ≤ set.length

-- the data sets in memory are those that the tables have under these names
pub record HasSets (tables : Named TableSet) (names : List Name) (sets : Catalog) : Type 0 where
  pub from : (name : Name) (set : DataSet) → set_of sets name ≡ Some set → (table : TableSet) × (entry_at tables name ≡ Some table) × LiesThere table set
  pub each : (name : Name) (table : TableSet) → is_among names name ≡ true → entry_at tables name ≡ Some table → (set : DataSet) × (set_of sets name ≡ Some set) × LiesThere table set
