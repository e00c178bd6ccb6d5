-- Where the data sets of later tables come from.
use Rattle.std.specs.Prelude.{◌≡◌, ◌≤◌, ℕ, List, Some}
use Rattle.ckr_library.specs.declared.sets.DataSet.{DataSet}
use Rattle.ckr_library.specs.NameMaps.{Name, Named, entry_at}
use Rattle.ckr_points.specs.Office.{Office, model_records}
use Rattle.ckr_points.specs.Rows.{TableSet}
use Rattle.ckr_volumes.specs.declared.layout.Layout.{Layout}
use Rattle.ckr_volumes.specs.Records.{records_on}

-- a data set that is an earlier one in the same places, with the same stamp, and no longer
pub record IsPartOf (new old : DataSet) : Type 0 where
  pub parts : new.parts ≡ old.parts
  pub lrecl : new.lrecl ≡ old.lrecl
  pub stamp : new.stamp ≡ old.stamp
  pub content : new.content ≡ old.content
  pub shorter : new.length ≤ old.length

-- a data set is part of an earlier one of its name, or is empty, or the image has the records that the office has for it
pub data Stems (layout : Layout) (sets : Named TableSet) (office : Office) (image : List ℕ) (name : Name) (table : TableSet) : Type 0 where
  stays : (old : TableSet) → entry_at sets name ≡ Some old → IsPartOf table.set old.set → Stems layout sets office image name table
  empty : table.set.length ≡ 0 → Stems layout sets office image name table
  written : records_on image layout table.set table.set.length ≡ model_records office name → Stems layout sets office image name table
