-- Data sets that end before a byte of their volumes.
use Rattle.std.specs.Prelude.{◌≡◌, ℕ, Bool, nat_le, IsTrue, Some}
use Rattle.std.specs.List.{list_all}
use Rattle.ckr_library.specs.declared.sets.DataSet.{DataSet}
use Rattle.ckr_library.specs.Catalog.{Catalog, set_of}
use Rattle.ckr_library.specs.NameMaps.{Name}
use Rattle.ckr_volumes.specs.Places.{StretchModel, stretches_of, end_of}

-- each of a data set's extents ends at this byte of its volume or before
abbrev pub ends_by : ℕ → DataSet → Bool
ends_by end set = list_all (λ (stretch : StretchModel). nat_le (end_of set.lrecl stretch) end) (stretches_of set)

-- so it is with each data set of the library
pub record EndsBy (end : ℕ) (catalog : Catalog) : Type 0 where
  pub each : (name : Name) (set : DataSet) → set_of catalog name ≡ Some set → IsTrue (ends_by end set)
