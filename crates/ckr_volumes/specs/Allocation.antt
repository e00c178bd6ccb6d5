-- What allocation promises, in words of the bytes of a volume.
use Rattle.std.specs.Prelude.{◌≡◌, ◌≤◌, ◌<◌, ℕ, ◌*◌, IsTrue, List, [], ◌∷◌, Some}
use Rattle.ckr_library.specs.declared.sets.DataSet.{DataSet}
use Rattle.ckr_library.specs.declared.sets.Extent.{Extent}
use Rattle.ckr_library.specs.Catalog.{Catalog, set_of}
use Rattle.ckr_library.specs.NameMaps.{Name}
use Rattle.ckr_volumes.specs.declared.layout.Layout.{Layout}
use Rattle.ckr_volumes.specs.declared.layout.NoSpace.{NoSpace}
use Rattle.ckr_volumes.specs.Places.{stretch_on, stretches_of}
use Rattle.ckr_volumes.specs.Space.{is_free}
use Rattle.ckr_volumes.specs.Layouts.{is_inside, lists_apart}

-- The extents of a new part: one, of all its records, in bytes that lie in no extent; no lower bytes are free that hold
-- the records; and it is apart from each extent of each data set.
pub record Allotted (layout : Layout) (catalog : Catalog) (volume lrecl space : ℕ) (extents : List Extent) : Type 0 where
  pub start : ℕ
  pub one : extents ≡ record { start = start; records = space } ∷ []
  pub inside : IsTrue (is_inside layout.volumes.items lrecl (stretch_on volume (record { start = start; records = space })))
  pub free : IsTrue (is_free layout catalog volume start (space * lrecl))
  pub lowest : (from : ℕ) → IsTrue (is_free layout catalog volume from (space * lrecl)) → start ≤ from
  pub apart : (name : Name) (set : DataSet) → set_of catalog name ≡ Some set → IsTrue (lists_apart lrecl set.lrecl (stretch_on volume (record { start = start; records = space }) ∷ []) (stretches_of set))

-- The space isn't there: no free bytes hold the records, and `free` is the most records that free bytes hold.
pub record Refused (layout : Layout) (catalog : Catalog) (volume lrecl space : ℕ) (cause : NoSpace) : Type 0 where
  pub need : cause.need ≡ space
  pub less : cause.free < space
  pub most : (from records : ℕ) → IsTrue (is_free layout catalog volume from (records * lrecl)) → records ≤ cause.free
  pub there : (from : ℕ) × IsTrue (is_free layout catalog volume from (cause.free * lrecl))
