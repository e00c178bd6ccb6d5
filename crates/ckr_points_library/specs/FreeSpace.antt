-- A new part in bytes of a volume that lie in no extent.
use Rattle.std.specs.Prelude.{◌≡◌, false, IsTrue, nat_lt, length, Some}
use Rattle.std.specs.List.{list_all}
use Rattle.ckr_jcl.specs.declared.deck.Dd.{Dd}
use Rattle.ckr_library.specs.declared.sets.Part.{Part}
use Rattle.ckr_library.specs.Catalog.{Holding}
use Rattle.ckr_library.specs.NameMaps.{Name, Named, entry_at, same_name}
use Rattle.ckr_volumes.specs.declared.layout.Layout.{Layout}
use Rattle.ckr_volumes.specs.Places.{stretches_of, stretches_of_part}
use Rattle.ckr_volumes.specs.Layouts.{all_apart, is_inside, lie_apart, lists_apart, sums_up}
use Rattle.ckr_points_library.specs.Allocation.{space_of}

-- a part that a DD may have: inside its volume, of all the records, and apart from each extent of each data set
pub record LiesFree (layout : Layout) (sets : Named Holding) (dd : Dd) (part : Part) : Type 0 where
  pub there : IsTrue (nat_lt part.volume (length layout.volumes.items))
  pub inside : IsTrue (list_all (is_inside layout.volumes.items dd.lrecl) (stretches_of_part part))
  pub alone : IsTrue (all_apart dd.lrecl (stretches_of_part part))
  pub whole : IsTrue (sums_up part)
  pub records : part.records ≡ space_of dd
  pub apart : (name : Name) (holding : Holding) → entry_at sets name ≡ Some holding → IsTrue (lists_apart dd.lrecl holding.set.lrecl (stretches_of_part part) (stretches_of holding.set))

-- any two data sets lie apart
abbrev pub AllApart : Named Holding → Type 0
AllApart sets = (name other : Name) (one two : Holding) → entry_at sets name ≡ Some one → entry_at sets other ≡ Some two → same_name name other ≡ false → IsTrue (lie_apart one.set two.set)
