-- When a layout is one volume after another, when a data set stands in a layout, and when two lie apart.
use Rattle.std.specs.Prelude.{◌≡◌, ◌≤◌, ℕ, ◌+◌, ◌*◌, Bool, true, not, ◌&&◌, ◌||◌, ◌==◌, nat_le, nat_lt, IsTrue, List, [], ◌∷◌, length, sum_by}
use Rattle.std.specs.List.{list_all}
use Rattle.ckr_library.specs.declared.sets.DataSet.{DataSet}
use Rattle.ckr_library.specs.declared.sets.Part.{Part}
use Rattle.ckr_volumes.specs.declared.layout.Layout.{Layout}
use Rattle.ckr_volumes.specs.declared.layout.Volume.{Volume}
use Rattle.ckr_volumes.specs.Places.{StretchModel, stretches_of_part, stretches_of, records_in, end_of, bytes_of}

-- how many bytes stand before the volumes: the header, the book and two image areas
abbrev pub front_of : Layout → ℕ
front_of layout = 512 + layout.book + 2 * layout.image

-- one volume after another, the first at this byte
abbrev pub volumes_follow : ℕ → List Volume → Bool
volumes_follow at [] = true
volumes_follow at (volume ∷ rest) = volume.start == at && volumes_follow (at + volume.bytes) rest

abbrev pub volumes_end : ℕ → List Volume → ℕ
volumes_end at [] = at
volumes_end at (volume ∷ rest) = volumes_end (at + volume.bytes) rest

-- the volumes stand one after another behind what comes before them
abbrev pub is_laid_out : Layout → Bool
is_laid_out layout = volumes_follow (front_of layout) layout.volumes.items

-- how many bytes of a disk a layout needs
abbrev pub disk_needed : Layout → ℕ
disk_needed layout = volumes_end (front_of layout) layout.volumes.items

-- inside its volume, which is there
abbrev pub is_inside : List Volume → ℕ → StretchModel → Bool
is_inside volumes lrecl stretch = nat_lt stretch.volume (length volumes) && nat_le (end_of lrecl stretch) (bytes_of volumes stretch.volume)

-- one ends where the other starts, or before, or one of them has no byte
abbrev pub are_disjoint : ℕ → ℕ → StretchModel → StretchModel → Bool
are_disjoint lrecl other_lrecl one other =
    (one.records == 0 || other.records == 0) || (nat_le (end_of lrecl one) other.start || nat_le (end_of other_lrecl other) one.start)

-- two stretches, of records of these lengths, have no byte in common
abbrev pub are_apart : ℕ → ℕ → StretchModel → StretchModel → Bool
are_apart lrecl other_lrecl one other = not (one.volume == other.volume) || are_disjoint lrecl other_lrecl one other

abbrev pub all_apart : ℕ → List StretchModel → Bool
all_apart lrecl [] = true
all_apart lrecl (stretch ∷ rest) = list_all (are_apart lrecl lrecl stretch) rest && all_apart lrecl rest

-- each stretch of one list from each of another
abbrev pub lists_apart : ℕ → ℕ → List StretchModel → List StretchModel → Bool
lists_apart lrecl other_lrecl ones others = list_all (λ one. list_all (are_apart lrecl other_lrecl one) others) ones

-- two data sets lie apart
abbrev pub lie_apart : DataSet → DataSet → Bool
lie_apart one other = lists_apart one.lrecl other.lrecl (stretches_of one) (stretches_of other)

-- the extents of a part sum to its records
abbrev pub sums_up : Part → Bool
sums_up part = part.records == records_in (stretches_of_part part)

-- a data set stands in a layout
pub record StandsIn (layout : Layout) (set : DataSet) : Type 0 where
  pub volumes_exist : IsTrue (list_all (λ part. nat_lt part.volume (length layout.volumes.items)) set.parts.items)
  pub inside : IsTrue (list_all (is_inside layout.volumes.items set.lrecl) (stretches_of set))
  pub apart : IsTrue (all_apart set.lrecl (stretches_of set))
  pub parts : IsTrue (list_all sums_up set.parts.items)
  pub sum : sum_by (λ part. part.records) set.parts.items ≡ set.space
  pub length_fits : set.length ≤ set.space
  pub lrecl_above : 1 ≤ set.lrecl
  pub lrecl_below : set.lrecl ≤ 256
  pub space_above : 1 ≤ set.space
  pub space_below : set.space ≤ 1000000
