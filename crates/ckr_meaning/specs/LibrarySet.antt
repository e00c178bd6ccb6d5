-- The library as its data sets with their records. It has no volumes, which no two libraries are compared by.
use Rattle.std.specs.Prelude.{◌≡◌, ◌≤◌, ℕ, Bool, List, [], length, All}
use Rattle.ckr_library.specs.declared.sets.Content.{Content}
use Rattle.ckr_library.specs.declared.sets.Stamp.{Stamp}
use Rattle.ckr_library.specs.NameMaps.{Named, EachEntry}

-- a data set with its records; those of a checkpoint data set aren't compared, and it has none here
pub record LibrarySet : Type 0 where
  pub cataloged : Bool
  pub lrecl : ℕ
  pub space : ℕ
  pub content : Content
  pub stamp : Stamp
  pub records : List (List ℕ)

abbrev pub Library : Type 0
Library = Named LibrarySet

-- what allocation asks of a data set that is there
pub record Known : Type 0 where
  pub cataloged : Bool
  pub content : Content

-- how a data set is seen and changed, whether it is kept with its records or with its length
pub record SetWays (X : Type 0) : Type 0 where
  pub known : X → Known
  pub marked : Bool → X → X
  pub emptied : X → X
  pub stamped : Stamp → X → X

-- those of a data set that is kept with its records
abbrev pub record_ways : SetWays LibrarySet
record_ways = record {
  known = λ set. record { cataloged = set.cataloged; content = set.content };
  marked = λ on set. record set { cataloged = on };
  emptied = λ set. record set { records = [] };
  stamped = λ stamp set. record set { stamp = stamp };
}

-- each record is as long as the data set says
abbrev pub HasRecordLength : LibrarySet → Type 0
HasRecordLength set = All (λ image. length image ≡ set.lrecl) set.records

-- so it is in each data set of the library
abbrev pub HasRecordLengths : Library → Type 0
HasRecordLengths library = EachEntry HasRecordLength library

-- it has no more records than there is space for
abbrev pub IsWithinSpace : LibrarySet → Type 0
IsWithinSpace set = length set.records ≤ set.space

-- so it is with each data set of the library
abbrev pub AreWithinSpace : Library → Type 0
AreWithinSpace library = EachEntry IsWithinSpace library
