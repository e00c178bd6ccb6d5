-- What a contract sees of a library.
use Rattle.std.specs.Prelude.{ℕ, ◌+◌, ◌/◌, ◌≤◌, Bool, List, [], ◌∷◌, ◌++◌, filter, nat_le, Option, Some, None, IsSomeAnd}
use Rattle.std.specs.Option.{option_map, option_map_or}
use Rattle.ckr_library.specs.declared.sets.DataSet.{DataSet}
use Rattle.ckr_library.specs.declared.sets.Kept.{Kept}
use Rattle.ckr_library.specs.declared.sets.Stamp.{Stamp}
use Rattle.ckr_library.specs.NameMaps.{Name, Named, entry_at}

-- a data set, and the checkpoint entries that it keeps
pub record Holding : Type 0 where
  pub set : DataSet
  pub kept : List Kept

-- the data sets by name, and what fits with no memory taken: how many more of them, and how many more entries of each name
pub record Catalog : Type 0 where
  pub sets : Named Holding
  pub room : ℕ
  pub entry_rooms : Named ℕ

-- the data set of a name
abbrev pub set_of : Catalog → Name → Option DataSet
set_of catalog name = option_map (λ (h : Holding). h.set) (entry_at catalog.sets name)

abbrev pub kept_in : Option Holding → List Kept
kept_in None = []
kept_in (Some holding) = holding.kept

-- the entries that the data set of a name keeps, and none for a name that isn't there
abbrev pub kept_of : Catalog → Name → List Kept
kept_of catalog name = kept_in (entry_at catalog.sets name)

-- how many more entries the data set of a name keeps with no memory taken
abbrev pub entry_room : Catalog → Name → ℕ
entry_room catalog name = option_map_or (λ room. room) (entry_at catalog.entry_rooms name) 0

-- each name has no less room for entries than before
abbrev pub KeepsEntryRoom : Catalog → Catalog → Type 0
KeepsEntryRoom old new = (name : Name) → entry_room old name ≤ entry_room new name

-- how many records of 256 bytes an entry takes
abbrev pub records_of : ℕ → ℕ
records_of bytes = (bytes + 255) / 256

-- whether an entry ends at this length or before
abbrev pub ends_within : ℕ → Kept → Bool
ends_within length kept = nat_le (kept.place + records_of kept.bytes) length

-- with this length, and without the entries that end beyond it
abbrev pub with_length : ℕ → Holding → Holding
with_length length holding = record { set = record holding.set { length = length }; kept = filter (ends_within length) holding.kept }

abbrev pub with_stamp : Stamp → Holding → Holding
with_stamp stamp holding = record holding { set = record holding.set { stamp = stamp } }

abbrev pub with_catalog : Bool → Holding → Holding
with_catalog on holding = record holding { set = record holding.set { cataloged = on } }

-- with one more entry behind the others
abbrev pub with_kept : Kept → Holding → Holding
with_kept kept holding = record holding { kept = holding.kept ++ kept ∷ [] }

-- a data set with no entry kept
abbrev pub fresh_holding : DataSet → Holding
fresh_holding set = record { set = set; kept = [] }

-- the name is there, with a data set of which this holds
abbrev pub HasSet : Catalog → Name → (DataSet → Type 0) → Type 0
HasSet catalog name P = IsSomeAnd (set_of catalog name) P
