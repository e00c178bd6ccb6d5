-- The data sets of a running step, as the disk has them: that they are there and apart, and what its program reads next.
use Rattle.std.specs.Prelude.{◌≡◌, ◌≤◌, ℕ, false, nat_lt, if◌then◌else◌, IsTrue, List, length, slice_get, Option, None, Some}
use Rattle.ckr_base.specs.declared.programs.Heads.{Heads}
use Rattle.ckr_library.specs.declared.sets.DataSet.{DataSet}
use Rattle.ckr_library.specs.Catalog.{Catalog, set_of, HasSet}
use Rattle.ckr_library.specs.NameMaps.{Name, same_name}
use Rattle.ckr_volumes.specs.declared.layout.Layout.{Layout}
use Rattle.ckr_volumes.specs.Records.{record_at}
use Rattle.ckr_volumes.specs.Layouts.{lie_apart, StandsIn}
use Rattle.ckr_entry.specs.declared.point.State.{State}
use Rattle.ckr_meaning.specs.States.{first_of, second_of}
use Rattle.ckr_steps.specs.declared.files.Files.{Files}
use Rattle.ckr_steps.specs.declared.files.RecordSource.{RecordSource}
use Rattle.ckr_steps.specs.declared.files.RecordSource.TheVariants.{Nowhere, InDeck, InSet}

-- each data set stands in the layout, and those of different names lie apart
pub record AreStored (layout : Layout) (catalog : Catalog) : Type 0 where
  pub stands : (name : Name) (set : DataSet) → set_of catalog name ≡ Some set → StandsIn layout set
  pub apart : (one other : Name) (first second : DataSet) → same_name one other ≡ false → set_of catalog one ≡ Some first → set_of catalog other ≡ Some second → IsTrue (lie_apart first second)

-- an input has at most a million records
abbrev pub IsSourceThere : Catalog → RecordSource → Type 0
IsSourceThere catalog Nowhere = Unit {0}
IsSourceThere catalog (InDeck cards) = length cards ≤ 1000000
IsSourceThere catalog (InSet name) = HasSet catalog name (λ _. Unit {0})

abbrev pub IsSetThere : Catalog → Option Name → Type 0
IsSetThere catalog None = Unit {0}
IsSetThere catalog (Some name) = HasSet catalog name (λ _. Unit {0})

abbrev pub AreSameSet : Option Name → Option Name → Type 0
AreSameSet None other = ⊥
AreSameSet (Some name) None = ⊥
AreSameSet (Some name) (Some other) = IsTrue (same_name name other)

-- the data sets of a program are there, and its two outputs are two data sets
pub record AreThere (files : Files) (catalog : Catalog) : Type 0 where
  pub first : IsSourceThere catalog files.first
  pub second : IsSourceThere catalog files.second
  pub main : IsSetThere catalog files.main
  pub rejects : IsSetThere catalog files.rejects
  pub differ : AreSameSet files.rejects files.main → ⊥

-- the next record of a data set of which so many were taken; at its length it is at its end
abbrev pub head_of_set : List ℕ → Layout → Option DataSet → ℕ → Option (List ℕ)
head_of_set image layout None taken = None
head_of_set image layout (Some set) taken = if nat_lt taken set.length then Some (record_at image layout set taken) else None

-- the next record of an input
abbrev pub head_of : List ℕ → Layout → Catalog → RecordSource → ℕ → Option (List ℕ)
head_of image layout catalog Nowhere taken = None
head_of image layout catalog (InDeck cards) taken = slice_get cards taken
head_of image layout catalog (InSet name) taken = head_of_set image layout (set_of catalog name) taken

-- the next records of the inputs
unfoldable pub heads_of : List ℕ → Layout → Catalog → Files → State → Heads
heads_of image layout catalog files state = record {
  first = head_of image layout catalog files.first (first_of state);
  second = head_of image layout catalog files.second (second_of state);
}
