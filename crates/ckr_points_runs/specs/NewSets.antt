-- What a step makes, by the items of its event.
use Rattle.std.specs.Prelude.{◌≡◌, ◌≤◌, ℕ, suc, ◌==◌, Bool, true, List, [], ◌∷◌, filter, length, unwrap_or, if◌then◌else◌, Option, None, Some}
use Rattle.std.specs.List.{list_any, AllByRecursion}
use Rattle.ckr_events.specs.declared.event.Made.{Made}
use Rattle.ckr_jcl.specs.declared.deck.Dd.{Dd}
use Rattle.ckr_library.specs.declared.sets.DataSet.{DataSet}
use Rattle.ckr_library.specs.declared.sets.Stamp.{Stamp}
use Rattle.ckr_library.specs.NameMaps.{Name, Named, entry_at, with_entry}
use Rattle.ckr_meaning.specs.Allotments.{space_for}
use Rattle.ckr_points.specs.Tables.{part_of, parts_from}
use Rattle.ckr_points_library.specs.Allocation.{fresh_set}

-- whether the items make the data set of a DD
abbrev pub has_items : ℕ → List Made → Bool
has_items number items = list_any (λ (item : Made). item.dd == number) items

abbrev pub items_for : ℕ → List Made → List Made
items_for number items = filter (λ (item : Made). item.dd == number) items

-- the data sets with what the items make, DD by DD
module _ {X : Type 0} (fresh : DataSet → X) (stamp : Stamp) (items : List Made) where
  abbrev pub made_one : ℕ → Dd → Name → Named X → Named X
  made_one number dd name sets =
      if has_items number items then with_entry name (fresh (fresh_set stamp dd (parts_from number items))) sets else sets

  abbrev pub made_named : ℕ → Dd → Option Name → Named X → Named X
  made_named number dd None sets = sets
  made_named number dd (Some name) sets = made_one number dd name sets

  abbrev pub made_from : (Dd → Option Name) → ℕ → List Dd → Named X → Named X
  made_from named number [] sets = sets
  made_from named number (dd ∷ dds) sets = made_from named (suc number) dds (made_named number dd (named dd) sets)

abbrev pub HasRecords : ℕ → Made → Type 0
HasRecords records item = (part_of item).records ≡ records

-- what is made isn't there, in at most five parts that have its space, and its records have a byte
pub record MayMake {X : Type 0} (items : List Made) (number : ℕ) (dd : Dd) (name : Name) (sets : Named X) : Type 0 where
  pub absent : has_items number items ≡ true → entry_at sets name ≡ None
  pub few : length (items_for number items) ≤ 5
  pub whole : AllByRecursion (HasRecords (unwrap_or dd.space 0)) (items_for number items)
  pub small : has_items number items ≡ true → space_for dd ≤ 1000000
  pub wide : has_items number items ≡ true → 1 ≤ dd.lrecl

module _ {X : Type 0} (fresh : DataSet → X) (stamp : Stamp) (items : List Made) where
  abbrev pub MayMakeNamed : ℕ → Dd → Option Name → Named X → Type 0
  MayMakeNamed number dd None sets = Unit {0}
  MayMakeNamed number dd (Some name) sets = MayMake items number dd name sets

  abbrev pub MayMakeAll : (Dd → Option Name) → ℕ → List Dd → Named X → Type 0
  MayMakeAll named number [] sets = Unit {0}
  MayMakeAll named number (dd ∷ dds) sets =
      MayMakeNamed number dd (named dd) sets
      × MayMakeAll named (suc number) dds (made_named fresh stamp items number dd (named dd) sets)
