-- How the items of a library, in the order of their names, are read as its catalog.
use Rattle.std.specs.Prelude.{◌≡◌, ℕ, ◌-◌, ◌<◌, Bool, false, IsTrue, List, length, map, slice_get, Option, Some, None, vec_len, vec_capacity}
use Rattle.std.specs.List.{AllByRecursion, filter_map}
use Rattle.std.specs.Ordering.{is_gt}
use Rattle.std.specs.FinMap.Entries.{is_sorted}
use Rattle.ckr_library.specs.declared.shelf.Held.{Held}
use Rattle.ckr_library.specs.Catalog.{Holding}
use Rattle.ckr_library.specs.NameMaps.{Name, Named, name_cmp}
use Rattle.ckr_library.specs.Places.{lead}

abbrev pub holding_of : Held → Holding
holding_of held = record { set = held.set; kept = held.kept.items }

-- an item as the entry of its name
abbrev pub entry_of : Held → Name × Holding
entry_of held = (held.name, holding_of held)

abbrev pub entries_of : List Held → Named Holding
entries_of items = map entry_of items

-- how many more entries an item keeps with no memory taken, under its name
abbrev pub room_of : Held → Name × ℕ
room_of held = (held.name, vec_capacity held.kept - vec_len held.kept)

abbrev pub rooms_of : List Held → Named ℕ
rooms_of items = map room_of items

-- whether the items stand in ascending order of their names, each name once
abbrev pub are_in_order : List Held → Bool
are_in_order items = is_sorted name_cmp (entries_of items)

-- the place of a name: before it stand the lower names alone
abbrev pub place_in : Name → List Held → ℕ
place_in name items = lead (λ (held : Held). is_gt (name_cmp name held.name)) items

-- the items at these places, in this order
abbrev pub picked : List ℕ → List Held → List Held
picked order items = filter_map (slice_get items) order

-- each of these places has one of so many items
abbrev pub AreInside : List ℕ → ℕ → Type 0
AreInside order count = AllByRecursion (λ place. place < count) order

-- the items and an order that has the place of each of them, in ascending order of their names
pub record AreShelved (order : List ℕ) (items : List Held) : Type 0 where
  pub count : length order ≡ length items
  pub inside : AreInside order (length items)
  pub rise : IsTrue (are_in_order (picked order items))

-- whether a name stands above that of an item, if there is one
abbrev pub is_above_at : Name → Option Held → Bool
is_above_at name None = false
is_above_at name (Some held) = is_gt (name_cmp name held.name)
