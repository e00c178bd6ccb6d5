-- How many more entries a name has room for, when an item of a shelf is changed.
use Rattle.std.proofs.Common.{◌≡◌, ℕ, zero, suc, ◌<◌, ◌≤◌, true, false, cond, ◌&&◌, List, [], ◌∷◌, length, refl, ap, sym, ◌∙◌, subst, arith, Some, None, slice_get, slice_set, slice_index_or, IsSomeAnd, Result, Ok, Err, OnOk, OnErr}
use Rattle.std.specs.declared.cmp.Ordering.TheVariants.{Equal}
use Rattle.std.specs.Ordering.{is_eq, is_lt}
use Rattle.std.specs.Option.{option_map, option_map_or}
use Rattle.std.specs.Cmp.Lexicographic.{nat_list_cmp_total}
use Rattle.std.specs.FinMap.Entries.{is_sorted, below_all}
use Rattle.std.proofs.lemmas.Option.{same_Some}
use Rattle.ckr_base.proofs.Bools.{T-from-true}
use Rattle.ckr_library.specs.declared.shelf.Held.{Held}
use Rattle.ckr_library.specs.declared.sets.DataSet.{DataSet}
use Rattle.ckr_library.specs.Catalog.{Holding}
use Rattle.ckr_library.specs.NameMaps.{Name, Named, name_cmp, entry_at}
use Rattle.ckr_library.specs.Shelves.{holding_of, entries_of, room_of, rooms_of, place_in}
use Rattle.ckr_library.proofs.Named.{at-with_entry, name-itself}
use Rattle.ckr_library.proofs.OrderedLists.{found_at, find-place, put-present}
use Rattle.ckr_library.proofs.Shelves.{Rise, item_is, place_inside, placed, there}

-- what is told of each answer, by what was told of it
pub on-ok : {V E A B : Type 0} (answer : Result V E) → (A → B) → OnOk answer A → OnOk answer B
on-ok (Ok value) f told = f told
on-ok (Err error) f told = tt

pub on-err : {V E A B : Type 0} (answer : Result V E) → (A → B) → OnErr answer A → OnErr answer B
on-err (Ok value) f told = tt
on-err (Err error) f told = f told

pub on-either : {V E A B C : Type 0} (answer : Result V E) → OnOk answer A → OnErr answer B → (A → C) → (B → C) → C
on-either (Ok value) ok err f g = f ok
on-either (Err error) ok err f g = g err

-- how many more entries a name has room for
abbrev pub room_under : List Held → Name → ℕ
room_under items name = option_map_or (λ room. room) (entry_at (rooms_of items) name) 0

below-same : (x : Name) (items : List Held) → below_all name_cmp x (entries_of items) ≡ below_all name_cmp x (rooms_of items)
below-same x [] = refl
below-same x (held ∷ items) = ap (λ b. is_lt (name_cmp x held.name) && b) (below-same x items)

sorted-same : (items : List Held) → is_sorted name_cmp (entries_of items) ≡ is_sorted name_cmp (rooms_of items)
sorted-same [] = refl
sorted-same (held ∷ items) = ap (λ b. b && is_sorted name_cmp (entries_of items)) (below-same held.name items) ∙ ap (λ b. below_all name_cmp held.name (rooms_of items) && b) (sorted-same items)

-- an item that is changed to one of its name with no less room leaves each name no less room
pub rooms-grow : (items : List Held) (place : ℕ) (old new d : Held) → place < length items → old ≡ slice_index_or items place d → new.name ≡ old.name → (room_of old).1 ≤ (room_of new).1 → (name : Name) → room_under items name ≤ room_under (slice_set items place new) name
rooms-grow [] place old new d inside is same more name = absurd (omega (arith, inside))
rooms-grow (held ∷ items) zero old new d inside is same more name =
    let names : new.name ≡ held.name = same ∙ ap (λ (h : Held). h.name) is in
    let rooms : (room_of held).1 ≤ (room_of new).1 = subst (λ (h : Held). (room_of h).1 ≤ (room_of new).1) is more in
    subst (λ n. room_under (held ∷ items) name ≤ option_map_or (λ room. room) (cond (is_eq (name_cmp name n)) (Some (room_of new).1) (entry_at (rooms_of items) name)) 0) (sym names) (
    elim (is_eq (name_cmp name held.name)) as
    (λ b. option_map_or (λ room. room) (cond b (Some (room_of held).1) (entry_at (rooms_of items) name)) 0 ≤ option_map_or (λ room. room) (cond b (Some (room_of new).1) (entry_at (rooms_of items) name)) 0) [
      | true ↦ rooms
      | false ↦ omega arith
    ])
rooms-grow (held ∷ items) (suc place) old new d inside is same more name =
    elim (is_eq (name_cmp name held.name)) as
    (λ b. option_map_or (λ room. room) (cond b (Some (room_of held).1) (entry_at (rooms_of items) name)) 0 ≤ option_map_or (λ room. room) (cond b (Some (room_of held).1) (entry_at (rooms_of (slice_set items place new)) name)) 0) [
      | true ↦ omega arith
      | false ↦ rooms-grow items place old new d (omega (arith, inside)) is same more name
    ]

-- an item that is changed to one that is seen the same leaves the entries as they were
pub entries-same : (items : List Held) (place : ℕ) (old new d : Held) → place < length items → old ≡ slice_index_or items place d → new.name ≡ old.name → holding_of new ≡ holding_of old → entries_of (slice_set items place new) ≡ entries_of items
entries-same [] place old new d inside is same seen = absurd (omega (arith, inside))
entries-same (held ∷ items) zero old new d inside is same seen =
    λ i. ((same ∙ ap (λ (h : Held). h.name) is) i, (seen ∙ ap holding_of is) i) ∷ entries_of items
entries-same (held ∷ items) (suc place) old new d inside is same seen =
    ap (λ rest. (held.name, holding_of held) ∷ rest) (entries-same items place old new d (omega (arith, inside)) is same seen)

-- the room of a name that stands at its place
module _ (items : List Held) (rise : Rise items) (sets : Named Holding) (seen : entries_of items ≡ sets) (name : Name) (place : ℕ) (at : place ≡ place_in name items) (P : DataSet → Type 0) (has : IsSomeAnd (option_map (λ (h : Holding). h.set) (entry_at sets name)) P) where
  at_old : (old : Held) → old ≡ slice_index_or items place old → slice_get items (place_in name items) ≡ Some old
  at_old old here = ap (slice_get items) (sym at) ∙ item_is items place old old (place_inside items rise sets seen name place at P has) here

  tied : (old : Held) → old ≡ slice_index_or items place old → name_cmp name old.name ≡ Equal
  tied old here =
      let found = placed items rise name (there items rise sets seen name place at P has) in
      ap (λ (h : Held). name_cmp name h.name) (same_Some old found.0 (sym (at_old old here) ∙ found.1)) ∙ found.2

  pub room-here : (old : Held) → old ≡ slice_index_or items place old → room_under items name ≡ (room_of old).1
  room-here old here =
      ap (λ found. option_map_or (λ room. room) found 0) (
      find-place name_cmp room_of nat_list_cmp_total name items (T-from-true _ (sym (sorted-same items) ∙ rise)) ∙ ap (found_at name_cmp room_of name) (at_old old here)
      ∙ ap (λ r. cond (is_eq r) (Some (room_of old).1) None) (tied old here)
      )

  pub room-after : (old new : Held) → old ≡ slice_index_or items place old → new.name ≡ old.name → room_under (slice_set items place new) name ≡ (room_of new).1
  room-after old new here same =
      ap (λ rooms. option_map_or (λ room. room) (entry_at rooms name) 0) (
      ap (λ i. rooms_of (slice_set items i new)) at ∙ sym (put-present name_cmp room_of name (room_of new).1 old new items (at_old old here) (tied old here) (ap (λ n. (n, (room_of new).1)) same))
      ) ∙ ap (λ found. option_map_or (λ room. room) found 0) (
      at-with_entry name name (room_of new).1 (rooms_of items) ∙ ap (λ b. cond b (Some (room_of new).1) (entry_at (rooms_of items) name)) (name-itself name)
      )
