-- What the calls of a shelf do to its items and their order.
use Rattle.std.proofs.Common.{◌≡◌, ◌≢◌, ◌==◌, ℕ, suc, ◌+◌, ◌-◌, ◌<◌, ◌≤◌, IsTrue, List, [], ◌∷◌, ◌++◌, length, refl, ap, sym, ◌∙◌, subst, Some, None, slice_get, slice_set, slice_index_or, arith, insert, remove, IsSome, IsSomeAnd}
use Rattle.std.specs.List.{position_or_len, swap_remove}
use Rattle.std.specs.FinMap.Entries.{is_sorted}
use Rattle.std.specs.Option.{option_map}
use Rattle.std.proofs.lemmas.List.{length-append, length-set, length-take-le}
use Rattle.std.proofs.lemmas.List.Edits.{length-insert, length-remove}
use Rattle.std.proofs.lemmas.Option.{get_or_from_slice_get, slice_get-get_or, slice_get_within}
use Rattle.ckr_base.proofs.Sequences.{each-get, get-from, get-inside}
use Rattle.ckr_library.specs.declared.shelf.Held.{Held}
use Rattle.ckr_library.specs.declared.sets.DataSet.{DataSet}
use Rattle.ckr_library.specs.Catalog.{Holding}
use Rattle.ckr_library.specs.NameMaps.{Name, Named, name_cmp, entry_at, with_changed, with_entry, without_entry}
use Rattle.ckr_library.specs.Shelves.{holding_of, entries_of, room_of, place_in, picked, AreInside, AreShelved}
use Rattle.ckr_library.proofs.EntryRooms.{entries-same, room-after, room-here, room_under, rooms-grow}
use Rattle.ckr_library.proofs.ItemOrders.{apart-from, apart-gone, inside-inserted, inside-remove, picked-insert, picked-length, picked-moved, picked-remove, picked-set, picked-some}
use Rattle.ckr_library.proofs.Shelves.{Rise, changed, inserted, place_inside, placed, removed, taken}

-- a name with a data set stands inside the order
pub place-within : (order : List ℕ) (items : List Held) → AreInside order (length items) → Rise (picked order items) → (name : Name) → IsSome (entry_at (entries_of (picked order items)) name) → place_in name (picked order items) < length order
place-within order items inside rise name there =
    let found = placed (picked order items) rise name there in
    subst (λ n. place_in name (picked order items) < n) (picked-length order items inside) (get-inside found.0 (picked order items) _ found.1)

pub name-within : (order : List ℕ) (items : List Held) → AreShelved order items → (sets : Named Holding) → entries_of (picked order items) ≡ sets → (name : Name) (P : DataSet → Type 0) → IsSomeAnd (option_map (λ (h : Holding). h.set) (entry_at sets name)) P → (place : ℕ) → place ≡ place_in name (picked order items) → place < length order
name-within order items shelf sets seen name P has place is =
    subst (λ n. place < n) (picked-length order items shelf.inside) (place_inside (picked order items) shelf.rise sets seen name place is P has)

-- the item of a name in a shelf that is seen so
module _ (order : List ℕ) (items : List Held) (shelf : AreShelved order items) (sets : Named Holding) (seen : entries_of (picked order items) ≡ sets) (name : Name) (P : DataSet → Type 0) (has : IsSomeAnd (option_map (λ (h : Holding). h.set) (entry_at sets name)) P) (item : ℕ) (at : slice_get order (place_in name (picked order items)) ≡ Some item) where
  low : item < length items
  low = each-get (λ i. i < length items) order (place_in name (picked order items)) item shelf.inside at

  picks-inside : place_in name (picked order items) < length (picked order items)
  picks-inside = place_inside (picked order items) shelf.rise sets seen name (place_in name (picked order items)) refl P has

  picks-set : (new : Held) → picked order (slice_set items item new) ≡ slice_set (picked order items) (place_in name (picked order items)) new
  picks-set new = picked-set order items (place_in name (picked order items)) item new (apart-from order items shelf.inside shelf.rise) shelf.inside at

  picks-read : (old : Held) → old ≡ slice_index_or items item old → old ≡ slice_index_or (picked order items) (place_in name (picked order items)) old
  picks-read old here =
      sym (get_or_from_slice_get (picked order items) (place_in name (picked order items)) old old (picked-some order items (place_in name (picked order items)) item shelf.inside at ∙ get-from items item old low here))

  inside-set : (new : Held) → AreInside order (length (slice_set items item new))
  inside-set new = subst (AreInside order) (sym (length-set items item new)) shelf.inside

  shelved-set : (new : Held) → Rise (picked order (slice_set items item new)) → AreShelved order (slice_set items item new)
  shelved-set new rise = record { count = shelf.count ∙ sym (length-set items item new); inside = inside-set new; rise = rise }

  -- the item changed
  pub item-changed : (old new : Held) → old ≡ slice_index_or items item old → new.name ≡ old.name → (change : Holding → Holding) → holding_of new ≡ change (holding_of old) →
      AreShelved order (slice_set items item new) × (entries_of (picked order (slice_set items item new)) ≡ with_changed name change sets)
  item-changed old new here same change does =
      let told = changed (picked order items) shelf.rise sets seen name (place_in name (picked order items)) refl P has (picked order (slice_set items item new)) old new (picks-read old here) (picks-set new) same change does in
      (shelved-set new told.0, told.1)

  -- the item changed to one that is seen the same
  pub item-same : (old new : Held) → old ≡ slice_index_or items item old → new.name ≡ old.name → holding_of new ≡ holding_of old →
      AreShelved order (slice_set items item new) × (entries_of (picked order (slice_set items item new)) ≡ sets)
  item-same old new here same alike =
      let told : entries_of (picked order (slice_set items item new)) ≡ entries_of (picked order items) =
      ap entries_of (picks-set new) ∙ entries-same (picked order items) (place_in name (picked order items)) old new old picks-inside (picks-read old here) same alike in
      (shelved-set new (subst (λ entries. IsTrue (is_sorted name_cmp entries)) (sym told) shelf.rise), told ∙ seen)

  -- the item changed to one with no less room
  pub item-rooms : (old new : Held) → old ≡ slice_index_or items item old → new.name ≡ old.name → (room_of old).1 ≤ (room_of new).1 → (other : Name) → room_under (picked order items) other ≤ room_under (picked order (slice_set items item new)) other
  item-rooms old new here same more other =
      subst (λ picks. room_under (picked order items) other ≤ room_under picks other) (sym (picks-set new)) (
      rooms-grow (picked order items) (place_in name (picked order items)) old new old picks-inside (picks-read old here) same more other)

  pub item-room : (old : Held) → old ≡ slice_index_or items item old → room_under (picked order items) name ≡ (room_of old).1
  item-room old here = room-here (picked order items) shelf.rise sets seen name (place_in name (picked order items)) refl P has old (picks-read old here)

  pub item-room-after : (old new : Held) → old ≡ slice_index_or items item old → new.name ≡ old.name → room_under (picked order (slice_set items item new)) name ≡ (room_of new).1
  item-room-after old new here same =
      ap (λ picks. room_under picks name) (picks-set new) ∙ room-after (picked order items) shelf.rise sets seen name (place_in name (picked order items)) refl P has old new (picks-read old here) same

count-inserted : (order : List ℕ) (items : List Held) (place : ℕ) (held : Held) → length order ≡ length items → place ≤ length order → length (insert order place (length items)) ≡ length (items ++ held ∷ [])
count-inserted order items place held count le =
    let more : length (items ++ held ∷ []) ≡ length items + 1 = length-append items (held ∷ []) in
    length-insert order place (length items) le ∙ ap (λ n. n + 1) count ∙ sym more

-- an item put behind the others, and its place into the order
pub item-inserted : (order : List ℕ) (items : List Held) → AreShelved order items → (sets : Named Holding) → entries_of (picked order items) ≡ sets → (held : Held) (place : ℕ) → place ≡ place_in held.name (picked order items) → place ≤ length order →
    option_map (λ (h : Holding). h.set) (entry_at sets held.name) ≡ None → (holding : Holding) → holding_of held ≡ holding → (count : ℕ) → count ≡ length items → (by : List ℕ) → by ≡ insert order place count → (after : List Held) → after ≡ items ++ held ∷ [] →
    AreShelved by after × (entries_of (picked by after) ≡ with_entry held.name holding sets)
item-inserted order items shelf sets seen held place is le none holding holds count counts by edit after pushed =
    let told = inserted (picked order items) shelf.rise sets seen held.name place is (picked (insert order place (length items)) (items ++ held ∷ [])) held refl (picked-insert order items place held shelf.inside le) none holding holds in
    subst (λ by. AreShelved by after × (entries_of (picked by after) ≡ with_entry held.name holding sets)) (sym (edit ∙ ap (insert order place) counts)) (
    subst (λ after. AreShelved (insert order place (length items)) after × (entries_of (picked (insert order place (length items)) after) ≡ with_entry held.name holding sets)) (sym pushed)
    (record { count = count-inserted order items place held shelf.count le; inside = inside-inserted order items place held shelf.inside le; rise = told.0 }, told.1))

length-swapped : (items : List Held) (item : ℕ) (held : Held) (last : ℕ) → length items ≡ suc last → length (swap_remove items item held) ≡ last
length-swapped items item held last size =
    let end : length items - 1 ≡ last = omega (arith, size) in
    length-take-le (length items - 1) (slice_set items item (slice_index_or items (length items - 1) held)) (omega (arith, length-set items item (slice_index_or items (length items - 1) held))) ∙ end

-- what reads the same stands the same
got-same : (items after : List Held) (i j : ℕ) (d : Held) → i < length items → j < length after → slice_index_or after j d ≡ slice_index_or items i d → slice_get after j ≡ slice_get items i
got-same items after i j d inside within same = slice_get-get_or after j d within ∙ ap Some same ∙ sym (slice_get-get_or items i d inside)

-- the item of a name, at its place of the order
module _ (order : List ℕ) (items : List Held) (shelf : AreShelved order items) (sets : Named Holding) (seen : entries_of (picked order items) ≡ sets) (name : Name) (P : DataSet → Type 0) (has : IsSomeAnd (option_map (λ (h : Holding). h.set) (entry_at sets name)) P) (place item : ℕ) (is : place ≡ place_in name (picked order items)) (at : slice_get order place ≡ Some item) where
  low-item : item < length items
  low-item = each-get (λ i. i < length items) order place item shelf.inside at

  pub item-taken : (held : Held) → held ≡ slice_index_or items item held → Some held.set ≡ option_map (λ (h : Holding). h.set) (entry_at sets name)
  item-taken held here =
      taken (picked order items) shelf.rise sets seen name place is P has held (sym (get_or_from_slice_get (picked order items) place held held (picked-some order items place item shelf.inside at ∙ get-from items item held low-item here)))

  count-removed : (after : List Held) (last to : ℕ) → place < length order → length after ≡ last → length items ≡ suc last → length (slice_set (remove order place) to item) ≡ length after
  count-removed after last to inside short size =
      let fewer : length (remove order place) + 1 ≡ length order = length-remove order place inside in
      let left : length (remove order place) ≡ last = omega (arith, fewer, shelf.count, size) in
      length-set (remove order place) to item ∙ left ∙ sym short

  -- taken out, and the last item put in its place
  pub item-removed : (after : List Held) (held : Held) → after ≡ swap_remove items item held → (count last : ℕ) → count ≡ length items → last + 1 ≡ count →
      ((d : Held) → item + 1 < count → slice_index_or after item d ≡ slice_index_or items (count - 1) d) → ((j : ℕ) (d : Held) → j ≢ item → j + 1 < count → slice_index_or after j d ≡ slice_index_or items j d) →
      (left : List ℕ) → left ≡ remove order place → (by : List ℕ) → by ≡ slice_set left (position_or_len (λ j. j == last) left) item → AreShelved by after × (entries_of (picked by after) ≡ without_entry name sets)
  item-removed after held swapped count last counts next moved others left gone by renumbered =
      let size : length items ≡ suc last = omega (arith, counts, next) in
      let short : length after ≡ last = ap length swapped ∙ length-swapped items item held last size in
      let told = removed (picked order items) shelf.rise sets seen name place is P has (picked (remove order place) items) (picked-remove order items place item shelf.inside at) in
      let inside = inside-remove order (length items) place item shelf.inside at in
      let here = picked-moved items after last item size low-item
      (λ j off below. got-same items after j j held (omega (arith, below, size)) (omega (arith, below, short)) (others j held off (omega (arith, below, next))))
      (λ off.
      let low-last : item < last = omega (arith, low-item, size, off) in
      let end : count - 1 ≡ last = omega (arith, next) in
      got-same items after last item held (omega (arith, size)) (omega (arith, low-last, short)) (moved held (omega (arith, low-last, next)) ∙ ap (λ n. slice_index_or items n held) end))
      (remove order place) (apart-from (remove order place) items inside told.0) (apart-gone order place item (apart-from order items shelf.inside shelf.rise) at) inside in
      subst (λ by. AreShelved by after × (entries_of (picked by after) ≡ without_entry name sets)) (sym (renumbered ∙ ap (λ left. slice_set left (position_or_len (λ j. j == last) left) item) gone))
      (record { count = count-removed after last _ (slice_get_within order place item at) short size; inside = subst (AreInside _) (sym short) here.0; rise = subst Rise (sym here.1) told.0 }, ap entries_of here.1 ∙ told.1)

-- where the item of a name stands, in lists that are seen so
pub slot-seen : (order other : List ℕ) (items more : List Held) → order ≡ other → items ≡ more → (name : Name) (item : ℕ) → slice_get order (place_in name (picked order items)) ≡ Some item → slice_get other (place_in name (picked other more)) ≡ Some item
slot-seen order other items more o m name item at =
    subst (λ it. slice_get other (place_in name (picked other it)) ≡ Some item) m (subst (λ by. slice_get by (place_in name (picked by items)) ≡ Some item) o at)

pub place-seen : (order other : List ℕ) (items more : List Held) → order ≡ other → items ≡ more → (name : Name) (place : ℕ) → place ≡ place_in name (picked order items) → place ≡ place_in name (picked other more)
place-seen order other items more o m name place is =
    is ∙ ap (λ by. place_in name (picked by items)) o ∙ ap (λ it. place_in name (picked other it)) m
