-- What the calls of a shelf do to its catalog.
use Rattle.std.proofs.Common.{◌≡◌, ℕ, zero, suc, ◌<◌, Bool, true, IsTrue, List, [], ◌∷◌, length, refl, ap, sym, ◌∙◌, subst, Option, Some, None, slice_get, slice_set, slice_index_or, arith, insert, remove, T, IsSome, IsSomeAnd, cond, false, not}
use Rattle.std.specs.declared.cmp.Ordering.TheVariants.{Equal}
use Rattle.std.specs.Ordering.{is_eq, is_gt}
use Rattle.std.specs.List.Sorted.{IsPartitionedBy}
use Rattle.std.specs.Cmp.Lexicographic.{nat_list_cmp_total}
use Rattle.std.specs.FinMap.Entries.{is_sorted, is_sorted-put, is_sorted-where_key}
use Rattle.std.specs.Option.{option_map}
use Rattle.std.proofs.lemmas.Option.{same_Some}
use Rattle.ckr_base.proofs.Bools.{T-from-true}
use Rattle.ckr_base.proofs.Options.{some-not-none}
use Rattle.ckr_base.proofs.Sequences.{get-inside}
use Rattle.ckr_library.specs.declared.shelf.Held.{Held}
use Rattle.ckr_library.specs.declared.sets.DataSet.{DataSet}
use Rattle.ckr_library.specs.Catalog.{Holding}
use Rattle.ckr_library.specs.NameMaps.{Name, Named, name_cmp, entry_at, names_of, same_name, with_entry, without_entry, with_change, with_changed}
use Rattle.ckr_library.specs.Shelves.{holding_of, entry_of, entries_of, are_in_order, place_in}
use Rattle.ckr_library.proofs.OrderedLists.{found_at, find-place, parted, put-absent, put-present, where_key-remove, at_place}

-- the items stand in order
abbrev pub Rise : List Held → Type 0
Rise items = IsTrue (are_in_order items)

from_T : (b : Bool) → T b → IsTrue b
from_T true h = refl
from_T false h = absurd h

-- what is found under a name stands at its place
pub find-items : (items : List Held) → Rise items → (name : Name) → entry_at (entries_of items) name ≡ found_at name_cmp entry_of name (slice_get items (place_in name items))
find-items items rise name = find-place name_cmp entry_of nat_list_cmp_total name items (T-from-true _ rise)

-- the names below a name stand before the others
pub parted_by_name : (items : List Held) → Rise items → (name : Name) → IsPartitionedBy (λ (held : Held). is_gt (name_cmp name held.name)) items
parted_by_name items rise name = parted name_cmp entry_of nat_list_cmp_total name items (T-from-true _ rise)

-- the item at the place of a name, if it has that name
pub found_under : (items : List Held) → Rise items → (name : Name) (place : ℕ) → place ≡ place_in name items → (found : Option Held) → found ≡ slice_get items place → found_at name_cmp entry_of name found ≡ entry_at (entries_of items) name
found_under items rise name place is found at = sym (find-items items rise name ∙ ap (λ i. found_at name_cmp entry_of name (slice_get items i)) (sym is) ∙ ap (found_at name_cmp entry_of name) (sym at))

has_entry : (found : Option Holding) (P : DataSet → Type 0) → IsSomeAnd (option_map (λ (h : Holding). h.set) found) P → IsSome found
has_entry None P has = absurd has
has_entry (Some holding) P has = refl

-- a name with a data set stands at its place
pub placed : (items : List Held) → Rise items → (name : Name) → IsSome (entry_at (entries_of items) name) → (old : Held) × (slice_get items (place_in name items) ≡ Some old) × (name_cmp name old.name ≡ Equal)
placed items rise name there = at_place name_cmp entry_of nat_list_cmp_total name items (T-from-true _ rise) there

-- the names in ascending order
pub names-items : (items : List Held) (place : ℕ) → option_map (λ (held : Held). held.name) (slice_get items place) ≡ slice_get (names_of (entries_of items)) place
names-items [] place = refl
names-items (held ∷ items) zero = refl
names-items (held ∷ items) (suc place) = names-items items place

none_of : (found : Option Holding) → option_map (λ (h : Holding). h.set) found ≡ None → found ≡ None
none_of None e = refl
none_of (Some holding) e = absurd (some-not-none _ e)

pub item_is : (items : List Held) (place : ℕ) (held d : Held) → place < length items → held ≡ slice_index_or items place d → slice_get items place ≡ Some held
item_is [] place held d inside is = absurd (omega (arith, inside))
item_is (first ∷ items) zero held d inside is = ap Some (sym is)
item_is (first ∷ items) (suc place) held d inside is = item_is items place held d (omega (arith, inside)) is

-- the items of a shelf that is seen so, and a name at its place
module _ (items : List Held) (rise : Rise items) (sets : Named Holding) (seen : entries_of items ≡ sets) (name : Name) (place : ℕ) (at : place ≡ place_in name items) where
  pub there : (P : DataSet → Type 0) → IsSomeAnd (option_map (λ (h : Holding). h.set) (entry_at sets name)) P → IsSome (entry_at (entries_of items) name)
  there P has = subst (λ s. IsSome (entry_at s name)) (sym seen) (has_entry (entry_at sets name) P has)

  -- the place of a name with a data set lies inside
  pub place_inside : (P : DataSet → Type 0) → IsSomeAnd (option_map (λ (h : Holding). h.set) (entry_at sets name)) P → place < length items
  place_inside P has = let found = placed items rise name (there P has) in subst (λ i. i < length items) (sym at) (get-inside found.0 items _ found.1)

  -- a new name at its place
  pub inserted : (after : List Held) (held : Held) → name ≡ held.name → after ≡ insert items place held → option_map (λ (h : Holding). h.set) (entry_at sets name) ≡ None → (holding : Holding) → holding_of held ≡ holding → Rise after × (entries_of after ≡ with_entry name holding sets)
  inserted after held same edit none holding is =
      let absent : entry_at (entries_of items) name ≡ None = ap (λ s. entry_at s name) seen ∙ none_of (entry_at sets name) none in
      let put : entries_of after ≡ with_entry name holding (entries_of items) =
      ap entries_of (edit ∙ ap (λ i. insert items i held) at) ∙ sym (put-absent name_cmp entry_of name holding held (λ i. (sym same i, is i)) items absent) in
      (subst (λ es. IsTrue (is_sorted name_cmp es)) (sym put) (from_T _ (is_sorted-put name_cmp nat_list_cmp_total name holding (entries_of items) (T-from-true _ rise))), put ∙ ap (with_entry name holding) seen)

  -- the item at a name's place taken out
  pub removed : (P : DataSet → Type 0) → IsSomeAnd (option_map (λ (h : Holding). h.set) (entry_at sets name)) P → (after : List Held) → after ≡ remove items place → Rise after × (entries_of after ≡ without_entry name sets)
  removed P has after edit =
      let found = placed items rise name (there P has) in
      let kept : entries_of after ≡ without_entry name (entries_of items) =
      ap entries_of (edit ∙ ap (remove items) at) ∙ where_key-remove name_cmp entry_of nat_list_cmp_total name found.0 items (T-from-true _ rise) found.1 found.2 in
      (subst (λ es. IsTrue (is_sorted name_cmp es)) (sym kept) (from_T _ (is_sorted-where_key name_cmp (λ other. not (same_name name other)) (entries_of items) (T-from-true _ rise))), kept ∙ ap (without_entry name) seen)

  -- the item at a name's place
  pub taken : (P : DataSet → Type 0) → IsSomeAnd (option_map (λ (h : Holding). h.set) (entry_at sets name)) P → (held : Held) → held ≡ slice_index_or items place held → Some held.set ≡ option_map (λ (h : Holding). h.set) (entry_at sets name)
  taken P has held here =
      let found = placed items rise name (there P has) in
      let at_held : slice_get items (place_in name items) ≡ Some held = ap (slice_get items) (sym at) ∙ item_is items place held held (place_inside P has) here in
      let tied : name_cmp name held.name ≡ Equal = ap (λ (h : Held). name_cmp name h.name) (same_Some held found.0 (sym at_held ∙ found.1)) ∙ found.2 in
      sym (ap (option_map (λ (h : Holding). h.set)) (
      ap (λ s. entry_at s name) (sym seen) ∙ find-items items rise name ∙ ap (found_at name_cmp entry_of name) at_held ∙ ap (λ r. cond (is_eq r) (Some (holding_of held)) None) tied
      ))

  -- the item at a name's place changed
  pub changed : (P : DataSet → Type 0) → IsSomeAnd (option_map (λ (h : Holding). h.set) (entry_at sets name)) P → (after : List Held) (old new : Held) → old ≡ slice_index_or items place old → after ≡ slice_set items place new → new.name ≡ old.name → (change : Holding → Holding) → holding_of new ≡ change (holding_of old) → Rise after × (entries_of after ≡ with_changed name change sets)
  changed P has after old new here edit same change does =
      let found = placed items rise name (there P has) in
      let at_old : slice_get items (place_in name items) ≡ Some old = ap (slice_get items) (sym at) ∙ item_is items place old old (place_inside P has) here in
      let tied : name_cmp name old.name ≡ Equal = ap (λ (h : Held). name_cmp name h.name) (same_Some old found.0 (sym at_old ∙ found.1)) ∙ found.2 in
      let has_old : entry_at (entries_of items) name ≡ Some (holding_of old) = find-items items rise name ∙ ap (found_at name_cmp entry_of name) at_old ∙ ap (λ r. cond (is_eq r) (Some (holding_of old)) None) tied in
      let put : entries_of after ≡ with_entry name (holding_of new) (entries_of items) =
      ap entries_of (edit ∙ ap (λ i. slice_set items i new) at) ∙ sym (put-present name_cmp entry_of name (holding_of new) old new items at_old tied (ap (λ n. (n, holding_of new)) same)) in (
        subst (λ es. IsTrue (is_sorted name_cmp es)) (sym put) (from_T _ (is_sorted-put name_cmp nat_list_cmp_total name (holding_of new) (entries_of items) (T-from-true _ rise))),
        put ∙ ap (λ h. with_entry name h (entries_of items)) does ∙ sym (ap (with_change name change (entries_of items)) has_old) ∙ ap (with_changed name change) seen,
      )
