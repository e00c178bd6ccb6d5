-- Items picked in an order (picked-), orders whose places are apart (apart-), and what a change of an item or of the order does.
use Rattle.std.proofs.Common.{◌≡◌, ◌≢◌, ◌==◌, ℕ, zero, suc, ◌+◌, ◌<◌, ◌≤◌, Bool, cond, not, List, [], ◌∷◌, ◌++◌, length, refl, ap, sym, ◌∙◌, subst, Some, None, slice_get, slice_set, slice_index_or, arith, insert, remove, T}
use Rattle.std.specs.Ordering.{is_gt}
use Rattle.std.specs.List.{AllByRecursion, cons_option, position_or_len}
use Rattle.std.specs.List.Sorted.{IsPartitionedBy}
use Rattle.std.specs.FinMap.Entries.{below_all, is_sorted}
use Rattle.std.proofs.lemmas.Option.{same_Some}
use Rattle.ckr_base.proofs.Bools.{T-and-first, T-and-second, T-from-true, bool-cases}
use Rattle.ckr_base.proofs.Numbers.{equal-false, equal-true, is_eq-true, one-plus}
use Rattle.ckr_base.proofs.Options.{some-not-none}
use Rattle.ckr_base.proofs.Sequences.{each-get, each-implies, get-set-other, get-set-same}
use Rattle.ckr_library.specs.declared.shelf.Held.{Held}
use Rattle.ckr_library.specs.NameMaps.{Name, name_cmp}
use Rattle.ckr_library.specs.Places.{lead}
use Rattle.ckr_library.specs.Shelves.{entries_of, place_in, picked, is_above_at, AreInside}
use Rattle.ckr_library.proofs.Named.{name-itself}
use Rattle.ckr_library.proofs.OrderedLists.{not_less}
use Rattle.ckr_library.proofs.Shelves.{Rise, parted_by_name}

get-there : (items : List Held) (i : ℕ) → i < length items → (item : Held) × (slice_get items i ≡ Some item)
get-there [] i inside = absurd (omega (arith, inside))
get-there (item ∷ items) zero inside = (item, refl)
get-there (item ∷ items) (suc i) inside = get-there items i (omega (arith, inside))

get-front : (items more : List Held) (i : ℕ) → i < length items → slice_get (items ++ more) i ≡ slice_get items i
get-front [] more i inside = absurd (omega (arith, inside))
get-front (item ∷ items) more zero inside = refl
get-front (item ∷ items) more (suc i) inside = get-front items more i (omega (arith, inside))

get-end : (items : List Held) (item : Held) → slice_get (items ++ item ∷ []) (length items) ≡ Some item
get-end [] item = refl
get-end (first ∷ items) item = get-end items item

length-end : (items : List Held) (item : Held) → length (items ++ item ∷ []) ≡ suc (length items)
length-end [] item = refl
length-end (first ∷ items) item = ap suc (length-end items item)

picked-head : (items : List Held) (i : ℕ) (order : List ℕ) (item : Held) → slice_get items i ≡ Some item → picked (i ∷ order) items ≡ item ∷ picked order items
picked-head items i order item at = ap (λ found. cons_option found (picked order items)) at

pub picked-length : (order : List ℕ) (items : List Held) → AreInside order (length items) → length (picked order items) ≡ length order
picked-length [] items inside = refl
picked-length (i ∷ order) items inside =
    ap length (picked-head items i order _ (get-there items i inside.0).1) ∙ ap suc (picked-length order items inside.1)

-- the item at a place of the order
pub picked-some : (order : List ℕ) (items : List Held) (place item : ℕ) → AreInside order (length items) → slice_get order place ≡ Some item → slice_get (picked order items) place ≡ slice_get items item
picked-some [] items place item inside at = absurd (some-not-none item (sym at))
picked-some (i ∷ order) items zero item inside at =
    let there = get-there items i inside.0 in
    ap (λ picks. slice_get picks 0) (picked-head items i order there.0 there.1) ∙ sym there.1 ∙ ap (slice_get items) (same_Some i item at)
picked-some (i ∷ order) items (suc place) item inside at =
    ap (λ picks. slice_get picks (suc place)) (picked-head items i order _ (get-there items i inside.0).1) ∙ picked-some order items place item inside.1 at

-- no item behind the order
pub picked-none : (order : List ℕ) (items : List Held) (place : ℕ) → AreInside order (length items) → slice_get order place ≡ None → slice_get (picked order items) place ≡ None
picked-none [] items place inside at = refl
picked-none (i ∷ order) items zero inside at = absurd (some-not-none i at)
picked-none (i ∷ order) items (suc place) inside at =
    ap (λ picks. slice_get picks (suc place)) (picked-head items i order _ (get-there items i inside.0).1) ∙ picked-none order items place inside.1 at

picked-read : (order : List ℕ) (items : List Held) (place d : ℕ) (e : Held) → AreInside order (length items) → place < length order → slice_get items (slice_index_or order place d) ≡ Some (slice_index_or (picked order items) place e)
picked-read [] items place d e inside within = absurd (omega (arith, within))
picked-read (i ∷ order) items zero d e inside within =
    let there = get-there items i inside.0 in
    there.1 ∙ ap (λ picks. Some (slice_index_or picks 0 e)) (sym (picked-head items i order there.0 there.1))
picked-read (i ∷ order) items (suc place) d e inside within =
    picked-read order items place d e inside.1 (omega (arith, within)) ∙ ap (λ picks. Some (slice_index_or picks (suc place) e)) (sym (picked-head items i order _ (get-there items i inside.0).1))

some-item : (order : List ℕ) (items : List Held) (place : ℕ) → AreInside order (length items) → place < length order → Held
some-item [] items place inside within = absurd (omega (arith, within))
some-item (i ∷ order) items place inside within = (get-there items i inside.0).0

-- the place of a name among the picked items is that in the order
pub picked-lead : (name : Name) (order : List ℕ) (items : List Held) → AreInside order (length items) → lead (λ item. is_above_at name (slice_get items item)) order ≡ place_in name (picked order items)
picked-lead name [] items inside = refl
picked-lead name (i ∷ order) items inside =
    let there = get-there items i inside.0 in
    ap (λ found. cond (is_above_at name found) (suc (lead (λ item. is_above_at name (slice_get items item)) order)) 0) there.1
    ∙ ap (λ place. cond (is_gt (name_cmp name there.0.name)) (suc place) 0) (picked-lead name order items inside.1)
    ∙ sym (ap (place_in name) (picked-head items i order there.0 there.1))

-- the places of the items below a name stand before the others
pub picked-parted : (name : Name) (order : List ℕ) (items : List Held) → AreInside order (length items) → Rise (picked order items) → IsPartitionedBy (λ item. is_above_at name (slice_get items item)) order
picked-parted name order items inside rise i j d le within above =
    let e = some-item order items j inside within in
    ap (is_above_at name) (picked-read order items i d e inside (omega (arith, le, within)))
    ∙ parted_by_name (picked order items) rise name i j e le (subst (λ n. j < n) (sym (picked-length order items inside)) within) (sym (ap (is_above_at name) (picked-read order items j d e inside within)) ∙ above)

-- items that are the same at each place of the order
picked-same : (order : List ℕ) (items after : List Held) → AllByRecursion (λ i. slice_get after i ≡ slice_get items i) order → picked order after ≡ picked order items
picked-same [] items after same = refl
picked-same (i ∷ order) items after same =
    ap (λ found. cons_option found (picked order after)) same.0 ∙ ap (cons_option (slice_get items i)) (picked-same order items after same.1)

-- an item pushed behind the others, and its place put into the order
pub picked-insert : (order : List ℕ) (items : List Held) (place : ℕ) (item : Held) → AreInside order (length items) → place ≤ length order → picked (insert order place (length items)) (items ++ item ∷ []) ≡ insert (picked order items) place item
picked-insert order items zero item inside le =
    picked-head (items ++ item ∷ []) (length items) order item (get-end items item)
    ∙ ap (λ picks. item ∷ picks) (picked-same order items (items ++ item ∷ []) (each-implies (λ i. i < length items) (λ i. slice_get (items ++ item ∷ []) i ≡ slice_get items i) order (get-front items (item ∷ [])) inside))
picked-insert [] items (suc place) item inside le = absurd (omega (arith, le))
picked-insert (i ∷ order) items (suc place) item inside le =
    let there = get-there items i inside.0 in
    picked-head (items ++ item ∷ []) i (insert order place (length items)) there.0 (get-front items (item ∷ []) i inside.0 ∙ there.1)
    ∙ ap (λ picks. there.0 ∷ picks) (picked-insert order items place item inside.1 (omega (arith, le)))
    ∙ sym (ap (λ picks. insert picks (suc place) item) (picked-head items i order there.0 there.1))

inside-more : (order : List ℕ) (count : ℕ) → AreInside order count → AreInside order (suc count)
inside-more order count inside = each-implies (λ i. i < count) (λ i. i < suc count) order (λ i within. omega (arith, within)) inside

inside-insert : (order : List ℕ) (count place : ℕ) → AreInside order count → place ≤ length order → AreInside (insert order place count) (suc count)
inside-insert order count zero inside le = (omega arith, inside-more order count inside)
inside-insert [] count (suc place) inside le = absurd (omega (arith, le))
inside-insert (i ∷ order) count (suc place) inside le =
    (omega (arith, inside.0), inside-insert order count place inside.1 (omega (arith, le)))

pub inside-inserted : (order : List ℕ) (items : List Held) (place : ℕ) (item : Held) → AreInside order (length items) → place ≤ length order → AreInside (insert order place (length items)) (length (items ++ item ∷ []))
inside-inserted order items place item inside le =
    subst (λ n. AreInside (insert order place (length items)) n) (sym (length-end items item)) (inside-insert order (length items) place inside le)

-- a place taken out of the order
pub picked-remove : (order : List ℕ) (items : List Held) (place item : ℕ) → AreInside order (length items) → slice_get order place ≡ Some item → picked (remove order place) items ≡ remove (picked order items) place
picked-remove [] items place item inside at = absurd (some-not-none item (sym at))
picked-remove (i ∷ order) items zero item inside at =
    sym (ap (λ picks. remove picks 0) (picked-head items i order _ (get-there items i inside.0).1))
picked-remove (i ∷ order) items (suc place) item inside at =
    let there = get-there items i inside.0 in
    picked-head items i (remove order place) there.0 there.1
    ∙ ap (λ picks. there.0 ∷ picks) (picked-remove order items place item inside.1 at)
    ∙ sym (ap (λ picks. remove picks (suc place)) (picked-head items i order there.0 there.1))

pub inside-remove : (order : List ℕ) (count place item : ℕ) → AreInside order count → slice_get order place ≡ Some item → AreInside (remove order place) count
inside-remove [] count place item inside at = absurd (some-not-none item (sym at))
inside-remove (i ∷ order) count zero item inside at = inside.1
inside-remove (i ∷ order) count (suc place) item inside at = (inside.0, inside-remove order count place item inside.1 at)

-- no place stands twice
abbrev AreApart : List ℕ → Type 0
AreApart [] = Unit {0}
AreApart (i ∷ order) = AllByRecursion (λ j. j ≢ i) order × AreApart order

others-apart : (order : List ℕ) (items : List Held) (i : ℕ) (item : Held) → AreInside order (length items) → slice_get items i ≡ Some item → T (below_all name_cmp item.name (entries_of (picked order items))) → AllByRecursion (λ j. j ≢ i) order
others-apart [] items i item inside at below = tt
others-apart (j ∷ order) items i item inside at below =
    let there = get-there items j inside.0 in
    let parts = subst (λ picks. T (below_all name_cmp item.name (entries_of picks))) (picked-head items j order there.0 there.1) below in (
      λ same. not_less (name_cmp item.name there.0.name) (ap (λ (other : Held). name_cmp item.name other.name) (same_Some there.0 item (sym there.1 ∙ ap (slice_get items) same ∙ at)) ∙ is_eq-true (name_cmp item.name item.name) (name-itself item.name)) (T-and-first _ _ parts),
      others-apart order items i item inside.1 at (T-and-second _ _ parts),
    )

apart-sorted : (order : List ℕ) (items : List Held) → AreInside order (length items) → T (is_sorted name_cmp (entries_of (picked order items))) → AreApart order
apart-sorted [] items inside rise = tt
apart-sorted (i ∷ order) items inside rise =
    let there = get-there items i inside.0 in
    let parts = subst (λ picks. T (is_sorted name_cmp (entries_of picks))) (picked-head items i order there.0 there.1) rise in
    (others-apart order items i there.0 inside.1 there.1 (T-and-first _ _ parts), apart-sorted order items inside.1 (T-and-second _ _ parts))

-- where the names of the items ascend, no place stands twice in their order
pub apart-from : (order : List ℕ) (items : List Held) → AreInside order (length items) → Rise (picked order items) → AreApart order
apart-from order items inside rise = apart-sorted order items inside (T-from-true _ rise)

-- one item changed
pub picked-set : (order : List ℕ) (items : List Held) (place item : ℕ) (new : Held) → AreApart order → AreInside order (length items) → slice_get order place ≡ Some item → picked order (slice_set items item new) ≡ slice_set (picked order items) place new
picked-set [] items place item new apart inside at = absurd (some-not-none item (sym at))
picked-set (i ∷ order) items zero item new apart inside at =
    let there = get-there items i inside.0 in
    let same : i ≡ item = same_Some i item at in
    picked-head (slice_set items item new) i order new (ap (slice_get (slice_set items item new)) same ∙ get-set-same items item new there.0 (ap (slice_get items) (sym same) ∙ there.1))
    ∙ ap (λ picks. new ∷ picks) (picked-same order items (slice_set items item new) (each-implies (λ j. j ≢ i) (λ j. slice_get (slice_set items item new) j ≡ slice_get items j) order (λ j other. get-set-other items item j new (λ e. other (e ∙ sym same))) apart.0))
    ∙ sym (ap (λ picks. slice_set picks 0 new) (picked-head items i order there.0 there.1))
picked-set (i ∷ order) items (suc place) item new apart inside at =
    let there = get-there items i inside.0 in
    let other : item ≢ i = each-get (λ j. j ≢ i) order place item apart.0 at in
    picked-head (slice_set items item new) i order there.0 (get-set-other items item i new (λ e. other (sym e)) ∙ there.1)
    ∙ ap (λ picks. there.0 ∷ picks) (picked-set order items place item new apart.1 inside.1 at)
    ∙ sym (ap (λ picks. slice_set picks (suc place) new) (picked-head items i order there.0 there.1))

-- the others are apart from a place that was taken out
pub apart-gone : (order : List ℕ) (place item : ℕ) → AreApart order → slice_get order place ≡ Some item → AllByRecursion (λ j. j ≢ item) (remove order place)
apart-gone [] place item apart at = absurd (some-not-none item (sym at))
apart-gone (i ∷ order) zero item apart at = subst (λ n. AllByRecursion (λ j. j ≢ n) order) (same_Some i item at) apart.0
apart-gone (i ∷ order) (suc place) item apart at =
    (λ same. each-get (λ j. j ≢ i) order place item apart.0 at (sym same), apart-gone order place item apart.1 at)

-- the last item moved to a place that the order lacks, and the order told so
module _ (items after : List Held) (last item : ℕ) (count : length items ≡ suc last) (low : item < length items) (others : (j : ℕ) → j ≢ item → j < last → slice_get after j ≡ slice_get items j) (moved : item ≢ last → slice_get after item ≡ slice_get items last) where
  same-others : (order : List ℕ) → AllByRecursion (λ j. j ≢ last) order → AllByRecursion (λ j. j ≢ item) order → AreInside order (length items) → AreInside order last × (picked order after ≡ picked order items)
  same-others [] off gone inside = (tt, refl)
  same-others (j ∷ order) off gone inside =
      let within : j < last = below j inside.0 off.0 in
      let rest = same-others order off.1 gone.1 inside.1 in
      ((within, rest.0), ap (λ found. cons_option found (picked order after)) (others j gone.0 within) ∙ ap (cons_option (slice_get items j)) rest.1)
    where
      below : (j : ℕ) → j < length items → j ≢ last → j < last
      below j inside off = omega (arith, inside, off, count)

  pub picked-moved : (order : List ℕ) → AreApart order → AllByRecursion (λ j. j ≢ item) order → AreInside order (length items) → AreInside (slice_set order (position_or_len (λ j. j == last) order) item) last × (picked (slice_set order (position_or_len (λ j. j == last) order) item) after ≡ picked order items)
  picked-moved [] apart gone inside = (tt, refl)
  picked-moved (j ∷ order) apart gone inside =
      let changed = λ (b : Bool). slice_set (j ∷ order) (cond (not b) (1 + position_or_len (λ j. j == last) order) 0) item in
      bool-cases (j == last)
      (λ yes.
      let same : j ≡ last = equal-true j last yes in
      let off : item ≢ last = λ e. gone.0 (same ∙ sym e) in
      let rest = same-others order (subst (λ n. AllByRecursion (λ j. j ≢ n) order) same apart.0) gone.1 inside.1 in
      subst (λ b. AreInside (changed b) last × (picked (changed b) after ≡ picked (j ∷ order) items)) (sym yes) (
        (omega (arith, low, count, off), rest.0),
        ap (λ found. cons_option found (picked order after)) (moved off ∙ ap (slice_get items) (sym same)) ∙ ap (cons_option (slice_get items j)) rest.1,
      ))
      (λ no.
      let off : j ≢ last = equal-false j last no in
      let within : j < last = omega (arith, inside.0, off, count) in
      let rest = picked-moved order apart.1 gone.1 inside.1 in
      subst (λ b. AreInside (changed b) last × (picked (changed b) after ≡ picked (j ∷ order) items)) (sym no) (
      subst (λ n. AreInside (slice_set (j ∷ order) n item) last × (picked (slice_set (j ∷ order) n item) after ≡ picked (j ∷ order) items)) (sym (one-plus (position_or_len (λ j. j == last) order))) (
        (within, rest.0),
        ap (λ found. cons_option found (picked (slice_set order (position_or_len (λ j. j == last) order) item) after)) (others j gone.0 within) ∙ ap (cons_option (slice_get items j)) rest.1,
      )))
