-- Marks in the order of their names.
use Rattle.std.proofs.Common.{◌≡◌, ℕ, zero, suc, ◌<◌, ◌≤◌, ◌+◌, Bool, true, false, cond, ◌&&◌, IsTrue, T, nat_eq, List, [], ◌∷◌, ◌++◌, length, map, insert, slice_get, slice_set, drop, refl, ap, sym, ◌∙◌, subst, arith, add-one, length-append, drop-cons, get_or, Option, Some, None}
use Rattle.std.specs.Option.{option_to_list}
use Rattle.std.specs.List.{filter_map, cons_option}
use Rattle.std.specs.declared.cmp.Ordering.TheVariants.{Less, Equal, Greater}
use Rattle.std.specs.Cmp.Lexicographic.{nat_list_cmp_total, pointwise}
use Rattle.std.specs.FinMap.Entries.{by_order, is_sorted, is_sorted-put}
use Rattle.std.proofs.lemmas.List.{length-map}
use Rattle.std.proofs.lemmas.Bool.{false≢true}
use Rattle.ckr_base.proofs.Bools.{T-from-true}
use Rattle.ckr_base.proofs.Numbers.{is_eq-true, nat_eq-true}
use Rattle.ckr_entry.specs.declared.point.Mark.{Mark}
use Rattle.ckr_library.specs.NameMaps.{Name, Named, name_cmp, entry_at, with_entry}
use Rattle.ckr_library.proofs.OrderedLists.{put-absent, put-present, find-place, found_at}
use Rattle.ckr_library.proofs.Named.{name-same}
use Rattle.ckr_points.specs.Marks.{marked_under, marks_for}
use Rattle.ckr_points_runs.specs.MarkOrder.{entry_of, marked, are_in_order, place_in, has_name, marked_onto}

pub all_same : (xs ys : List ℕ) → pointwise nat_eq xs ys ≡ true → xs ≡ ys
all_same [] [] e = refl
all_same [] (y ∷ ys) e = absurd (false≢true e)
all_same (x ∷ xs) [] e = absurd (false≢true e)
all_same (x ∷ xs) (y ∷ ys) e =
    elim (nat_eq x y) as (λ b. nat_eq x y ≡ b → b && pointwise nat_eq xs ys ≡ true → x ∷ xs ≡ y ∷ ys) [
      | true ↦ λ here rest. ap (λ z. z ∷ xs) (nat_eq-true x y here) ∙ ap (λ zs. y ∷ zs) (all_same xs ys rest)
      | false ↦ λ here rest. absurd (false≢true rest)
    ] refl e

has_T : (b : Bool) → T b → IsTrue b
has_T true h = refl
has_T false h = absurd h

-- the marks of an order
module _ (items : List Mark) (rise : IsTrue (are_in_order items)) (mark : Mark) where
  rises_so : (after : List Mark) → marked after ≡ with_entry mark.name mark (marked items) → IsTrue (are_in_order after)
  rises_so after put = subst (λ es. IsTrue (is_sorted name_cmp es)) (sym put) (has_T _ (is_sorted-put name_cmp nat_list_cmp_total mark.name mark (marked items) (T-from-true _ rise)))

  -- the mark of its name is replaced
  pub replaced : (place : ℕ) → place ≡ place_in mark.name items → has_name mark.name (slice_get items place) ≡ true → (marked (slice_set items place mark) ≡ with_entry mark.name mark (marked items)) × IsTrue (are_in_order (slice_set items place mark))
  replaced place at has = by (slice_get items place) refl has
    where
      by : (found : Option Mark) → slice_get items place ≡ found → has_name mark.name found ≡ true → (marked (slice_set items place mark) ≡ with_entry mark.name mark (marked items)) × IsTrue (are_in_order (slice_set items place mark))
      by None here has = absurd (false≢true has)
      by (Some old) here has =
          let put : marked (slice_set items place mark) ≡ with_entry mark.name mark (marked items) =
          ap (λ i. marked (slice_set items i mark)) at
          ∙ sym (put-present name_cmp entry_of mark.name mark old mark items (ap (slice_get items) (sym at) ∙ here) (is_eq-true _ has) (ap (λ n. (n, mark)) (name-same mark.name old.name has))) in
          (put, rises_so _ put)

  -- a new mark is inserted
  pub entered : (place : ℕ) → place ≡ place_in mark.name items → has_name mark.name (slice_get items place) ≡ false → (after : List Mark) → after ≡ insert items place mark → (marked after ≡ with_entry mark.name mark (marked items)) × IsTrue (are_in_order after)
  entered place at has after edit =
      let none : entry_at (marked items) mark.name ≡ None =
      find-place name_cmp entry_of nat_list_cmp_total mark.name items (T-from-true _ rise) ∙ ap (λ i. found_at name_cmp entry_of mark.name (slice_get items i)) (sym at) ∙ absent (slice_get items place) has in
      let put : marked after ≡ with_entry mark.name mark (marked items) =
      ap marked (edit ∙ ap (λ i. insert items i mark) at) ∙ sym (put-absent name_cmp entry_of mark.name mark mark refl items none) in
      (put, rises_so after put)
    where
      absent : (found : Option Mark) → has_name mark.name found ≡ false → found_at name_cmp entry_of mark.name found ≡ None
      absent None e = refl
      absent (Some old) e = ap (λ b. cond b (Some old) None) e

-- ---- from the last name on

-- the marks of two lists of names
pub onto-append : (mark : Name → Mark) (first second : List Name) (base : Named Mark) → marked_onto mark (first ++ second) base ≡ marked_onto mark first (marked_onto mark second base)
onto-append mark [] second base = refl
onto-append mark (name ∷ first) second base = ap (with_entry name (mark name)) (onto-append mark first second base)

onto-under : (mark : Name → Mark) (names : List Name) → marked_onto mark names [] ≡ marked_under mark names
onto-under mark [] = refl
onto-under mark (name ∷ names) = ap (with_entry name (mark name)) (onto-under mark names)

unmarked : (items : List Mark) → map (λ entry. entry.1) (marked items) ≡ items
unmarked [] = refl
unmarked (item ∷ items) = ap (λ rest. item ∷ rest) (unmarked items)

-- marks put onto nothing are the marks of the names
pub onto-marks : (mark : Name → Mark) (names : List Name) (items : List Mark) → marked items ≡ marked_onto mark names [] → items ≡ marks_for mark names
onto-marks mark names items e = sym (unmarked items) ∙ ap (map (λ entry. entry.1)) (e ∙ onto-under mark names)

-- what a list gives, item by item
module _ {A B : Type 0} (F : List A → List B) (g : A → List B) (step : (x : A) (xs : List A) → F (x ∷ xs) ≡ g x ++ F xs) where
  grows : (x : A) (xs : List A) → length (F (x ∷ xs)) ≡ length (g x) + length (F xs)
  grows x xs = ap length (step x xs) ∙ length-append (g x) (F xs)

  from_here : (k : ℕ) (xs : List A) → length (F (drop k xs)) ≤ length (F xs)
  from_here zero xs = omega arith
  from_here (suc k) [] = omega arith
  from_here (suc k) (x ∷ xs) = omega (arith, from_here k xs, grows x xs)

  -- one item and those behind it give no more than all
  pub one-le : (k : ℕ) (xs : List A) (x : A) → k < length xs → x ≡ get_or xs k x → length (g x) + length (F (drop (k + 1) xs)) ≤ length (F xs)
  one-le k xs x inside is =
      omega (arith, from_here k xs, ap (λ all. length (F all)) (drop-cons xs k x inside), ap (λ one. length (F (one ∷ drop (suc k) xs))) (sym is), grows x (drop (suc k) xs), ap (λ i. length (F (drop i xs))) (add-one k))

pub names-step : {A B : Type 0} (f : A → Option B) (x : A) (xs : List A) → filter_map f (x ∷ xs) ≡ option_to_list (f x) ++ filter_map f xs
names-step {B = B} f x xs = by (f x)
  where
    by : (found : Option B) → cons_option found (filter_map f xs) ≡ option_to_list found ++ filter_map f xs
    by None = refl
    by (Some y) = refl

-- an item and those behind it
pub next-step : {A B : Type 0} (F : List A → B) (k n : ℕ) (xs : List A) (x : A) → n ≡ k + 1 → k < length xs → x ≡ get_or xs k x → F (drop k xs) ≡ F (x ∷ drop n xs)
next-step F k n xs x after inside is =
    ap F (drop-cons xs k x inside) ∙ ap (λ one. F (one ∷ drop (suc k) xs)) (sym is) ∙ ap (λ i. F (x ∷ drop i xs)) (sym (add-one k) ∙ sym after)

put-more : (name : Name) (mark : Mark) (named : Named Mark) → length (with_entry name mark named) ≤ suc (length named)
put-more name mark [] = omega arith
put-more name mark (entry ∷ rest) =
    elim (name_cmp name entry.0) as (λ r. length (by_order r ((name, mark) ∷ entry ∷ rest) ((entry.0, mark) ∷ rest) (entry ∷ with_entry name mark rest)) ≤ suc (suc (length rest))) [
      | Less ↦ omega arith
      | Equal ↦ omega arith
      | Greater ↦ omega (arith, put-more name mark rest)
    ]

under-most : (mark : Name → Mark) (names : List Name) → length (marked_under mark names) ≤ length names
under-most mark [] = omega arith
under-most mark (name ∷ names) = omega (arith, under-most mark names, put-more name (mark name) (marked_under mark names))

-- no more marks than names
pub marks-most : (mark : Name → Mark) (names : List Name) → length (marks_for mark names) ≤ length names
marks-most mark names = omega (arith, under-most mark names, length-map (marked_under mark names) (λ (entry : Name × Mark). entry.1))
