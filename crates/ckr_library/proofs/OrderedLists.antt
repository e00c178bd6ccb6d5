-- Lists whose items f reads as entries in the order of their keys: what stands at a key's place, and what the edits there do.
use Rattle.std.proofs.Common.{◌≡◌, ℕ, zero, suc, ◌<◌, Bool, true, false, not, cond, ◌&&◌, List, [], ◌∷◌, length, refl, ap, sym, ◌∙◌, subst, arith, Option, Some, None, slice_get, slice_index_or, slice_set, insert, remove, map, T, IsSome}
use Rattle.std.specs.List.Sorted.{IsPartitionedBy}
use Rattle.std.specs.declared.cmp.Ordering.{Ordering}
use Rattle.std.specs.declared.cmp.Ordering.TheVariants.{Less, Equal, Greater}
use Rattle.std.specs.Ordering.{is_eq, is_gt, is_lt, eq_by_cmp, ordering_reverse}
use Rattle.std.specs.Cmp.{IsTotalOrder}
use Rattle.std.specs.FinMap as map
use Rattle.std.specs.FinMap.Entries.{by_order, below_all, where_key}
use Rattle.std.proofs.lemmas.Bool.{false≢true}
use Rattle.std.proofs.lemmas.Option.{same_Some}
use Rattle.ckr_base.proofs.Bools.{T-and-first, T-and-second}
use Rattle.ckr_base.proofs.Options.{some-not-none}
use Rattle.ckr_library.specs.Places.{lead}

pub not_less : (r : Ordering) → r ≡ Equal → T (is_lt r) → ⊥
not_less r e low = subst (λ s. T (is_lt s)) e low

pub less : (o : Ordering) → T (is_lt o) → o ≡ Less
less Less p = refl
less Equal p = absurd p
less Greater p = absurd p

greater : (o : Ordering) → is_gt o ≡ true → o ≡ Greater
greater Less e = absurd (false≢true e)
greater Equal e = absurd (false≢true e)
greater Greater e = refl

both : (a b : Bool) → T a → T b → T (a && b)
both true b p q = q
both false b p q = p

module _ {K X : Type 0} (R : K → K → Ordering) where
  -- a key below a key that is below all isn't found
  pub find-below : IsTotalOrder R → (x k : K) → R k x ≡ Less → (es : List (K × X)) → T (below_all R x es) → map.find R k es ≡ None
  find-below o x k low [] below = refl
  find-below o x k low (e ∷ es) below =
      ap (λ r. cond (is_eq r) (Some e.1) (map.find R k es)) (o.trans k x e.0 low (less _ (T-and-first _ _ below))) ∙ find-below o x k low es (T-and-second _ _ below)

  -- a key that ties with one below all isn't found
  pub find-tied : IsTotalOrder R → (k x : K) → R k x ≡ Equal → (es : List (K × X)) → T (below_all R x es) → map.find R k es ≡ None
  find-tied o k x same [] below = refl
  find-tied o k x same (e ∷ es) below =
      ap (λ r. cond (is_eq r) (Some e.1) (map.find R k es)) (o.congr k x e.0 same ∙ less _ (T-and-first _ _ below)) ∙ find-tied o k x same es (T-and-second _ _ below)

  -- a key that ties with one below all stays out of the test of the others
  pub where_key-below : IsTotalOrder R → (k x : K) → R k x ≡ Equal → (es : List (K × X)) → T (below_all R x es) → where_key R (λ y. not (eq_by_cmp R k y)) es ≡ es
  where_key-below o k x same [] below = refl
  where_key-below o k x same (e ∷ es) below =
      let kept = where_key R (λ y. not (eq_by_cmp R k y)) es in
      ap (λ r. cond (not (is_eq r)) (e ∷ kept) kept) (o.congr k x e.0 same ∙ less _ (T-and-first _ _ below)) ∙ ap (λ rest. e ∷ rest) (where_key-below o k x same es (T-and-second _ _ below))

module _ {A K X : Type 0} (R : K → K → Ordering) (f : A → K × X) where
  -- the place of a key: before it stand the lower keys alone
  abbrev pub place : K → List A → ℕ
  place k items = lead (λ item. is_gt (R k (f item).0)) items

  below_at : (x : K) (items : List A) → T (below_all R x (map f items)) → (j : ℕ) (d : A) → j < length items → R x (f (slice_index_or items j d)).0 ≡ Less
  below_at x [] below j d inside = absurd (omega (arith, inside))
  below_at x (item ∷ items) below zero d inside = less _ (T-and-first _ _ below)
  below_at x (item ∷ items) below (suc j) d inside = below_at x items (T-and-second _ _ below) j d (omega (arith, inside))

  lower : IsTotalOrder R → (k x y : K) → R x y ≡ Less → is_gt (R k y) ≡ true → is_gt (R k x) ≡ true
  lower o k x y low above =
      ap is_gt (o.antisymm k x ∙ ap ordering_reverse (o.trans x y k low (o.antisymm y k ∙ ap ordering_reverse (greater (R k y) above))))

  -- the keys below k stand before the others
  pub parted : IsTotalOrder R → (k : K) (items : List A) → T (map.is_sorted R (map f items)) → IsPartitionedBy (λ item. is_gt (R k (f item).0)) items
  parted o k [] rises i j d le inside above = absurd (omega (arith, inside))
  parted o k (item ∷ items) rises zero zero d le inside above = above
  parted o k (item ∷ items) rises zero (suc j) d le inside above =
      lower o k (f item).0 (f (slice_index_or items j d)).0 (below_at (f item).0 items (T-and-first _ _ rises) j d (omega (arith, inside))) above
  parted o k (item ∷ items) rises (suc i) zero d le inside above = absurd (omega (arith, le))
  parted o k (item ∷ items) rises (suc i) (suc j) d le inside above = parted o k items (T-and-second _ _ rises) i j d (omega (arith, le)) (omega (arith, inside)) above

  -- the value of an item, if it has this key
  abbrev pub found_at : K → Option A → Option X
  found_at k None = None
  found_at k (Some item) = cond (eq_by_cmp R k (f item).0) (Some (f item).1) None

  -- a key that isn't found goes to its place
  pub put-absent : (k : K) (v : X) (new : A) → f new ≡ (k, v) → (items : List A) → map.find R k (map f items) ≡ None → map.put R k v (map f items) ≡ map f (insert items (place k items) new)
  put-absent k v new is [] absent = ap (λ e. e ∷ []) (sym is)
  put-absent k v new is (item ∷ items) absent =
      elim (R k (f item).0) as (λ r. cond (is_eq r) (Some (f item).1) (map.find R k (map f items)) ≡ None → by_order r ((k, v) ∷ map f (item ∷ items)) (((f item).0, v) ∷ map f items) (f item ∷ map.put R k v (map f items)) ≡ map f (insert (item ∷ items) (cond (is_gt r) (suc (place k items)) 0) new)) [
        | Less ↦ λ none. ap (λ e. e ∷ map f (item ∷ items)) (sym is)
        | Equal ↦ λ none. absurd (some-not-none _ none)
        | Greater ↦ λ none. ap (λ es. f item ∷ es) (put-absent k v new is items none)
      ] absent

  -- the item at a key's place takes the value, and keeps its key
  pub put-present : (k : K) (v : X) (old new : A) → (items : List A) → slice_get items (place k items) ≡ Some old → R k (f old).0 ≡ Equal → f new ≡ ((f old).0, v) → map.put R k v (map f items) ≡ map f (slice_set items (place k items) new)
  put-present k v old new [] at tied is = absurd (some-not-none _ (sym at))
  put-present k v old new (item ∷ items) at tied is =
      elim (R k (f item).0) as (λ r. R k (f item).0 ≡ r → slice_get (item ∷ items) (cond (is_gt r) (suc (place k items)) 0) ≡ Some old → by_order r ((k, v) ∷ map f (item ∷ items)) (((f item).0, v) ∷ map f items) (f item ∷ map.put R k v (map f items)) ≡ map f (slice_set (item ∷ items) (cond (is_gt r) (suc (place k items)) 0) new)) [
        | Less ↦ λ less here. absurd (not_less _ (ap (λ a. R k (f a).0) (same_Some item old here) ∙ tied) (subst (λ s. T (is_lt s)) (sym less) tt))
        | Equal ↦ λ same here. ap (λ e. e ∷ map f items) (sym (is ∙ ap (λ a. ((f a).0, v)) (sym (same_Some item old here))))
        | Greater ↦ λ more here. ap (λ es. f item ∷ es) (put-present k v old new items here tied is)
      ] refl at

  -- what stands at a key's place tells what is found at the key
  pub find-place : IsTotalOrder R → (k : K) (items : List A) → T (map.is_sorted R (map f items)) → map.find R k (map f items) ≡ found_at k (slice_get items (place k items))
  find-place o k [] rises = refl
  find-place o k (item ∷ items) rises =
      elim (R k (f item).0) as (λ r. R k (f item).0 ≡ r → cond (is_eq r) (Some (f item).1) (map.find R k (map f items)) ≡ found_at k (slice_get (item ∷ items) (cond (is_gt r) (suc (place k items)) 0))) [
        | Less ↦ λ less. find-below R o (f item).0 k less (map f items) (T-and-first _ _ rises) ∙ ap (λ r. cond (is_eq r) (Some (f item).1) None) (sym less)
        | Equal ↦ λ same. ap (λ r. cond (is_eq r) (Some (f item).1) None) (sym same)
        | Greater ↦ λ more. find-place o k items (T-and-second _ _ rises)
      ] refl

  -- to take out the item at a key's place is to keep the other keys
  pub where_key-remove : IsTotalOrder R → (k : K) (old : A) (items : List A) → T (map.is_sorted R (map f items)) → slice_get items (place k items) ≡ Some old → R k (f old).0 ≡ Equal → map f (remove items (place k items)) ≡ where_key R (λ x. not (eq_by_cmp R k x)) (map f items)
  where_key-remove o k old [] rises at tied = absurd (some-not-none _ (sym at))
  where_key-remove o k old (item ∷ items) rises at tied =
      let kept = where_key R (λ x. not (eq_by_cmp R k x)) (map f items) in
      elim (R k (f item).0) as (λ r. R k (f item).0 ≡ r → slice_get (item ∷ items) (cond (is_gt r) (suc (place k items)) 0) ≡ Some old → map f (remove (item ∷ items) (cond (is_gt r) (suc (place k items)) 0)) ≡ cond (not (is_eq r)) (f item ∷ kept) kept) [
        | Less ↦ λ less here. absurd (not_less _ (ap (λ a. R k (f a).0) (same_Some item old here) ∙ tied) (subst (λ s. T (is_lt s)) (sym less) tt))
        | Equal ↦ λ same here. sym (where_key-below R o k (f item).0 same (map f items) (T-and-first _ _ rises))
        | Greater ↦ λ more here. ap (λ es. f item ∷ es) (where_key-remove o k old items (T-and-second _ _ rises) here tied)
      ] refl at

  found_item : (k : K) (r : Option A) → IsSome (found_at k r) → (old : A) × (r ≡ Some old) × (R k (f old).0 ≡ Equal)
  found_item k None there = absurd (false≢true there)
  found_item k (Some item) there =
      elim (R k (f item).0) as (λ r. R k (f item).0 ≡ r → IsSome (cond (is_eq r) (Some (f item).1) None) → (old : A) × (Some item ≡ Some old) × (R k (f old).0 ≡ Equal)) [
        | Less ↦ λ less no. absurd (false≢true no)
        | Equal ↦ λ same yes. (item, refl, same)
        | Greater ↦ λ more no. absurd (false≢true no)
      ] refl there

  -- a key that is found stands at its place
  pub at_place : IsTotalOrder R → (k : K) (items : List A) → T (map.is_sorted R (map f items)) → IsSome (map.find R k (map f items)) → (old : A) × (slice_get items (place k items) ≡ Some old) × (R k (f old).0 ≡ Equal)
  at_place o k items rises there = found_item k (slice_get items (place k items)) (subst IsSome (find-place o k items rises) there)
