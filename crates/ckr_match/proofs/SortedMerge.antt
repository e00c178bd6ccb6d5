-- The stable sort of two ordered prefixes is their merge.
use Rattle.std.proofs.Common.{◌≡◌, Bool, true, false, cond, List, [], ◌∷◌, ◌++◌, append-nil, if◌then◌else◌, refl, sym, ap, ◌∙◌}
use Rattle.ckr_match.specs.InputOrder.{Taken, Keys, key_of, stands_below, may_follow, ordered_prefix, inserted, sorted_by_key}
use Rattle.ckr_match.proofs.Keys.{below-not_below, before_is_low}

-- a record behind those of the list that are below it, and what is to be done with the others behind it
abbrev pub onto : Keys → Taken → (List Taken → List Taken) → List Taken → List Taken
onto keys x behind [] = x ∷ behind []
onto keys x behind (z ∷ zs) = if stands_below keys z x then z ∷ onto keys x behind zs else x ∷ behind (z ∷ zs)

abbrev pub merged : Keys → List Taken → List Taken → List Taken
merged keys [] zs = zs
merged keys (x ∷ xs) zs = onto keys x (merged keys xs) zs

-- the first record isn't below this one
abbrev pub IsLow : Keys → Taken → List Taken → Type 0
IsLow keys x [] = Unit {0}
IsLow keys x (y ∷ ys) = stands_below keys y x ≡ false

inserted-onto : (keys : Keys) (x y : Taken) (behind : List Taken → List Taken) (zs : List Taken) → stands_below keys y x ≡ false → inserted keys x (onto keys y behind zs) ≡ onto keys x (λ ws. onto keys y behind ws) zs
inserted-onto keys x y behind [] low = ap (λ b. cond b (y ∷ inserted keys x (behind [])) (x ∷ y ∷ behind [])) low
inserted-onto keys x y behind (z ∷ zs) low = by (stands_below keys z x) refl (inserted-onto keys x y behind zs low)
  where
    by : (b : Bool) → stands_below keys z x ≡ b → inserted keys x (onto keys y behind zs) ≡ onto keys x (λ ws. onto keys y behind ws) zs → inserted keys x (onto keys y behind (z ∷ zs)) ≡ onto keys x (λ ws. onto keys y behind ws) (z ∷ zs)
    by true e more =
        let under : stands_below keys z y ≡ true = below-not_below (key_of keys z) (key_of keys x) (key_of keys y) e low in
        ap (λ b. inserted keys x (cond b (z ∷ onto keys y behind zs) (y ∷ behind (z ∷ zs)))) under
        ∙ ap (λ b. cond b (z ∷ inserted keys x (onto keys y behind zs)) (x ∷ z ∷ onto keys y behind zs)) e
        ∙ ap (λ ws. z ∷ ws) more
        ∙ sym (ap (λ b. cond b (z ∷ onto keys x (λ ws. onto keys y behind ws) zs) (x ∷ onto keys y behind (z ∷ zs))) e)
    by false e more =
        front (stands_below keys z y) refl
        ∙ sym (ap (λ b. cond b (z ∷ onto keys x (λ ws. onto keys y behind ws) zs) (x ∷ onto keys y behind (z ∷ zs))) e)
      where
        front : (b : Bool) → stands_below keys z y ≡ b → inserted keys x (onto keys y behind (z ∷ zs)) ≡ x ∷ onto keys y behind (z ∷ zs)
        front true f =
            ap (λ b. inserted keys x (cond b (z ∷ onto keys y behind zs) (y ∷ behind (z ∷ zs)))) f
            ∙ ap (λ b. cond b (z ∷ inserted keys x (onto keys y behind zs)) (x ∷ z ∷ onto keys y behind zs)) e
            ∙ sym (ap (λ b. x ∷ cond b (z ∷ onto keys y behind zs) (y ∷ behind (z ∷ zs))) f)
        front false f =
            ap (λ b. inserted keys x (cond b (z ∷ onto keys y behind zs) (y ∷ behind (z ∷ zs)))) f
            ∙ ap (λ b. cond b (y ∷ inserted keys x (behind (z ∷ zs))) (x ∷ y ∷ behind (z ∷ zs))) low
            ∙ sym (ap (λ b. x ∷ cond b (z ∷ onto keys y behind zs) (y ∷ behind (z ∷ zs))) f)

-- a record that isn't above the first list goes in as the head of that list would
pub inserted-merged : (keys : Keys) (x : Taken) (xs zs : List Taken) → IsLow keys x xs → inserted keys x (merged keys xs zs) ≡ merged keys (x ∷ xs) zs
inserted-merged keys x (y ∷ ys) zs low = inserted-onto keys x y (merged keys ys) zs low
inserted-merged keys x [] [] low = refl
inserted-merged keys x [] (z ∷ zs) low = by (stands_below keys z x) refl (inserted-merged keys x [] zs tt)
  where
    by : (b : Bool) → stands_below keys z x ≡ b → inserted keys x zs ≡ merged keys (x ∷ []) zs → inserted keys x (z ∷ zs) ≡ merged keys (x ∷ []) (z ∷ zs)
    by true e more =
        ap (λ b. cond b (z ∷ inserted keys x zs) (x ∷ z ∷ zs)) e ∙ ap (λ ws. z ∷ ws) more
        ∙ sym (ap (λ b. cond b (z ∷ onto keys x (λ ws. ws) zs) (x ∷ z ∷ zs)) e)
    by false e more =
        ap (λ b. cond b (z ∷ inserted keys x zs) (x ∷ z ∷ zs)) e
        ∙ sym (ap (λ b. cond b (z ∷ onto keys x (λ ws. ws) zs) (x ∷ z ∷ zs)) e)

pub merged-nil : (keys : Keys) (xs : List Taken) → merged keys xs [] ≡ xs
merged-nil keys [] = refl
merged-nil keys (x ∷ xs) = ap (λ ws. x ∷ ws) (merged-nil keys xs)

-- the next record isn't below this one, out of order or not
low_prefix : (keys : Keys) (x y : Taken) (ys : List Taken) → stands_below keys y x ≡ false → IsLow keys x (ordered_prefix keys (y ∷ ys))
low_prefix keys x y [] low = low
low_prefix keys x y (z ∷ zs) low = elim (may_follow keys y z) as (λ b. IsLow keys x (cond b (y ∷ ordered_prefix keys (z ∷ zs)) (record y { faulty = true } ∷ []))) [ true ↦ low | false ↦ low ]

-- the prefix by whether the second record may follow the first
abbrev prefix_if : Keys → Taken → Taken → List Taken → Bool → List Taken
prefix_if keys x y ys b = cond b (x ∷ ordered_prefix keys (y ∷ ys)) (record x { faulty = true } ∷ [])

pub sorted-prefix : (keys : Keys) (xs others zs : List Taken) → sorted_by_key keys others ≡ zs → sorted_by_key keys (ordered_prefix keys xs ++ others) ≡ merged keys (ordered_prefix keys xs) zs
sorted-prefix keys [] others zs e = e
sorted-prefix keys (x ∷ []) others zs e = ap (inserted keys x) e ∙ inserted-merged keys x [] zs tt
sorted-prefix keys (x ∷ y ∷ ys) others zs e = by (may_follow keys x y) refl (sorted-prefix keys (y ∷ ys) others zs e)
  where
    by : (b : Bool) → may_follow keys x y ≡ b → sorted_by_key keys (ordered_prefix keys (y ∷ ys) ++ others) ≡ merged keys (ordered_prefix keys (y ∷ ys)) zs → sorted_by_key keys (ordered_prefix keys (x ∷ y ∷ ys) ++ others) ≡ merged keys (ordered_prefix keys (x ∷ y ∷ ys)) zs
    by true f more =
        ap (λ b. sorted_by_key keys (prefix_if keys x y ys b ++ others)) f
        ∙ ap (inserted keys x) more
        ∙ inserted-merged keys x (ordered_prefix keys (y ∷ ys)) zs (low_prefix keys x y ys (before_is_low keys x y f))
        ∙ sym (ap (λ b. merged keys (prefix_if keys x y ys b) zs) f)
    by false f more =
        ap (λ b. sorted_by_key keys (prefix_if keys x y ys b ++ others)) f
        ∙ ap (inserted keys (record x { faulty = true })) e
        ∙ inserted-merged keys (record x { faulty = true }) [] zs tt
        ∙ sym (ap (λ b. merged keys (prefix_if keys x y ys b) zs) f)

pub sorted_prefixes : (keys : Keys) (xs zs : List Taken) → sorted_by_key keys (ordered_prefix keys xs ++ ordered_prefix keys zs) ≡ merged keys (ordered_prefix keys xs) (ordered_prefix keys zs)
sorted_prefixes keys xs zs =
    sorted-prefix keys xs (ordered_prefix keys zs) (ordered_prefix keys zs) (one zs)
  where
    one : (ws : List Taken) → sorted_by_key keys (ordered_prefix keys ws) ≡ ordered_prefix keys ws
    one ws = ap (sorted_by_key keys) (sym (append-nil (ordered_prefix keys ws))) ∙ sorted-prefix keys ws [] [] refl ∙ merged-nil keys (ordered_prefix keys ws)
