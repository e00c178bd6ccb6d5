-- What holds against what: the same from both sides, and by one use for each name as by all uses.
use Rattle.std.proofs.Common.{◌≡◌, Bool, true, false, not, ◌&&◌, ◌||◌, List, [], ◌∷◌, filter, map, refl, ap, sym, ◌∙◌, cond}
use Rattle.std.specs.List.{list_any}
use Rattle.std.proofs.lemmas.Bool.{and_from, or_right}
use Rattle.ckr_base.proofs.Bools.{and-first, and-second, bool-same, false-not-true}
use Rattle.ckr_library.specs.declared.uses.Use.{Use}
use Rattle.ckr_library.specs.NameMaps.{Name, same_name}
use Rattle.ckr_library.proofs.Named.{name-alike, name-equivalence}
use Rattle.ckr_uses.specs.Uses.{collides, holds, is_exclusive_of, merged, names_in, names_once, use_among}

-- ---- tests

or-comm : (a b : Bool) → (a || b) ≡ (b || a)
or-comm true true = refl
or-comm true false = refl
or-comm false true = refl
or-comm false false = refl

regroup : (a b c d : Bool) → ((a || b) || (c || d)) ≡ ((a || c) || (b || d))
regroup true b c d = refl
regroup false true true d = refl
regroup false true false d = refl
regroup false false c d = refl

module _ {X : Type 0} where
  list_any-same : (p q : X → Bool) → ((x : X) → p x ≡ q x) → (xs : List X) → list_any p xs ≡ list_any q xs
  list_any-same p q e [] = refl
  list_any-same p q e (x ∷ xs) = ap (λ b. b || list_any p xs) (e x) ∙ ap (λ b. q x || b) (list_any-same p q e xs)

  none : (xs : List X) → list_any (λ (x : X). false) xs ≡ false
  none [] = refl
  none (x ∷ xs) = none xs

  list_any-or : (p q : X → Bool) (xs : List X) → list_any (λ x. p x || q x) xs ≡ (list_any p xs || list_any q xs)
  list_any-or p q [] = refl
  list_any-or p q (x ∷ xs) = ap (λ b. (p x || q x) || b) (list_any-or p q xs) ∙ regroup (p x) (q x) (list_any p xs) (list_any q xs)

  -- an element that passes, which stands in the list
  pub some_of : (p : X → Bool) (xs : List X) → list_any p xs ≡ true → (x : X) × ((q : X → Bool) → q x ≡ true → list_any q xs ≡ true) × (p x ≡ true)
  some_of p [] e = false-not-true e
  some_of p (x ∷ xs) e =
      elim (p x) as (λ b. p x ≡ b → (b || list_any p xs) ≡ true → (y : X) × ((q : X → Bool) → q y ≡ true → (q x || list_any q xs) ≡ true) × (p y ≡ true)) [
        | true ↦ λ here h. (x, λ q f. ap (λ b. b || list_any q xs) f, here)
        | false ↦ λ gone h. let rest = some_of p xs h in (rest.0, λ q f. or_right (q x) (list_any q xs) (rest.1 q f), rest.2)
      ] refl e

list_any-swap : {X Y : Type 0} (R : X → Y → Bool) (xs : List X) (ys : List Y) → list_any (λ x. list_any (R x) ys) xs ≡ list_any (λ y. list_any (λ x. R x y) xs) ys
list_any-swap R [] ys = sym (none ys)
list_any-swap R (x ∷ xs) ys = ap (λ b. list_any (R x) ys || b) (list_any-swap R xs ys) ∙ sym (list_any-or (R x) (λ y. list_any (λ x. R x y) xs) ys)

-- ---- from both sides

collides-symm : (first second : Use) → collides first second ≡ collides second first
collides-symm first second =
    ap (λ same. same && (first.exclusive || second.exclusive)) (name-equivalence.symm first.name second.name)
    ∙ ap (λ either. same_name second.name first.name && either) (or-comm first.exclusive second.exclusive)

pub holds-symm : (first second : List Use) → holds first second ≡ holds second first
holds-symm first second =
    list_any-swap collides first second
    ∙ list_any-same (λ y. list_any (λ x. collides x y) first) (λ y. list_any (collides y) first) (λ y. list_any-same (λ x. collides x y) (collides y) (λ x. collides-symm x y) first) second

-- ---- one use for each name

module _ (P : Name → Bool) (respects : (one other : Name) → same_name one other ≡ true → P one ≡ P other) where
  passed_over : (p f l x : Bool) → (p || f) ≡ (p || l) → x ≡ p → (p || f) ≡ (p || (x || l))
  passed_over true f l x e g = refl
  passed_over false f l x e g = e ∙ ap (λ b. b || l) (sym g)

  kept : (p f l x : Bool) → (p || f) ≡ (p || l) → (p || (x || f)) ≡ (p || (x || l))
  kept true f l x e = refl
  kept false f l x e = ap (λ b. x || b) e

  filter-any : (name : Name) (others : List Name) → (P name || list_any P (filter (λ other. not (same_name other name)) others)) ≡ (P name || list_any P others)
  filter-any name [] = refl
  filter-any name (other ∷ others) =
      let left = filter (λ other. not (same_name other name)) others in
      elim (same_name other name) as (λ b. same_name other name ≡ b → (P name || list_any P (cond (not b) (other ∷ left) left)) ≡ (P name || (P other || list_any P others))) [
        | true ↦ λ e. passed_over (P name) (list_any P left) (list_any P others) (P other) (filter-any name others) (respects other name e)
        | false ↦ λ e. kept (P name) (list_any P left) (list_any P others) (P other) (filter-any name others)
      ] refl

  once-any : (all : List Name) → list_any P (names_once all) ≡ list_any P all
  once-any [] = refl
  once-any (name ∷ all) = filter-any name (names_once all) ∙ ap (λ b. P name || b) (once-any all)

list_any-map : {X Y : Type 0} (p : Y → Bool) (f : X → Y) (xs : List X) → list_any p (map f xs) ≡ list_any (λ x. p (f x)) xs
list_any-map p f [] = refl
list_any-map p f (x ∷ xs) = ap (λ b. p (f x) || b) (list_any-map p f xs)

-- a test of a use by its name, and by whether it is exclusive
module _ (uses : List Use) (p : Use → Bool) where
  abbrev pub by_name : Name → Bool
  by_name name = p (use_among uses name)

  pub merged-any : ((one other : Name) → same_name one other ≡ true → by_name one ≡ by_name other) → list_any p (merged uses) ≡ list_any (λ (used : Use). by_name used.name) uses
  merged-any respects =
      list_any-map p (use_among uses) (names_once (names_in uses))
      ∙ once-any by_name respects (names_in uses)
      ∙ list_any-map by_name (λ (used : Use). used.name) uses

pub exclusive-respects : (uses : List Use) (one other : Name) → same_name one other ≡ true → list_any (is_exclusive_of one) uses ≡ list_any (is_exclusive_of other) uses
exclusive-respects uses one other e = list_any-same (is_exclusive_of one) (is_exclusive_of other) (λ used. ap (λ b. b && used.exclusive) (name-equivalence.congr one other used.name e)) uses

among-respects : (uses second : List Use) (one other : Name) → same_name one other ≡ true → list_any (collides (use_among uses one)) second ≡ list_any (collides (use_among uses other)) second
among-respects uses second one other e =
    list_any-same (collides (use_among uses one)) (collides (use_among uses other))
    (λ used. ap (λ b. b && (list_any (is_exclusive_of one) uses || used.exclusive)) (name-equivalence.congr one other used.name e)
    ∙ ap (λ b. same_name other used.name && (b || used.exclusive)) (exclusive-respects uses one other e))
    second

-- a use that meets another one, or has an exclusive use beside it that does
meets : (uses second : List Use) (other : Use) (used : Use) → ((q : Use → Bool) → q used ≡ true → list_any q uses ≡ true) → ((q : Use → Bool) → q other ≡ true → list_any q second ≡ true) → collides (use_among uses used.name) other ≡ true → holds uses second ≡ true
meets uses second other used stands there e =
    elim other.exclusive as (λ b. other.exclusive ≡ b → (list_any (is_exclusive_of used.name) uses || b) ≡ true → holds uses second ≡ true) [
      | true ↦ λ exclusive h. stands (λ mine. list_any (collides mine) second) (there (collides used) (and_from (same_name used.name other.name) (used.exclusive || other.exclusive) same (or_right used.exclusive other.exclusive exclusive)))
      | false ↦ λ shared h.
          let beside = some_of (is_exclusive_of used.name) uses (sym (or-comm (list_any (is_exclusive_of used.name) uses) false) ∙ h) in
          let near : same_name beside.0.name other.name ≡ true = name-alike used.name beside.0.name other.name (and-first _ _ beside.2) same in
          beside.1 (λ mine. list_any (collides mine) second)
          (there (collides beside.0) (and_from (same_name beside.0.name other.name) (beside.0.exclusive || other.exclusive) near (ap (λ b. b || other.exclusive) (and-second _ _ beside.2))))
    ] refl (and-second _ _ e)
  where
    same : same_name used.name other.name ≡ true
    same = and-first _ _ e

-- the use that a merged one stands for, if it is exclusive or meets an exclusive one
beside : (uses : List Use) (mine other : Use) → ((q : Use → Bool) → q mine ≡ true → list_any q uses ≡ true) → (mine.exclusive || other.exclusive) ≡ true → (list_any (is_exclusive_of mine.name) uses || other.exclusive) ≡ true
beside uses mine other stands h =
    elim mine.exclusive as (λ b. mine.exclusive ≡ b → (b || other.exclusive) ≡ true → (list_any (is_exclusive_of mine.name) uses || other.exclusive) ≡ true) [
      | true ↦ λ is h. ap (λ b. b || other.exclusive) (stands (is_exclusive_of mine.name) (and_from (same_name mine.name mine.name) mine.exclusive (name-equivalence.refl mine.name) is))
      | false ↦ λ is h. or_right (list_any (is_exclusive_of mine.name) uses) other.exclusive h
    ] refl h

module _ (uses second : List Use) where
  abbrev held_by : Use → Bool
  held_by used = list_any (collides (use_among uses used.name)) second

  abbrev held : Use → Bool
  held used = list_any (collides used) second

  down : list_any held_by uses ≡ true → holds uses second ≡ true
  down e =
      let mine = some_of held_by uses e in
      let other = some_of (collides (use_among uses mine.0.name)) second mine.2 in
      meets uses second other.0 mine.0 mine.1 other.1 other.2

  up_at : (mine other : Use) → ((q : Use → Bool) → q mine ≡ true → list_any q uses ≡ true) → collides mine other ≡ true → collides (use_among uses mine.name) other ≡ true
  up_at mine other stands e =
      and_from (same_name mine.name other.name) (list_any (is_exclusive_of mine.name) uses || other.exclusive) (and-first (same_name mine.name other.name) (mine.exclusive || other.exclusive) e)
      (beside uses mine other stands (and-second (same_name mine.name other.name) (mine.exclusive || other.exclusive) e))

  up : holds uses second ≡ true → list_any held_by uses ≡ true
  up e =
      let mine = some_of held uses e in
      let other = some_of (collides mine.0) second mine.2 in
      mine.1 held_by (other.1 (collides (use_among uses mine.0.name)) (up_at mine.0 other.0 mine.1 other.2))

  merged-holds : holds (merged uses) second ≡ holds uses second
  merged-holds = merged-any uses held (among-respects uses second) ∙ bool-same (list_any held_by uses) (holds uses second) down up

-- one use for each name holds as all uses do
pub holds-merged : (first second : List Use) → holds (merged first) (merged second) ≡ holds first second
holds-merged first second = merged-holds first (merged second) ∙ holds-symm first (merged second) ∙ merged-holds second first ∙ holds-symm second first
