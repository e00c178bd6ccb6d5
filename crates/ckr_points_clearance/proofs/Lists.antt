-- Tests of lists that a function goes through.
use Rattle.std.proofs.Common.{◌≡◌, ℕ, ◌-◌, length, take, drop, length-drop, arith, ◌&&◌, ◌||◌, Bool, true, false, not, cond, List, [], ◌∷◌, filter, refl, ap, sym, ◌∙◌, Some, None, Option}
use Rattle.std.specs.Option.{option_map_or}
use Rattle.std.specs.List.{cons_option, filter_map, list_all}
use Rattle.ckr_base.proofs.Sequences.{take-most}

pub and-swap : (a b c : Bool) → (a && (b && c)) ≡ (b && (a && c))
and-swap true b c = refl
and-swap false true c = refl
and-swap false false c = refl

pub all-filter_mapped : {A B : Type 0} (f : A → Option B) (test : B → Bool) (items : List A) → list_all test (filter_map f items) ≡ list_all (λ item. option_map_or test (f item) true) items
all-filter_mapped f test [] = refl
all-filter_mapped {A} {B} f test (item ∷ items) = by (f item) (all-filter_mapped f test items)
  where
    by : (found : Option B) → list_all test (filter_map f items) ≡ list_all (λ one. option_map_or test (f one) true) items → list_all test (cons_option found (filter_map f items)) ≡ (option_map_or test found true && list_all (λ one. option_map_or test (f one) true) items)
    by None rest = rest
    by (Some other) rest = ap (λ b. test other && b) rest

pub all-filtered : {A : Type 0} (keeps test : A → Bool) (items : List A) → list_all test (filter keeps items) ≡ list_all (λ item. not (keeps item) || test item) items
all-filtered keeps test [] = refl
all-filtered keeps test (item ∷ items) =
    elim (keeps item) as (λ b. list_all test (cond b (item ∷ filter keeps items) (filter keeps items)) ≡ ((not b || test item) && list_all (λ one. not (keeps one) || test one) items)) [
      | true ↦ ap (λ b. test item && b) (all-filtered keeps test items)
      | false ↦ all-filtered keeps test items
    ]

-- a test of both kinds
pub all-both : {A : Type 0} (one other : A → Bool) (items : List A) → list_all (λ item. one item && other item) items ≡ (list_all one items && list_all other items)
all-both one other [] = refl
all-both one other (item ∷ items) =
    ap (λ b. (one item && other item) && b) (all-both one other items) ∙ four (one item) (other item) (list_all one items) (list_all other items)
  where
    four : (a b c d : Bool) → ((a && b) && (c && d)) ≡ ((a && c) && (b && d))
    four true b c d = and-swap b c d
    four false b c d = refl

-- each item of one list with each of another, in either order
pub all-turned : {A B : Type 0} (test : A → B → Bool) (ones : List A) (others : List B) → list_all (λ one. list_all (test one) others) ones ≡ list_all (λ other. list_all (λ one. test one other) ones) others
all-turned test [] others = sym (none others)
  where
    none : {B : Type 0} (others : List B) → list_all (λ (other : B). true) others ≡ true
    none [] = refl
    none (other ∷ others) = none others
all-turned test (one ∷ ones) others =
    ap (λ b. list_all (test one) others && b) (all-turned test ones others)
    ∙ sym (all-both (test one) (λ other. list_all (λ item. test item other) ones) others)

pub to-the-end : {A : Type 0} (items : List A) (place : ℕ) → take (length items - place) (drop place items) ≡ drop place items
to-the-end items place = take-most (length items - place) (drop place items) (omega (arith, length-drop place items))
