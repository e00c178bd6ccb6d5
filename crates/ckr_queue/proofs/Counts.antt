-- Counts of what passes a test, beside those of std (`std.proofs.lemmas.List.Sums`).
-- one_if           what one item adds to a count
-- count-cons       one more at the front
-- count-yes        one more that passes
-- count-no         one more that doesn't
-- count-set        an item in place of another
-- count-any        some passes: the count isn't 0
-- any-count        the count isn't 0: some passes
-- count-none       none passes: the count is 0
-- count-never      what never passes isn't counted
-- count-cover      what passes one of two tests
-- count-apart      what passes two tests that exclude each other
-- count-at-most    a weaker test
-- position-nowhere nothing found: the count is 0
-- one_if-cover       what a test adds that gives one of two others
-- one_if-at-most     what a test adds that gives another one
use Rattle.std.proofs.Common.{◌≡◌, ℕ, ◌+◌, ◌<◌, ◌≤◌, Bool, true, false, not, ◌||◌, ◌∙◌, List, [], ◌∷◌, None, arith, ap, cond, get_or, length, refl, set, sym}
use Rattle.std.specs.List.{count_by, list_any, position, position_or_len}
use Rattle.std.proofs.lemmas.List.Sums.{sum_by-cons, sum_by-set}
use Rattle.ckr_base.proofs.Bools.{bool-cases, false-not-true, or-first-false, or-second-false}
use Rattle.ckr_base.proofs.Sequences.{position-none}

-- what one item adds to a count
abbrev pub one_if : Bool → ℕ
one_if passes = cond passes 1 0

module _ {X : Type 0} (p : X → Bool) where
  pub count-cons : (x : X) (xs : List X) → count_by p (x ∷ xs) ≡ one_if (p x) + count_by p xs
  count-cons x xs = sum_by-cons (λ y. cond (p y) 1 0) x xs

  pub count-yes : (x : X) (xs : List X) → p x ≡ true → count_by p (x ∷ xs) ≡ 1 + count_by p xs
  count-yes x xs does = count-cons x xs ∙ ap (λ b. one_if b + count_by p xs) does

  pub count-no : (x : X) (xs : List X) → p x ≡ false → count_by p (x ∷ xs) ≡ 0 + count_by p xs
  count-no x xs isnt = count-cons x xs ∙ ap (λ b. one_if b + count_by p xs) isnt

  pub count-set : (xs : List X) (i : ℕ) (y d : X) → i < length xs → count_by p (set xs i y) + one_if (p (get_or xs i d)) ≡ count_by p xs + one_if (p y)
  count-set xs i y d inside = sum_by-set (λ x. cond (p x) 1 0) xs i y d inside

  pub count-any : (xs : List X) → list_any p xs ≡ true → 1 ≤ count_by p xs
  count-any [] some = false-not-true some
  count-any (x ∷ xs) some = bool-cases (p x)
      (λ does. omega (arith, count-yes x xs does))
      (λ isnt. omega (arith, count-no x xs isnt, count-any xs (sym (ap (λ b. b || list_any p xs) isnt) ∙ some)))

  pub any-count : (xs : List X) → 1 ≤ count_by p xs → list_any p xs ≡ true
  any-count [] more = absurd (omega arith)
  any-count (x ∷ xs) more = bool-cases (p x)
      (λ does. ap (λ b. b || list_any p xs) does)
      (λ isnt. ap (λ b. b || list_any p xs) isnt ∙ any-count xs (omega (arith, count-no x xs isnt)))

  pub count-none : (xs : List X) → list_any p xs ≡ false → count_by p xs ≡ 0
  count-none [] none = omega arith
  count-none (x ∷ xs) none = omega (arith, count-no x xs (or-first-false (p x) (list_any p xs) none), count-none xs (or-second-false (p x) (list_any p xs) none))

  pub count-never : (xs : List X) → ((x : X) → p x ≡ false) → count_by p xs ≡ 0
  count-never [] never = omega arith
  count-never (x ∷ xs) never = omega (arith, count-no x xs (never x), count-never xs never)

  lead-nowhere : (xs : List X) → length xs ≤ position_or_len p xs → count_by p xs ≡ 0
  lead-nowhere [] far = omega arith
  lead-nowhere (x ∷ xs) far = bool-cases (p x)
      (λ does. let e : position_or_len p (x ∷ xs) ≡ 0 = ap (λ b. cond (not b) (1 + position_or_len p xs) 0) does in absurd (omega arith))
      (λ isnt.
      let e : position_or_len p (x ∷ xs) ≡ 1 + position_or_len p xs = ap (λ b. cond (not b) (1 + position_or_len p xs) 0) isnt in
      omega (arith, count-no x xs isnt, lead-nowhere xs (omega arith)))

  pub position-nowhere : (xs : List X) → position p xs ≡ None → count_by p xs ≡ 0
  position-nowhere xs none = lead-nowhere xs (position-none p xs (sym none))

module _ {X : Type 0} (p q r : X → Bool) where
  pub count-cover : (xs : List X) → ((x : X) → one_if (r x) ≤ one_if (p x) + one_if (q x)) → count_by r xs ≤ count_by p xs + count_by q xs
  count-cover [] cover = omega arith
  count-cover (x ∷ xs) cover = omega (arith, cover x, count-cons p x xs, count-cons q x xs, count-cons r x xs, count-cover xs cover)

  pub count-apart : (xs : List X) → ((x : X) → one_if (p x) + one_if (q x) ≤ one_if (r x)) → count_by p xs + count_by q xs ≤ count_by r xs
  count-apart [] apart = omega arith
  count-apart (x ∷ xs) apart = omega (arith, apart x, count-cons p x xs, count-cons q x xs, count-cons r x xs, count-apart xs apart)

pub count-at-most : {X : Type 0} (p q : X → Bool) (xs : List X) → ((x : X) → one_if (p x) ≤ one_if (q x)) → count_by p xs ≤ count_by q xs
count-at-most p q [] weaker = omega arith
count-at-most p q (x ∷ xs) weaker = omega (arith, weaker x, count-cons p x xs, count-cons q x xs, count-at-most p q xs weaker)

-- what a test adds, from what its passing tells
pub one_if-cover : (a b c : Bool) → (a ≡ true → (b || c) ≡ true) → one_if a ≤ one_if b + one_if c
one_if-cover true true c gives = omega arith
one_if-cover true false true gives = omega arith
one_if-cover true false false gives = false-not-true (gives refl)
one_if-cover false b c gives = omega arith

pub one_if-at-most : (a b : Bool) → (a ≡ true → b ≡ true) → one_if a ≤ one_if b
one_if-at-most true true gives = omega arith
one_if-at-most true false gives = false-not-true (gives refl)
one_if-at-most false b gives = omega arith
