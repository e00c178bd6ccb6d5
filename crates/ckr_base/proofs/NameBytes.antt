-- What bytes names have, and digits among them.
-- name8-named            each byte of a name is a byte of names
-- digit-named            so is a digit
-- digits-named           and each of the last digits of a number
-- digits-length          so many digits
-- digits-same            numbers of so many digits are told apart by them
use Rattle.std.proofs.Common.{◌≡◌, ◌<◌, ◌+◌, ◌/◌, ◌%◌, ◌^◌, ℕ, zero, suc, true, nat_le, ◌&&◌, List, [], ◌∷◌, ◌++◌, length, refl, ap, ◌∙◌, arith}
use Rattle.std.proofs.Math.Nat.{pow-suc}
use Rattle.std.proofs.lemmas.Bool.Decides.{nat_tests}
use Rattle.std.proofs.lemmas.List.{length-append}
use Rattle.std.proofs.lemmas.List.Folds.{list_all-append}
use Rattle.std.specs.List.{list_all}
use Rattle.ckr_base.specs.Digits.{last_digits}
use Rattle.ckr_base.specs.Grammar.{is_name8, is_name_byte, is_name_start}
use Rattle.ckr_base.proofs.Bools.{and-second}
use Rattle.ckr_base.proofs.Sequences.{head-same, tail-same}

pub name8-named : (name : List ℕ) → is_name8 name ≡ true → list_all is_name_byte name ≡ true
name8-named [] is = refl
name8-named (byte ∷ rest) is = and-second (is_name_start byte && nat_le (length (byte ∷ rest)) 8) (list_all is_name_byte (byte ∷ rest)) is

pub digit-named : (n : ℕ) → is_name_byte (48 + n % 10) ≡ true
digit-named n = grind (arith, nat_tests)

pub digits-named : (count number : ℕ) → list_all is_name_byte (last_digits count number) ≡ true
digits-named zero number = refl
digits-named (suc count) number = list_all-append is_name_byte (last_digits count (number / 10)) ((48 + number % 10) ∷ []) ∙ grind (arith, digit-named number, digits-named count (number / 10))

pub digits-length : (count number : ℕ) → length (last_digits count number) ≡ count
digits-length zero number = refl
digits-length (suc count) number = length-append (last_digits count (number / 10)) ((48 + number % 10) ∷ []) ∙ omega (arith, digits-length count (number / 10))

joined : (a b : ℕ) (xs ys : List ℕ) → a ≡ b → xs ≡ ys → a ∷ xs ≡ b ∷ ys
joined a b xs ys e f = cc

too_long : {A : Type 0} (xs : List ℕ) (x : ℕ) → [] ≡ xs ++ x ∷ [] → A
too_long xs x e = absurd (omega (arith, length-append xs (x ∷ []), ap length e))

too_short : {A : Type 0} (xs : List ℕ) (x : ℕ) → xs ++ x ∷ [] ≡ [] → A
too_short xs x e = absurd (omega (arith, length-append xs (x ∷ []), ap length e))

-- lists with an element behind each
fronts : (xs ys : List ℕ) (x y : ℕ) → xs ++ x ∷ [] ≡ ys ++ y ∷ [] → xs ≡ ys
fronts [] [] x y e = refl
fronts [] (b ∷ ys) x y e = too_long ys y (tail-same x b [] (ys ++ y ∷ []) e)
fronts (a ∷ xs) [] x y e = too_short xs x (tail-same a y (xs ++ x ∷ []) [] e)
fronts (a ∷ xs) (b ∷ ys) x y e = joined a b xs ys (head-same a b (xs ++ x ∷ []) (ys ++ y ∷ []) e) (fronts xs ys x y (tail-same a b (xs ++ x ∷ []) (ys ++ y ∷ []) e))

lasts : (xs ys : List ℕ) (x y : ℕ) → xs ++ x ∷ [] ≡ ys ++ y ∷ [] → x ≡ y
lasts [] [] x y e = head-same x y [] [] e
lasts [] (b ∷ ys) x y e = too_long ys y (tail-same x b [] (ys ++ y ∷ []) e)
lasts (a ∷ xs) [] x y e = too_short xs x (tail-same a y (xs ++ x ∷ []) [] e)
lasts (a ∷ xs) (b ∷ ys) x y e = lasts xs ys x y (tail-same a b (xs ++ x ∷ []) (ys ++ y ∷ []) e)

pub digits-same : (count one two : ℕ) → one < 10 ^ count → two < 10 ^ count → last_digits count one ≡ last_digits count two → one ≡ two
digits-same zero one two small little e = omega arith
digits-same (suc count) one two small little e =
    let higher : one / 10 ≡ two / 10 =
    digits-same count (one / 10) (two / 10) (tenth count one small) (tenth count two little)
    (fronts (last_digits count (one / 10)) (last_digits count (two / 10)) (48 + one % 10) (48 + two % 10) e) in
    let last : 48 + one % 10 ≡ 48 + two % 10 = lasts (last_digits count (one / 10)) (last_digits count (two / 10)) (48 + one % 10) (48 + two % 10) e in
    omega arith
  where
    tenth : (count number : ℕ) → number < 10 ^ suc count → number / 10 < 10 ^ count
    tenth count number h = omega (arith, pow-suc 10 count)
