-- The steps of reading a header.
use Rattle.std.proofs.Common.{◌≡◌, ◌<◌, ℕ, zero, suc, ◌+◌, ◌-◌, ◌*◌, Bool, true, false, not, cond, nat_lt, List, [], ◌∷◌, ◌++◌, length, Some, None, Result, Ok, Err, position, replicate, append_assoc, add-one, refl, ap, sym, ◌∙◌, arith}
use Rattle.std.specs.List.{position_or_len}
use Rattle.std.proofs.lemmas.Bool.{ltb-false}
use Rattle.std.proofs.lemmas.List.Sums.{prefix_len-le-length}
use Rattle.std.proofs.lemmas.Option.{none-some, same_Some}
use Rattle.ckr_base.specs.declared.code.Code.{Code}
use Rattle.ckr_base.proofs.Options.{some-not-none}
use Rattle.ckr_volumes.specs.declared.layout.Volume.{Volume}
use Rattle.ckr_volumes.specs.Header.{word_at, lengths_at, volume_at, volumes_at, code_at, codes_at}

-- the place that a search finds, or the end
pub some_place : (p : ℕ → Bool) (xs : List ℕ) (n : ℕ) → position p xs ≡ Some n → n ≡ position_or_len p xs
some_place p xs n found =
    elim (nat_lt (position_or_len p xs) (length xs)) as (λ b. cond b (Some (position_or_len p xs)) None ≡ Some n → n ≡ position_or_len p xs) [
      | true ↦ λ is. sym (same_Some _ _ is)
      | false ↦ λ is. absurd (none-some _ is)
    ] found

pub none_place : (p : ℕ → Bool) (xs : List ℕ) → position p xs ≡ None → length xs ≡ position_or_len p xs
none_place p xs none =
    (elim (nat_lt (position_or_len p xs) (length xs)) as (λ b. nat_lt (position_or_len p xs) (length xs) ≡ b → cond b (Some (position_or_len p xs)) None ≡ None → length xs ≡ position_or_len p xs) [
      | true ↦ λ e is. absurd (some-not-none _ is)
      | false ↦ λ e is. omega (arith, ltb-false (position_or_len p xs) (length xs) e, prefix_len-le-length (λ x. not (p x)) xs)
    ]) refl none

-- one more of those that are left
less_one : (count number : ℕ) → number < count → count - number ≡ suc (count - (number + 1))
less_one count number less = omega (arith, less)

further : (at step number : ℕ) → at + step * number + step ≡ at + step * (number + 1)
further at step number = omega arith

pub lengths-next : (bytes : List ℕ) (count number : ℕ) → number < count → lengths_at (count - number) bytes (19 + 10 * number) ≡ word_at bytes (19 + 10 * number + 6) + lengths_at (count - (number + 1)) bytes (19 + 10 * (number + 1))
lengths-next bytes count number less =
    ap (λ n. lengths_at n bytes (19 + 10 * number)) (less_one count number less)
    ∙ ap (λ n. word_at bytes (19 + 10 * number + 6) + lengths_at (count - (number + 1)) bytes n) (further 19 10 number)

abbrev pub volumes_on : ℕ → List ℕ → List Volume → ℕ → ℕ → Result Volume ℕ → Result (List Volume) ℕ
volumes_on count bytes made start at (Ok volume) = volumes_at count bytes (made ++ volume ∷ []) (start + volume.bytes) at
volumes_on count bytes made start at (Err offset) = Err offset

volumes_step : (bytes : List ℕ) (count : ℕ) (made : List Volume) (start at : ℕ) (read : Result Volume ℕ) → volume_at bytes made start at ≡ read → volumes_at (suc count) bytes made start at ≡ volumes_on count bytes made start (at + 10) read
volumes_step bytes count made start at read is = ap (volumes_on count bytes made start (at + 10)) is

pub volumes-next : (bytes : List ℕ) (count number : ℕ) (made : List Volume) (start : ℕ) (read : Result Volume ℕ) → number < count → volume_at bytes made start (19 + 10 * number) ≡ read
    → volumes_at (count - number) bytes made start (19 + 10 * number) ≡ volumes_on (count - (number + 1)) bytes made start (19 + 10 * (number + 1)) read
volumes-next bytes count number made start read less is =
    ap (λ n. volumes_at n bytes made start (19 + 10 * number)) (less_one count number less)
    ∙ volumes_step bytes (count - (number + 1)) made start (19 + 10 * number) read is
    ∙ ap (λ n. volumes_on (count - (number + 1)) bytes made start n read) (further 19 10 number)

abbrev pub codes_on : ℕ → List ℕ → List Code → ℕ → Result Code ℕ → Result (List Code) ℕ
codes_on count bytes made at (Ok code) = codes_at count bytes (made ++ code ∷ []) at
codes_on count bytes made at (Err offset) = Err offset

codes_step : (bytes : List ℕ) (count : ℕ) (made : List Code) (at : ℕ) (read : Result Code ℕ) → code_at bytes made at ≡ read → codes_at (suc count) bytes made at ≡ codes_on count bytes made (at + 3) read
codes_step bytes count made at read is = ap (codes_on count bytes made (at + 3)) is

pub codes-next : (bytes : List ℕ) (count number first : ℕ) (made : List Code) (read : Result Code ℕ) → number < count → code_at bytes made (first + 3 * number) ≡ read
    → codes_at (count - number) bytes made (first + 3 * number) ≡ codes_on (count - (number + 1)) bytes made (first + 3 * (number + 1)) read
codes-next bytes count number first made read less is =
    ap (λ n. codes_at n bytes made (first + 3 * number)) (less_one count number less)
    ∙ codes_step bytes (count - (number + 1)) made (first + 3 * number) read is
    ∙ ap (λ n. codes_on (count - (number + 1)) bytes made n read) (further first 3 number)

replicate_push : (n byte : ℕ) → replicate n byte ++ byte ∷ [] ≡ replicate (suc n) byte
replicate_push zero byte = refl
replicate_push (suc n) byte = ap (λ bytes. byte ∷ bytes) (replicate_push n byte)

-- one byte more of those that are filled in
pub filled_next : (before bytes after : List ℕ) (n byte : ℕ) → bytes ≡ before ++ replicate n byte → after ≡ bytes ++ byte ∷ [] → after ≡ before ++ replicate (n + 1) byte
filled_next before bytes after n byte is more =
    more ∙ ap (λ b. b ++ byte ∷ []) is ∙ append_assoc before (replicate n byte) (byte ∷ []) ∙ ap (λ b. before ++ b) (replicate_push n byte) ∙ ap (λ k. before ++ replicate k byte) (sym (add-one n))
