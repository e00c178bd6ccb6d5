-- The identifiers of entries are in their grammar: the digits of a number up to 9,999,999 are at most seven.
use Rattle.std.proofs.Common.{◌≡◌, ◌≤◌, ◌<◌, ◌+◌, ◌/◌, ◌%◌, ◌^◌, ℕ, zero, suc, true, false, cond, ◌&&◌, nat_le, List, [], ◌∷◌, ◌++◌, length, replicate, refl, ap, sym, ◌∙◌, subst, arith, append_assoc, append-nil}
use Rattle.std.proofs.Math.Nat.{pow-suc}
use Rattle.std.proofs.lemmas.Bool.{and_from}
use Rattle.std.proofs.lemmas.List.{length-append, replicate-append-replicate}
use Rattle.std.proofs.lemmas.List.Folds.{list_all-append}
use Rattle.std.specs.Prelude.{◌==◌}
use Rattle.std.specs.List.{list_all}
use Rattle.ckr_base.specs.Digits.{decimal_text, last_digits, significant}
use Rattle.ckr_base.specs.Grammar.{is_check_id, is_name_byte}
use Rattle.ckr_base.proofs.Bools.{and-first, and-second}
use Rattle.ckr_base.proofs.Numbers.{nat_le-from, nat_le-true, plus-one}
use Rattle.ckr_base.proofs.NameBytes.{digits-length, digits-named}
use Rattle.ckr_desk_turn.specs.DeckLimits.{are_ids}
use Rattle.ckr_desk_turn.specs.Checkpoints.{id_by}

-- ---- digits

none-left : (count : ℕ) → last_digits count 0 ≡ replicate count 48
none-left zero = refl
none-left (suc count) = ap (λ digits. digits ++ 48 ∷ []) (none-left count) ∙ replicate-append-replicate count 1 48 ∙ ap (λ n. replicate n 48) (plus-one count)

-- the digits before those of a small number are zeros
before-small : (count many total number : ℕ) → total ≡ count + many → number < 10 ^ count → last_digits total number ≡ replicate many 48 ++ last_digits count number
before-small zero many total number whole small =
    let none : number ≡ 0 = omega (arith, small) in
    let same : total ≡ many = omega (arith, whole) in
    ap (λ n. last_digits n number) same ∙ ap (last_digits many) none ∙ none-left many ∙ sym (append-nil (replicate many 48))
before-small (suc count) many zero number whole small = absurd (omega (arith, whole))
before-small (suc count) many (suc total) number whole small =
    ap (λ digits. digits ++ (48 + number % 10) ∷ []) (before-small count many total (number / 10) (omega (arith, whole)) (tenth small))
    ∙ append_assoc (replicate many 48) (last_digits count (number / 10)) ((48 + number % 10) ∷ [])
  where
    tenth : number < 10 ^ suc count → number / 10 < 10 ^ count
    tenth h = omega (arith, pow-suc 10 count)

-- ---- digits without leading zeros

skipped : (count : ℕ) (digits : List ℕ) → 1 ≤ length digits → significant (replicate count 48 ++ digits) ≡ significant digits
skipped zero digits some = refl
skipped (suc count) digits some =
    ap (λ b. cond b (significant (replicate count 48 ++ digits)) (48 ∷ (replicate count 48 ++ digits)))
    (nat_le-from 1 (length (replicate count 48 ++ digits)) (omega (arith, length-append (replicate count 48) digits)))
    ∙ skipped count digits some

significant-short : (digits : List ℕ) → length (significant digits) ≤ length digits
significant-short [] = omega arith
significant-short (digit ∷ rest) =
    let shorter : length (significant rest) ≤ length rest = significant-short rest in
    elim (digit == 48 && nat_le 1 (length rest)) as (λ b. length (cond b (significant rest) (digit ∷ rest)) ≤ suc (length rest)) [
      | true ↦ omega arith
      | false ↦ omega arith
    ]

significant-named : (digits : List ℕ) → list_all is_name_byte digits ≡ true → list_all is_name_byte (significant digits) ≡ true
significant-named [] named = refl
significant-named (digit ∷ rest) named =
    elim (digit == 48 && nat_le 1 (length rest)) as (λ b. list_all is_name_byte (cond b (significant rest) (digit ∷ rest)) ≡ true) [
      | true ↦ significant-named rest (and-second (is_name_byte digit) (list_all is_name_byte rest) named)
      | false ↦ named
    ]

decimal-is : (number : ℕ) → number ≤ 9999999 → decimal_text number ≡ significant (last_digits 7 number)
decimal-is number most =
    let small : number < 10000000 = omega arith in
    ap significant (before-small 7 15 22 number refl small) ∙ skipped 15 (last_digits 7 number) (omega (arith, digits-length 7 number))

-- ---- identifiers

text-holds : (text : List ℕ) → 1 ≤ length text → length text ≤ 16 → list_all is_name_byte text ≡ true → is_check_id text ≡ true
text-holds text some few named =
    and_from (nat_le 1 (length text) && nat_le (length text) 16) (list_all is_name_byte text)
    (and_from (nat_le 1 (length text)) (nat_le (length text) 16) (nat_le-from 1 (length text) some) (nat_le-from (length text) 16 few)) named

pub id-holds : (ids : List ℕ) (in_run in_step : ℕ) → are_ids ids ≡ true → in_step ≤ 9999999 → is_check_id (id_by ids in_run in_step) ≡ true
id-holds [] in_run in_step are most =
    let seven : length (last_digits 7 in_run) ≡ 7 = digits-length 7 in_run in
    text-holds (67 ∷ last_digits 7 in_run) (omega arith) (omega arith) (digits-named 7 in_run)
id-holds (first ∷ rest) in_run in_step are most =
    let seven : length (last_digits 7 in_step) ≡ 7 = digits-length 7 in_step in
    let shorter : length (significant (last_digits 7 in_step)) ≤ length (last_digits 7 in_step) = significant-short (last_digits 7 in_step) in
    let eight : suc (length rest) ≤ 8 = nat_le-true (suc (length rest)) 8 (and-first (nat_le (suc (length rest)) 8) (list_all is_name_byte (first ∷ rest)) are) in
    let whole : length ((first ∷ rest) ++ significant (last_digits 7 in_step)) ≡ suc (length rest) + length (significant (last_digits 7 in_step)) = length-append (first ∷ rest) (significant (last_digits 7 in_step)) in
    subst (λ digits. is_check_id ((first ∷ rest) ++ digits) ≡ true) (sym (decimal-is in_step most))
    (text-holds ((first ∷ rest) ++ significant (last_digits 7 in_step)) (omega arith) (omega (arith, whole, shorter, seven, eight))
    (list_all-append is_name_byte (first ∷ rest) (significant (last_digits 7 in_step))
    ∙ and_from (list_all is_name_byte (first ∷ rest)) (list_all is_name_byte (significant (last_digits 7 in_step)))
    (and-second (nat_le (suc (length rest)) 8) (list_all is_name_byte (first ∷ rest)) are)
    (significant-named (last_digits 7 in_step) (digits-named 7 in_step))))
