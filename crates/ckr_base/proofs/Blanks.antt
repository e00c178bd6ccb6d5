-- Bytes that are filled with blanks.
use Rattle.std.proofs.Common.{◌≡◌, ◌<◌, ◌≤◌, ◌+◌, ◌^◌, ℕ, zero, suc, List, [], ◌∷◌, ◌++◌, length, get_or, take, replicate, refl, lit<, arith, ◌∙◌, ap}
use Rattle.std.proofs.Math.Nat.{pow-le-pow_right}
use Rattle.std.proofs.lemmas.List.{get_or-replicate, take_more}
use Rattle.ckr_base.proofs.Sequences.{length-fitted, replicate-room}

get_or-filled : (bytes : List ℕ) (count place d : ℕ) → place < count → get_or (bytes ++ replicate count 32) place d ≡ get_or bytes place 32
get_or-filled [] count place d h = get_or-replicate count place 32 d h
get_or-filled (byte ∷ bytes) count zero d h = refl
get_or-filled (byte ∷ bytes) count (suc place) d h = get_or-filled bytes count place d (omega arith)

-- a byte more: that of the bytes, or a blank
pub fitted-more : (bytes : List ℕ) (count place : ℕ) → place < count → take (place + 1) (bytes ++ replicate count 32) ≡ take place (bytes ++ replicate count 32) ++ get_or bytes place 32 ∷ []
fitted-more bytes count place h =
    let enough : place < length (bytes ++ replicate count 32) = omega (arith, replicate-room bytes count 32) in
    take_more (bytes ++ replicate count 32) place 0 enough
    ∙ ap (λ byte. take place (bytes ++ replicate count 32) ++ byte ∷ []) (get_or-filled bytes count place 0 h)

-- so many digits stand for less than 10^15
pub power_of_fifteen : (i : ℕ) → i ≤ 15 → 10 ^ i ≤ 10 ^ 15
power_of_fifteen i h = pow-le-pow_right {n = 10} (lit< tt) h

-- so many stand for less than 10^9
pub power_of_nine : (i : ℕ) → i ≤ 9 → 10 ^ i ≤ 10 ^ 9
power_of_nine i h = pow-le-pow_right {n = 10} (lit< tt) h

pub ruleset fills = (fitted-more, length-fitted)
