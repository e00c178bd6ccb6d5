-- Numbers in decimal digits.
use Rattle.std.specs.Prelude.{ℕ, zero, suc, ◌+◌, ◌/◌, ◌%◌, ◌==◌, ◌&&◌, nat_le, length, if◌then◌else◌, List, [], ◌∷◌, ◌++◌}

-- the last digits of a number, that many
abbrev pub last_digits : ℕ → ℕ → List ℕ
last_digits zero number = []
last_digits (suc count) number = last_digits count (number / 10) ++ (48 + number % 10) ∷ []

-- digits without leading zeros; one digit stays
abbrev pub significant : List ℕ → List ℕ
significant [] = []
significant (digit ∷ rest) = if digit == 48 && nat_le 1 (length rest) then significant rest else digit ∷ rest

-- a number below 10^22 in decimal, without leading zeros
abbrev pub decimal_text : ℕ → List ℕ
decimal_text number = significant (last_digits 22 number)
