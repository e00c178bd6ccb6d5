-- The words of a line: blanks, and numbers in decimal digits.
use Rattle.std.specs.Prelude.{ℕ, ◌+◌, ◌-◌, ◌*◌, ◌==◌, ◌&&◌, ◌||◌, not, Bool, false, nat_le, if◌then◌else◌, List, [], ◌∷◌, length, fold, Option, Some, None}
use Rattle.std.specs.List.{list_all}
use Rattle.ckr_base.specs.Grammar.{is_digit}

-- a space or a tab
abbrev pub is_blank : ℕ → Bool
is_blank byte = byte == 32 || byte == 9

-- the byte before a text, unless it is a blank with nothing behind it
abbrev pub before_trimmed : ℕ → List ℕ → List ℕ
before_trimmed byte [] = if is_blank byte then [] else byte ∷ []
before_trimmed byte (next ∷ rest) = byte ∷ next ∷ rest

-- the text without the blanks at its end
abbrev pub trimmed : List ℕ → List ℕ
trimmed [] = []
trimmed (byte ∷ rest) = before_trimmed byte (trimmed rest)

-- the number that decimal digits stand for
abbrev pub number_in_digits : List ℕ → ℕ
number_in_digits text = fold (λ number digit. number * 10 + (digit - 48)) 0 text

-- 1 to 9 decimal digits
abbrev pub is_number : List ℕ → Bool
is_number text = nat_le 1 (length text) && nat_le (length text) 9 && list_all is_digit text

abbrev pub begins_with_zero : List ℕ → Bool
begins_with_zero [] = false
begins_with_zero (digit ∷ rest) = digit == 48

-- the number of 1 to 9 decimal digits, of which the first is no zero
abbrev pub plain_number : List ℕ → Option ℕ
plain_number text = if is_number text && not (begins_with_zero text) then Some (number_in_digits text) else None
