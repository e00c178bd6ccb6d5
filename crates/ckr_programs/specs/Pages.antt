-- What PRINT writes: pages of 50 records behind their headings, and the total.
use Rattle.std.specs.Prelude.{ℕ, ◌+◌, ◌/◌, ◌%◌, ◌==◌, if◌then◌else◌, List, [], ◌∷◌, ◌++◌, take, flat_map, codes}
use Rattle.std.specs.List.{enumerate_from}
use Rattle.ckr_base.specs.Digits.{last_digits, decimal_text}
use Rattle.ckr_jcl.specs.declared.deck.Parm.{Parm}

-- the title and a blank, where one is given
abbrev pub title_text : List ℕ → List ℕ
title_text [] = []
title_text (byte ∷ bytes) = byte ∷ bytes ++ codes " "

-- the heading of a page, counted from 1
abbrev pub heading : Parm → ℕ → List ℕ
heading parm page = codes "1" ++ title_text parm.title.items ++ codes "PAGE " ++ last_digits 6 page

-- a blank and the record, together cut to 256 bytes
abbrev pub print_line : List ℕ → List ℕ
print_line bytes = take 256 (32 ∷ bytes)

-- the lines for a record with its place, counted from 0: the first of each 50 has the page's heading before it
abbrev pub lines_of : Parm → ℕ × List ℕ → List (List ℕ)
lines_of parm placed =
    if placed.0 % 50 == 0
    then heading parm (placed.0 / 50 + 1) ∷ print_line placed.1 ∷ []
    else print_line placed.1 ∷ []

-- the lines for the records from a place on
abbrev pub pages_from : Parm → ℕ → List (List ℕ) → List (List ℕ)
pages_from parm place records = flat_map (lines_of parm) (enumerate_from place records)

abbrev pub total_line : ℕ → List ℕ
total_line sum = codes "0TOTAL " ++ decimal_text sum
