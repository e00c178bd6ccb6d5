-- Operators as a word of the program names them: parts that are parted by `/`, one for each operator.
use Rattle.std.specs.Prelude.{ℕ, ◌==◌, ◌&&◌, ◌||◌, Bool, if◌then◌else◌, List, codes, bytes_eq, length, map, nat_lt, Option, None, Some}
use Rattle.std.specs.List.{list_all, slice_split}
use Rattle.ckr_console.specs.declared.question.Answer.{Answer}
use Rattle.ckr_console.specs.declared.question.Answer.TheVariants.{Yes, No, Hold}
use Rattle.ckr_console.specs.declared.scripts.Script.{Script}
use Rattle.ckr_console.specs.declared.scripts.Script.TheVariants.{Standing, Cautious, Answers}

-- Y, N or H
abbrev pub is_letter : ℕ → Bool
is_letter letter = letter == 89 || (letter == 78 || letter == 72)

abbrev pub answer_for : ℕ → Answer
answer_for letter = if letter == 89 then Yes else if letter == 78 then No else Hold

-- `+`, `*`, or letters, at least one
abbrev pub is_script : List ℕ → Bool
is_script part = bytes_eq part (codes "+") || (bytes_eq part (codes "*") || (nat_lt 0 (length part) && list_all is_letter part))

abbrev pub script_for : List ℕ → Script
script_for part =
    if bytes_eq part (codes "+") then Standing
    else if bytes_eq part (codes "*") then Cautious
    else Answers (map answer_for part)

abbrev pub is_bar : ℕ → Bool
is_bar byte = byte == 47

-- the operators that a word names, in order, or none where one of its parts names no operator
unfoldable pub scripts_of : List ℕ → Option (List Script)
scripts_of text = let parts = slice_split is_bar text in if list_all is_script parts then Some (map script_for parts) else None
