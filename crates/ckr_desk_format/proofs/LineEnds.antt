-- The lines of a stream, one after another.
use Rattle.std.proofs.Common.{◌≡◌, ◌<◌, ℕ, ◌+◌, ◌==◌, if◌then◌else◌, List, [], ◌∷◌, length, take, drop, refl, ap, sym, ◌∙◌, arith}
use Rattle.std.specs.List.{slice_split, position_or_len, before_first, after_first}
use Rattle.std.specs.Str.Lines.{lines, lines_of_parts, strip_carriage_return}
use Rattle.std.proofs.lemmas.Grind.{common_steps}
use Rattle.std.proofs.lemmas.List.Splits.{slice_split_first, length-slice_split}
use Rattle.ckr_desk_format.specs.Streams.{is_line_end}

parts_next : (part : List ℕ) (parts : List (List ℕ)) → 0 < length parts → lines_of_parts (part ∷ parts) ≡ strip_carriage_return part ∷ lines_of_parts parts
parts_next part [] some = absurd (omega (arith, some))
parts_next part (next ∷ more) some = refl

-- the first line, where one ends
pub lines_next : (bytes : List ℕ) (place : ℕ) → place ≡ position_or_len is_line_end bytes → place < length bytes
    → lines bytes ≡ strip_carriage_return (take place bytes) ∷ lines (drop (place + 1) bytes)
lines_next bytes place at inside =
    let within : position_or_len is_line_end bytes < length bytes = omega (arith, at, inside) in
    ap lines_of_parts (slice_split_first is_line_end bytes 0 within)
    ∙ parts_next (before_first is_line_end bytes) (slice_split is_line_end (after_first is_line_end bytes)) (omega (arith, length-slice_split is_line_end (after_first is_line_end bytes)))
    ∙ ap (λ (n : ℕ). strip_carriage_return (take n bytes) ∷ lines (drop (n + 1) bytes)) (sym at)

split_none : (bytes : List ℕ) → position_or_len is_line_end bytes ≡ length bytes → slice_split is_line_end bytes ≡ bytes ∷ []
split_none [] none = refl
split_none (byte ∷ rest) none = grind (arith, common_steps, split_none rest)

-- the last line, which may be missing
pub lines_last : (bytes : List ℕ) → position_or_len is_line_end bytes ≡ length bytes → lines bytes ≡ (if length bytes == 0 then [] else bytes ∷ [])
lines_last bytes none = ap lines_of_parts (split_none bytes none)
