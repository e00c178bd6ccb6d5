-- The first part of a field.
use Rattle.std.specs.Prelude.{ℕ, ◌+◌, if◌then◌else◌, List, [], ◌∷◌}
use Rattle.ckr_cards.specs.declared.parts.Reading.{Reading}
use Rattle.ckr_cards.specs.Field.{reading_after, depth_after, is_parting}

-- how many bytes stand before the first comma that parts
abbrev pub part_length : {X : Type 0} → (X → ℕ) → Reading → ℕ → List X → ℕ
part_length byte reading depth [] = 0
part_length byte reading depth (x ∷ rest) =
    if is_parting reading depth (byte x) then 0 else part_length byte (reading_after reading (byte x)) (depth_after reading depth (byte x)) rest + 1
