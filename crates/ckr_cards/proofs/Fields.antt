-- A field, read from the left.
use Rattle.std.proofs.Common.{◌≡◌, ℕ, ◌&&◌, not, Bool, false, List, [], ◌∷◌, refl}
use Rattle.ckr_cards.specs.Field.{goes_on, goes_on_from, quoted_after, is_comma}

-- whether a field goes on, where `comma` says whether its last byte so far is a comma that parts
abbrev pub goes_on_after : Bool → Bool → List ℕ → Bool
goes_on_after comma quoted [] = comma
goes_on_after comma quoted (byte ∷ rest) = goes_on_after (is_comma byte && not quoted) (quoted_after quoted byte) rest

pub goes_on_from-after : (quoted : Bool) (byte : ℕ) (rest : List ℕ) → goes_on_from quoted (byte ∷ rest) ≡ goes_on_after (is_comma byte && not quoted) (quoted_after quoted byte) rest
goes_on_from-after quoted byte [] = refl
goes_on_from-after quoted byte (next ∷ rest) = goes_on_from-after (quoted_after quoted byte) next rest

pub goes_on-after : (field : List ℕ) → goes_on field ≡ goes_on_after false false field
goes_on-after [] = refl
goes_on-after (byte ∷ rest) = goes_on_from-after false byte rest
