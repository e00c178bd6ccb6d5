-- The cards of a deck that has more than it may have: the further ones are kept as their lines.
use Rattle.std.specs.Prelude.{◌≡◌, ◌≤◌, ◌+◌, ℕ, if◌then◌else◌, List, [], ◌∷◌, ◌++◌, length, take, drop}
use Rattle.std.specs.List.{AllByRecursion}
use Rattle.ckr_cards.specs.Card.{filled}
use Rattle.ckr_open_deck.specs.declared.open_deck.PackedLine.{PackedLine}

-- the card of a line that is kept, as it is stored
abbrev pub unpacked_line : PackedLine → List ℕ → List ℕ
unpacked_line line text = filled text ++ (if line.long then 1 else 0) ∷ []

-- the cards of lines whose bytes stand one behind the other in a text
abbrev pub unpacked : List PackedLine → List ℕ → List (List ℕ)
unpacked [] text = []
unpacked (line ∷ rest) text = unpacked_line line (take line.length text) ∷ unpacked rest (drop line.length text)

-- the bytes that lines have
abbrev pub width : List PackedLine → ℕ
width [] = 0
width (line ∷ rest) = line.length + width rest

-- each card has 81 bytes
abbrev pub AreWhole : List (List ℕ) → Type 0
AreWhole cards = AllByRecursion (λ card. length card ≡ 81) cards

-- each stored card has its bytes, lines are kept only behind the most cards that a deck may have and the one that refuses it, and the text has
-- their bytes
pub record IsPacked (cards : List (List ℕ)) (lines : List PackedLine) (text : List ℕ) : Type 0 where
  pub whole : AreWhole cards
  pub few : length cards ≤ 100000 → lines ≡ []
  pub width : width lines ≡ length text
