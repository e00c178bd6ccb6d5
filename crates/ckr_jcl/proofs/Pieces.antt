-- The pieces of a text between marks: the one before the first mark, and those behind it.
use Rattle.std.proofs.Common.{◌≡◌, ℕ, ◌<◌, List, [], ◌∷◌, length, refl, arith, if◌then◌else◌, ◌==◌}
use Rattle.std.proofs.lemmas.Grind.{common_steps}
use Rattle.ckr_cards.specs.Tables.{pieces_between}
use Rattle.ckr_jcl.specs.Text.{before, behind}

abbrev pub pieces : ℕ → List ℕ → List (List ℕ)
pieces mark text = pieces_between (λ byte. byte == mark) text

abbrev pub later_pieces : ℕ → List ℕ → List (List ℕ)
later_pieces mark [] = []
later_pieces mark (byte ∷ rest) = if byte == mark then pieces mark rest else later_pieces mark rest

pub first_piece : (mark : ℕ) (text : List ℕ) → pieces mark text ≡ before mark text ∷ later_pieces mark text
first_piece mark [] = refl
first_piece mark (byte ∷ rest) = grind (arith, common_steps, first_piece mark rest)

pub one_piece : (mark : ℕ) (text : List ℕ) → length (before mark text) ≡ length text → later_pieces mark text ≡ []
one_piece mark [] none = refl
one_piece mark (byte ∷ rest) none = grind (arith, common_steps, one_piece mark rest)

pub more_pieces : (mark : ℕ) (text : List ℕ) → length (before mark text) < length text → later_pieces mark text ≡ pieces mark (behind mark text)
more_pieces mark [] inside = grind arith
more_pieces mark (byte ∷ rest) inside = grind (arith, common_steps, more_pieces mark rest)
