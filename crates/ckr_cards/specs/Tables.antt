-- Tables of texts.
use Rattle.std.specs.Prelude.{ℕ, ◌==◌, Bool, if◌then◌else◌, List, [], ◌∷◌, Option, Some, None, bytes_eq}
use Rattle.std.specs.List.{list_any}
use Rattle.ckr_base.specs.Grammar.{onto_first}

-- what a table has at a text
abbrev pub look_up : {X : Type 0} → List (List ℕ × X) → List ℕ → Option X
look_up [] text = None
look_up (row ∷ rest) text = if bytes_eq row.0 text then Some row.1 else look_up rest text

abbrev pub is_among : List (List ℕ) → List ℕ → Bool
is_among texts text = list_any (bytes_eq text) texts

-- the pieces of a text between bytes of a class
abbrev pub pieces_between : (ℕ → Bool) → List ℕ → List (List ℕ)
pieces_between parts [] = [] ∷ []
pieces_between parts (byte ∷ rest) = if parts byte then [] ∷ pieces_between parts rest else onto_first byte (pieces_between parts rest)

-- the words of a quoted text, parted by one blank
abbrev pub words : List ℕ → List (List ℕ)
words text = pieces_between (λ byte. byte == 32) text
