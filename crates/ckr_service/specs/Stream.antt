-- What is answered to a whole stream, and written for it, from where the desk stands.
use Rattle.std.specs.Prelude.{ℕ, Bool, ◌==◌, List, [], ◌∷◌}
use Rattle.std.specs.List.{slice_split, list_any}
use Rattle.std.specs.Str.Lines.{strip_carriage_return}
use Rattle.ckr_session.specs.Model.Cut.{items_of}
use Rattle.ckr_session.specs.Model.Session.{Handed, handed_of, first_session, handed_within}
use Rattle.ckr_session.specs.Calls.{calls, is_refusal}
use Rattle.ckr_session.specs.Service.{text_to}
use Rattle.ckr_session.specs.Staff.{StaffedDesk}

abbrev pub is_line_end : ℕ → Bool
is_line_end b = b == 10

-- what a stream of these bytes asks of the desk, in order: its decks, its commands and its refused lines
abbrev pub requests_of : List ℕ → List Handed
requests_of bytes = handed_of (items_of bytes)

-- what is written for it, up to the call that the book has no room for
abbrev pub text_of : StaffedDesk → List ℕ → List ℕ
text_of state bytes = text_to state (requests_of bytes)

-- whether a line or a deck of it is refused
abbrev pub has_refusal : StaffedDesk → List ℕ → Bool
has_refusal state bytes = list_any is_refusal (calls state (requests_of bytes))

-- the lines that end before these parts' last one
abbrev pub ended_parts : List (List ℕ) → List (List ℕ)
ended_parts [] = []
ended_parts (part ∷ []) = []
ended_parts (part ∷ next ∷ more) = strip_carriage_return part ∷ ended_parts (next ∷ more)

-- the lines that end within the bytes
abbrev pub ended_lines : List ℕ → List (List ℕ)
ended_lines bytes = ended_parts (slice_split is_line_end bytes)

-- what the items ask that end within the bytes
abbrev pub ended_requests : List ℕ → List Handed
ended_requests bytes = handed_within first_session (ended_lines bytes)

-- what is written for them
abbrev pub ended_text : StaffedDesk → List ℕ → List ℕ
ended_text state bytes = text_to state (ended_requests bytes)
