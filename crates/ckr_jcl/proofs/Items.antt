-- How the items of PARM are read, one after the other.
use Rattle.std.proofs.Common.{◌≡◌, ℕ, ◌+◌, ◌<◌, List, length, refl, Some, None, Ok, Err}
use Rattle.ckr_jcl.specs.declared.deck.Kind.{Kind}
use Rattle.ckr_jcl.specs.declared.deck.Parm.{Parm}
use Rattle.ckr_cards.specs.Field.{is_comma}
use Rattle.ckr_cards.specs.Tables.{pieces_between}
use Rattle.ckr_jcl.specs.Text.{before, behind}
use Rattle.ckr_jcl.specs.ParmGrammar.{with_item, items_read}
use Rattle.ckr_jcl.proofs.Pieces.{first_piece, one_piece, more_pieces}

-- a wrong item ends the reading
pub wrong_item : (kind : Kind) (place : ℕ) (text : List ℕ) (parm : Parm) → with_item kind (before 44 text) parm ≡ None → items_read kind place (pieces_between is_comma text) parm ≡ Err (record { place = place })
wrong_item kind place text parm wrong = rw (first_piece 44 text, wrong) refl

-- so does the last one
pub last_item : (kind : Kind) (place : ℕ) (text : List ℕ) (parm next : Parm) → with_item kind (before 44 text) parm ≡ Some next → length (before 44 text) ≡ length text → items_read kind place (pieces_between is_comma text) parm ≡ Ok next
last_item kind place text parm next right whole = rw (first_piece 44 text, right, one_piece 44 text whole) refl

-- behind another one the reading goes on
pub next_item : (kind : Kind) (place : ℕ) (text : List ℕ) (parm next : Parm) → with_item kind (before 44 text) parm ≡ Some next → length (before 44 text) < length text → items_read kind place (pieces_between is_comma text) parm ≡ items_read kind (place + length (before 44 text) + 1) (pieces_between is_comma (behind 44 text)) next
next_item kind place text parm next right inside = rw (first_piece 44 text, right, more_pieces 44 text inside) refl
