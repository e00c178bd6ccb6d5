-- Whether a key is among the words of a table, one word after the other.
use Rattle.std.proofs.Common.{◌≡◌, ℕ, ◌<◌, ◌||◌, List, length, refl, true, false, bytes_eq}
use Rattle.ckr_cards.specs.Tables.{is_among, words}
use Rattle.ckr_jcl.specs.Text.{before, behind}
use Rattle.ckr_jcl.proofs.Pieces.{first_piece, one_piece, more_pieces}

pub last_word : (table key : List ℕ) → length (before 32 table) ≡ length table → is_among (words table) key ≡ (bytes_eq key (before 32 table) || false)
last_word table key whole = rw (first_piece 32 table, one_piece 32 table whole) refl

pub more_words : (table key : List ℕ) → length (before 32 table) < length table → is_among (words table) key ≡ (bytes_eq key (before 32 table) || is_among (words (behind 32 table)) key)
more_words table key inside = rw (first_piece 32 table, more_pieces 32 table inside) refl

pub first_word : (table key : List ℕ) → bytes_eq key (before 32 table) ≡ true → is_among (words table) key ≡ true
first_word table key same = rw (first_piece 32 table, same) refl
