-- Whether a step has each DD of a table, one name after the other.
use Rattle.std.proofs.Common.{◌≡◌, ℕ, ◌<◌, List, [], length, refl, true, false}
use Rattle.ckr_cards.specs.Tables.{words}
use Rattle.ckr_jcl_faults.specs.declared.deck_text.DdText.{DdText}
use Rattle.ckr_jcl.specs.Text.{before, behind}
use Rattle.ckr_jcl_decks.specs.DeckFaults.{has_dd, has_dds}
use Rattle.ckr_jcl.proofs.Pieces.{first_piece, one_piece, more_pieces}

pub first_missing : (dds : List DdText) (table : List ℕ) → has_dd dds (before 32 table) ≡ false → has_dds dds (words table) ≡ false
unfolding has_dds
first_missing dds table missing = rw (first_piece 32 table, missing) refl

pub last_needed : (dds : List DdText) (table : List ℕ) → length (before 32 table) ≡ length table → has_dd dds (before 32 table) ≡ true → has_dds dds (words table) ≡ true
unfolding has_dds
last_needed dds table whole stands = rw (first_piece 32 table, stands, one_piece 32 table whole) refl

pub more_needed : (dds : List DdText) (table : List ℕ) → length (before 32 table) < length table → has_dd dds (before 32 table) ≡ true → has_dds dds (words table) ≡ has_dds dds (words (behind 32 table))
unfolding has_dds
more_needed dds table inside stands = rw (first_piece 32 table, stands, more_pieces 32 table inside) refl

pub none_needed : (dds : List DdText) → has_dds dds [] ≡ true
unfolding has_dds
none_needed dds = refl
