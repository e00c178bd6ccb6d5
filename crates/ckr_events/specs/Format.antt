-- The fields of each kind of event, in their order. A kind's own byte stands before them.
use Rattle.std.specs.Prelude.{◌==◌, ◌||◌, ◌^◌, ℕ, Bool, IsTrue, List, Option, Ok, Err, length, if◌then◌else◌, ◌<◌, ◌∷◌, []}
use Rattle.arrayvec.specs.ArrayVec.{ArrayVec}
use Rattle.ckr_base.specs.Grammar.{is_ds_name, is_check_id}
use Rattle.ckr_base.specs.declared.code.Code.{Code}
use Rattle.ckr_fields.specs.Readers.{Reading, ◌>>=◌}
use Rattle.ckr_fields.specs.Fields.{Field, byte_at, byte, two_bytes, four_bytes, judged, between, depending, ◌&◌, check_id, record_bytes, optional, flag, code, items, blocks, seen_at}
use Rattle.ckr_events.specs.declared.event.Piece.{Piece}
use Rattle.ckr_events.specs.declared.event.Made.{Made}
use Rattle.ckr_events.specs.declared.event.Ending.{Ending}
use Rattle.ckr_events.specs.declared.event.Ending.TheVariants.{Completed, Coded, Allocation}

-- a number of one byte that isn't 0
abbrev pub from_one : Field ℕ
from_one = judged (between 1 255) byte

-- ---- lengths: their count, which is at most 16, and four bytes each

abbrev pub length_list : Field (List ℕ)
length_list = items (judged (between 0 16) byte) four_bytes

unfoldable pub lengths_at : List ℕ → Reading (ArrayVec ℕ)
lengths_at = seen_at (λ xs. record { items = xs }) length_list.read

abbrev pub lengths : Field (ArrayVec ℕ)
lengths = record { fits = λ v. length_list.fits v.items; spell = λ v. length_list.spell v.items; read = lengths_at }

-- ---- what a step made: its DD, its volume and its extents

abbrev pub piece_parts : Field (ℕ × ℕ)
piece_parts = four_bytes & four_bytes

unfoldable pub piece_at : List ℕ → Reading Piece
piece_at = seen_at (λ x. record { start = x.0; records = x.1 }) piece_parts.read

abbrev pub piece : Field Piece
piece = record { fits = λ p. piece_parts.fits (p.start, p.records); spell = λ p. piece_parts.spell (p.start, p.records); read = piece_at }

-- at most 5 extents
abbrev pub piece_list : Field (List Piece)
piece_list = items (judged (between 0 5) byte) piece

unfoldable pub pieces_at : List ℕ → Reading (ArrayVec Piece)
pieces_at = seen_at (λ xs. record { items = xs }) piece_list.read

abbrev pub pieces : Field (ArrayVec Piece)
pieces = record { fits = λ v. piece_list.fits v.items; spell = λ v. piece_list.spell v.items; read = pieces_at }

abbrev pub made_parts : Field (ℕ × (ℕ × ArrayVec Piece))
made_parts = from_one & byte & pieces

unfoldable pub made_at : List ℕ → Reading Made
made_at = seen_at (λ x. record { dd = x.0; volume = x.1.0; pieces = x.1.1 }) made_parts.read

abbrev pub made : Field Made
made = record { fits = λ m. made_parts.fits (m.dd, (m.volume, m.pieces)); spell = λ m. made_parts.spell (m.dd, (m.volume, m.pieces)); read = made_at }

-- at most 80 of them
abbrev pub all_made : Field (List Made)
all_made = items (judged (between 0 80) byte) made

unfoldable pub made_list_at : List ℕ → Reading (ArrayVec Made)
made_list_at = seen_at (λ xs. record { items = xs }) all_made.read

abbrev pub made_list : Field (ArrayVec Made)
made_list = record { fits = λ v. all_made.fits v.items; spell = λ v. all_made.spell v.items; read = made_list_at }

-- ---- how a run ended

-- a code, the rule A1 to A6, the writes and the lengths
abbrev pub coded : Field (Code × (ℕ × (ℕ × ArrayVec ℕ)))
coded = code & judged (between 1 6) byte & four_bytes & lengths

-- a number that is 0 where the cause doesn't have it
unfoldable pub number_if_at : Bool → List ℕ → Reading ℕ
number_if_at has = (judged (λ n. has || n == 0) four_bytes).read

abbrev pub number_if : Bool → Field ℕ
number_if has = record { fits = λ n. (n < 2 ^ 32) × IsTrue (has || n == 0); spell = four_bytes.spell; read = number_if_at has }

-- NoSpace and Units have two numbers, MountRefused has one, and the other causes have none
abbrev pub numbers_of : ℕ → Field (ℕ × ℕ)
numbers_of cause = number_if (between 6 8 cause) & number_if (between 6 7 cause)

-- a DD, the cause 1 to 8, and its two numbers
abbrev pub allocation : Field ((ℕ × ℕ) × (ℕ × ℕ))
allocation = depending (byte & judged (between 1 8) byte) (λ x. numbers_of x.1)

unfoldable pub coded_at : List ℕ → Reading Ending
coded_at = seen_at (λ x. Coded x.0 x.1.0 x.1.1.0 x.1.1.1) coded.read

unfoldable pub allocation_at : List ℕ → Reading Ending
allocation_at = seen_at (λ x. Allocation x.0.0 x.0.1 x.1.0 x.1.1) allocation.read

unfoldable pub ending_at : List ℕ → Reading Ending
ending_at bytes =
    byte_at bytes >>= λ tag.
    if tag.0 == 0 then Ok (Completed, tag.1)
    else if tag.0 == 1 then coded_at tag.1
    else if tag.0 == 2 then allocation_at tag.1
    else Err (length bytes)

abbrev pub ending_fits : Ending → Type 0
ending_fits Completed = Unit {0}
ending_fits (Coded code rule writes lengths) = coded.fits (code, (rule, (writes, lengths)))
ending_fits (Allocation dd cause first second) = allocation.fits ((dd, cause), (first, second))

abbrev pub ending_spell : Ending → List ℕ
ending_spell Completed = 0 ∷ []
ending_spell (Coded code rule writes lengths) = 1 ∷ coded.spell (code, (rule, (writes, lengths)))
ending_spell (Allocation dd cause first second) = 2 ∷ allocation.spell ((dd, cause), (first, second))

abbrev pub ending : Field Ending
ending = record { fits = ending_fits; spell = ending_spell; read = ending_at }

-- ---- the kinds

abbrev pub job : Field ℕ
job = four_bytes

-- the cards, of 80 bytes each behind their count
abbrev pub submitted : Field (ℕ × List ℕ)
submitted = job & blocks 80

-- the initiator, the earlier run or 0, its step or 0, and the identifier or none
abbrev pub selected : Field (ℕ × (ℕ × (ℕ × (ℕ × Option (List ℕ)))))
selected = job & byte & four_bytes & byte & optional 16 is_check_id

-- the rule D1 to D10, which is 11 hex to 1A hex, and the name or none
abbrev pub denied : Field (ℕ × (ℕ × Option (List ℕ)))
denied = job & judged (between 17 26) byte & optional 44 is_ds_name

-- the step and what it made
abbrev pub started : Field (ℕ × (ℕ × ArrayVec Made))
started = job & from_one & made_list

-- the records taken, the writes, the lengths, the place and the record
abbrev pub rewritten : Field (ℕ × (ℕ × (ℕ × (ArrayVec ℕ × (ℕ × List ℕ)))))
rewritten = job & four_bytes & four_bytes & lengths & four_bytes & record_bytes

-- the identifier, the records taken, the writes, the lengths, the entry's place and its bytes
abbrev pub checkpointed : Field (ℕ × (List ℕ × (ℕ × (ℕ × (ArrayVec ℕ × (ℕ × ℕ))))))
checkpointed = job & check_id & four_bytes & four_bytes & lengths & four_bytes & four_bytes

-- the step, the return code, the writes and the lengths
abbrev pub step_ended : Field (ℕ × (ℕ × (ℕ × (ℕ × ArrayVec ℕ))))
step_ended = job & from_one & two_bytes & four_bytes & lengths

-- the initiator, the code, and whether it was at a checkpoint
abbrev pub restarted : Field (ℕ × (ℕ × (Code × Bool)))
restarted = job & byte & code & flag

-- the code, the writes and the lengths
abbrev pub held : Field (ℕ × (Code × (ℕ × ArrayVec ℕ)))
held = job & code & four_bytes & lengths

abbrev pub ended : Field (ℕ × Ending)
ended = job & ending
