-- Which points have an entry, its one spelling, and which entry is read from bytes.
use Rattle.std.specs.Prelude.{◌≡◌, ◌<◌, ◌-◌, ◌^◌, ◌==◌, ℕ, List, length, Result, Ok, Err, min, if◌then◌else◌}
use Rattle.ckr_fields.specs.Readers.{◌>>=◌, at_offset}
use Rattle.ckr_fields.specs.declared.error.ReadError.{ReadError}
use Rattle.ckr_fields.specs.declared.error.ReadError.TheVariants as ReadErrors
use Rattle.ckr_entry.specs.declared.error.EntryError.{EntryError}
use Rattle.ckr_entry.specs.declared.error.EntryError.TheVariants.{NoMemory, Bad}
use Rattle.ckr_entry.specs.declared.point.Point.{Point}
use Rattle.ckr_entry.specs.Parts.{Entry, entry_of, entry, entry_at}

-- the entry's names, numbers, counts, state and order of the marks are such that it has a spelling
abbrev pub IsEntry : Entry → Type 0
IsEntry e = entry.fits e

abbrev pub spelling : Entry → List ℕ
spelling e = entry.spell e

-- two bytes hold the counts of the entry's lists
abbrev pub IsCounted : Entry → Type 0
IsCounted e = (length e.marks < 2 ^ 16) × (length e.passed < 2 ^ 16)

-- an entry and nothing behind it
unfoldable pub whole_at : List ℕ → Result Entry ℕ
whole_at bytes = entry_at bytes >>= λ x. if length x.1 == 0 then Ok x.0 else Err (length x.1)

-- The entry that the bytes are. Else it is the offset of the first byte of the first field that isn't in its grammar,
-- the number of bytes where some are missing, or the offset behind the last field where bytes remain.
abbrev pub entry_in : List ℕ → Result Entry ℕ
entry_in bytes = at_offset (length bytes) (whole_at bytes)

-- ---- what the decoder answers

-- a place as an offset, or the greatest offset where it is greater
abbrev pub told_offset : ℕ → ℕ
told_offset place = min place (2 ^ 32 - 1)

-- what was returned is what is read, unless memory ran out
abbrev pub Whole : Result Entry ℕ → Result Point ReadError → Type 0
Whole reading (Ok point) = reading ≡ Ok (entry_of point)
Whole reading (Err ReadErrors.NoMemory) = Unit {0}
Whole reading (Err (ReadErrors.Wrong left)) = reading ≡ Err left

abbrev pub Decodes : Result Entry ℕ → Result Point EntryError → Type 0
Decodes reading (Ok point) = reading ≡ Ok (entry_of point)
Decodes reading (Err NoMemory) = Unit {0}
Decodes reading (Err (Bad offset)) = (place : ℕ) × (reading ≡ Err place) × (offset ≡ told_offset place)

-- the bytes are the spelling of no entry
abbrev pub IsNoEntry : List ℕ → Type 0
IsNoEntry bytes = (e : Entry) → IsEntry e → bytes ≡ spelling e → ⊥

abbrev pub IsBadOnly : List ℕ → Result Point EntryError → Type 0
IsBadOnly bytes (Ok point) = Unit {0}
IsBadOnly bytes (Err NoMemory) = Unit {0}
IsBadOnly bytes (Err (Bad offset)) = IsNoEntry bytes
