-- What stands at a gate of a book, seen from the bytes that begin with it.
use Rattle.std.specs.Prelude.{◌≡◌, ◌≤◌, ◌<◌, ◌+◌, ◌-◌, ℕ, Bool, false, true, List, [], ◌∷◌, length, drop, Option, None, Some}
use Rattle.ckr_outside.specs.Disk.{part}
use Rattle.ckr_book.specs.Records.{records_from, end_from, starts_open}
use Rattle.ckr_book.specs.declared.next.Found.{Found}
use Rattle.ckr_book.specs.declared.next.NextError.{NextError}
use Rattle.ckr_book.specs.declared.next.NextError.TheVariants.{NoMemory, Fault, Bad, Long}

-- no whole record begins there, and the gate is open or not
pub record NoneAt (rest : List ℕ) (is_open : Bool) : Type 0 where
  pub records : records_from 0 rest ≡ []
  pub end : end_from 0 rest ≡ 0
  pub gate : starts_open rest ≡ is_open

-- a whole record begins there, and the next gate is behind it
pub record LeadsWith (record' rest : List ℕ) : Type 0 where
  pub records : records_from 0 rest ≡ record' ∷ records_from 0 (drop (length record' + 5) rest)
  pub end : end_from 0 rest ≡ length record' + 5 + end_from 0 (drop (length record' + 5) rest)

-- a record of the book stands from this gate up to the next one
abbrev pub RecordUpTo : List ℕ → ℕ → Option ℕ → Type 0
RecordUpTo book place None = Unit {0}
RecordUpTo book place (Some next) = LeadsWith (part (place + 5) (next - (place + 5)) book) (drop place book)

-- what was found there
abbrev pub FoundAt : List ℕ → Option Found → Type 0
FoundAt rest None = NoneAt rest false
FoundAt rest (Some found) = LeadsWith found.bytes.items rest

-- the next gate, counted from the book's first byte
abbrev pub NextAt : ℕ → ℕ → Option Found → Type 0
NextAt place size None = Unit {0}
NextAt place size (Some found) = (found.next ≡ place + (length found.bytes.items + 5)) × (found.next ≤ size)

-- what was found has at most so many bytes
abbrev pub IsShort : ℕ → Option Found → Type 0
IsShort most None = Unit {0}
IsShort most (Some found) = length found.bytes.items ≤ most

-- a whole record of more than so many bytes begins there
pub record LeadsLong (most : ℕ) (rest : List ℕ) : Type 0 where
  pub bytes : List ℕ
  pub leads : LeadsWith bytes rest
  pub long : most < length bytes

-- why nothing was found or denied: no memory, the disk's faults, the gate is open before no whole record, or before one of more bytes than were to be read
abbrev pub NextCause : Type 0 → Type 0 → ℕ → List ℕ → NextError → Type 0
NextCause rose told most rest NoMemory = Unit {0}
NextCause rose told most rest Fault = rose
NextCause rose told most rest Bad = told → NoneAt rest true
NextCause rose told most rest Long = told → LeadsLong most rest

-- why bytes weren't read
abbrev pub ReadCause : Type 0 → NextError → Type 0
ReadCause rose NoMemory = Unit {0}
ReadCause rose Fault = rose
ReadCause rose _ = ⊥
