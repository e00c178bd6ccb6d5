-- What a book says of the images of its disk.
use Rattle.std.specs.Prelude.{◌≡◌, ◌≤◌, ◌<◌, ◌+◌, ◌-◌, ◌⊎◌, ℕ, false, true, List, [], ◌∷◌, ◌++◌, length, drop, Option, None, Some, refl}
use Rattle.std.specs.Coded.{Coded, code_by, coded×, coded_ℕ}
use Rattle.ckr_outside.specs.Disk.{part}
use Rattle.ckr_book.specs.Records.{records_from, end_from, starts_open}
use Rattle.ckr_book.specs.declared.error.BookError.{BookError}
use Rattle.ckr_book.specs.declared.error.BookError.TheVariants.{Fault, Full, Bad}

-- An open book: where it begins on the disk, how many bytes it has, and the place in it of its first closed gate.
pub record OpenBook : Type 0 where
  pub start : ℕ
  pub size : ℕ
  pub end : ℕ

-- it is stored as its three numbers
abbrev pub book_code : Coded OpenBook
book_code =
    code_by (ℕ × (ℕ × ℕ)) (coded× coded_ℕ (coded× coded_ℕ coded_ℕ)) (λ b. (b.start, (b.size, b.end)))
    (λ p. record { start = p.0; size = p.1.0; end = p.1.1 }) (λ _. refl)

-- the list of a book that has this range of an image
abbrev pub records_in : ℕ → ℕ → List ℕ → List (List ℕ)
records_in at length image = records_from 0 (part at length image)

-- the list of the book
abbrev pub records_of : OpenBook → List ℕ → List (List ℕ)
records_of book image = records_in book.start book.size image

-- the book's range lies within a disk of this size
abbrev pub IsInside : OpenBook → ℕ → Type 0
IsInside book size = book.start + book.size ≤ size

-- both books have one range
abbrev pub SamePlace : OpenBook → OpenBook → Type 0
SamePlace old new = (new.start ≡ old.start) × (new.size ≡ old.size)

-- the room behind the list
abbrev pub room_of : OpenBook → ℕ
room_of book = book.size - book.end

-- the first gate that stands before no whole record is closed
abbrev pub ends_closed : List ℕ → Type 0
ends_closed bytes = starts_open (drop (end_from 0 bytes) bytes) ≡ false

-- the book ends at the first closed gate of the image
pub record IsOpenOn (book : OpenBook) (image : List ℕ) : Type 0 where
  pub end : end_from 0 (part book.start book.size image) ≡ book.end
  pub closed : starts_open (drop book.end (part book.start book.size image)) ≡ false

-- the book is open on each image, and each has the list that the disk reads
pub record StandsOn {D : Type 0} (content : D → List ℕ) (may_leave : D → List ℕ → Type 0) (book : OpenBook) (disk : D) : Type 0 where
  pub open_on : (image : List ℕ) → may_leave disk image → IsOpenOn book image
  pub list : (image : List ℕ) → may_leave disk image → records_of book image ≡ records_of book (content disk)

-- the list, with one record more or without it
abbrev pub IsBeforeOrAfter : List (List ℕ) → List ℕ → List (List ℕ) → Type 0
IsBeforeOrAfter old record' new = (new ≡ old) ⊎ (new ≡ old ++ record' ∷ [])

-- the gate at this place is closed or past the end, or the next one is there
abbrev pub NextGate : List ℕ → ℕ → Option ℕ → Type 0
NextGate bytes place None = (end_from 0 (drop place bytes) ≡ 0) × (starts_open (drop place bytes) ≡ false)
NextGate bytes place (Some next) = next + end_from 0 (drop next bytes) ≡ place + end_from 0 (drop place bytes)

-- why there is neither: the disk's faults, or the gate is open before no whole record
abbrev pub GateCause : Type 0 → Type 0 → List ℕ → ℕ → BookError → Type 0
GateCause rose told bytes place Fault = rose
GateCause rose told bytes place (Full need room) = ⊥
GateCause rose told bytes place (Bad offset) = (offset ≡ place) × (told → (end_from 0 (drop place bytes) ≡ 0) × (starts_open (drop place bytes) ≡ true))

-- why a book wasn't opened: the disk's faults, or an open gate before no whole record
abbrev pub OpeningCause : Type 0 → Type 0 → List ℕ → BookError → Type 0
OpeningCause rose told bytes Fault = rose
OpeningCause rose told bytes (Full need room) = ⊥
OpeningCause rose told bytes (Bad offset) = told → (end_from 0 bytes ≡ offset) × (starts_open (drop offset bytes) ≡ true)

-- why a record wasn't appended
abbrev pub AppendCause : Type 0 → ℕ → ℕ → BookError → Type 0
AppendCause rose needed left Fault = rose
AppendCause rose needed left (Full need room) = (need ≡ needed) × (room ≡ left) × (room < need)
AppendCause rose needed left (Bad offset) = ⊥
