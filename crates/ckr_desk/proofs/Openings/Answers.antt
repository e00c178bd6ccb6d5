-- What opening gives, by the header and by the events.
use Rattle.std.proofs.Common.{◌≡◌, ◌≤◌, ℕ, List, take, Ok, Err, ap, sym, ◌∙◌, subst, inl, inr, ⊎_elim, arith}
use Rattle.ckr_outside.specs.Disk.{part}
use Rattle.ckr_outside.specs.Faults.{Rose}
use Rattle.ckr_points.specs.Rows.{TablesModel}
use Rattle.ckr_volumes.specs.declared.layout.Layout.{Layout}
use Rattle.ckr_volumes.specs.Header.{header_of}
use Rattle.ckr_journal.specs.declared.error.LayoutError.{LayoutError}
use Rattle.ckr_journal.specs.declared.error.LayoutError.TheVariants as LayoutErrors
use Rattle.ckr_journal.specs.Layouts.{Answers}
use Rattle.ckr_desk.specs.declared.error.OpenError.{OpenError}
use Rattle.ckr_desk.specs.declared.error.OpenError.TheVariants as OpenErrors
use Rattle.ckr_desk.specs.Opening.{by_book, by_entries, by_header, opening_of}
use Rattle.ckr_desk.specs.Replay.{IsFound, IsReadTo, OpenCause}

pub not_formatted : (image : List ℕ) (size : ℕ) (error : LayoutError) → error ≡ LayoutErrors.NotFormatted → Answers (header_of (take 512 image) size) (Err error)
    → opening_of image size ≡ Err OpenErrors.NotFormatted
unfolding opening_of
not_formatted image size error same is = ap (by_header image) (subst (λ (e : LayoutError). Answers (header_of (take 512 image) size) (Err e)) same is)

pub other_version : (image : List ℕ) (size version : ℕ) (error : LayoutError) → error ≡ LayoutErrors.Version version → Answers (header_of (take 512 image) size) (Err error)
    → opening_of image size ≡ Err (OpenErrors.Version version)
unfolding opening_of
other_version image size version error same is = ap (by_header image) (subst (λ (e : LayoutError). Answers (header_of (take 512 image) size) (Err e)) same is)

pub bad_header : (image : List ℕ) (size offset : ℕ) (error : LayoutError) → error ≡ LayoutErrors.BadHeader offset → Answers (header_of (take 512 image) size) (Err error)
    → opening_of image size ≡ Err (OpenErrors.BadHeader offset)
unfolding opening_of
bad_header image size offset error same is = ap (by_header image) (subst (λ (e : LayoutError). Answers (header_of (take 512 image) size) (Err e)) same is)

-- a header that is well formed leaves it to the book and the entries
pub by_its_book : (image : List ℕ) (size : ℕ) (layout : Layout) → header_of (take 512 image) size ≡ Ok layout → opening_of image size ≡ by_entries image (by_book layout (part 512 layout.book image))
unfolding opening_of
by_its_book image size layout is = ap (by_header image) is

found_so : (image : List ℕ) (size : ℕ) (layout : Layout) (tables : TablesModel) (end : ℕ) → header_of (take 512 image) size ≡ Ok layout
    → IsReadTo layout image tables end → IsFound image size layout tables end
found_so image size layout tables end header read = record {
  header = header;
  opens = by_its_book image size layout header ∙ read.opens;
  is_end = read.is_end;
  closed = read.closed;
}

book_cause : (rose before told : Type 0) (image : List ℕ) (size : ℕ) (layout : Layout) (error : OpenError) → (rose → before) → (told → header_of (take 512 image) size ≡ Ok layout)
    → OpenCause rose told (by_entries image (by_book layout (part 512 layout.book image))) error → OpenCause before told (opening_of image size) error
book_cause rose before told image size layout OpenErrors.NoMemory earlier header cause = tt
book_cause rose before told image size layout OpenErrors.Fault earlier header cause = earlier cause
book_cause rose before told image size layout OpenErrors.NotFormatted earlier header cause = λ is. by_its_book image size layout (header is) ∙ cause is
book_cause rose before told image size layout (OpenErrors.Version version) earlier header cause = λ is. by_its_book image size layout (header is) ∙ cause is
book_cause rose before told image size layout (OpenErrors.BadHeader offset) earlier header cause = λ is. by_its_book image size layout (header is) ∙ cause is
book_cause rose before told image size layout (OpenErrors.BadBook offset) earlier header cause = λ is. by_its_book image size layout (header is) ∙ cause is
book_cause rose before told image size layout (OpenErrors.BadEntry job offset) earlier header cause = λ is. by_its_book image size layout (header is) ∙ cause is

-- the disk was read on between the header and the events
pub found_behind : (image image' image'' : List ℕ) (size size'' : ℕ) (layout : Layout) (tables : TablesModel) (end : ℕ) → header_of (take 512 image) size ≡ Ok layout
    → image' ≡ image → image'' ≡ image' → size'' ≡ size → IsReadTo layout image' tables end → IsFound image'' size'' layout tables end
found_behind image image' image'' size size'' layout tables end header same same' same_size read =
    subst (λ (i : List ℕ). IsFound i size'' layout tables end) (sym same')
    (subst (λ (n : ℕ). IsFound image' n layout tables end) (sym same_size)
    (found_so image' size layout tables end (ap (λ (i : List ℕ). header_of (take 512 i) size) same ∙ header) read))

pub book_cause_behind : (before later told : Type 0) (image image' image'' : List ℕ) (size : ℕ) (layout : Layout) (error : OpenError) → (later → before)
    → (told → header_of (take 512 image') size ≡ Ok layout) → image' ≡ image → image'' ≡ image'
    → OpenCause later told (by_entries image'' (by_book layout (part 512 layout.book image''))) error → OpenCause before told (opening_of image size) error
book_cause_behind before later told image image' image'' size layout error earlier header same same' cause =
    subst (λ (i : List ℕ). OpenCause before told (opening_of i size) error) same
    (book_cause later before told image' size layout error earlier header
    (subst (λ (i : List ℕ). OpenCause later told (by_entries i (by_book layout (part 512 layout.book i))) error) same' cause))

pub rose_before : (a b c : ℕ) → a ≤ b → Rose b c → Rose a c
rose_before a b c le rose = ⊎_elim (λ less. inl (omega (arith, less, le))) (λ most. inr most) rose
