-- How formatting a disk by a stream of cards ends.
use Rattle.std.specs.Prelude.{◌≡◌, ℕ, false, List, take, Option, Result, Ok, IsOk, IsErr, MatchResult, IsOkAnd}
use Rattle.std.specs.Str.Lines.{lines}
use Rattle.std.specs.Io.KnownBytes.{Appends, Keeps}
use Rattle.ckr_outside.specs.Disk.{ChangesWithin, EachSince, Only, part}
use Rattle.ckr_outside.specs.Front.{AppendsFront}
use Rattle.ckr_book.specs.Next.{NoneAt}
use Rattle.ckr_volumes.specs.declared.layout.Layout.{Layout}
use Rattle.ckr_volumes.specs.Header.{header_of}
use Rattle.ckr_journal.specs.FormatStops.{IsOldOrFresh}
use Rattle.ckr_desk_format.specs.declared.installation.CardRefusal.{CardRefusal}
use Rattle.ckr_desk_format.specs.Installation.{installation_of}
use Rattle.ckr_desk_format.specs.declared.command.FormatOutcome.{FormatOutcome}
use Rattle.ckr_desk_format.specs.declared.command.FormatOutcome.TheVariants.{Formatted, Refused, SourceFailed, SinkFailed, DiskFailed, NoMemory, TooLong}
use Rattle.ckr_desk_format.specs.declared.stream.StreamStop.{StreamStop}
use Rattle.ckr_desk_format.specs.declared.stream.StreamStop.TheVariants.{Source, Memory, Limit}
use Rattle.ckr_desk_format.specs.Streams.{TookAll, TookSome, TookTooMany}
use Rattle.ckr_desk_format.specs.Texts.{said_text}

-- the disk is formatted: its header says this layout, its book is empty, and a stop leaves just that
pub record IsFormatted (told : Type 0) (content : List ℕ) (images : List ℕ → Type 0) (size : ℕ) (layout : Layout) : Type 0 where
  pub header : told → header_of (take 512 content) size ≡ Ok layout
  pub empty : told → NoneAt (part 512 layout.book content) false
  pub settled : Only content images

-- What becomes of a disk from the start of formatting it by a layout, whether that comes to its end or not: outside the header and the
-- book's first gate no byte changes, and a stop at any moment leaves an image of before, but for the header's gate, or one that isn't
-- formatted, or one of this layout with an empty book.
pub record FormatsBy {D : Type 0} (told : Type 0) (content : D → List ℕ) (may_leave : D → List ℕ → Type 0) (moment : D → ℕ) (left_since : D → ℕ → List ℕ → Type 0) (size : ℕ) (old new : D) (layout : Layout) : Type 0 where
  pub changes : ChangesWithin told content may_leave moment left_since 0 513 old new
  pub any_moment : EachSince moment left_since old new (IsOldOrFresh (may_leave old) size layout)

-- What is done for what the cards say, and written. `formatted` says that the disk is formatted so, `same` that it is as before.
abbrev pub Carried : FormatOutcome → Result Layout CardRefusal → (Layout → Type 0) → Type 0 → Option (List ℕ) → Option (List ℕ) → Type 0
Carried Formatted said formatted same old new = IsOkAnd said formatted × Appends old new (said_text said)
Carried Refused said formatted same old new = IsErr said × same × Appends old new (said_text said)
Carried SinkFailed said formatted same old new = MatchResult said formatted (λ refusal. same) × AppendsFront old new (said_text said)
Carried DiskFailed said formatted same old new = IsOk said × Keeps old new
Carried SourceFailed said formatted same old new = ⊥
Carried NoMemory said formatted same old new = ⊥
Carried TooLong said formatted same old new = ⊥

-- The source was read to its end, and what its cards say for a disk of this size was carried out. `formats` says that nothing but what
-- formatting by the layout does has become of the disk.
pub record CarriedOut (outcome : FormatOutcome) (left rest : Option (List ℕ)) (size : ℕ) (formatted formats : Layout → Type 0) (same : Type 0) (old new : Option (List ℕ)) : Type 0 where
  pub all : List ℕ
  pub took : TookAll left rest all
  pub carried : Carried outcome (installation_of (lines all) size) formatted same old new
  pub stays : MatchResult (installation_of (lines all) size) formats (λ refusal. same)

-- how it ends: what was read, done and written
abbrev pub Ends : FormatOutcome → Option (List ℕ) → Option (List ℕ) → ℕ → (Layout → Type 0) → (Layout → Type 0) → Type 0 → Option (List ℕ) → Option (List ℕ) → Type 0
Ends Formatted left rest size formatted formats same old new = CarriedOut Formatted left rest size formatted formats same old new
Ends Refused left rest size formatted formats same old new = CarriedOut Refused left rest size formatted formats same old new
Ends SinkFailed left rest size formatted formats same old new = CarriedOut SinkFailed left rest size formatted formats same old new
Ends DiskFailed left rest size formatted formats same old new = CarriedOut DiskFailed left rest size formatted formats same old new
Ends SourceFailed left rest size formatted formats same old new = TookSome left rest × same × Keeps old new
Ends NoMemory left rest size formatted formats same old new = TookSome left rest × same × Keeps old new
Ends TooLong left rest size formatted formats same old new = TookTooMany left rest × same × Keeps old new

abbrev pub outcome_of : StreamStop → FormatOutcome
outcome_of Source = SourceFailed
outcome_of Memory = NoMemory
outcome_of Limit = TooLong

-- an outcome that is called a failure of one came only where its faults rose
abbrev pub CausedBy : FormatOutcome → Type 0 → Type 0 → Type 0 → Type 0
CausedBy Formatted source sink disk = Unit {0}
CausedBy Refused source sink disk = Unit {0}
CausedBy SourceFailed source sink disk = source
CausedBy SinkFailed source sink disk = sink
CausedBy DiskFailed source sink disk = disk
CausedBy NoMemory source sink disk = Unit {0}
CausedBy TooLong source sink disk = Unit {0}
