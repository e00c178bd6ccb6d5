-- What opening a disk gives: what its events have brought about, or the first reason why it isn't opened.
use Rattle.std.specs.Prelude.{ℕ, ◌+◌, ◌-◌, if◌then◌else◌, List, [], ◌∷◌, length, take, drop, Option, Some, None, Result, Ok, Err}
use Rattle.ckr_book.specs.Records.{records_from, end_from, starts_open}
use Rattle.ckr_events.specs.declared.event.Event.{Event}
use Rattle.ckr_events.specs.Event.{event_of}
use Rattle.ckr_desk_refines.specs.Memory.EventChanges.{failed_in}
use Rattle.ckr_desk_refines.specs.Memory.Replay.{replayed}
use Rattle.ckr_outside.specs.Disk.{part}
use Rattle.ckr_points.specs.Rows.{TablesModel, no_tables}
use Rattle.ckr_volumes.specs.declared.layout.Layout.{Layout}
use Rattle.ckr_volumes.specs.declared.header.HeaderError.{HeaderError}
use Rattle.ckr_volumes.specs.declared.header.HeaderError.TheVariants as HeaderErrors
use Rattle.ckr_volumes.specs.Header.{header_of}
use Rattle.ckr_desk.specs.declared.error.OpenError.{OpenError}
use Rattle.ckr_desk.specs.declared.error.OpenError.TheVariants.{NotFormatted, Version, BadHeader, BadBook, BadEntry}
use Rattle.ckr_desk.specs.Entries.{bad_entry}
use Rattle.ckr_desk.specs.State.{Opened}

abbrev pub behind_read : Layout → TablesModel → Result Event ℕ → Option TablesModel
behind_read layout tables (Ok event) = replayed layout tables event
behind_read layout tables (Err offset) = None

-- the tables behind a record of the book: none where the record is no event, or one that doesn't follow
unfoldable pub behind_record : Layout → TablesModel → List ℕ → Option TablesModel
behind_record layout tables bytes = behind_read layout tables (event_of bytes)

abbrev pub or_bad : ℕ → Option TablesModel → (TablesModel → Result TablesModel ℕ) → Result TablesModel ℕ
or_bad place None go_on = Err place
or_bad place (Some tables) go_on = go_on tables

-- the tables behind the records of a book from a place on; else the place of the first that is no event or doesn't follow
abbrev pub behind_records : Layout → TablesModel → ℕ → List (List ℕ) → Result TablesModel ℕ
behind_records layout tables place [] = Ok tables
behind_records layout tables place (bytes ∷ rest) =
    or_bad place (behind_record layout tables bytes) (λ behind. behind_records layout behind (place + (length bytes + 5)) rest)

-- with these tables the runs that are within a step were running
abbrev pub opened_at : Layout → TablesModel → ℕ → Opened
opened_at layout tables room = record { layout = layout; tables = tables; failed = failed_in tables; room = room }

-- a gate that stands open before no whole record comes behind the records
abbrev pub by_end : Layout → List ℕ → Result TablesModel ℕ → Result Opened OpenError
by_end layout bytes (Err place) = Err (BadBook place)
by_end layout bytes (Ok tables) =
    if starts_open (drop (end_from 0 bytes) bytes) then Err (BadBook (end_from 0 bytes))
    else Ok (opened_at layout tables (layout.book - end_from 0 bytes))

abbrev pub by_book : Layout → List ℕ → Result Opened OpenError
by_book layout bytes = by_end layout bytes (behind_records layout no_tables 0 (records_from 0 bytes))

-- an entry of a checkpoint in effect may be refused behind the events
abbrev pub refused_or : Opened → Option (ℕ × ℕ) → Result Opened OpenError
refused_or opened None = Ok opened
refused_or opened (Some at) = Err (BadEntry at.0 at.1)

abbrev pub by_entries : List ℕ → Result Opened OpenError → Result Opened OpenError
by_entries image (Err error) = Err error
by_entries image (Ok opened) = refused_or opened (bad_entry opened.layout opened.tables image)

abbrev pub by_header : List ℕ → Result Layout HeaderError → Result Opened OpenError
by_header image (Err HeaderErrors.NotFormatted) = Err NotFormatted
by_header image (Err (HeaderErrors.Version version)) = Err (Version version)
by_header image (Err (HeaderErrors.BadHeader offset)) = Err (BadHeader offset)
by_header image (Ok layout) = by_entries image (by_book layout (part 512 layout.book image))

-- what opening a disk of this size gives that reads these bytes
unfoldable pub opening_of : List ℕ → ℕ → Result Opened OpenError
opening_of image size = by_header image (header_of (take 512 image) size)
