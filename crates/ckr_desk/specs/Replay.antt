-- How the events of a book are read one after another.
use Rattle.std.specs.Prelude.{◌≡◌, ◌⊎◌, ◌<◌, ◌≤◌, ◌==◌, ◌&&◌, nat_lt, ℕ, ◌+◌, ◌-◌, Bool, true, false, List, [], ◌∷◌, length, take, drop, Option, Some, None, Result, Ok, Err}
use Rattle.std.specs.Option.{option_map_or}
use Rattle.ckr_book.specs.Records.{records_from, end_from, starts_open}
use Rattle.ckr_journal.specs.Events.{IsBadAt}
use Rattle.ckr_outside.specs.Disk.{part}
use Rattle.ckr_events.specs.declared.event.Event.{Event}
use Rattle.ckr_events.specs.declared.event.Event.TheVariants.{Rewritten}
use Rattle.ckr_desk_refines.specs.Memory.Rewrite.{updated_by}
use Rattle.ckr_library.specs.declared.sets.DataSet.{DataSet}
use Rattle.ckr_library.specs.NameMaps.{Name, entry_at}
use Rattle.ckr_outside.specs.Faults.{Rose}
use Rattle.ckr_points.specs.Restart.{Decked}
use Rattle.ckr_points.specs.RuleCases.{is_plain}
use Rattle.ckr_points.specs.Rows.{RunRow, TableSet, TablesModel, no_tables, run_of}
use Rattle.ckr_desk_refines.specs.RewriteRecord.{last_event}
use Rattle.ckr_volumes.specs.declared.layout.Layout.{Layout}
use Rattle.ckr_volumes.specs.Header.{header_of}
use Rattle.ckr_desk.specs.declared.error.OpenError.{OpenError}
use Rattle.ckr_desk.specs.declared.error.OpenError.TheVariants as OpenErrors
use Rattle.ckr_desk.specs.Opening.{behind_records, by_book, by_entries, opened_at, opening_of}
use Rattle.ckr_desk.specs.Soundness.{events_in}
use Rattle.ckr_desk.specs.State.{DeskView}
use Rattle.ckr_desk.specs.Rewrite.{IsWrittenBy, LacksAtMost, OpensSame}

-- From the book's first gate up to this place the events have brought about these tables: what the whole book gives is what is
-- given from here on.
pub record IsReplayed (layout : Layout) (book : List ℕ) (tables : TablesModel) (place : ℕ) : Type 0 where
  pub end : end_from 0 book ≡ place + end_from 0 (drop place book)
  pub same : behind_records layout no_tables 0 (records_from 0 book) ≡ behind_records layout tables place (records_from 0 (drop place book))

-- all events were read
pub record IsReplayedTo (layout : Layout) (book : List ℕ) (tables : TablesModel) (end : ℕ) : Type 0 where
  pub opens : by_book layout book ≡ Ok (opened_at layout tables (layout.book - end))
  pub is_end : end_from 0 book ≡ end
  pub closed : starts_open (drop end book) ≡ false

-- one event further, or the end
abbrev pub GoneOn : Type 0 → Layout → List ℕ → TablesModel → ℕ → TablesModel → ℕ → Bool → Type 0
GoneOn told layout book tables place tables' place' true =
    (place < place') × (place' ≤ layout.book) × (told → IsReplayed layout book tables place → IsReplayed layout book tables' place')
GoneOn told layout book tables place tables' place' false =
    (place' ≡ place) × (told → IsReplayed layout book tables place → IsReplayedTo layout book tables' place')

-- why the events weren't read
abbrev pub ReplayCause : Type 0 → Type 0 → Layout → List ℕ → OpenError → Type 0
ReplayCause rose told layout book OpenErrors.NoMemory = Unit {0}
ReplayCause rose told layout book OpenErrors.Fault = rose
ReplayCause rose told layout book error = told → by_book layout book ≡ Err error

-- why no event was read at a place
abbrev pub EventCause : Type 0 → Type 0 → List ℕ → ℕ → OpenError → Type 0
EventCause rose told rest place OpenErrors.NoMemory = Unit {0}
EventCause rose told rest place OpenErrors.Fault = rose
EventCause rose told rest place (OpenErrors.BadBook offset) = (offset ≡ place) × (told → IsBadAt rest)
EventCause rose told rest place _ = ⊥

-- why a disk wasn't opened
abbrev pub OpenCause : {T : Type 0} → Type 0 → Type 0 → Result T OpenError → OpenError → Type 0
OpenCause rose told opening OpenErrors.NoMemory = Unit {0}
OpenCause rose told opening OpenErrors.Fault = rose
OpenCause rose told opening error = told → opening ≡ Err error

-- all events were read, and no entry of a checkpoint in effect is refused
pub record IsReadTo (layout : Layout) (image : List ℕ) (tables : TablesModel) (end : ℕ) : Type 0 where
  pub opens : by_entries image (by_book layout (part 512 layout.book image)) ≡ Ok (opened_at layout tables (layout.book - end))
  pub is_end : end_from 0 (part 512 layout.book image) ≡ end
  pub closed : starts_open (drop end (part 512 layout.book image)) ≡ false

-- what a disk says that reads these bytes: the header, the tables that the events have brought about, and where they end
pub record IsFound (content : List ℕ) (size : ℕ) (layout : Layout) (tables : TablesModel) (end : ℕ) : Type 0 where
  pub header : header_of (take 512 content) size ≡ Ok layout
  pub opens : opening_of content size ≡ Ok (opened_at layout tables (layout.book - end))
  pub is_end : end_from 0 (part 512 layout.book content) ≡ end
  pub closed : starts_open (drop end (part 512 layout.book content)) ≡ false

-- ---- the last event

-- the last of events, where this one came before them
abbrev pub last_from : Option Event → List Decked → Option Event
last_from before [] = before
last_from before (decked ∷ rest) = last_from (Some decked.0) rest

-- up to this place the last event of a book is this one
abbrev pub IsLastTo : List ℕ → ℕ → Option Event → Type 0
IsLastTo book place last = last_event (events_in (records_from 0 book)) ≡ last_from last (events_in (records_from 0 (drop place book)))

-- one event further, or the end
abbrev pub LastGone : List ℕ → ℕ → Option Event → ℕ → Option Event → Bool → Type 0
LastGone book place last place' last' true = IsLastTo book place last → IsLastTo book place' last'
LastGone book place last place' last' false = IsLastTo book place last → last_event (events_in (records_from 0 book)) ≡ last'

-- ---- its record

-- whether a record that is told fits in a data set, which holds records
abbrev pub fits_in : ℕ → List ℕ → DataSet → Bool
fits_in place image set = is_plain set.content && (nat_lt place set.space && length image == set.lrecl)

abbrev pub fits_set : ℕ → List ℕ → TableSet → Bool
fits_set place image table = fits_in place image table.set

abbrev pub fits_name : TablesModel → ℕ → List ℕ → Name → Bool
fits_name tables place image name = option_map_or (fits_set place image) (entry_at tables.sets name) false

abbrev pub fits_row : TablesModel → ℕ → List ℕ → RunRow → Bool
fits_row tables place image row = option_map_or (fits_name tables place image) (updated_by row) false

-- whether the tables have the record that an event tells
abbrev pub has_record : TablesModel → Event → Bool
has_record tables (Rewritten job taken writes lengths place image) = option_map_or (fits_row tables place image) (run_of tables job) false
has_record tables _ = false

abbrev pub IsWrittenIf : Bool → Layout → TablesModel → Event → List ℕ → List ℕ → Type 0
IsWrittenIf true layout tables event before after = IsWrittenBy layout tables event before after
IsWrittenIf false layout tables event before after = after ≡ before

-- the record that the last event tells is written again, if the tables have it
abbrev pub IsWrittenAgain : Layout → TablesModel → Option Event → List ℕ → List ℕ → Type 0
IsWrittenAgain layout tables None before after = after ≡ before
IsWrittenAgain layout tables (Some event) before after = IsWrittenIf (has_record tables event) layout tables event before after

-- the image lacks at most that record
abbrev pub LacksLast : Layout → TablesModel → Option Event → List ℕ → List ℕ → Type 0
LacksLast layout tables None before image = ⊥
LacksLast layout tables (Some event) before image = (has_record tables event ≡ true) × LacksAtMost layout tables event before image

-- an image of a stop while it is written
abbrev pub IsLackingAgain : {D : Type 0} → (D → List ℕ) → (D → ℕ) → Option Event → DeskView D → List ℕ → Type 0
IsLackingAgain content size last old image =
    OpensSame content size old image
    × ((image ≡ content old.store.disk) ⊎ LacksLast old.store.layout old.jobs.tables.desk last (content old.store.disk) image)

-- the disk failed
abbrev pub HasFailedAgain : ℕ → ℕ → OpenError → Type 0
HasFailedAgain before now error = (error ≡ OpenErrors.Fault) × Rose before now
