-- What an image has of the data sets: what the events have committed, and what a running step has written.
use Rattle.std.specs.Prelude.{◌≡◌, ℕ, Bool, false, true, List, length, Some}
use Rattle.ckr_events.specs.declared.event.Event.{Event}
use Rattle.ckr_events.specs.declared.event.Event.TheVariants.{Cancelled, Denied, Purged, Released, Submitted}
use Rattle.ckr_library.specs.declared.sets.Content.TheVariants.{Plain}
use Rattle.ckr_library.specs.NameMaps.{Name, Named, entry_at}
use Rattle.ckr_meaning.specs.EffectiveJob.{is_among, names_of}
use Rattle.ckr_meaning.specs.LibrarySet.{LibrarySet}
use Rattle.ckr_meaning.specs.StepRun.{StepStart, within_at}
use Rattle.ckr_points.specs.Payload.{start_in_office}
use Rattle.ckr_points.specs.Office.{Office, model_records}
use Rattle.ckr_points.specs.Rows.{RunRow, TableSet, run_of}
use Rattle.ckr_volumes.specs.declared.layout.Layout.{Layout}
use Rattle.ckr_volumes.specs.Records.{records_on}

-- under each name of the tables the image has the records that the office has for it, those for checkpoint entries aside
abbrev pub HasCommitted : Layout → Office → List ℕ → Type 0
HasCommitted layout office image =
    (name : Name) (table : TableSet) → entry_at office.tables.sets name ≡ Some table → table.set.content ≡ Plain
    → records_on image layout table.set table.set.length ≡ model_records office name

-- under each name of a step the image has the records that the step's first writes leave
abbrev pub HasWithin : Layout → Named TableSet → StepStart → ℕ → List ℕ → Type 0
HasWithin layout sets start writes image =
    (name : Name) (table : TableSet) (set : LibrarySet) → is_among (names_of start.root start.owned) name ≡ true
    → entry_at sets name ≡ Some table → entry_at (within_at start writes) name ≡ Some set → set.content ≡ Plain
    → records_on image layout table.set (length set.records) ≡ set.records

-- so it is with the running step of a run
abbrev pub HasWithinRun : Layout → Office → ℕ → ℕ → List ℕ → Type 0
HasWithinRun layout office run writes image =
    (row : RunRow) (start : StepStart) → run_of office.tables run ≡ Some row → start_in_office office row ≡ Some start
    → HasWithin layout office.tables.sets start writes image

-- the events that leave the data sets as they are: a deck is submitted, the restart of a run is denied, a step cancels restarts, a held run is
-- released, a queued one is purged
abbrev pub keeps_sets : Event → Bool
keeps_sets (Submitted job cards) = true
keeps_sets (Denied job rule name) = true
keeps_sets (Cancelled job) = true
keeps_sets (Released job) = true
keeps_sets (Purged job) = true
keeps_sets _ = false
