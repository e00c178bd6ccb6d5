-- What the events have brought about has records of the lengths that its data sets say.
use Rattle.std.proofs.Common.{◌≡◌, ◌==◌, ◌<◌, ℕ, zero, suc, List, [], ◌∷◌, length, Option, Some, None, refl, sym, ap, ◌∙◌, subst, slice_get, arith}
use Rattle.std.specs.List.{AllByRecursion}
use Rattle.std.specs.Option.{option_map_or, option_map}
use Rattle.std.proofs.lemmas.List.Elements.{All-get_or}
use Rattle.std.proofs.lemmas.Option.{slice_get_within, get_or_from_slice_get}
use Rattle.ckr_base.proofs.Sequences.{find-holds}
use Rattle.ckr_events.specs.declared.event.Ending.{Ending}
use Rattle.ckr_events.specs.declared.event.Event.{Event}
use Rattle.ckr_events.specs.declared.event.Event.TheVariants.{Selected, Ended}
use Rattle.ckr_desk_refines.proofs.Durable.Stamps.{counted-plain}
use Rattle.ckr_library.specs.declared.sets.Content.TheVariants.{Plain}
use Rattle.ckr_library.specs.NameMaps.{Name, entry_at, taken_over, with_moved}
use Rattle.ckr_library.proofs.Named.{each-at, each-with_entry, each-without_entry}
use Rattle.ckr_meaning.proofs.Lengths.{at-lengths, job_run-lengths}
use Rattle.ckr_meaning.specs.declared.place.Place.TheVariants.{Before}
use Rattle.ckr_meaning.specs.EffectiveJob.{names_of_job}
use Rattle.ckr_meaning.specs.JobRun.{at, job_run}
use Rattle.ckr_meaning.specs.LibrarySet.{HasRecordLength, HasRecordLengths, Library, LibrarySet}
use Rattle.ckr_points.specs.Office.{Leg, Office, continued_leg, cut_of, holder_of, holds_name, leg_by, leg_of, library_after, library_for, model_records, no_office, office_after, office_from, office_with, plain_leg, standing_at, with_leg}
use Rattle.ckr_points.specs.Restart.{Decked, after_event, place_of}
use Rattle.ckr_points.specs.Rows.{RunRow, TableSet, TablesModel, run_of}
use Rattle.ckr_points_invariant.proofs.Select.Holders.{all_legs}
use Rattle.ckr_points_invariant.proofs.Stamps.Tables.{alike_set, library-begun}
use Rattle.ckr_points_invariant.specs.Invariant.{IsKept, Shape, table_shape}
use Rattle.ckr_desk_store.specs.OpenImages.{event_records}
use Rattle.ckr_volumes.specs.declared.layout.Layout.{Layout}
use Rattle.ckr_volumes.specs.Layouts.{StandsIn}
use Rattle.ckr_desk.specs.Soundness.{events_in, office_on}

abbrev StartsWhole : Leg → Type 0
StartsWhole leg = HasRecordLengths leg.start

-- what the ended jobs left, and what each selected run began on
pub record HaveLengths (office : Office) : Type 0 where
  pub library : HasRecordLengths office.library
  pub legs : AllByRecursion StartsWhole office.legs

taken_over-lengths : (names : List Name) (from to : Library) → HasRecordLengths from → HasRecordLengths to → HasRecordLengths (taken_over names from to)
taken_over-lengths [] from to one other = other
taken_over-lengths (name ∷ names) from to one other =
    by (entry_at from name) refl (taken_over-lengths names from to one other)
  where
    by : (entry : Option LibrarySet) → entry_at from name ≡ entry → HasRecordLengths (taken_over names from to) → HasRecordLengths (with_moved name (taken_over names from to) entry)
    by None e rest = each-without_entry HasRecordLength name (taken_over names from to) rest
    by (Some set) e rest = each-with_entry HasRecordLength name set (taken_over names from to) (each-at HasRecordLength from one name set e) rest

module _ (office : Office) (have : HaveLengths office) where
  leg-lengths : (number : ℕ) (leg : Leg) → leg_of office number ≡ Some leg → HasRecordLengths leg.start
  leg-lengths number leg at = find-holds StartsWhole (λ (leg : Leg). leg.number == number) office.legs leg have.legs at

  continued-lengths : (row : RunRow) (before : ℕ) (found : Option Leg) → leg_of office (suc before) ≡ found → HasRecordLengths (option_map_or (continued_leg office row) found (plain_leg office row)).start
  continued-lengths row before None at = have.library
  continued-lengths row before (Some earlier) at = taken_over-lengths (names_of_job earlier.job) earlier.start office.library (leg-lengths (suc before) earlier at) have.library

  begun-lengths : (row : RunRow) (earlier : ℕ) → HasRecordLengths (leg_by office row earlier).start
  begun-lengths row zero = have.library
  begun-lengths row (suc before) = continued-lengths row before (leg_of office (suc before)) refl

  selected-lengths : (row : Option RunRow) → AllByRecursion StartsWhole (option_map_or (λ row. with_leg (leg_by office row row.earlier) office.legs) row office.legs)
  selected-lengths None = have.legs
  selected-lengths (Some row) = all_legs StartsWhole (leg_by office row row.earlier) office.legs (begun-lengths row row.earlier) have.legs

  left-lengths : (row : RunRow) (ending : Ending) (found : Option Leg) → leg_of office row.number ≡ found
      → HasRecordLengths (option_map_or (λ leg. taken_over leg.reach (job_run leg.job leg.start (cut_of row ending)) office.library) found office.library)
  left-lengths row ending None at = have.library
  left-lengths row ending (Some leg) at =
      taken_over-lengths leg.reach (job_run leg.job leg.start (cut_of row ending)) office.library
      (job_run-lengths leg.job leg.start (cut_of row ending) (leg-lengths row.number leg at)) have.library

  ended-lengths : (ending : Ending) (row : Option RunRow) → HasRecordLengths (option_map_or (λ row. library_after office row ending) row office.library)
  ended-lengths ending None = have.library
  ended-lengths ending (Some row) = left-lengths row ending (leg_of office row.number) refl

  with-lengths : (event : Event) (tables : TablesModel) → HaveLengths (office_with office event tables)
  with-lengths (Selected job initiator earlier step id) tables = record { library = have.library; legs = selected-lengths (run_of tables job) }
  with-lengths (Ended job ending) tables = record { library = ended-lengths ending (run_of office.tables job); legs = have.legs }
  with-lengths _ tables = record { library = have.library; legs = have.legs }

  standing-lengths : (leg : Leg) → HasRecordLengths leg.start → (row : Option RunRow)
      → HasRecordLengths (option_map_or (λ row. at leg.job leg.start (place_of row)) row (at leg.job leg.start (Before 1))).sets
  standing-lengths leg whole None = at-lengths leg.job leg.start (Before 1) whole
  standing-lengths leg whole (Some row) = at-lengths leg.job leg.start (place_of row) whole

  holder-lengths : (name : Name) (found : Option Leg) → holder_of office name ≡ found → HasRecordLengths (option_map_or (λ leg. (standing_at office leg).sets) found office.library)
  holder-lengths name None at = have.library
  holder-lengths name (Some leg) at =
      standing-lengths leg (find-holds StartsWhole (holds_name office name) office.legs leg have.legs at) (run_of office.tables leg.number)

  pub for-lengths : (name : Name) → HasRecordLengths (library_for office name)
  for-lengths name = holder-lengths name (holder_of office name) refl

from-lengths : (events : List Decked) (office : Office) → HaveLengths office → HaveLengths (office_from events office)
from-lengths [] office have = have
from-lengths (first ∷ rest) office have = from-lengths rest (office_after first office) (with-lengths office have first.0 (after_event first.0 first.1 office.tables))

pub office-lengths : (layout : Layout) (image : List ℕ) → HaveLengths (office_on layout image)
unfolding office_on
office-lengths layout image = from-lengths (events_in (event_records layout image)) no_office (record { library = tt; legs = tt })

abbrev records_at : Option LibrarySet → List (List ℕ)
records_at set = option_map_or (λ (set : LibrarySet). set.records) set []

-- a record of the office lies in the space of its data set, and is as long as that says
pub record-fits : (layout : Layout) (office : Office) (name : Name) (table : TableSet) (place : ℕ) (image : List ℕ) → IsKept layout office → HaveLengths office
    → entry_at office.tables.sets name ≡ Some table → table.set.content ≡ Plain → slice_get (model_records office name) place ≡ Some image
    → (place < table.set.space) × (length image ≡ table.set.lrecl)
record-fits layout office name table place image kept have at plain there =
    let alike = library-begun layout office name kept in
    let its = alike_set table (entry_at (library_for office name) name) (ap (option_map table_shape) (sym at) ∙ alike.0) in
    let set : LibrarySet = its.0 in
    let listed : slice_get set.records place ≡ Some image = ap (λ o. slice_get (records_at o) place) (sym its.1) ∙ there in
    let within : place < length set.records = slice_get_within set.records place image listed in
    let content : set.content ≡ Plain = ap (λ (shape : Shape). shape.content) (sym its.2) ∙ plain in
    let long : table.set.length ≡ length set.records =
    sym (counted-plain table.set.content table.set.length plain) ∙ ap (λ (shape : Shape). shape.length) its.2 ∙ counted-plain set.content (length set.records) content
    in
    let stands : StandsIn layout table.set = each-at (λ (table : TableSet). StandsIn layout table.set) office.tables.sets kept.events.extents.stand name table at in
    let whole : HasRecordLength set = each-at HasRecordLength (library_for office name) (for-lengths office have name) name set its.1 in (
      omega (arith, within, long, stands.length_fits),
      subst (λ (bytes : List ℕ). length bytes ≡ set.lrecl) (get_or_from_slice_get set.records place image [] listed)
          (All-get_or (λ (bytes : List ℕ). length bytes ≡ set.lrecl) set.records place [] within whole)
          ∙ ap (λ (shape : Shape). shape.lrecl) (sym its.2),
    )
