-- The records that an image has of the data sets go with their stamps.
use Rattle.std.proofs.Common.{◌≡◌, ℕ, true, List, [], take, length, ap, sym, ◌∙◌, subst, Option, Some}
use Rattle.std.proofs.lemmas.List.{take-take}
use Rattle.std.specs.Option.{is_some, option_map, option_map_or}
use Rattle.ckr_library.specs.declared.sets.Content.{Content}
use Rattle.ckr_library.specs.declared.sets.Content.TheVariants.{Plain}
use Rattle.ckr_library.specs.declared.sets.DataSet.{DataSet}
use Rattle.ckr_library.specs.declared.sets.Stamp.{Stamp}
use Rattle.ckr_library.specs.NameMaps.{Name, entry_at}
use Rattle.ckr_meaning.specs.LibrarySet.{LibrarySet}
use Rattle.ckr_meaning.specs.StepRun.{work_at, within_at}
use Rattle.ckr_meaning.specs.JobRun.{start_at}
use Rattle.ckr_points.specs.Office.{Leg, Office, leg_of, library_for, model_records}
use Rattle.ckr_points.specs.Rows.{TableSet}
use Rattle.ckr_points.specs.Soundness.{AgreesAt, HasLength, StampedAt, records_at_stamp, stamped_writes}
use Rattle.ckr_points_invariant.specs.Invariant.{HasBegun, IsKept, Shape, counted, set_shape, table_shape}
use Rattle.ckr_points_invariant.proofs.Stamps.Sameness.{begun-same}
use Rattle.ckr_points_invariant.proofs.Soundness.{kept-agrees}
use Rattle.ckr_points_invariant.proofs.Stamps.Tables.{alike_set, kept-stamped, led-by-begun, library-begun}
use Rattle.ckr_volumes.specs.declared.layout.Layout.{Layout}
use Rattle.ckr_volumes.specs.Records.{records_on}
use Rattle.ckr_volumes.specs.Lists.{first_records}
use Rattle.ckr_volumes.specs.SamePlaces.{same_places}
use Rattle.ckr_desk_refines.specs.Commits.{HasCommitted}
use Rattle.ckr_desk_refines.specs.Origins.{IsPartOf, Stems}
use Rattle.ckr_desk_refines.specs.Origins.Stems.{stays, empty, written}

-- ---- the office's records of a data set

-- they are the first ones of what the step of its stamp writes
pub records-stamped : (layout : Layout) (office : Office) (name : Name) (table : TableSet) → IsKept layout office → entry_at office.tables.sets name ≡ Some table → table.set.content ≡ Plain → model_records office name ≡ take table.set.length (records_at_stamp office table.set.stamp name)
records-stamped layout office name table kept e plain =
    let stamped : StampedAt office name table = kept-stamped layout office kept name table e plain in
    let agrees : AgreesAt office name = kept-agrees layout office kept.events name in
    sym stamped.begins ∙ ap (λ (n : ℕ). take n (records_at_stamp office table.set.stamp name)) (long_by table.set.content plain (agrees.long table e))
  where
    long_by : (content : Content) → content ≡ Plain → HasLength content (length (model_records office name)) table.set.length → length (model_records office name) ≡ table.set.length
    long_by content plain long = subst (λ c. HasLength c (length (model_records office name)) table.set.length) plain long

-- the step of a stamp is that of its leg
same-stamped : (office other : Office) (stamp : Stamp) (name : Name) → leg_of other stamp.run ≡ leg_of office stamp.run → records_at_stamp other stamp name ≡ records_at_stamp office stamp name
same-stamped office other stamp name same =
    ap (λ (o : Option Leg). option_map_or (λ leg. option_map_or (λ start. option_map_or (λ (set : LibrarySet). set.records) (entry_at (within_at start (stamped_writes (work_at start).writes stamp.rewrites)) name) []) (start_at leg.job leg.start stamp.step) []) o []) same

-- a stamp that stands in the tables has a leg
stamp-led : (layout : Layout) (office : Office) (name : Name) (table : TableSet) → IsKept layout office → entry_at office.tables.sets name ≡ Some table → is_some (leg_of office table.set.stamp.run) ≡ true
stamp-led layout office name table kept e =
    let stands = library-begun layout office name kept in
    let its = alike_set table (entry_at (library_for office name) name) (ap (option_map table_shape) (sym e) ∙ stands.0) in
    let begun : HasBegun office name its.0 = stands.1 its.0 its.1 in
    let stamp : table.set.stamp ≡ its.0.stamp = ap (λ (shape : Shape). shape.stamp) its.2 in
    ap (λ (stamp : Stamp). is_some (leg_of office stamp.run)) stamp ∙ led-by-begun office name its.0 begun

-- ---- a begun data set that the tables are alike to

pub counted-plain : (content : Content) (n : ℕ) → content ≡ Plain → counted content n ≡ n
counted-plain content n plain = ap (λ c. counted c n) plain

abbrev records_at : Option LibrarySet → List (List ℕ)
records_at set = option_map_or (λ (set : LibrarySet). set.records) set []

-- it has the records that the office has
pub as-office : (layout : Layout) (office : Office) (name : Name) (table : TableSet) (set : LibrarySet) → IsKept layout office → entry_at office.tables.sets name ≡ Some table → table.set.content ≡ Plain → table_shape table ≡ set_shape set → HasBegun office name set → model_records office name ≡ set.records
as-office layout office name table set kept e plain same begun =
    let stands = library-begun layout office name kept in
    let its = alike_set table (entry_at (library_for office name) name) (ap (option_map table_shape) (sym e) ∙ stands.0) in
    let shapes : set_shape its.0 ≡ set_shape set = sym its.2 ∙ same in
    let here : its.0.content ≡ Plain = ap (λ (shape : Shape). shape.content) (sym its.2) ∙ plain in
    let there : set.content ≡ Plain = ap (λ (shape : Shape). shape.content) (sym same) ∙ plain in
    ap records_at its.1
    ∙ begun-same office name its.0 set (stands.1 its.0 its.1) begun (ap (λ (shape : Shape). shape.stamp) shapes)
    (sym (counted-plain its.0.content (length its.0.records) here) ∙ ap (λ (shape : Shape). shape.length) shapes ∙ counted-plain set.content (length set.records) there)

-- ---- what an image has goes on

none-on : (image : List ℕ) (layout : Layout) (set : DataSet) (n : ℕ) → n ≡ 0 → records_on image layout set n ≡ []
none-on image layout set n e = ap (λ (n : ℕ). records_on image layout set n) e

-- selected runs keep their legs
abbrev pub LegsStay : Office → Office → Type 0
LegsStay old new = (run : ℕ) → is_some (leg_of old run) ≡ true → leg_of new run ≡ leg_of old run

module _ (layout : Layout) (old new : Office) (image : List ℕ) (kept : IsKept layout old) (next : IsKept layout new) (legs : LegsStay old new) (had : HasCommitted layout old image) where
  stayed : (name : Name) (table from : TableSet) → entry_at new.tables.sets name ≡ Some table → table.set.content ≡ Plain → entry_at old.tables.sets name ≡ Some from → IsPartOf table.set from.set
      → records_on image layout table.set table.set.length ≡ model_records new name
  stayed name table from e plain was part =
      let before : from.set.content ≡ Plain = sym part.content ∙ plain in
      let stamps : records_at_stamp old from.set.stamp name ≡ records_at_stamp new table.set.stamp name =
      sym (same-stamped old new from.set.stamp name (legs from.set.stamp.run (stamp-led layout old name from kept was)))
      ∙ ap (λ stamp. records_at_stamp new stamp name) (sym part.stamp)
      in
      same_places image layout from.set table.set (record { parts = ap (λ parts. parts.items) part.parts; lrecl = part.lrecl }) table.set.length
      ∙ sym (first_records image layout from.set table.set.length from.set.length part.shorter)
      ∙ ap (take table.set.length) (had name from was before ∙ records-stamped layout old name from kept was before)
      ∙ take-take table.set.length from.set.length (records_at_stamp old from.set.stamp name) part.shorter
      ∙ ap (take table.set.length) stamps
      ∙ sym (records-stamped layout new name table next e plain)

  emptied : (name : Name) (table : TableSet) → entry_at new.tables.sets name ≡ Some table → table.set.content ≡ Plain → table.set.length ≡ 0
      → records_on image layout table.set table.set.length ≡ model_records new name
  emptied name table e plain none =
      none-on image layout table.set table.set.length none
      ∙ sym (records-stamped layout new name table next e plain ∙ ap (λ (n : ℕ). take n (records_at_stamp new table.set.stamp name)) none)

  -- an image that has what the old office has committed has what the new one has, if its data sets stem from those
  pub goes-on : ((name : Name) (table : TableSet) → entry_at new.tables.sets name ≡ Some table → table.set.content ≡ Plain → Stems layout old.tables.sets new image name table) → HasCommitted layout new image
  goes-on stems = λ name table e plain. by name table e plain (stems name table e plain)
    where
      by : (name : Name) (table : TableSet) → entry_at new.tables.sets name ≡ Some table → table.set.content ≡ Plain → Stems layout old.tables.sets new image name table → records_on image layout table.set table.set.length ≡ model_records new name
      by name table e plain (stays from was part) = stayed name table from e plain was part
      by name table e plain (empty none) = emptied name table e plain none
      by name table e plain (written has) = has
