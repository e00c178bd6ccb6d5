-- Other images of which the entries hold too, and what is read where an entry stands.
use Rattle.std.proofs.Common.{[], ◌≡◌, ◌≢◌, ◌≤◌, inl, ℕ, List, ap, sym, ◌∙◌, subst, Some, arith}
use Rattle.std.specs.Prelude.{IsTrue}
use Rattle.std.specs.List.{AllByRecursion}
use Rattle.std.proofs.lemmas.Option.{same_Some}
use Rattle.ckr_base.proofs.Bools.{bool-cases}
use Rattle.ckr_base.proofs.Sequences.{each-implies}
use Rattle.ckr_entry.specs.Entry.{entry_in}
use Rattle.ckr_entry.proofs.Entries.{entry_again}
use Rattle.ckr_library.specs.declared.sets.DataSet.{DataSet}
use Rattle.ckr_library.specs.Catalog.{Catalog}
use Rattle.ckr_library.specs.NameMaps.{Name, Named, entry_at, same_name}
use Rattle.ckr_library.proofs.Named.{each-at, name-same}
use Rattle.ckr_points.specs.Office.{Office}
use Rattle.ckr_points.specs.Rows.{TableSet}
use Rattle.ckr_points.specs.Soundness.{AreLaidOut}
use Rattle.ckr_steps.specs.EntryRecords.{SameRecordsOutside, bytes_on}
use Rattle.ckr_steps.specs.Writes.{Keeps}
use Rattle.ckr_steps.proofs.EntryRecords.{bytes-back}
use Rattle.ckr_volumes.specs.declared.layout.Layout.{Layout}
use Rattle.ckr_volumes.specs.Layouts.{StandsIn, lie_apart}
use Rattle.ckr_volumes.specs.Lists.{same_records}
use Rattle.ckr_volumes.specs.Records.{records_on}
use Rattle.ckr_volumes.specs.SamePlaces.{SamePlaces, same_places}
use Rattle.ckr_desk_refines.specs.StepSets.{HasSets}
use Rattle.ckr_desk_refines.proofs.Durable.Units.{table-kept, apart-there}
use Rattle.ckr_desk_refines.specs.Entries.{HasEntries, IsEntryThere, IsReadBack, SameKept, jobs_of}

-- ---- records outside of some place

module _ (layout : Layout) (sets : Named TableSet) (laid : AreLaidOut layout sets) (old new : List ℕ) where
  stands_in : (name : Name) (table : TableSet) → entry_at sets name ≡ Some table → StandsIn layout table.set
  stands_in name table e = each-at (λ (table : TableSet). StandsIn layout table.set) sets laid.stand name table e

  -- the records of each data set stay
  pub moved-kept : ((set : DataSet) (n : ℕ) → StandsIn layout set → n ≤ set.space → records_on new layout set n ≡ records_on old layout set n) → SameKept layout sets old new
  moved-kept same name table e some = let stands : StandsIn layout table.set = stands_in name table e in same table.set table.set.length stands stands.length_fits

  module _ (written : Name) (its : TableSet) (at : entry_at sets written ≡ Some its) (set : DataSet) (places : SamePlaces its.set set) (others : (other : DataSet) (n : ℕ) → StandsIn layout other → IsTrue (lie_apart set other) → n ≤ other.space → records_on new layout other n ≡ records_on old layout other n) where
    -- those of one data set change alone, and up to its length they stay if it keeps entries
    pub written-kept : (its.entries ≢ [] → records_on new layout its.set its.set.length ≡ records_on old layout its.set its.set.length) → SameKept layout sets old new
    written-kept kept name table e =
        bool-cases (same_name written name)
        (λ one.
        let table_is : its ≡ table = same_Some its table (sym at ∙ ap (entry_at sets) (name-same written name one) ∙ e) in
        subst (λ (table : TableSet). table.entries ≢ [] → records_on new layout table.set table.set.length ≡ records_on old layout table.set table.set.length) table_is kept)
        (λ other some.
        let stands : StandsIn layout table.set = stands_in name table e in
        others table.set table.set.length stands (apart-there its.set set table.set places (laid.apart written name its table other at e)) stands.length_fits)

  -- records behind what is committed of one data set are written
  pub outside-kept : (written : Name) (its : TableSet) (set : DataSet) (place count : ℕ) → entry_at sets written ≡ Some its → SamePlaces its.set set → its.set.length ≤ place → its.set.length ≤ set.space → SameRecordsOutside layout set place count old new → SameKept layout sets old new
  outside-kept written its set place count at places behind fits same =
      written-kept written its at set places same.others
      (λ some.
      sym (same_places new layout its.set set places its.set.length)
      ∙ same_records old new layout set its.set.length (λ q less. same.records q (omega (arith, less, fits)) (inl (omega (arith, less, behind))))
      ∙ same_places old layout its.set set places its.set.length)

  -- what a running step has is kept
  pub keeping-kept : (names : List Name) (library : Catalog) → HasSets sets names library → Keeps layout library old new → SameKept layout sets old new
  keeping-kept names library has keeps name table e some = table-kept layout sets names library laid has old new keeps name table table.set.length e (omega arith)

-- ---- what is read

pub read-back : (layout : Layout) (office : Office) (image : List ℕ) → HasEntries layout office image → (name : Name) (table : TableSet) → entry_at office.tables.sets name ≡ Some table → AllByRecursion (IsReadBack layout office.legs (jobs_of office.tables) image table.set) table.entries
read-back layout office image has name table e =
    each-implies (IsEntryThere layout office.legs (jobs_of office.tables) image table.set) (IsReadBack layout office.legs (jobs_of office.tables) image table.set) table.entries
    (λ entry its. record {
      state = its.state;
      of_job = its.of_job;
      program = its.program;
      read = ap (λ (bytes : ℕ). entry_in (bytes_on image layout table.set entry.kept.place bytes)) (sym its.bytes)
          ∙ ap entry_in (bytes-back image layout table.set entry.kept.place _ its.there) ∙ entry_again _ its.fits;
    })
    (has name table e)
