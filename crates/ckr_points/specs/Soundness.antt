-- What holds of the tables and the office of sound events, and whether an event may come next.
use Rattle.std.specs.Prelude.{◌≡◌, ◌≤◌, ℕ, zero, suc, ◌==◌, Bool, true, false, ◌&&◌, ◌||◌, IsTrue, if◌then◌else◌, List, [], ◌∷◌, ◌++◌, map, flat_map, length, take, Option, None, Some}
use Rattle.std.specs.Option.{option_map, option_map_or, is_some}
use Rattle.std.specs.List.{AllByRecursion}
use Rattle.ckr_base.specs.declared.code.Code.{Code}
use Rattle.ckr_base.specs.declared.programs.Output.{Output}
use Rattle.ckr_base.specs.declared.programs.Output.TheVariants.{Main, Rejects, InPlace}
use Rattle.ckr_base.specs.declared.programs.Write.{Write}
use Rattle.ckr_events.specs.declared.event.Event.{Event}
use Rattle.ckr_events.specs.declared.event.Event.TheVariants.{Denied, Ended}
use Rattle.ckr_events.specs.declared.event.Ending.{Ending}
use Rattle.ckr_events.specs.declared.event.Ending.TheVariants.{Completed, Coded, Allocation}
use Rattle.ckr_library.specs.declared.sets.Content.{Content}
use Rattle.ckr_library.specs.declared.sets.Content.TheVariants.{Plain, Checkpoints}
use Rattle.ckr_library.specs.declared.sets.DataSet.{DataSet}
use Rattle.ckr_library.specs.declared.sets.Stamp.{Stamp}
use Rattle.ckr_library.specs.NameMaps.{EachEntry, Name, Named, entry_at, same_name}
use Rattle.ckr_meaning.specs.LibrarySet.{LibrarySet, Library}
use Rattle.ckr_entry.specs.declared.point.Mark.{Mark}
use Rattle.ckr_entry.specs.declared.point.Present.{Present}
use Rattle.ckr_meaning.specs.JobRun.{start_at}
use Rattle.ckr_meaning.specs.StepRun.{work_at, within_at}
use Rattle.ckr_rules.specs.RuleTables.{automatic, deferred, rule_number}
use Rattle.ckr_rules.specs.declared.cases.Verdict.{Verdict}
use Rattle.ckr_rules.specs.declared.cases.Verdict.TheVariants.{Step, Checkpoint, Denied as DeniedVerdict}
use Rattle.ckr_volumes.specs.declared.layout.Layout.{Layout}
use Rattle.ckr_volumes.specs.Layouts.{StandsIn, lie_apart}
use Rattle.ckr_points.specs.Follows.{follows}
use Rattle.ckr_points.specs.Marks.{has_passed, without_passed}
use Rattle.ckr_points.specs.RuleCases.{auto_case, wanted_of, deferred_case}
use Rattle.ckr_points.specs.Office.{Leg, Office, leg_of, is_holder, standing_at, library_for, model_records}
use Rattle.ckr_points.specs.Restart.{Decked, place_of, step_in}
use Rattle.ckr_points.specs.Rows.{TableSet, RunRow, TablesModel, run_of}

-- the number of the rule that denies, or 0
abbrev pub denying : Verdict → ℕ
denying Step = 0
denying Checkpoint = 0
denying (DeniedVerdict rule) = rule_number rule

abbrev pub serials : Layout → List Name
serials layout = map (λ volume. volume.serial) layout.volumes.items

-- the number of the first deferred rule that holds for a queued run
abbrev pub deferred_rule : Layout → TablesModel → RunRow → ℕ
deferred_rule layout tables row =
    option_map_or (λ restart. denying (deferred (deferred_case (serials layout) row (wanted_of row tables restart) tables))) row.deck.restart 0

-- the number of the first automatic rule that holds for a run with a code
abbrev pub automatic_rule : Layout → RunRow → Code → ℕ
automatic_rule layout row code = denying (automatic (auto_case row (step_in (place_of row)) layout.eligible.items code false))

abbrev pub ending_names_first : Layout → RunRow → Ending → Bool
ending_names_first layout row Completed = true
ending_names_first layout row (Coded code rule writes lengths) = rule == 6 || rule == automatic_rule layout row code
ending_names_first layout row (Allocation dd cause first second) = true

-- whether an event that names a rule names the first one on the tables before it
abbrev pub names_first_rule : Layout → TablesModel → Event → Bool
names_first_rule layout tables (Denied job rule name) = option_map_or (λ row. rule == deferred_rule layout tables row) (run_of tables job) false
names_first_rule layout tables (Ended job ending) = option_map_or (λ row. ending_names_first layout row ending) (run_of tables job) false
names_first_rule layout tables _ = true

-- whether an event may come next: it follows, and names the first rule where it names one
abbrev pub may_come : Layout → Office → Decked → Bool
may_come layout office event =
    follows layout office.tables event.0 event.1 && names_first_rule layout office.tables event.0

-- each data set stands in the layout, and any two lie apart
pub record AreLaidOut (layout : Layout) (sets : Named TableSet) : Type 0 where
  pub stand : EachEntry (λ (table : TableSet). StandsIn layout table.set) sets
  pub apart : (name other : Name) (one two : TableSet) → same_name name other ≡ false
      → entry_at sets name ≡ Some one → entry_at sets other ≡ Some two → IsTrue (lie_apart one.set two.set)

-- a data set of the tables with these records; one of checkpoints has none
abbrev pub as_set : Content → DataSet → List (List ℕ) → LibrarySet
as_set Plain set records = record {
  cataloged = set.cataloged;
  lrecl = set.lrecl;
  space = set.space;
  content = set.content;
  stamp = set.stamp;
  records = records;
}
as_set Checkpoints set records = record {
  cataloged = set.cataloged;
  lrecl = set.lrecl;
  space = set.space;
  content = set.content;
  stamp = set.stamp;
  records = [];
}

-- a name of the tables, with the records that the model gives it
abbrev pub seen_at : Office → Name → Option LibrarySet
seen_at office name = option_map (λ table. as_set table.set.content table.set (model_records office name)) (entry_at office.tables.sets name)

abbrev pub HasLength : Content → ℕ → ℕ → Type 0
HasLength Plain now most = now ≡ most
HasLength Checkpoints now most = Unit {0}

-- a data set as two libraries are compared: the records of a checkpoint data set are left out
abbrev pub as_compared : Content → LibrarySet → LibrarySet
as_compared Plain set = set
as_compared Checkpoints set = record set { records = [] }

abbrev pub compared_at : Library → Name → Option LibrarySet
compared_at library name = option_map (λ set. as_compared set.content set) (entry_at library name)

-- a name agrees with what its holder's place has, or with what the ended jobs left
pub record AgreesAt (office : Office) (name : Name) : Type 0 where
  pub agrees : seen_at office name ≡ compared_at (library_for office name) name
  pub long : (table : TableSet) → entry_at office.tables.sets name ≡ Some table → HasLength table.set.content (length (model_records office name)) table.set.length

-- the passed list of a holder is that of its job, but for the names that it has lost
abbrev pub PassedAgrees : Office → Leg → Type 0
PassedAgrees office leg =
    (row : RunRow) → run_of office.tables leg.number ≡ Some row → is_holder row.state ≡ true
    → has_passed row ≡ without_passed row.lost (standing_at office leg).passed

-- the place and the image of a rewrite in place
abbrev pub rewrite_of : Output → List ℕ → Option (ℕ × List ℕ)
rewrite_of Main image = None
rewrite_of Rejects image = None
rewrite_of (InPlace place) image = Some (place, image)

-- the writes up to the rewrite of that number
abbrev pub up_to_rewrites : ℕ → List Write → List Write
up_to_rewrites zero writes = []
up_to_rewrites (suc count) [] = []
up_to_rewrites (suc count) (write ∷ writes) =
    write ∷ (if is_some (rewrite_of write.output write.image) then up_to_rewrites count writes else up_to_rewrites (suc count) writes)

-- how many writes of a step a stamp stands for: all where nothing was rewritten
abbrev pub stamped_writes : List Write → ℕ → ℕ
stamped_writes writes zero = length writes
stamped_writes writes (suc count) = length (up_to_rewrites (suc count) writes)

-- the records of a name when the step of a stamp has made its rewrites, or its last write
abbrev pub records_at_stamp : Office → Stamp → Name → List (List ℕ)
records_at_stamp office stamp name =
    option_map_or
    (λ leg.
    option_map_or
    (λ start.
    option_map_or (λ set. set.records)
    (entry_at (within_at start (stamped_writes (work_at start).writes stamp.rewrites)) name) [])
    (start_at leg.job leg.start stamp.step) [])
    (leg_of office stamp.run) []

abbrev pub IsPrefix : {A : Type 0} → List A → List A → Type 0
IsPrefix first second = take (length first) second ≡ first

-- the marks of all points
abbrev pub marks_of_row : RunRow → List Mark
marks_of_row row = flat_map (λ point. point.marks) row.points

abbrev pub marks_of_entries : TableSet → List Mark
marks_of_entries table = flat_map (λ entry. entry.point.marks) table.entries

abbrev pub all_marks : TablesModel → List Mark
all_marks tables = flat_map marks_of_row tables.runs ++ flat_map (λ entry. marks_of_entries entry.1) tables.sets

abbrev pub IsShortEnough : Name → Stamp → ℕ → Mark → Type 0
IsShortEnough name stamp most mark =
    mark.name ≡ name → (present : Present) → mark.present ≡ Some present → present.stamp ≡ stamp → present.length ≤ most

-- what a plain data set has is the beginning of what the step of its stamp writes
pub record StampedAt (office : Office) (name : Name) (table : TableSet) : Type 0 where
  pub begins : IsPrefix (model_records office name) (records_at_stamp office table.set.stamp name)
  pub marked : AllByRecursion (IsShortEnough name table.set.stamp (length (records_at_stamp office table.set.stamp name))) (all_marks office.tables)

-- what holds of the tables and the office of some events
pub record IsSoundOffice (layout : Layout) (office : Office) : Type 0 where
  pub extents : AreLaidOut layout office.tables.sets
  pub agree : (name : Name) → AgreesAt office name
  pub passed : AllByRecursion (PassedAgrees office) office.legs
  pub stamped : (name : Name) (table : TableSet) → entry_at office.tables.sets name ≡ Some table → table.set.content ≡ Plain → StampedAt office name table
