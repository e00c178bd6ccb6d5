-- When the events are kept: what the tables keep from event to event beside what is sound, so that it follows for one more event.
use Rattle.std.specs.Prelude.{◌≡◌, ◌≢◌, ◌≤◌, ◌<◌, ℕ, pred, Bool, true, false, List, [], flat_map, take, length, Option, None, Some}
use Rattle.std.specs.Option.{option_map, option_map_or, is_some, is_none}
use Rattle.std.specs.List.{list_all, AllByRecursion}
use Rattle.ckr_uses.specs.Uses.{is_shared, leaves}
use Rattle.ckr_entry.specs.declared.point.Mark.{Mark}
use Rattle.ckr_entry.specs.declared.point.Present.{Present}
use Rattle.ckr_jcl.specs.declared.deck.Dd.{Dd}
use Rattle.ckr_library.specs.declared.sets.Content.{Content}
use Rattle.ckr_library.specs.declared.sets.Content.TheVariants.{Plain, Checkpoints}
use Rattle.ckr_library.specs.declared.sets.Stamp.{Stamp}
use Rattle.ckr_library.specs.NameMaps.{EachEntry, Name, Named, entry_at}
use Rattle.ckr_meaning.specs.LibrarySet.{LibrarySet, Library}
use Rattle.ckr_meaning.specs.EffectiveJob.{Effective, OwnedStep, name_of, names_of, names_of_job, names_made, flaws_in, is_among, plain_job, step_at}
use Rattle.ckr_meaning.specs.declared.place.Place.{Place}
use Rattle.ckr_meaning.specs.declared.place.Place.TheVariants.{Before, Opened, Within}
use Rattle.ckr_meaning.specs.JobRun.{all_go_on, at, is_bypassed, start_at, start_in, walk_before, walk_from}
use Rattle.ckr_meaning.specs.StepRun.{StepStart, placed_at, within_at, work_at}
use Rattle.ckr_volumes.specs.declared.layout.Layout.{Layout}
use Rattle.ckr_points.specs.declared.run.RunState.TheVariants.{Queued, On}
use Rattle.ckr_points.specs.Tables.{earlier_made, own_made, step_made}
use Rattle.ckr_points.specs.Follows.{is_in_state, is_within}
use Rattle.ckr_points.specs.Payload.{is_formed, is_orderly, writes_in}
use Rattle.ckr_points.specs.Marks.{carried_marks, mark_at, own_names}
use Rattle.ckr_points.specs.Office.{Leg, Office, is_holder, leg_of, passed_made, standing_at}
use Rattle.ckr_points.specs.Restart.{place_of, step_in}
use Rattle.ckr_points.specs.Rows.{KeptEntry, RunRow, StartPoint, TableSet, TablesModel, run_of}
use Rattle.ckr_points.specs.Soundness.{AreLaidOut, IsPrefix, stamped_writes}
use Rattle.ckr_points_invariant.specs.JobNames.{HasUses, keeps_points}

-- a data set as the tables and a library both have it; one of checkpoints has no length here
pub record Shape : Type 0 where
  pub cataloged : Bool
  pub lrecl : ℕ
  pub space : ℕ
  pub content : Content
  pub stamp : Stamp
  pub length : ℕ

abbrev pub counted : Content → ℕ → ℕ
counted Plain length = length
counted Checkpoints length = 0

abbrev pub table_shape : TableSet → Shape
table_shape table = record {
  cataloged = table.set.cataloged;
  lrecl = table.set.lrecl;
  space = table.set.space;
  content = table.set.content;
  stamp = table.set.stamp;
  length = counted table.set.content table.set.length;
}

abbrev pub set_shape : LibrarySet → Shape
set_shape set = record {
  cataloged = set.cataloged;
  lrecl = set.lrecl;
  space = set.space;
  content = set.content;
  stamp = set.stamp;
  length = counted set.content (length set.records);
}

-- the tables and a library have the same under a name
abbrev pub AreAlike : Named TableSet → Library → Name → Type 0
AreAlike sets library name = option_map table_shape (entry_at sets name) ≡ option_map set_shape (entry_at library name)

-- what a mark says of a data set, its volume aside
abbrev pub present_shape : Content → Present → Shape
present_shape content present = record {
  cataloged = present.cataloged;
  lrecl = present.lrecl;
  space = present.space;
  content = content;
  stamp = present.stamp;
  length = counted content present.length;
}

-- a mark says what a library has under its name
abbrev pub IsMarkOf : Option Present → Option LibrarySet → Type 0
IsMarkOf None None = Unit {0}
IsMarkOf None (Some set) = ⊥
IsMarkOf (Some present) None = ⊥
IsMarkOf (Some present) (Some set) = present_shape set.content present ≡ set_shape set

-- there is a mark, and it says that
abbrev pub HasMarkOf : Option Mark → Option LibrarySet → Type 0
HasMarkOf None set = ⊥
HasMarkOf (Some mark) set = IsMarkOf mark.present set

-- ---- a holder at its place

-- a run that holds its names, with its row and its leg
pub record IsHolder (office : Office) (number : ℕ) (row : RunRow) (leg : Leg) : Type 0 where
  pub row_at : run_of office.tables number ≡ Some row
  pub holds : is_holder row.state ≡ true
  pub leg_at : leg_of office number ≡ Some leg

-- a step that is running: it had no flaw, and its point marks absent what wasn't there
pub record IsUnderWay (row : RunRow) (start : StepStart) (writes : ℕ) : Type 0 where
  pub runs : is_bypassed row.rcs start.owned ≡ false
  pub flawless : flaws_in (placed_at start) ≡ []
  pub done : writes ≤ length (work_at start).writes
  pub made : (name : Name) → is_among (names_of start.root start.owned) name ≡ true
      → is_among (own_made row start.owned start.number) name ≡ is_none (entry_at start.standing.sets name)

abbrev pub IsWithinStep : RunRow → Leg → Place → Type 0
IsWithinStep row leg (Before step) = Unit {0}
IsWithinStep row leg (Opened step) = (start : StepStart) → start_at leg.job leg.start step ≡ Some start → flaws_in (placed_at start) ≡ []
IsWithinStep row leg (Within step writes) = (start : StepStart) → start_at leg.job leg.start step ≡ Some start → IsUnderWay row start writes

-- the step that a run is before or in
abbrev pub step_now : RunRow → ℕ
step_now row = step_in (place_of row)

-- the row of a holder is what its job is behind the steps before its place
pub record IsAtPlace (tables : TablesModel) (row : RunRow) (leg : Leg) : Type 0 where
  pub job : leg.job ≡ row.job
  pub begun : 1 ≤ step_now row
  -- a run that continues another one is in the step at which it did, or past it
  pub past : row.earlier_step ≤ step_now row
  pub formed : is_formed leg.job ≡ true
  pub goes_on : all_go_on leg.job.root 1 (take (pred (step_now row)) leg.job.steps) (walk_from leg.start) ≡ true
  pub rcs : row.rcs ≡ (walk_before leg.job leg.start (step_now row)).rcs
  pub passed : row.passed ≡ (walk_before leg.job leg.start (step_now row)).standing.passed
  pub earlier : (name : Name) → is_among (earlier_made tables row (step_now row)) name ≡ is_among (walk_before leg.job leg.start (step_now row)).earlier name
  pub owners : list_all (λ owned. keeps_points tables row.number owned.owner) row.job.steps ≡ true
  -- the names of the steps from here on are in the reach, and are the run's own
  pub ahead : (number : ℕ) (owned : OwnedStep) (name : Name) → step_now row ≤ number → step_at leg.job number ≡ Some owned
      → is_among (names_of leg.job.root owned) name ≡ true → (is_among leg.reach name ≡ true) × (is_among (own_names row) name ≡ true)
  -- the run's own names are in its reach
  pub own : (name : Name) → is_among (own_names row) name ≡ true → is_among leg.reach name ≡ true
  -- of each other name of its job it carries the mark of the point from which it was continued, which says what the job has
  pub carried : (name : Name) → is_among (names_of_job leg.job) name ≡ true → is_among (own_names row) name ≡ false
      → HasMarkOf (mark_at (carried_marks row) name) (entry_at (at leg.job leg.start (place_of row)).sets name)
  pub later : (number : ℕ) (owned : OwnedStep) → step_now row < number → step_at leg.job number ≡ Some owned → owned.owner ≡ row.number
  -- another run that owns the step has marked absent what wasn't there
  pub lent : (owned : OwnedStep) (name : Name) → step_at leg.job (step_now row) ≡ Some owned → owned.owner ≢ row.number
      → is_among (step_made tables row owned (step_now row)) name
      ≡ is_among (names_made (placed_at (start_in leg.job.root (step_now row) owned (walk_before leg.job leg.start (step_now row))))) name
  -- the names that the run has lost aren't in its reach, and of the others each that its job passed on as made is
  pub unreached : (name : Name) → is_among row.lost name ≡ true → is_among leg.reach name ≡ false
  pub none_lost : row.deck.restart ≡ None → row.lost ≡ []
  pub entered : (name : Name) → is_among leg.reach name ≡ false → is_among row.lost name ≡ false → is_among (passed_made row.passed) name ≡ false
  pub waits : is_in_state On row ≡ false → is_within (place_of row) ≡ true
  pub within : IsWithinStep row leg (place_of row)

-- ---- names in two reaches

abbrev pub leaves_dd : ℕ → OwnedStep → Name → Dd → Bool
leaves_dd root owned name dd = leaves name (name_of root owned dd) (is_shared dd)

-- each DD of the job that has the name shares it: SHR, with KEEP at both ends
abbrev pub Leaves : Effective → Name → Type 0
Leaves job name = list_all (λ owned. list_all (leaves_dd job.root owned name) owned.step.dds) job.steps ≡ true

-- no holder has the name in its reach
abbrev pub IsFree : Office → Name → Type 0
IsFree office name = (number : ℕ) (row : RunRow) (leg : Leg) → IsHolder office number row leg → is_among leg.reach name ≡ false

-- ---- all events

-- a run that waits, as it was submitted
pub record IsWaiting (office : Office) (row : RunRow) : Type 0 where
  pub alone : leg_of office row.number ≡ None
  pub job : row.job ≡ plain_job row.number row.deck
  pub formed : is_formed row.job ≡ true
  pub earlier : row.earlier ≡ 0
  pub own : row.earlier_step ≡ 0
  pub rcs : row.rcs ≡ []
  pub passed : row.passed ≡ []
  pub lost : row.lost ≡ []

pub record IsKnownLeg (office : Office) (leg : Leg) : Type 0 where
  pub found : leg_of office leg.number ≡ Some leg
  pub listed : is_some (run_of office.tables leg.number) ≡ true

-- the tables agree with what the jobs of the selected runs give
pub record IsAgreed (layout : Layout) (office : Office) : Type 0 where
  pub extents : AreLaidOut layout office.tables.sets
  pub numbered : (number : ℕ) (row : RunRow) → run_of office.tables number ≡ Some row → row.number ≡ number
  pub waiting : (number : ℕ) (row : RunRow) → run_of office.tables number ≡ Some row → is_in_state Queued row ≡ true → IsWaiting office row
  pub legs : AllByRecursion (IsKnownLeg office) office.legs
  pub led : (number : ℕ) (row : RunRow) → run_of office.tables number ≡ Some row → is_holder row.state ≡ true → is_some (leg_of office number) ≡ true
  pub places : (number : ℕ) (row : RunRow) (leg : Leg) → IsHolder office number row leg → IsAtPlace office.tables row leg
  pub uses : (number : ℕ) (row : RunRow) (leg : Leg) → IsHolder office number row leg → HasUses office.tables row leg
  -- no other holder reaches a name of one with RESTART
  pub alone : (one other : ℕ) (row next : RunRow) (leg fellow : Leg) (name : Name) → IsHolder office one row leg → IsHolder office other next fellow
      → one ≢ other → is_some row.deck.restart ≡ true → is_among leg.reach name ≡ true → is_among fellow.reach name ≡ false
  -- two holders share the names that they have in common, and what one without RESTART shares is as it was and as the ended jobs left it
  pub left : (one other : ℕ) (row next : RunRow) (leg fellow : Leg) (name : Name) → IsHolder office one row leg → IsHolder office other next fellow
      → one ≢ other → is_among leg.reach name ≡ true → is_among fellow.reach name ≡ true → Leaves leg.job name
  pub since : (number : ℕ) (row : RunRow) (leg : Leg) (name : Name) → IsHolder office number row leg → row.deck.restart ≡ None → is_among leg.reach name ≡ true
      → Leaves leg.job name → entry_at leg.start name ≡ entry_at office.library name
  pub held : (number : ℕ) (row : RunRow) (leg : Leg) (name : Name) → IsHolder office number row leg → is_among leg.reach name ≡ true
      → AreAlike office.tables.sets (standing_at office leg).sets name
  pub free : (name : Name) → IsFree office name → AreAlike office.tables.sets office.library name

-- ---- stamps

-- the library when the step of a stamp has made its rewrites, or its last write
abbrev pub library_at_stamp : Office → Stamp → Library
library_at_stamp office stamp =
    option_map_or
    (λ leg. option_map_or (λ start. within_at start (stamped_writes (work_at start).writes stamp.rewrites)) (start_at leg.job leg.start stamp.step) [])
    (leg_of office stamp.run) []

-- a data set has the kind, the record length and the space of what the step of its stamp writes, and its records begin that
pub record HasBegun (office : Office) (name : Name) (set : LibrarySet) : Type 0 where
  pub last : LibrarySet
  pub found : entry_at (library_at_stamp office set.stamp) name ≡ Some last
  pub content : last.content ≡ set.content
  pub lrecl : last.lrecl ≡ set.lrecl
  pub space : last.space ≡ set.space
  pub begins : IsPrefix set.records last.records

abbrev pub AreBegun : Office → Library → Type 0
AreBegun office library = (name : Name) (set : LibrarySet) → entry_at library name ≡ Some set → HasBegun office name set

abbrev pub is_before : Place → Bool
is_before (Before step) = true
is_before (Opened step) = false
is_before (Within step writes) = false

-- a place to which the job of a leg comes
pub record IsReached (leg : Leg) (place : Place) : Type 0 where
  pub begun : 1 ≤ step_in place
  pub goes_on : all_go_on leg.job.root 1 (take (pred (step_in place)) leg.job.steps) (walk_from leg.start) ≡ true
  pub flawless : (start : StepStart) → is_before place ≡ false → start_at leg.job leg.start (step_in place) ≡ Some start → flaws_in (placed_at start) ≡ []
  pub some : (start : StepStart) → start_at leg.job leg.start (step_in place) ≡ Some start → writes_in place ≤ length (work_at start).writes

-- a mark's length is at most that of what the step of its stamp writes
pub record IsShortMark (office : Office) (name : Name) (present : Present) : Type 0 where
  pub led : is_some (leg_of office present.stamp.run) ≡ true
  pub short : (last : LibrarySet) → entry_at (library_at_stamp office present.stamp) name ≡ Some last → last.content ≡ Plain → present.length ≤ length last.records

abbrev pub IsMarkedShort : Office → Mark → Type 0
IsMarkedShort office mark = (present : Present) → mark.present ≡ Some present → IsShortMark office mark.name present

-- something holds of the number of each run, of the entries that it has counted and of its points, and of the entries of each data set
pub record PointsHold (R : ℕ → ℕ → List StartPoint → Type 0) (E : List KeptEntry → Type 0) (tables : TablesModel) : Type 0 where
  pub rows : AllByRecursion (λ (row : RunRow). R row.number row.count row.points) tables.runs
  pub entries : EachEntry (λ (table : TableSet). E table.entries) tables.sets

-- something holds of each mark of the points of the tables
abbrev pub MarksHold : (Mark → Type 0) → TablesModel → Type 0
MarksHold P tables =
    PointsHold (λ run count points. AllByRecursion P (flat_map (λ point. point.marks) points)) (λ entries. AllByRecursion P (flat_map (λ entry. entry.point.marks) entries)) tables

-- what the ended jobs left, what a selected run has at each place to which its job comes, and the marks of all points
pub record AreStamped (office : Office) : Type 0 where
  pub begun : AreBegun office office.library
  pub places : (number : ℕ) (leg : Leg) (place : Place) → leg_of office number ≡ Some leg → IsReached leg place → AreBegun office (at leg.job leg.start place).sets
  pub marks : MarksHold (IsMarkedShort office) office.tables

-- each run has an orderly deck
abbrev pub AreOrderly : TablesModel → Type 0
AreOrderly tables = AllByRecursion (λ (row : RunRow). is_orderly row.number row.deck ≡ true) tables.runs

-- the events of an office are kept
pub record IsKept (layout : Layout) (office : Office) : Type 0 where
  pub events : IsAgreed layout office
  pub stamps : AreStamped office
  pub decks : AreOrderly office.tables
