-- The entries that the tables keep, as an image has them: the records of each at its place, within its data set.
use Rattle.std.specs.Prelude.{◌≡◌, ◌≢◌, ◌≤◌, ◌==◌, Bool, true, false, ℕ, zero, suc, IsTrue, List, [], length, map, slice_get, find, option_and_then, Option, None, Some, Ok}
use Rattle.std.specs.Option.{option_map}
use Rattle.std.specs.List.{AllByRecursion}
use Rattle.ckr_entry.specs.declared.point.State.{State}
use Rattle.ckr_entry.specs.Entry.{IsEntry, entry_in, spelling}
use Rattle.ckr_entry.specs.Parts.{Entry}
use Rattle.ckr_events.specs.declared.event.Event.{Event}
use Rattle.ckr_events.specs.declared.event.Event.TheVariants.{Checkpointed}
use Rattle.ckr_jcl.specs.declared.deck.Dd.{Dd}
use Rattle.ckr_jcl.specs.declared.deck.Kind.{Kind}
use Rattle.ckr_library.specs.declared.sets.Content.TheVariants.{Plain, Checkpoints}
use Rattle.ckr_library.specs.declared.sets.DataSet.{DataSet}
use Rattle.ckr_library.specs.declared.sets.Kept.{Kept}
use Rattle.ckr_library.specs.Catalog.{ends_within}
use Rattle.ckr_library.specs.NameMaps.{Name, Named, entry_at}
use Rattle.ckr_meaning.specs.EffectiveJob.{Effective, OwnedStep, name_of, step_at}
use Rattle.ckr_meaning.specs.JobRun.{start_at}
use Rattle.ckr_meaning.specs.StepRun.{StepStart, case_at}
use Rattle.ckr_meaning.specs.States.{StandsFor}
use Rattle.ckr_points_library.specs.Commit.{output_names}
use Rattle.ckr_points.specs.Office.{Leg, Office}
use Rattle.ckr_points.specs.Restart.{kept_at, place_of, step_in, syschk_name}
use Rattle.ckr_points.specs.Rows.{EffectPoint, KeptEntry, RunRow, TableSet, TablesModel, run_of, step_of_run}
use Rattle.ckr_points.specs.Tables.{committed, entry_point, is_checkpoints, kept_entry, name_with_role}
use Rattle.ckr_desk_memory.specs.Invariant.{is_in_step}
use Rattle.ckr_desk_memory.specs.EventChanges.{is_point_of}
use Rattle.ckr_desk_memory.specs.View.{PointView}
use Rattle.ckr_desk_turn.specs.Checkpoints.{entry_with}
use Rattle.ckr_desk_turn.specs.EntryStates.{checkpoint_state}
use Rattle.ckr_steps.specs.EntryRecords.{HasEntry, bytes_on}
use Rattle.ckr_steps.specs.Units.{AreServed, is_closed, program_of}
use Rattle.ckr_volumes.specs.declared.layout.Layout.{Layout}
use Rattle.ckr_volumes.specs.Records.{records_on}
use Rattle.ckr_volumes.specs.SamePlaces.{SamePlaces}

-- ---- the programs of the runs

-- the jobs of all runs, in the order of their numbers
abbrev pub jobs_of : TablesModel → List Effective
jobs_of tables = map (λ row. row.job) tables.runs

-- the job of a run by its number, from 1
abbrev pub job_at : List Effective → ℕ → Option Effective
job_at jobs zero = None
job_at jobs (suc before) = slice_get jobs before

-- the program of a step of a run
abbrev pub program_at : List Effective → ℕ → ℕ → Option Kind
program_at jobs run step = option_map (λ owned. owned.step.program) (option_and_then (λ job. step_at job step) (job_at jobs run))

-- ---- entries that are there

-- its state is the one that the program of its step had there, in the job of the run that took it
pub record IsStateOfJob (legs : List Leg) (entry : KeptEntry) (state : State) : Type 0 where
  pub leg : Leg
  pub led : find (λ leg. leg.number == entry.point.run) legs ≡ Some leg
  pub start : StepStart
  pub begun : start_at leg.job leg.start entry.point.step ≡ Some start
  pub entries : ℕ
  pub least : 1 ≤ entries
  pub most : entries ≤ 1000000
  pub is : state ≡ checkpoint_state (case_at start) entry.point.taken entries

-- With the state that its job had there its point is an entry, as many bytes long as is kept, and the image has its records at its place
-- in the data set. The program is that of the step at which its run took it.
pub record IsEntryThere (layout : Layout) (legs : List Leg) (jobs : List Effective) (image : List ℕ) (set : DataSet) (entry : KeptEntry) : Type 0 where
  pub state : State
  pub of_job : IsStateOfJob legs entry state
  pub fits : IsEntry (entry_with entry.kept.id state entry.point)
  pub bytes : length (spelling (entry_with entry.kept.id state entry.point)) ≡ entry.kept.bytes
  pub there : HasEntry image layout set entry.kept.place (spelling (entry_with entry.kept.id state entry.point))
  pub program : program_at jobs entry.point.run entry.point.step ≡ Some (program_of state)

-- the bytes at its place are read as its point, with the state that its job had there
pub record IsReadBack (layout : Layout) (legs : List Leg) (jobs : List Effective) (image : List ℕ) (set : DataSet) (entry : KeptEntry) : Type 0 where
  pub state : State
  pub of_job : IsStateOfJob legs entry state
  pub program : program_at jobs entry.point.run entry.point.step ≡ Some (program_of state)
  pub read : entry_in (bytes_on image layout set entry.kept.place entry.kept.bytes) ≡ Ok (entry_with entry.kept.id state entry.point)

-- something holds of the data set of each name
abbrev pub UnderEachName : {X : Type 0} → (X → Type 0) → Named X → Type 0
UnderEachName {X} Q named = (name : Name) (entry : X) → entry_at named name ≡ Some entry → Q entry

-- each entry of a data set is there
abbrev pub AreThere : Layout → List Leg → List Effective → List ℕ → TableSet → Type 0
AreThere layout legs jobs image table = AllByRecursion (IsEntryThere layout legs jobs image table.set) table.entries

-- under each name of the tables the image has each entry that they keep
abbrev pub HasEntries : Layout → Office → List ℕ → Type 0
HasEntries layout office image = UnderEachName (AreThere layout office.legs (jobs_of office.tables) image) office.tables.sets

-- ---- the checkpoint in effect

-- The bytes at the place of the entry of a run's checkpoint in effect are read as its point, with a state that stands for the records taken
-- in the run's step: its program isn't closed, the checkpoint is done, and a cancel isn't.
pub record IsReadInEffect (layout : Layout) (office : Office) (image : List ℕ) (row : RunRow) (entry : KeptEntry) (start : StepStart) : Type 0 where
  pub effect : EffectPoint
  pub got : row.in_effect ≡ Some effect
  pub table : TableSet
  pub at : entry_at office.tables.sets effect.set ≡ Some table
  pub state : State
  pub read : entry_in (bytes_on image layout table.set entry.kept.place entry.kept.bytes) ≡ Ok (entry_with entry.kept.id state entry.point)
  pub stands : StandsFor state (case_at start) entry.point.taken
  pub unclosed : is_closed state ≡ false
  pub served : AreServed true false state

-- ---- points that are read

-- the point of a run in memory is that of an entry: it has its program's state, and its writes
pub record IsPointOfEntry (points : List PointView) (run : ℕ) (entry : Entry) : Type 0 where
  pub point : PointView
  pub found : find (is_point_of run) points ≡ Some point
  pub state : point.state ≡ entry.state
  pub writes : point.writes ≡ entry.writes

-- so it is with a run, where it is within its step and holds its names, and the entry of its checkpoint in effect that the image has
abbrev pub IsRead : Layout → TablesModel → List ℕ → List PointView → ℕ → Type 0
IsRead layout tables image points run =
    (row : RunRow) (effect : EffectPoint) (table : TableSet) (entry : Entry) → run_of tables run ≡ Some row → is_in_step row ≡ true → row.in_effect ≡ Some effect → entry_at tables.sets effect.set ≡ Some table
    → entry_in (bytes_on image layout table.set effect.kept.place effect.kept.bytes) ≡ Ok entry → IsPointOfEntry points run entry

-- and with each run
abbrev pub AreRead : Layout → TablesModel → List ℕ → List PointView → Type 0
AreRead layout tables image points = (run : ℕ) → IsRead layout tables image points run

-- So it is with a run that is to go on at a checkpoint of an earlier one, and the entry that its data set for checkpoints keeps under an identifier.
abbrev pub IsWantedRead : Layout → TablesModel → List ℕ → List PointView → ℕ → Name → Type 0
IsWantedRead layout tables image points run id =
    (row : RunRow) (table : TableSet) (wanted : KeptEntry) (entry : Entry) → run_of tables run ≡ Some row → entry_at tables.sets (syschk_name row.deck) ≡ Some table → kept_at tables.sets (syschk_name row.deck) id ≡ Some wanted
    → entry_in (bytes_on image layout table.set wanted.kept.place wanted.kept.bytes) ≡ Ok entry → IsPointOfEntry points run entry

-- ---- entries within their data sets

-- each entry ends within the length of its data set
abbrev pub EndWithin : TableSet → Type 0
EndWithin table = AllByRecursion (λ (entry : KeptEntry). IsTrue (ends_within table.set.length entry.kept)) table.entries

abbrev pub AreWithin : Named TableSet → Type 0
AreWithin sets = UnderEachName EndWithin sets

-- only a data set for checkpoints keeps entries
abbrev pub KeepsNoneIfPlain : TableSet → Type 0
KeepsNoneIfPlain table = table.set.content ≡ Plain → table.entries ≡ []

abbrev pub OnlyCheckSetsKeep : Named TableSet → Type 0
OnlyCheckSetsKeep sets = UnderEachName KeepsNoneIfPlain sets

-- ---- the owners of entries

-- an entry tells the owner of its step, as the job of its run has it
pub record HasOwner (legs : List Leg) (entry : KeptEntry) : Type 0 where
  pub leg : Leg
  pub led : find (λ leg. leg.number == entry.point.run) legs ≡ Some leg
  pub owned : OwnedStep
  pub found : step_at leg.job entry.point.step ≡ Some owned
  pub owner : entry.point.owner ≡ owned.owner

abbrev pub HaveOwners : List Leg → TableSet → Type 0
HaveOwners legs table = AllByRecursion (HasOwner legs) table.entries

-- so it is with each entry that the tables keep
abbrev pub AreOwned : Office → Type 0
AreOwned office = UnderEachName (HaveOwners office.legs) office.tables.sets

-- ---- a checkpoint is taken

-- an event by which a data set keeps one more entry
abbrev pub takes_checkpoint : Event → Bool
takes_checkpoint (Checkpointed job id taken writes lengths place bytes) = true
takes_checkpoint _ = false

-- the entry that the tables keep for a checkpoint of this identifier, place and number of bytes, with its point
abbrev pub entry_taken : TablesModel → RunRow → OwnedStep → Kept → ℕ → ℕ → List ℕ → KeptEntry
entry_taken tables row owned kept taken writes lengths =
    kept_entry kept (entry_point row owned (step_in (place_of row)) taken writes (committed (output_names row.job.root owned) lengths tables.sets))

-- the image has the entry in the data set for checkpoints of the run's step
abbrev pub HasNewEntry : Layout → Office → Kept → ℕ → ℕ → List ℕ → List ℕ → Type 0
HasNewEntry layout now kept taken writes lengths image =
    (row : RunRow) (owned : OwnedStep) (table : TableSet) → run_of now.tables kept.run ≡ Some row → step_of_run row (step_in (place_of row)) ≡ Some owned
    → entry_at now.tables.sets (name_with_role row.job.root owned is_checkpoints) ≡ Some table
    → IsEntryThere layout now.legs (jobs_of now.tables) image table.set (entry_taken now.tables row owned kept taken writes lengths)

-- With the state that the step's program had there its point is an entry, as many bytes long as is kept, whose records the image has in a
-- data set that lies where the tables have this one.
pub record HasWritten (layout : Layout) (legs : List Leg) (image : List ℕ) (table : DataSet) (owned : OwnedStep) (entry : KeptEntry) : Type 0 where
  pub state : State
  pub of_job : IsStateOfJob legs entry state
  pub set : DataSet
  pub places : SamePlaces table set
  pub fits : IsEntry (entry_with entry.kept.id state entry.point)
  pub bytes : length (spelling (entry_with entry.kept.id state entry.point)) ≡ entry.kept.bytes
  pub there : HasEntry image layout set entry.kept.place (spelling (entry_with entry.kept.id state entry.point))
  pub program : program_of state ≡ owned.step.program

-- its data set is one for checkpoints
abbrev pub HasCheckSet : TablesModel → ℕ → Type 0
HasCheckSet tables run =
    (row : RunRow) (owned : OwnedStep) (table : TableSet) → run_of tables run ≡ Some row → step_of_run row (step_in (place_of row)) ≡ Some owned
    → entry_at tables.sets (name_with_role row.job.root owned is_checkpoints) ≡ Some table → table.set.content ≡ Checkpoints

-- the step of the run has a DD for checkpoints, with a data set
pub record IsCheckDd (row : RunRow) (owned : OwnedStep) : Type 0 where
  pub dd : Dd
  pub name : Name
  pub first : find (λ one. is_checkpoints one.role) owned.step.dds ≡ Some dd
  pub named : name_of row.job.root owned dd ≡ Some name

abbrev pub HasCheckDd : TablesModel → ℕ → Type 0
HasCheckDd tables run = (row : RunRow) (owned : OwnedStep) → run_of tables run ≡ Some row → step_of_run row (step_in (place_of row)) ≡ Some owned → IsCheckDd row owned

-- ---- images

-- another image has the same records of each data set that keeps entries, up to the length that is committed
abbrev pub SameKept : Layout → Named TableSet → List ℕ → List ℕ → Type 0
SameKept layout sets old new =
    (name : Name) (table : TableSet) → entry_at sets name ≡ Some table → table.entries ≢ []
    → records_on new layout table.set table.set.length ≡ records_on old layout table.set table.set.length
