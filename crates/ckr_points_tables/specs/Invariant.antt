-- What holds of the tables in code, and what an event needs of them.
use Rattle.std.specs.Prelude.{◌≡◌, ◌≤◌, ◌<◌, ℕ, zero, suc, ◌==◌, Bool, true, false, ◌&&◌, nat_le, IsSome, IsTrue, List, [], ◌∷◌, length, slice_get, slice_set, slice_index, Option, None, Some}
use Rattle.std.specs.Option.{option_and_then, option_map}
use Rattle.std.specs.List.{list_all}
use Rattle.ckr_base.specs.RoomyLists.{Roomy}
use Rattle.ckr_points_library.specs.Holdings.{owned}
use Rattle.ckr_uses.specs.Uses.{are_distinct}
use Rattle.ckr_events.specs.Jobs.{job_of}
use Rattle.ckr_events.specs.declared.event.Event.{Event}
use Rattle.ckr_events.specs.declared.event.Event.TheVariants.{Submitted, Selected, Started, Rewritten, Checkpointed, StepEnded, Restarted, Held, Released, Ended}
use Rattle.ckr_jcl.specs.declared.deck.Job.{Job}
use Rattle.ckr_jcl.specs.declared.deck.Step.{Step}
use Rattle.ckr_entry.specs.declared.point.Mark.{Mark}
use Rattle.ckr_entry.specs.declared.point.Passed.{Passed}
use Rattle.ckr_library.specs.Catalog.{Holding}
use Rattle.ckr_library.specs.NameMaps.{EachEntry, Name, Named, entry_at}
use Rattle.ckr_volumes.specs.declared.layout.Layout.{Layout}
use Rattle.ckr_meaning.specs.EffectiveJob.{HasDistinctNames, OwnedStep, names_of, names_of_job, owned_by}
use Rattle.ckr_points.specs.declared.run.Run.{Run}
use Rattle.ckr_points.specs.declared.run.RunState.{RunState}
use Rattle.ckr_points.specs.declared.run.RunState.TheVariants.{Queued}
use Rattle.ckr_points.specs.Syschk.{names_its_set}
use Rattle.ckr_points_runs.specs.RunJobs.{IsFitting, effective}
use Rattle.ckr_points_runs.specs.declared.run_table.RunTable.{RunTable}
use Rattle.ckr_points_runs.specs.declared.run_table.WrittenEntry.{WrittenEntry}
use Rattle.ckr_points_runs.specs.Checkpoint.{checkpoint_name}
use Rattle.ckr_points_runs.specs.PutBack.{IsFilled}
use Rattle.ckr_points_runs.specs.StepEnd.{HasPassedRoom}
use Rattle.ckr_points.specs.Follows.{follows}
use Rattle.ckr_points.specs.Rows.{EffectPoint, KeptEntry, TableSet, TablesModel, RunRow, run_of, step_of_run}
use Rattle.ckr_points_runs.specs.Rewrite.{HasFewRewrites, has_master}
use Rattle.ckr_points.specs.Restart.{kept_at, place_of, step_in}
use Rattle.ckr_points_tables.specs.Restart.{HasPassedFor, passed_at_start}
use Rattle.ckr_points_tables.specs.Selection.{prepared_for}
use Rattle.ckr_points_tables.specs.View.{NextRun, RunRoom, TablesRoom, RoomyTables, kept_room}
use Rattle.ckr_points_runs.specs.RunJobs.{is_within_limits}

-- ---- what holds of runs

abbrev pub is_queued : RunState → Bool
is_queued Queued = true
is_queued _ = false

-- a run of this number with its line: a queued one is on no initiator. It has taken over the steps up to the one at which it continues another run
pub record IsRun (number : ℕ) (line : Run) (table : RunTable) : Type 0 where
  pub numbered : line.number ≡ number
  pub named : line.name ≡ table.job.deck.name
  pub limits : IsTrue (is_within_limits table.job.deck)
  pub fits : IsFitting (effective number table.job)
  pub distinct : HasDistinctNames (effective number table.job)
  pub masters : list_all (λ (own : OwnedStep). has_master own.step) (effective number table.job).steps ≡ true
  pub syschk : names_its_set table.job.deck.syschk ≡ true
  pub free : is_queued line.state ≡ true → line.initiator ≡ None
  pub taken : length table.job.taken ≡ table.job.earlier_step

-- the runs from this number on, each with its line
abbrev pub AreRuns : ℕ → List Run → List RunTable → Type 0
AreRuns number [] [] = Unit {0}
AreRuns number [] (table ∷ tables) = ⊥
AreRuns number (line ∷ lines) [] = ⊥
AreRuns number (line ∷ lines) (table ∷ tables) = IsRun number line table × AreRuns (suc number) lines tables

-- the initiator of the run at a place
abbrev pub initiator_at : List Run → ℕ → Option ℕ
initiator_at lines place = option_and_then (λ (line : Run). line.initiator) (slice_get lines place)

-- the index with a number written at an initiator, if there is one
abbrev pub put_at : Option ℕ → ℕ → List ℕ → List ℕ
put_at None number index = index
put_at (Some initiator) number index = slice_set index initiator number

-- by initiator, the number of the run that is on it, or 0
pub record IsIndexOf (index : List ℕ) (lines : List Run) : Type 0 where
  pub long : length index ≡ 256
  pub on : (initiator place : ℕ) → slice_index index initiator ≡ suc place → initiator_at lines place ≡ Some initiator
  pub all : (initiator place : ℕ) → initiator_at lines place ≡ Some initiator → slice_index index initiator ≡ suc place

-- records of at least one byte
abbrev pub IsWide : Holding → Type 0
IsWide holding = 1 ≤ holding.set.lrecl

pub record AreKept (sets : Named Holding) (lines : List Run) (tables : List RunTable) (index : List ℕ) (marks : List Mark) (writings : List (Roomy WrittenEntry)) : Type 0 where
  pub wide : EachEntry IsWide sets
  pub filled : EachEntry IsFilled sets
  pub runs : AreRuns 1 lines tables
  pub few : length tables ≤ 9999999
  pub indexed : IsIndexOf index lines
  pub spare : marks ≡ []
  pub written : length writings ≡ length tables

-- ---- what an event needs

abbrev pub is_submission : Event → Bool
is_submission (Submitted job cards) = true
is_submission _ = false

-- the events that bring a run further with the job that it has, or end it: no submission, hold, release or restart, and no selection of a run that continues another one
abbrev pub is_run_change : Event → Bool
is_run_change (Submitted job cards) = false
is_run_change (Selected job initiator earlier step id) = earlier == 0
is_run_change (Restarted job initiator code checkpoint) = false
is_run_change (Held job code writes lengths) = false
is_run_change (Released job) = false
is_run_change _ = true

-- the event follows, in some layout
abbrev pub MayFollow : TablesModel → Event → Option Job → Type 0
MayFollow tables event deck = (layout : Layout) × (follows layout tables event deck ≡ true)

-- whether a deck may be submitted: its number has seven digits, it is within the limits, no name stands twice in a step, and SYSCHK names a data set
abbrev pub is_submittable : ℕ → Job → Bool
is_submittable number job =
    nat_le number 9999999 && is_within_limits job && list_all (λ (step : Step). are_distinct (names_of number (owned step number []))) job.steps
    && list_all has_master job.steps && names_its_set job.syschk

abbrev pub IsAnySubmittable : ℕ → Option Job → Type 0
IsAnySubmittable number None = Unit {0}
IsAnySubmittable number (Some job) = IsTrue (is_submittable number job)

abbrev pub MaySubmit : Event → Option Job → Type 0
MaySubmit (Submitted job cards) deck = IsAnySubmittable job deck
MaySubmit _ deck = Unit {0}

-- The deck of a run may continue an earlier run: in each of its steps names stand once under the root of that run too, and its UPDATE steps have a
-- MASTER.
pub record CanContinue (row earlier : RunRow) : Type 0 where
  pub distinct : list_all (λ (step : Step). are_distinct (names_of earlier.job.root (owned_by row.number row.deck step))) row.deck.steps ≡ true
  pub masters : list_all has_master row.deck.steps ≡ true

-- so it is with a run that is selected to continue another one
abbrev pub MayContinue : Event → TablesModel → Type 0
MayContinue (Selected job initiator earlier step id) tables = (row before : RunRow) → run_of tables job ≡ Some row → run_of tables earlier ≡ Some before → CanContinue row before
MayContinue _ tables = Unit {0}

-- the stamps have not been counted out
abbrev pub MayCount : Event → Named TableSet → Type 0
MayCount (Rewritten job taken writes lengths place image) sets = EachEntry HasFewRewrites sets
MayCount _ sets = Unit {0}

-- ---- spare places

abbrev pub room_at : TablesRoom → ℕ → Option RunRoom
room_at room zero = None
room_at room (suc place) = slice_get room.each place

-- how many more entries a run has room for
abbrev pub entries_at : TablesRoom → ℕ → Option ℕ
entries_at room zero = None
entries_at room (suc place) = slice_get room.entries place

-- room for a run
pub record HasRunRoom (room : TablesRoom) : Type 0 where
  pub runs : 0 < room.runs
  pub lines : 0 < room.lines
  pub writings : 0 < room.writings

-- room for the start of a step
pub record HasStartRoom (room : TablesRoom) (row : RunRow) (one : RunRoom) : Type 0 where
  pub sorted : length (names_of_job row.job) ≤ room.sorted
  pub marks : length (names_of_job row.job) ≤ room.marks
  pub passed : length row.passed ≤ room.passed
  pub points : 0 < one.points
  pub sets : 16 ≤ room.sets

-- room for the end of a step
pub record HasEndRoom (row : RunRow) (one : RunRoom) : Type 0 where
  pub passed : HasPassedRoom one.passed (step_of_run row (step_in (place_of row)))
  pub codes : 0 < one.codes

-- what was passed on at the point to which a restart goes back: the checkpoint in effect, or the start of the step
abbrev pub passed_back_at : Bool → RunRow → Named TableSet → Option (List Passed)
passed_back_at true row sets = option_and_then (λ (effect : EffectPoint). option_map (λ (entry : KeptEntry). entry.point.passed) (kept_at sets effect.set effect.kept.id)) row.in_effect
passed_back_at false row sets = passed_at_start row.points (step_in (place_of row))

-- room for a restart
abbrev pub HasRestartRoom : Bool → Named TableSet → RunRow → RunRoom → Type 0
HasRestartRoom checkpoint sets row one = HasPassedFor one.passed (passed_back_at checkpoint row sets)

-- room for a restart of a run, if it is there
abbrev pub CanRestart : RoomyTables → ℕ → Bool → Type 0
CanRestart now job checkpoint = (row : RunRow) (one : RunRoom) → run_of now.desk job ≡ Some row → room_at now.room job ≡ Some one → HasRestartRoom checkpoint now.desk.sets row one

-- room for the start of a step of a run, if it is there
abbrev pub CanStart : RoomyTables → ℕ → Type 0
CanStart now job = (row : RunRow) (one : RunRoom) → run_of now.desk job ≡ Some row → room_at now.room job ≡ Some one → HasStartRoom now.room row one

-- room for one more entry in the data set of a name, if it is there
abbrev pub HasRoomUnder : RoomyTables → Option Name → Type 0
HasRoomUnder now None = Unit {0}
HasRoomUnder now (Some name) = IsSome (entry_at now.desk.sets name) → 0 < kept_room now.room.kept name

abbrev pub HasKeptRoom : RoomyTables → ℕ → Option OwnedStep → Type 0
HasKeptRoom now root None = Unit {0}
HasKeptRoom now root (Some own) = HasRoomUnder now (checkpoint_name root own)

-- room for a checkpoint: for what its point is made of, and for its entry, which can be counted
pub record HasEntryRoom (now : RoomyTables) (row : RunRow) : Type 0 where
  pub sorted : length (names_of_job row.job) ≤ now.room.sorted
  pub marks : length (names_of_job row.job) ≤ now.room.marks
  pub passed : length row.passed ≤ now.room.passed
  pub entries : (more : ℕ) → entries_at now.room row.number ≡ Some more → 0 < more
  pub few : row.count < 4294967295
  pub kept : HasKeptRoom now row.job.root (step_of_run row (step_in (place_of row)))

-- the run was made for its selection, with a spare place for each name that it may lose
pub record HasNext (now : RoomyTables) (row : RunRow) (earlier step : ℕ) (id : Option Name) : Type 0 where
  pub facts : option_map (λ (next : NextRun). next.facts) now.room.next ≡ prepared_for now.desk row earlier step id
  pub lost : (next : NextRun) → now.room.next ≡ Some next → length next.facts.passed ≤ next.lost

abbrev pub HasSelectionRoom : RoomyTables → RunRow → ℕ → ℕ → Option Name → Type 0
HasSelectionRoom now row zero step id = Unit {0}
HasSelectionRoom now row (suc before) step id = HasNext now row (suc before) step id

-- room for the selection of a run, if it is there
abbrev pub CanSelect : RoomyTables → ℕ → ℕ → ℕ → Option Name → Type 0
CanSelect now job earlier step id = (row : RunRow) (one : RunRoom) → run_of now.desk job ≡ Some row → room_at now.room job ≡ Some one → HasSelectionRoom now row earlier step id

-- room for a checkpoint of a run, if it is there
abbrev pub CanKeep : RoomyTables → ℕ → Type 0
CanKeep now job = (row : RunRow) → run_of now.desk job ≡ Some row → HasEntryRoom now row

-- room for the end of a step of a run, if it is there
abbrev pub CanEnd : RoomyTables → ℕ → Type 0
CanEnd now job = (row : RunRow) (one : RunRoom) → run_of now.desk job ≡ Some row → room_at now.room job ≡ Some one → HasEndRoom row one

-- room in the lists of runs
abbrev pub HasListRoom : TablesRoom → Event → Type 0
HasListRoom room (Submitted job cards) = HasRunRoom room
HasListRoom room _ = Unit {0}

-- room for what the event makes of its run
abbrev pub HasRoomIn : RoomyTables → RunRow → RunRoom → Event → Type 0
HasRoomIn now row one (Selected job initiator earlier step id) = HasSelectionRoom now row earlier step id
HasRoomIn now row one (Started job step made) = HasStartRoom now.room row one
HasRoomIn now row one (Checkpointed job id taken writes lengths place bytes) = HasEntryRoom now row
HasRoomIn now row one (StepEnded job step rc writes lengths) = HasEndRoom row one
HasRoomIn now row one (Restarted job initiator code checkpoint) = HasRestartRoom checkpoint now.desk.sets row one
HasRoomIn now row one (Ended job ending) = HasEndRoom row one
HasRoomIn now row one _ = Unit {0}

-- there is room for an event
pub record HasRoom (now : RoomyTables) (event : Event) : Type 0 where
  pub lists : HasListRoom now.room event
  pub run : (row : RunRow) (one : RunRoom) → run_of now.desk (job_of event) ≡ Some row → room_at now.room (job_of event) ≡ Some one → HasRoomIn now row one event
