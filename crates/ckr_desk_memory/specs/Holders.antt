-- What a step may change, and what holds of the runs that hold their names, whatever the disk reads: what one may change no other one names.
use Rattle.std.specs.Prelude.{◌≡◌, ◌≢◌, ◌≤◌, ◌<◌, ℕ, suc, Bool, true, false, ◌||◌, List, [], ◌∷◌, ◌++◌, filter, Some}
use Rattle.std.specs.List.{AllByRecursion, filter_map}
use Rattle.ckr_entry.specs.declared.point.Passed.{Passed}
use Rattle.std.specs.Option.{is_some}
use Rattle.ckr_jcl.specs.declared.deck.Dd.{Dd}
use Rattle.ckr_library.specs.NameMaps.{Name, Named, entry_at, same_name}
use Rattle.ckr_meaning.specs.Allotments.{is_output}
use Rattle.ckr_meaning.specs.EffectiveJob.{OwnedStep, is_among, name_of}
use Rattle.ckr_points.specs.Follows.{is_within, own_step}
use Rattle.ckr_meaning.specs.declared.place.Place.{Place}
use Rattle.ckr_meaning.specs.declared.place.Place.TheVariants.{Before, Opened, Within}
use Rattle.ckr_points.specs.Marks.{deck_names, own_names, point_at, without_passed}
use Rattle.ckr_points.specs.Office.{is_holder, passed_made}
use Rattle.ckr_points.specs.Restart.{place_of, step_in}
use Rattle.ckr_points.specs.RuleCases.{is_ended}
use Rattle.ckr_points.specs.Rows.{EffectPoint, EntryPoint, KeptEntry, RunRow, StartPoint, TableSet, TablesModel, run_of, step_of_run}
use Rattle.ckr_points.specs.Tables.{is_updates}
use Rattle.ckr_points_invariant.specs.Invariant.{AreOrderly}
use Rattle.ckr_points_invariant.specs.JobNames.{AreKin, IsNamedByDeck}
use Rattle.ckr_desk_turn.specs.Invariant.{HasStepName}
use Rattle.ckr_uses.specs.Uses.{holds, uses_of}

-- whether a step may change the records of a DD
abbrev pub is_changed : Dd → Bool
is_changed dd = is_output dd.role || is_updates dd.role

-- the names of what a step may change, in the order of its DDs
abbrev pub changed_names : ℕ → OwnedStep → List Name
changed_names root owned = filter_map (name_of root owned) (filter is_changed owned.step.dds)

-- two runs that hold don't hold against each other
abbrev pub HoldApart : TablesModel → Type 0
HoldApart tables =
    (one other : ℕ) (row next : RunRow) → run_of tables one ≡ Some row → run_of tables other ≡ Some next → one ≢ other
    → is_holder row.state ≡ true → is_holder next.state ≡ true → holds (uses_of row.number row.deck) (uses_of next.number next.deck) ≡ false

-- the names that a run may change: those of the steps that it executes itself, and those of its deck
abbrev pub reached_names : RunRow → List Name
reached_names row = own_names row ++ deck_names row.job.root row.number row.deck

-- the steps that a run executes itself have names of its deck
abbrev pub AreOfDeck : TablesModel → RunRow → Type 0
AreOfDeck tables row = (name : Name) → is_among (own_names row) name ≡ true → IsNamedByDeck tables row name

-- of what is passed on as made, a run has lost all but such names
abbrev pub AreOwn : RunRow → List Passed → Type 0
AreOwn row passed = (name : Name) → is_among (reached_names row) name ≡ false → is_among (passed_made (without_passed row.lost passed)) name ≡ false

-- so it is with what a run has passed on
abbrev pub PassesOwn : RunRow → Type 0
PassesOwn row = AreOwn row row.passed

-- ---- the entries of checkpoints

-- the first step that a run at a place has not come to
abbrev pub steps_begun : Place → ℕ
steps_begun (Before step) = step
steps_begun (Opened step) = suc step
steps_begun (Within step writes) = suc step

-- whether a run has come to its step
abbrev pub is_at_step : Place → Bool
is_at_step (Before step) = false
is_at_step (Opened step) = true
is_at_step (Within step writes) = true

-- this is what the step's point has passed on
pub record IsStartPassed (row : RunRow) (step : ℕ) (passed : List Passed) : Type 0 where
  pub start : StartPoint
  pub at : point_at row.points step ≡ Some start
  pub same : passed ≡ start.passed

-- so it is with what a run in a step has passed on, until it ends
abbrev pub HasStartPassed : RunRow → Type 0
HasStartPassed row = is_ended row.state ≡ false → is_at_step (place_of row) ≡ true → IsStartPassed row (step_in (place_of row)) row.passed

-- and with what had been passed on at an entry that a run wrote, in a step that it has come to and that may change the data set
pub record IsOwnEntry (row : RunRow) (set : Name) (point : EntryPoint) : Type 0 where
  pub first : 1 ≤ point.step
  pub begun : point.step < steps_begun (place_of row)
  pub passed : IsStartPassed row point.step point.passed
  pub changes : (owned : OwnedStep) → step_of_run row point.step ≡ Some owned → is_among (changed_names row.job.root owned) set ≡ true

-- an entry tells the run that wrote it, the name of its job, and that of a step that the run executed itself
pub record IsNamedEntry (row : RunRow) (entry : KeptEntry) : Type 0 where
  pub run : entry.kept.run ≡ row.number
  pub job : entry.point.job ≡ row.deck.name
  pub owned : OwnedStep
  pub found : step_of_run row entry.point.step ≡ Some owned
  pub name : entry.point.step_name ≡ owned.step.name
  pub executed : row.earlier_step ≤ entry.point.step

-- the steps that a run executes itself have the names that its deck gives them
abbrev pub HasStepNames : RunRow → Type 0
HasStepNames row = (number : ℕ) (owned : OwnedStep) → row.earlier_step ≤ number → step_of_run row number ≡ Some owned → HasStepName row.deck number owned.step.name

-- each entry that the data sets keep, with the name of its data set
abbrev pub EachEntryKept : (Name → KeptEntry → Type 0) → Named TableSet → Type 0
EachEntryKept P sets = (set : Name) (table : TableSet) → entry_at sets set ≡ Some table → AllByRecursion (P set) table.entries

-- each that this run wrote
abbrev pub KeepsOwnEntries : Named TableSet → RunRow → Type 0
KeepsOwnEntries sets row = EachEntryKept (λ set entry. entry.point.run ≡ row.number → IsOwnEntry row set entry.point × IsNamedEntry row entry) sets

-- no two of these entries have one identifier
abbrev pub AreSingleEntries : List KeptEntry → Type 0
AreSingleEntries [] = Unit {0}
AreSingleEntries (entry ∷ rest) = AllByRecursion (λ (other : KeptEntry). same_name other.kept.id entry.kept.id ≡ false) rest × AreSingleEntries rest

-- each entry that the data set of a name keeps
abbrev pub EachKept : (KeptEntry → Type 0) → Named TableSet → Name → Type 0
EachKept P sets name = (table : TableSet) → entry_at sets name ≡ Some table → AllByRecursion P table.entries

-- So it is with the entries of the identifier of a checkpoint in effect: its run is within a step, which may change the data set. What had been
-- passed on there is what the step's point has.
pub record HasOwnEffect (sets : Named TableSet) (row : RunRow) (effect : EffectPoint) : Type 0 where
  pub holds : is_holder row.state ≡ true
  pub within : is_within (place_of row) ≡ true
  pub owned : OwnedStep
  pub found : own_step row ≡ Some owned
  pub changes : is_among (changed_names row.job.root owned) effect.set ≡ true
  pub entries : EachKept (λ entry. same_name entry.kept.id effect.kept.id ≡ true → IsStartPassed row (step_in (place_of row)) entry.point.passed) sets effect.set

-- So it is with a run: what it has passed on, and, until it ends, what it had at the points to which it may go back.
pub record PassesOnOwn (sets : Named TableSet) (row : RunRow) : Type 0 where
  pub passed : PassesOwn row
  pub points : is_ended row.state ≡ false → AllByRecursion (λ (point : StartPoint). AreOwn row point.passed) row.points
  pub effect : (effect : EffectPoint) → row.in_effect ≡ Some effect → HasOwnEffect sets row effect

-- where a run that holds is within a step, what the step may change is there
abbrev pub HasChanged : Named TableSet → RunRow → Type 0
HasChanged sets row =
    (owned : OwnedStep) (name : Name) → is_holder row.state ≡ true → is_within (place_of row) ≡ true → own_step row ≡ Some owned
    → is_among (changed_names row.job.root owned) name ≡ true → is_some (entry_at sets name) ≡ true

-- so it is with each run of the tables; its kin have its job name, and have ended where they aren't itself. Its own steps have the names of its deck. Each entry was
-- written by a run, and tells it.
pub record AreHolders (tables : TablesModel) : Type 0 where
  pub orderly : AreOrderly tables
  pub kin : (number : ℕ) (row : RunRow) → run_of tables number ≡ Some row → AreKin tables row
  pub named : (number : ℕ) (row : RunRow) → run_of tables number ≡ Some row → AreOfDeck tables row
  pub steps : (number : ℕ) (row : RunRow) → run_of tables number ≡ Some row → HasStepNames row
  pub apart : HoldApart tables
  pub passed : (number : ℕ) (row : RunRow) → run_of tables number ≡ Some row → PassesOnOwn tables.sets row
  pub changed : (number : ℕ) (row : RunRow) → run_of tables number ≡ Some row → HasChanged tables.sets row
  pub begun : (number : ℕ) (row : RunRow) → run_of tables number ≡ Some row → HasStartPassed row
  pub entries : (number : ℕ) (row : RunRow) → run_of tables number ≡ Some row → KeepsOwnEntries tables.sets row
  pub written : EachEntryKept (λ set entry. is_some (run_of tables entry.point.run) ≡ true) tables.sets
  pub single : (set : Name) (table : TableSet) → entry_at tables.sets set ≡ Some table → AreSingleEntries table.entries
