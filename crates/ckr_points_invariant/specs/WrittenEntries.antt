-- What data sets keep with their entries: the step that wrote each, how far its program was, and the point of the step that it stands behind.
use Rattle.std.specs.Prelude.{◌≡◌, ◌≤◌, ℕ, Bool, true, false, ◌||◌, not, nat_le, List, length, Some}
use Rattle.std.specs.List.{list_all, AllByRecursion}
use Rattle.std.specs.Option.{option_map_or}
use Rattle.ckr_entry.specs.declared.point.Mark.{Mark}
use Rattle.ckr_entry.specs.declared.point.Present.{Present}
use Rattle.ckr_library.specs.Catalog.{ends_within}
use Rattle.ckr_library.specs.declared.sets.Kept.{Kept}
use Rattle.ckr_library.specs.NameMaps.{Name, Named, entry_at}
use Rattle.ckr_meaning.specs.EffectiveJob.{OwnedStep, is_among, step_at}
use Rattle.ckr_meaning.specs.StepRun.{work_at}
use Rattle.ckr_points_library.specs.Commit.{output_names}
use Rattle.ckr_points.specs.Follows.{is_within, own_step}
use Rattle.ckr_points.specs.Marks.{is_marked_absent, point_at, present_at}
use Rattle.ckr_points.specs.Office.{Leg, Office, is_holder, leg_of}
use Rattle.ckr_points.specs.Payload.{carries_taken, rewrites_nothing}
use Rattle.ckr_points.specs.Restart.{kept_at, place_of}
use Rattle.ckr_points.specs.RuleCases.{was_selected}
use Rattle.ckr_points.specs.Rows.{EffectPoint, KeptEntry, RunRow, StartPoint, TableSet, run_of}
use Rattle.ckr_points.specs.Tables.{is_checkpoints, name_with_role}
use Rattle.ckr_points_invariant.specs.Invariant.{IsHolder, step_now}
use Rattle.ckr_points_invariant.specs.StartedSteps.{start_by}

-- the data set to which a step of a run writes its entries
abbrev pub check_set : RunRow → OwnedStep → Name
check_set row owned = name_with_role row.job.root owned is_checkpoints

-- ---- an entry

-- an entry ends behind where its data set is marked to end, or this is marked absent
abbrev pub is_behind_mark : List Mark → Name → Kept → Bool
is_behind_mark marks set kept =
    is_marked_absent marks set || option_map_or (λ present. not (ends_within present.length kept)) (present_at marks set) false

-- a run is within a step, or past it
abbrev pub HasEntered : RunRow → ℕ → Type 0
HasEntered row step = (step ≤ step_now row) × (step ≡ step_now row → is_within (place_of row) ≡ true)

-- An entry stands behind the point of its step. Where that tells no rewrite, none of the writes up to the entry's is one. A run that holds its
-- names has entered the step.
pub record IsBehindPoint (row : RunRow) (leg : Leg) (owned : OwnedStep) (set : Name) (entry : KeptEntry) (point : StartPoint) : Type 0 where
  pub behind : is_behind_mark point.marks set entry.kept ≡ true
  pub unwritten : point.rewritten ≡ false → rewrites_nothing (start_by leg owned entry.point.step) 0 entry.point.writes ≡ true
  pub entered : is_holder row.state ≡ true → HasEntered row entry.point.step

-- An entry is of a step of its run's job, whose data set for checkpoints it stands in. It tells the names of the job and of the step, and the run
-- executed that step itself. The entry ends within its own mark of that data set, and its writes are those for the records taken. It has a byte at
-- least, and stands behind the point of the step.
pub record IsEntryOf (row : RunRow) (leg : Leg) (set : Name) (entry : KeptEntry) : Type 0 where
  pub owned : OwnedStep
  pub found : step_at row.job entry.point.step ≡ Some owned
  pub selected : was_selected row ≡ true
  pub job_name : entry.point.job ≡ row.deck.name
  pub step_name : entry.point.step_name ≡ owned.step.name
  pub executed : row.earlier_step ≤ entry.point.step
  pub named : check_set row owned ≡ set
  pub output : is_among (output_names row.job.root owned) set ≡ true
  pub back : (present : Present) → present_at entry.point.marks set ≡ Some present → ends_within present.length entry.kept ≡ true
  pub taken : carries_taken entry.point.taken entry.point.writes (start_by leg owned entry.point.step) ≡ true
  pub done : entry.point.writes ≤ length (work_at (start_by leg owned entry.point.step)).writes
  pub point : StartPoint
  pub has : point_at row.points entry.point.step ≡ Some point
  pub room : 1 ≤ entry.kept.bytes
  pub stands : IsBehindPoint row leg owned set entry point

-- the run that wrote an entry was selected
pub record IsWrittenEntry (office : Office) (set : Name) (entry : KeptEntry) : Type 0 where
  pub run : entry.kept.run ≡ entry.point.run
  pub row : RunRow
  pub row_at : run_of office.tables entry.point.run ≡ Some row
  pub leg : Leg
  pub leg_at : leg_of office entry.point.run ≡ Some leg
  pub of_run : IsEntryOf row leg set entry

-- each entry of a data set ends within it, and was written so
pub record HasWrittenEntries (office : Office) (set : Name) (table : TableSet) : Type 0 where
  pub ends : list_all (λ entry. ends_within table.set.length entry.kept) table.entries ≡ true
  pub written : AllByRecursion (IsWrittenEntry office set) table.entries

-- ---- a run within its step

-- a name is marked no shorter among later marks than among first ones
abbrev pub is_no_shorter : List Mark → List Mark → Name → Bool
is_no_shorter first later name =
    option_map_or (λ present. option_map_or (λ other. nat_le present.length other.length) (present_at later name) true) (present_at first name) true

-- the step's data set for checkpoints is no shorter than it is marked at the start, and the checkpoint in effect is of that data set, which it
-- marks no shorter
pub record HasGrown (sets : Named TableSet) (row : RunRow) (owned : OwnedStep) (marks : List Mark) : Type 0 where
  pub since : (present : Present) (table : TableSet) → is_among (output_names row.job.root owned) (check_set row owned) ≡ true
      → present_at marks (check_set row owned) ≡ Some present → entry_at sets (check_set row owned) ≡ Some table → present.length ≤ table.set.length
  pub effect : (effect : EffectPoint) (entry : KeptEntry) → row.in_effect ≡ Some effect → kept_at sets effect.set effect.kept.id ≡ Some entry
      → (effect.set ≡ check_set row owned) × (is_no_shorter marks entry.point.marks effect.set ≡ true)

-- so it is with each data set, and with each run that holds its names, while it is within a step
pub record AreWrittenEntries (office : Office) : Type 0 where
  pub sets : (set : Name) (table : TableSet) → entry_at office.tables.sets set ≡ Some table → HasWrittenEntries office set table
  pub grown : (number : ℕ) (row : RunRow) (leg : Leg) (owned : OwnedStep) (point : StartPoint) → IsHolder office number row leg → is_within (place_of row) ≡ true
      → own_step row ≡ Some owned → point_at row.points (step_now row) ≡ Some point → HasGrown office.tables.sets row owned point.marks
