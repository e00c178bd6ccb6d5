-- When runs are ready to restart: what the point of a run's step, and the entry of its checkpoint in effect, have beside what the points say.
use Rattle.std.specs.Prelude.{◌≡◌, ℕ, true, false, find, None, Some}
use Rattle.std.specs.Option.{is_some}
use Rattle.ckr_entry.specs.declared.point.Present.{Present}
use Rattle.ckr_library.specs.Catalog.{ends_within}
use Rattle.ckr_library.specs.NameMaps.{Name, Named, entry_at, same_name}
use Rattle.ckr_meaning.specs.EffectiveJob.{OwnedStep, is_among}
use Rattle.ckr_meaning.specs.JobRun.{start_at}
use Rattle.ckr_meaning.specs.StepRun.{StepStart}
use Rattle.ckr_meaning.specs.declared.place.Place.TheVariants.{Within}
use Rattle.ckr_points_library.specs.Commit.{output_names}
use Rattle.ckr_points.specs.declared.run.RunState.TheVariants.{Queued}
use Rattle.ckr_points.specs.Follows.{is_in_state, is_within, own_step}
use Rattle.ckr_points.specs.Marks.{point_at, present_at}
use Rattle.ckr_points.specs.Office.{Leg, Office}
use Rattle.ckr_points.specs.Payload.{carries_taken}
use Rattle.ckr_points.specs.Restart.{place_of}
use Rattle.ckr_points.specs.Rows.{EffectPoint, KeptEntry, RunRow, StartPoint, TableSet, run_of}
use Rattle.ckr_points_invariant.specs.Invariant.{IsHolder, step_now}
use Rattle.ckr_points_invariant.specs.Restorability.{HasPoint, IsRestorable}

-- ---- a run

-- a data set keeps the entry, which ends within it
pub record KeepsEntry (sets : Named TableSet) (set id : Name) (entry : KeptEntry) : Type 0 where
  pub table : TableSet
  pub at : entry_at sets set ≡ Some table
  pub found : find (λ (one : KeptEntry). same_name one.kept.id id) table.entries ≡ Some entry
  pub ends : ends_within table.set.length entry.kept ≡ true

-- The checkpoint in effect: its data set is an output of the step, and keeps its entry, also when it is put back to the entry's mark of it.
-- The entry says of the step what the run's job has there, with the records that its program had taken.
pub record IsCheck (sets : Named TableSet) (row : RunRow) (leg : Leg) (effect : EffectPoint) : Type 0 where
  pub owned : OwnedStep
  pub found_step : own_step row ≡ Some owned
  pub among : is_among (output_names row.job.root owned) effect.set ≡ true
  pub entry : KeptEntry
  pub keeps : KeepsEntry sets effect.set effect.kept.id entry
  pub back : (present : Present) → present_at entry.point.marks effect.set ≡ Some present → ends_within present.length entry.kept ≡ true
  pub point : HasPoint leg (Within (step_now row) entry.point.writes) entry.point.marks entry.point.passed
  pub taken : (start : StepStart) → start_at leg.job leg.start (step_now row) ≡ Some start → carries_taken entry.point.taken entry.point.writes start ≡ true
  pub since : effect.rewritten ≡ false → IsRestorable row leg entry.point.writes

-- what the restarts of a run rest on
pub record IsReady (sets : Named TableSet) (row : RunRow) (leg : Leg) : Type 0 where
  pub begun : is_within (place_of row) ≡ true → is_some (point_at row.points (step_now row)) ≡ true
  pub steps : (point : StartPoint) → is_within (place_of row) ≡ true → point_at row.points (step_now row) ≡ Some point → point.rewritten ≡ false
      → IsRestorable row leg 0
  pub check : (effect : EffectPoint) → is_within (place_of row) ≡ true → row.in_effect ≡ Some effect → IsCheck sets row leg effect
  pub none : is_within (place_of row) ≡ false → row.in_effect ≡ None

-- ---- an office

-- each holder is ready to restart, and a run that waits has no checkpoint in effect
pub record AreReady (office : Office) : Type 0 where
  pub waits : (number : ℕ) (row : RunRow) → run_of office.tables number ≡ Some row → is_in_state Queued row ≡ true → row.in_effect ≡ None
  pub runs : (number : ℕ) (row : RunRow) (leg : Leg) → IsHolder office number row leg → IsReady office.tables.sets row leg
