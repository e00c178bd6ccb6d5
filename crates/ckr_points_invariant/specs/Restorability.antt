-- What a restart rests on beside what its point says: since the point no record was rewritten.
use Rattle.std.specs.Prelude.{◌≡◌, ◌≢◌, ◌≤◌, ℕ, true, false, List, Some}
use Rattle.ckr_library.specs.NameMaps.{Name, Named, entry_at}
use Rattle.ckr_entry.specs.declared.point.Mark.{Mark}
use Rattle.ckr_entry.specs.declared.point.Passed.{Passed}
use Rattle.ckr_meaning.specs.EffectiveJob.{OwnedStep, is_among, names_of, step_at}
use Rattle.ckr_meaning.specs.JobRun.{at, start_at}
use Rattle.ckr_meaning.specs.StepRun.{StepStart}
use Rattle.ckr_meaning.specs.declared.place.Place.{Place}
use Rattle.ckr_meaning.specs.declared.place.Place.TheVariants.{Within}
use Rattle.ckr_points.specs.Follows.{is_within}
use Rattle.ckr_points.specs.Marks.{point_at, present_at}
use Rattle.ckr_points.specs.Office.{Leg, Office}
use Rattle.ckr_points.specs.Payload.{rewrites_nothing, writes_in}
use Rattle.ckr_points.specs.Restart.{kept_at, place_of, step_in}
use Rattle.ckr_points.specs.Rows.{EffectPoint, KeptEntry, RunRow, StartPoint, TableSet}
use Rattle.ckr_points_invariant.specs.Invariant.{AreAlike, IsHolder, IsMarkOf, step_now}

-- ---- what a restart rests on

-- A point says what the job of a leg has at a place: of each name of the step its mark is what the library has there, and the passed list is
-- that of the place. It may be a point of an earlier run, which has no marks of the names of later steps.
pub record HasPoint (leg : Leg) (place : Place) (marks : List Mark) (passed : List Passed) : Type 0 where
  pub marked : (owned : OwnedStep) (name : Name) → step_at leg.job (step_in place) ≡ Some owned → is_among (names_of leg.job.root owned) name ≡ true
      → IsMarkOf (present_at marks name) (entry_at (at leg.job leg.start place).sets name)
  pub passed_on : passed ≡ (at leg.job leg.start place).passed

-- The step that a run is in has come past a point of it, behind so many of its writes, and none of those since is a rewrite.
pub record IsRestorable (row : RunRow) (leg : Leg) (writes : ℕ) : Type 0 where
  pub behind : writes ≤ writes_in (place_of row)
  pub unwritten : (start : StepStart) → start_at leg.job leg.start (step_now row) ≡ Some start → rewrites_nothing start writes (writes_in (place_of row)) ≡ true

-- so it is with the point of the step that a holder is in, where it tells no rewrite since
pub record AreStepsRestorable (office : Office) : Type 0 where
  pub since : (number : ℕ) (row : RunRow) (leg : Leg) (point : StartPoint) → IsHolder office number row leg → is_within (place_of row) ≡ true
      → point_at row.points (step_now row) ≡ Some point → point.rewritten ≡ false
      → IsRestorable row leg 0

-- And with the entry of a holder's checkpoint in effect, where this tells no rewrite since. The entry says of the step what the run's own job has
-- there.
pub record AreEntriesRestorable (office : Office) : Type 0 where
  pub since : (number : ℕ) (row : RunRow) (leg : Leg) (effect : EffectPoint) (entry : KeptEntry) → IsHolder office number row leg → is_within (place_of row) ≡ true
      → row.in_effect ≡ Some effect → kept_at office.tables.sets effect.set effect.kept.id ≡ Some entry → effect.rewritten ≡ false
      → IsRestorable row leg entry.point.writes
  pub points : (number : ℕ) (row : RunRow) (leg : Leg) (effect : EffectPoint) (entry : KeptEntry) → IsHolder office number row leg → is_within (place_of row) ≡ true
      → row.in_effect ≡ Some effect → kept_at office.tables.sets effect.set effect.kept.id ≡ Some entry
      → HasPoint leg (Within (step_now row) entry.point.writes) entry.point.marks entry.point.passed

-- ---- what a restart leaves

-- a run stands at a place, and the tables have of the names in its reach what its job has there
pub record StandsAt (office : Office) (number : ℕ) (leg : Leg) (place : Place) (count : ℕ) : Type 0 where
  pub row : RunRow
  pub holder : IsHolder office number row leg
  pub stands : row.place ≡ Some place
  pub count_so : row.count ≡ count
  pub passed : row.passed ≡ (at leg.job leg.start place).passed
  pub agrees : (name : Name) → is_among leg.reach name ≡ true → AreAlike office.tables.sets (at leg.job leg.start place).sets name

-- each data set that a run doesn't reach, or that another holder reaches, is as it was
pub record LeavesTheRest (now : Office) (job : ℕ) (sets : Named TableSet) : Type 0 where
  pub outside : (row : RunRow) (leg : Leg) (name : Name) → IsHolder now job row leg → is_among leg.reach name ≡ false → entry_at sets name ≡ entry_at now.tables.sets name
  pub shared : (number : ℕ) (row : RunRow) (leg : Leg) (name : Name) → IsHolder now number row leg → number ≢ job → is_among leg.reach name ≡ true
      → entry_at sets name ≡ entry_at now.tables.sets name
