-- What points hold: the point of each step of a run, of ended ones too, and of each entry that a data set keeps, is what the run's job has
-- at that place.
use Rattle.std.specs.Prelude.{◌≡◌, ◌==◌, ℕ, true, List, find, Some}
use Rattle.std.specs.List.{AllByRecursion}
use Rattle.std.specs.Option.{is_some}
use Rattle.ckr_entry.specs.declared.point.Mark.{Mark}
use Rattle.ckr_entry.specs.declared.point.Passed.{Passed}
use Rattle.ckr_library.specs.NameMaps.{Name, entry_at}
use Rattle.ckr_meaning.specs.EffectiveJob.{is_among, names_of_job}
use Rattle.ckr_meaning.specs.JobRun.{at}
use Rattle.ckr_meaning.specs.declared.place.Place.{Place}
use Rattle.ckr_meaning.specs.declared.place.Place.TheVariants.{Opened, Within}
use Rattle.ckr_points.specs.Marks.{mark_at, present_at}
use Rattle.ckr_points.specs.Office.{Leg, Office}
use Rattle.ckr_points.specs.Rows.{KeptEntry, StartPoint}
use Rattle.ckr_points_invariant.specs.Invariant.{IsMarkOf, PointsHold}

-- A point of a run says what its job has at a place: it marks each name of the job and no other, as the library has it there, and the passed
-- list is that of the place.
pub record IsPointAt (legs : List Leg) (run : ℕ) (place : Place) (marks : List Mark) (passed : List Passed) : Type 0 where
  pub leg : Leg
  pub led : find (λ leg. leg.number == run) legs ≡ Some leg
  pub covers : (name : Name) → is_some (mark_at marks name) ≡ is_among (names_of_job leg.job) name
  pub marked : (name : Name) → is_among (names_of_job leg.job) name ≡ true → IsMarkOf (present_at marks name) (entry_at (at leg.job leg.start place).sets name)
  pub passed_on : passed ≡ (at leg.job leg.start place).passed

abbrev pub AreStepPoints : List Leg → ℕ → List StartPoint → Type 0
AreStepPoints legs run points = AllByRecursion (λ (point : StartPoint). IsPointAt legs run (Opened point.step) point.marks point.passed) points

abbrev pub AreEntryPoints : List Leg → List KeptEntry → Type 0
AreEntryPoints legs entries =
    AllByRecursion (λ (entry : KeptEntry). IsPointAt legs entry.point.run (Within entry.point.step entry.point.writes) entry.point.marks entry.point.passed) entries

-- so it is with each point of the tables of an office
abbrev pub ArePointed : Office → Type 0
ArePointed office = PointsHold (λ run count. AreStepPoints office.legs run) (AreEntryPoints office.legs) office.tables
