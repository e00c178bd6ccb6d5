-- Data sets that runs have in common, and data sets that lie where they lay.
use Rattle.std.specs.Prelude.{◌≡◌, ◌≢◌, ◌≤◌, ℕ, true, Some}
use Rattle.ckr_library.specs.NameMaps.{Name, Named, entry_at}
use Rattle.ckr_meaning.specs.EffectiveJob.{is_among, names_of}
use Rattle.ckr_meaning.specs.declared.place.Place.TheVariants.{Within}
use Rattle.ckr_meaning.specs.StepRun.{StepStart}
use Rattle.ckr_points.specs.Payload.{start_in_office}
use Rattle.ckr_points.specs.Office.{Leg, Office}
use Rattle.ckr_points.specs.Restart.{place_of}
use Rattle.ckr_points.specs.Rows.{RunRow, TableSet}
use Rattle.ckr_points_invariant.specs.Invariant.{IsHolder}
use Rattle.ckr_volumes.specs.SamePlaces.{SamePlaces}

-- each data set in the reach of a holder other than the run is as it was
abbrev pub LeavesReach : Office → ℕ → Named TableSet → Type 0
LeavesReach now run sets =
    (number : ℕ) (row : RunRow) (leg : Leg) (name : Name) → IsHolder now number row leg → number ≢ run → is_among leg.reach name ≡ true
    → entry_at sets name ≡ entry_at now.tables.sets name

-- so it is in an office
abbrev pub LeavesOthers : Office → ℕ → Office → Type 0
LeavesOthers now run later = LeavesReach now run later.tables.sets

-- a holder in its step, behind so many writes
pub record IsInStep (office : Office) (number : ℕ) (row : RunRow) (leg : Leg) (start : StepStart) (writes : ℕ) : Type 0 where
  pub holder : IsHolder office number row leg
  pub stands : place_of row ≡ Within start.number writes
  pub starts : start_in_office office row ≡ Some start

-- a name of a running step, behind so many writes, that the running step of another run has too
pub record IsShared (office : Office) (start : StepStart) (writes : ℕ) (name : Name) : Type 0 where
  pub number : ℕ
  pub row : RunRow
  pub leg : Leg
  pub runs : IsInStep office number row leg start writes
  pub has : is_among (names_of start.root start.owned) name ≡ true
  pub other : ℕ
  pub next : RunRow
  pub fellow : Leg
  pub its : StepStart
  pub done : ℕ
  pub goes : IsInStep office other next fellow its done
  pub shares : is_among (names_of its.root its.owned) name ≡ true
  pub apart : number ≢ other

-- a data set that lies where it lay, and is no shorter
pub record LiesStill (table later : TableSet) : Type 0 where
  pub places : SamePlaces table.set later.set
  pub space : later.set.space ≡ table.set.space
  pub content : later.set.content ≡ table.set.content
  pub longer : table.set.length ≤ later.set.length

-- so it is with each of the data sets
pub record LieStill (sets later : Named TableSet) : Type 0 where
  pub from : (name : Name) (after : TableSet) → entry_at later name ≡ Some after → (table : TableSet) × (entry_at sets name ≡ Some table) × LiesStill table after
  pub each : (name : Name) (table : TableSet) → entry_at sets name ≡ Some table → (after : TableSet) × (entry_at later name ≡ Some after) × LiesStill table after
