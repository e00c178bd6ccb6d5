-- A step that a run is in: how its job starts it, and how many writes it is behind.
use Rattle.std.specs.Prelude.{◌≡◌, ℕ, Some}
use Rattle.ckr_meaning.specs.LibrarySet.{Library}
use Rattle.ckr_meaning.specs.declared.place.Place.TheVariants.{Within}
use Rattle.ckr_meaning.specs.EffectiveJob.{Effective, OwnedStep}
use Rattle.ckr_meaning.specs.JobRun.{start_in, walk_before}
use Rattle.ckr_meaning.specs.StepRun.{StepStart}
use Rattle.ckr_points.specs.Office.{Leg, Office}
use Rattle.ckr_points.specs.Restart.{place_of}
use Rattle.ckr_points.specs.Rows.{RunRow, step_of_run}
use Rattle.ckr_points_invariant.specs.Invariant.{IsHolder}

-- the step as it is about to start
abbrev pub start_of : Effective → Library → ℕ → OwnedStep → StepStart
start_of job library number owned = start_in job.root number owned (walk_before job library number)

-- a holder in a step, behind so many writes
pub record IsRunning (office : Office) (number : ℕ) (row : RunRow) (leg : Leg) (owned : OwnedStep) (step writes : ℕ) : Type 0 where
  pub holder : IsHolder office number row leg
  pub stands : place_of row ≡ Within step writes
  pub found : step_of_run row step ≡ Some owned

-- the step as its job starts it
abbrev pub its_start : Leg → OwnedStep → ℕ → StepStart
its_start leg owned step = start_of leg.job leg.start step owned
