-- What runs keep of the steps that they began, ended runs too: how far the job was then, what it took for the step to run, and which names
-- were made.
use Rattle.std.specs.Prelude.{◌≡◌, ◌≤◌, ℕ, pred, true, false, [], take, None, Some}
use Rattle.std.specs.List.{list_all}
use Rattle.std.specs.Option.{is_some}
use Rattle.ckr_library.specs.NameMaps.{Name}
use Rattle.ckr_meaning.specs.EffectiveJob.{OwnedStep, flaws_in, is_among, names_made, step_at}
use Rattle.ckr_meaning.specs.JobRun.{all_go_on, is_bypassed, start_in, walk_before, walk_from}
use Rattle.ckr_meaning.specs.StepRun.{StepStart, placed_at}
use Rattle.ckr_points.specs.Marks.{point_at}
use Rattle.ckr_points.specs.Office.{Leg, Office, leg_of}
use Rattle.ckr_points.specs.Payload.{is_formed, is_orderly_dd}
use Rattle.ckr_points.specs.Restart.{rcs_before}
use Rattle.ckr_points.specs.RuleCases.{was_selected}
use Rattle.ckr_points.specs.Rows.{RunRow, StartPoint, TablesModel, run_of}
use Rattle.ckr_points.specs.Tables.{earlier_made, step_made}
use Rattle.ckr_points_invariant.specs.Invariant.{step_now}
use Rattle.ckr_points_invariant.specs.JobNames.{AreKin, keeps_points}

-- a step as the job of a leg starts it
abbrev pub start_by : Leg → OwnedStep → ℕ → StepStart
start_by leg owned step = start_in leg.job.root step owned (walk_before leg.job leg.start step)

-- A step that a run began: its job goes on to it, and it runs there, with no flaw in its allocation. The return codes and the names made
-- before it are those of the job, by the tables too, and so are the names that it made.
pub record IsBegunStep (tables : TablesModel) (row : RunRow) (leg : Leg) (step : ℕ) : Type 0 where
  pub owned : OwnedStep
  pub found : step_at leg.job step ≡ Some owned
  pub begun : 1 ≤ step
  pub goes_on : all_go_on leg.job.root 1 (take (pred step) leg.job.steps) (walk_from leg.start) ≡ true
  pub runs : is_bypassed (walk_before leg.job leg.start step).rcs owned ≡ false
  pub flawless : flaws_in (placed_at (start_by leg owned step)) ≡ []
  pub rcs : rcs_before step row.rcs ≡ (walk_before leg.job leg.start step).rcs
  pub earlier : (name : Name) → is_among (earlier_made tables row step) name ≡ is_among (walk_before leg.job leg.start step).earlier name
  pub made : (name : Name) → is_among (step_made tables row owned step) name ≡ is_among (names_made (placed_at (start_by leg owned step))) name

-- A run that was selected began each step of which it has a point. It is in the last of them, or has come past it. Its job is one of orderly
-- decks, and the root and the owners of its steps are kin.
pub record HasBegunSteps (tables : TablesModel) (row : RunRow) (leg : Leg) : Type 0 where
  pub job : leg.job ≡ row.job
  pub formed : is_formed leg.job ≡ true
  pub orderly : list_all (λ owned. list_all is_orderly_dd owned.step.dds) leg.job.steps ≡ true
  pub kin : AreKin tables row
  pub owners : list_all (λ owned. keeps_points tables row.number owned.owner) row.job.steps ≡ true
  pub steps : (step : ℕ) (point : StartPoint) → point_at row.points step ≡ Some point → IsBegunStep tables row leg step
  pub so_far : (step : ℕ) (point : StartPoint) → point_at row.points step ≡ Some point → step ≤ step_now row

-- each run that was ever selected has its leg, and has begun its steps so; one that wasn't has no point
pub record AreBegunSteps (office : Office) : Type 0 where
  pub led : (number : ℕ) (row : RunRow) → run_of office.tables number ≡ Some row → was_selected row ≡ true → is_some (leg_of office number) ≡ true
  pub unled : (number : ℕ) (row : RunRow) → run_of office.tables number ≡ Some row → leg_of office number ≡ None → row.points ≡ []
  pub runs : (number : ℕ) (row : RunRow) (leg : Leg) → run_of office.tables number ≡ Some row → leg_of office number ≡ Some leg
      → HasBegunSteps office.tables row leg
