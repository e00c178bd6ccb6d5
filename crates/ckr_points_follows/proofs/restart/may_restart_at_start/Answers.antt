use Rattle.std.proofs.Common.{◌≡◌, ℕ, ◌==◌, false, nat_lt, find, List, map, Option, ap, ◌∙◌}
use Rattle.std.specs.Option.{option_map_or}
use Rattle.ckr_points.specs.Marks.{point_at}
use Rattle.ckr_points.specs.Restart.{step_in}
use Rattle.ckr_points.specs.Rows.{StartPoint}
use Rattle.ckr_points_tables.specs.View.{point_of}
use Rattle.ckr_points_tables.specs.Model.StepPoint.{StepPoint}
use Rattle.ckr_points_tables.proofs.Steps.{found-mapped}
use Rattle.ckr_points_follows.proofs.restart.may_restart_at_start.Goals as goal

-- the restarts at the point that was found are those at the point of the row
few-at : (points items : List StepPoint) (step at : ℕ) (found : Option StepPoint) → found ≡ find (λ (point : StepPoint). point.step == step) points → points ≡ items → step ≡ at
    → option_map_or (λ (point : StepPoint). nat_lt point.restarts 3) found false ≡ option_map_or (λ (point : StartPoint). nat_lt point.restarts 3) (point_at (map point_of items) at) false
few-at points items step at found is same now =
    ap (λ one. option_map_or (λ (point : StepPoint). nat_lt point.restarts 3) one false) is
    ∙ found-mapped (λ (point : StartPoint). nat_lt point.restarts 3) false points step
    ∙ ap (λ all. option_map_or (λ (point : StartPoint). nat_lt point.restarts 3) (point_at (map point_of all) step) false) same
    ∙ ap (λ n. option_map_or (λ (point : StartPoint). nat_lt point.restarts 3) (point_at (map point_of items) n) false) now

pub returns-in-Some : goal.returns-in-Some
returns-in-Some c = few-at _ _ _ _ _ c.in-Some.ensures c.as_slice.ensures (c.step_in.ensures ∙ ap step_in c.place_of.ensures)

pub returns-in-None : goal.returns-in-None
returns-in-None c = few-at _ _ _ _ _ c.in-None.ensures c.as_slice.ensures (c.step_in.ensures ∙ ap step_in c.place_of.ensures)
