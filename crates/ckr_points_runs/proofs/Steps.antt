-- The steps of a run.
use Rattle.std.proofs.Common.{◌≡◌, ℕ, suc, ◌≤◌, ◌||◌, Bool, true, false, IsTrue, nat_le, List, [], ◌∷◌, length, map, find, cond, ◌==◌, refl, ap, ◌∙◌, arith, Some, None, Option}
use Rattle.std.specs.Option.{option_map, option_map_or}
use Rattle.std.specs.List.{list_all, list_any, filter_map, cons_option}
use Rattle.ckr_base.proofs.Bools.{and-second}
use Rattle.ckr_jcl.specs.declared.deck.Step.{Step}
use Rattle.ckr_library.specs.NameMaps.{Name, same_name}
use Rattle.ckr_meaning.specs.EffectiveJob.{Effective, OwnedStep, is_among, step_at}
use Rattle.ckr_points.specs.Marks.{point_at}
use Rattle.ckr_points_runs.specs.declared.run_table.StepPoint.{StepPoint}
use Rattle.ckr_points.specs.Rows.{StartPoint}
use Rattle.ckr_points_runs.specs.RunJobs.{IsFitting, has_few_dds, has_few_serials, is_fitting_step}
use Rattle.ckr_points_runs.proofs.RunJobs.{step-all}
use Rattle.ckr_points_runs.specs.View.{point_of}

-- a step point by its step
pub point-mapped : (points : List StepPoint) (step : ℕ) → option_map point_of (find (λ (point : StepPoint). point.step == step) points) ≡ point_at (map point_of points) step
point-mapped [] step = refl
point-mapped (point ∷ points) step =
    elim (point.step == step) as (λ b. option_map point_of (cond b (Some point) (find (λ (one : StepPoint). one.step == step) points)) ≡ cond b (Some (point_of point)) (point_at (map point_of points) step)) [
      | true ↦ refl
      | false ↦ point-mapped points step
    ]

-- a step within the limits has few DDs
pub few_of : (job : Effective) → IsFitting job → (step : ℕ) (own : OwnedStep) → step_at job step ≡ Some own → IsTrue (has_few_dds own.step)
few_of job fits step own here = and-second (nat_le own.owner 9999999) (has_few_dds own.step) (step-all is_fitting_step job step own fits.steps here)

pub few_serials : (step : Step) → IsTrue (has_few_dds step) → IsTrue (list_all has_few_serials step.dds)
few_serials step few = and-second (nat_le (length step.dds) 16) _ few

-- what a step point has, by its step
pub found-mapped : {B : Type 0} (g : StartPoint → B) (d : B) (points : List StepPoint) (step : ℕ) → option_map_or (λ (point : StepPoint). g (point_of point)) (find (λ (point : StepPoint). point.step == step) points) d ≡ option_map_or g (point_at (map point_of points) step) d
found-mapped {B = B} g d points step = by (find (λ (point : StepPoint). point.step == step) points) ∙ ap (λ found. option_map_or g found d) (point-mapped points step)
  where
    by : (found : Option StepPoint) → option_map_or (λ (point : StepPoint). g (point_of point)) found d ≡ option_map_or g (option_map point_of found) d
    by None = refl
    by (Some point) = refl

-- a name among those that items have
pub any-among : {A : Type 0} (f : A → Option Name) (name : Name) (items : List A) → list_any (λ item. option_map_or (same_name name) (f item) false) items ≡ is_among (filter_map f items) name
any-among f name [] = refl
any-among {A = A} f name (item ∷ items) = by (f item) (list_any (λ one. option_map_or (same_name name) (f one) false) items) (any-among f name items)
  where
    by : (found : Option Name) (rest : Bool) → rest ≡ is_among (filter_map f items) name → option_map_or (same_name name) found false || rest ≡ is_among (cons_option found (filter_map f items)) name
    by None rest same = same
    by (Some other) rest same = ap (λ b. same_name name other || b) same

-- no more names than items
pub named-most : {A : Type 0} (f : A → Option Name) (items : List A) → length (filter_map f items) ≤ length items
named-most f [] = omega arith
named-most {A = A} f (item ∷ items) = by (f item) (named-most f items)
  where
    by : (found : Option Name) → length (filter_map f items) ≤ length items → length (cons_option found (filter_map f items)) ≤ suc (length items)
    by None most = omega (arith, most)
    by (Some name) most = omega (arith, most)
