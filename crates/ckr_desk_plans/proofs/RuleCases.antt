-- What a code of a run is judged by, as the tables have it.
use Rattle.std.proofs.Common.{◌≡◌, ◌==◌, ℕ, Bool, true, false, cond, refl, ap, ◌∙◌, List, map, find, Option, None, Some}
use Rattle.std.specs.List.{list_any}
use Rattle.std.specs.Option.{is_some, option_map, option_map_or}
use Rattle.ckr_base.specs.CodeText.{same_code}
use Rattle.ckr_base.specs.declared.code.Code.{Code}
use Rattle.ckr_jcl.specs.declared.deck.Rd.{Rd}
use Rattle.ckr_points.specs.RuleCases.{Since, auto_case, rd_in_effect, since_point, since_start}
use Rattle.ckr_points.specs.Marks.{point_at}
use Rattle.ckr_points.specs.Restart.{place_of, step_in}
use Rattle.ckr_points.specs.Rows.{EffectPoint, RunRow, StartPoint}
use Rattle.ckr_rules.specs.RuleTables.{is_rnc}
use Rattle.ckr_rules.specs.declared.cases.AutoCase.{AutoCase}
use Rattle.ckr_points_tables.specs.Model.StepPoint.{StepPoint}
use Rattle.ckr_points_tables.specs.View.{point_of}
use Rattle.ckr_points_tables.proofs.Steps.{found-mapped}

abbrev none_since : Since
none_since = record { restarts = 0; rewritten = false }

-- what a point says of the time since it
pub since-found : (points : List StepPoint) (step : ℕ) (found : Option StepPoint) → found ≡ find (λ (point : StepPoint). point.step == step) points
    → option_map_or (λ (point : StepPoint). let since : Since = record { restarts = point.restarts; rewritten = point.rewritten } in since) found none_since
    ≡ option_map_or (λ (point : StartPoint). let since : Since = record { restarts = point.restarts; rewritten = point.rewritten } in since) (point_at (map point_of points) step) none_since
since-found points step found is =
    ap (λ (one : Option StepPoint). option_map_or (λ (point : StepPoint). let since : Since = record { restarts = point.restarts; rewritten = point.rewritten } in since) one none_since) is
    ∙ found-mapped (λ (point : StartPoint). let since : Since = record { restarts = point.restarts; rewritten = point.rewritten } in since) none_since points step

pub some-mapped : {A B : Type 0} (f : A → B) (found : Option A) → is_some found ≡ is_some (option_map f found)
some-mapped f None = refl
some-mapped f (Some x) = refl

module _ (row : RunRow) (step : ℕ) where
  abbrev pub since_effect : Option EffectPoint → Since
  since_effect effect =
      option_map_or (λ (effect : EffectPoint). let since : Since = record { restarts = effect.restarts; rewritten = effect.rewritten } in since) effect (since_start row step)

  pub since-rnc : is_rnc (rd_in_effect row step) ≡ true → since_point row step ≡ since_start row step
  since-rnc is = ap (λ b. cond b (since_start row step) (since_effect row.in_effect)) is

  pub since-other : is_rnc (rd_in_effect row step) ≡ false → since_point row step ≡ since_effect row.in_effect
  since-other is = ap (λ b. cond b (since_start row step) (since_effect row.in_effect)) is

abbrev case_with : Option Rd → Bool → Bool → Since → AutoCase
case_with rd checkpoint eligible since =
    record { rd = rd; checkpoint = checkpoint; eligible = eligible; rewritten = since.rewritten; restarts = since.restarts; refused = false }

-- the case, by its parts
pub case-is : (row : RunRow) (step : ℕ) (eligible : List Code) (code : Code) (rd : Option Rd) (checkpoint here : Bool) (since : Since) → step ≡ step_in (place_of row)
    → rd ≡ rd_in_effect row step → checkpoint ≡ is_some row.in_effect → here ≡ list_any (same_code code) eligible → since ≡ since_point row step
    → case_with rd checkpoint here since ≡ auto_case row (step_in (place_of row)) eligible code false
case-is row step eligible code rd checkpoint here since at rd_is checkpoint_is here_is since_is =
    ap (λ r. case_with r checkpoint here since) rd_is
    ∙ ap (λ b. case_with (rd_in_effect row step) b here since) checkpoint_is
    ∙ ap (λ b. case_with (rd_in_effect row step) (is_some row.in_effect) b since) here_is
    ∙ ap (case_with (rd_in_effect row step) (is_some row.in_effect) (list_any (same_code code) eligible)) since_is
    ∙ ap (λ n. auto_case row n eligible code false) at
