-- The end of a step, and of a run, as the code puts them together.
use Rattle.std.proofs.Common.{◌≡◌, ℕ, Bool, true, false, List, ap, ◌∙◌, Some, None, Option}
use Rattle.std.specs.Option.{is_some, option_map_or}
use Rattle.std.proofs.lemmas.Bool.{false≢true}
use Rattle.ckr_points_library.specs.Commit.{committed, output_names}
use Rattle.ckr_points_library.specs.Holdings.{holding_ways, standing}
use Rattle.ckr_library.specs.Catalog.{Holding, with_length}
use Rattle.ckr_library.specs.NameMaps.{Named}
use Rattle.ckr_entry.specs.declared.point.Passed.{Passed}
use Rattle.ckr_meaning.specs.Dispositions.{Stock, disposed_all}
use Rattle.ckr_meaning.specs.EffectiveJob.{OwnedStep, step_at}
use Rattle.ckr_meaning.specs.declared.place.Place.TheVariants.{Within}
use Rattle.ckr_points.specs.declared.run.Run.{Run}
use Rattle.ckr_points_runs.specs.RunChange.{by_step_of, coded, ended, ended_in, going, gone_on, holding_kit, step_ended}
use Rattle.ckr_points_runs.specs.StepEnd.{disposals_at}
use Rattle.ckr_points_runs.specs.RunJobs.{effective}
use Rattle.ckr_points_runs.specs.View.{RunTableView}

-- a run with this passed list
abbrev pub with_passed : RunTableView → List Passed → RunTableView
with_passed facts passed = record facts { passed = passed }

-- after the dispositions of a step, if there is one
abbrev disposed_by : RunTableView → List Bool → ℕ → Bool → Named Holding → Option OwnedStep → Stock Holding
disposed_by facts earlier step abnormal sets found =
    option_map_or (λ own. disposed_all holding_ways (disposals_at facts.job.root facts.points earlier step abnormal own) (standing sets facts.passed)) found (standing sets facts.passed)

abbrev committed_by : ℕ → List ℕ → Named Holding → Option OwnedStep → Named Holding
committed_by root lengths sets found =
    option_map_or (λ own. committed with_length (output_names root own) lengths sets) found sets

module _ (line : Run) (facts : RunTableView) (sets : Named Holding) (earlier : List Bool) (step : ℕ) where
  ended-by : (found : Option OwnedStep) → is_some found ≡ true → (after : Named Holding) (passed : List Passed)
      → standing after passed ≡ disposed_by facts earlier step true sets found
      → ended (going line (with_passed facts passed) after) ≡ option_map_or (ended_in holding_kit earlier step (going line facts sets)) found (going line facts sets)
  ended-by None there after passed done = absurd (false≢true there)
  ended-by (Some own) there after passed done = ap (λ (both : Stock Holding). ended (going line (with_passed facts both.passed) both.sets)) done

  -- a run that ends in a step
  pub ended_so : is_some (step_at (effective line.number facts.job) step) ≡ true → (after : Named Holding) (passed : List Passed)
      → standing after passed ≡ disposed_by facts earlier step true sets (step_at (effective line.number facts.job) step)
      → ended (going line (with_passed facts passed) after) ≡ by_step_of step (ended_in holding_kit earlier step (going line facts sets)) (going line facts sets)
  ended_so = ended-by (step_at (effective line.number facts.job) step)

  step_ended-by : (rc : ℕ) (lengths : List ℕ) (found : Option OwnedStep) → is_some found ≡ true → (commit after : Named Holding) (passed : List Passed)
      → commit ≡ committed_by facts.job.root lengths sets found
      → standing after passed ≡ disposed_by facts earlier step false commit found
      → gone_on holding_kit step rc (going line (with_passed facts passed) after) ≡ option_map_or (step_ended holding_kit earlier step rc lengths (going line facts sets)) found (going line facts sets)
  step_ended-by rc lengths None there commit after passed first done = absurd (false≢true there)
  step_ended-by rc lengths (Some own) there commit after passed first done =
      ap (λ (both : Stock Holding). gone_on holding_kit step rc (going line (with_passed facts both.passed) both.sets))
      (done ∙ ap (λ now. disposed_by facts earlier step false now (Some own)) first)

  -- a step that ends
  pub step_ended_so : (rc : ℕ) (lengths : List ℕ) → is_some (step_at (effective line.number facts.job) step) ≡ true → (commit after : Named Holding) (passed : List Passed)
      → commit ≡ committed_by facts.job.root lengths sets (step_at (effective line.number facts.job) step)
      → standing after passed ≡ disposed_by facts earlier step false commit (step_at (effective line.number facts.job) step)
      → gone_on holding_kit step rc (going line (with_passed facts passed) after) ≡ by_step_of step (step_ended holding_kit earlier step rc lengths (going line facts sets)) (going line facts sets)
  step_ended_so rc lengths = step_ended-by rc lengths (step_at (effective line.number facts.job) step)

  coded-by : (writes : ℕ) (lengths : List ℕ) (found : Option OwnedStep) → is_some found ≡ true → (commit : Named Holding) → commit ≡ committed_by facts.job.root lengths sets found
      → option_map_or (ended_in holding_kit earlier step (going line (record facts { place = Some (Within step writes) }) commit)) found (going line (record facts { place = Some (Within step writes) }) commit)
      ≡ option_map_or (coded holding_kit earlier step writes lengths (going line facts sets)) found (going line facts sets)
  coded-by writes lengths None there commit first = absurd (false≢true there)
  coded-by writes lengths (Some own) there commit first = ap (λ now. ended_in holding_kit earlier step (going line (record facts { place = Some (Within step writes) }) now) own) first

  -- a run that ends with a code
  pub coded_so : (writes : ℕ) (lengths : List ℕ) → is_some (step_at (effective line.number facts.job) step) ≡ true → (commit : Named Holding)
      → commit ≡ committed_by facts.job.root lengths sets (step_at (effective line.number facts.job) step)
      → by_step_of step (ended_in holding_kit earlier step (going line (record facts { place = Some (Within step writes) }) commit)) (going line (record facts { place = Some (Within step writes) }) commit)
      ≡ by_step_of step (coded holding_kit earlier step writes lengths (going line facts sets)) (going line facts sets)
  coded_so writes lengths = coded-by writes lengths (step_at (effective line.number facts.job) step)
