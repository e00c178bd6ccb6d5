-- How many DDs the steps of a run have.
use Rattle.std.proofs.Common.{◌≡◌, ℕ, ◌+◌, ◌*◌, ◌<◌, ◌≤◌, true, List, [], ◌∷◌, drop, length, slice_get, ap, sym, ◌∙◌, arith, length-append}
use Rattle.std.specs.List.{list_all}
use Rattle.std.specs.Option.{option_map_or}
use Rattle.std.proofs.lemmas.List.Sums.{sum_by-cons}
use Rattle.ckr_base.proofs.Bools.{and-first, and-second}
use Rattle.ckr_base.proofs.Sequences.{get-there}
use Rattle.ckr_meaning.specs.EffectiveJob.{Effective, OwnedStep, name_of, names_of, names_of_job, names_of_steps}
use Rattle.ckr_points_runs.specs.RunJobs.{IsFitting, is_fitting_step}
use Rattle.ckr_points_runs.proofs.RunJobs.{drop-next, step-fits}
use Rattle.ckr_points_runs.proofs.Steps.{named-most}
use Rattle.ckr_points_tables.specs.Rooms.{dds_of}

-- the DDs of the steps from a place on
pub dds-next : (steps : List OwnedStep) (place next : ℕ) → place < length steps → next ≡ place + 1 → dds_of (drop place steps) ≡ option_map_or (λ (own : OwnedStep). length own.step.dds) (slice_get steps place) 0 + dds_of (drop next steps)
dds-next steps place next inside is =
    let there = get-there steps place inside in
    ap dds_of (drop-next steps place next there.0 there.1 is)
    ∙ sum_by-cons (λ (own : OwnedStep). length own.step.dds) there.0 (drop next steps)
    ∙ ap (λ found. option_map_or (λ (own : OwnedStep). length own.step.dds) found 0 + dds_of (drop next steps)) (sym there.1)

-- no more names than DDs
pub names-most : (job : Effective) → length (names_of_job job) ≤ dds_of job.steps
names-most job = each job.steps
  where
    each : (steps : List OwnedStep) → length (names_of_steps job.root steps) ≤ dds_of steps
    each [] = omega arith
    each (own ∷ steps) =
        omega (arith, each steps, named-most (name_of job.root own) own.step.dds, length-append (names_of job.root own) (names_of_steps job.root steps), sum_by-cons (λ (one : OwnedStep). length one.step.dds) own steps)

-- a job within the limits has at most 1,024 DDs
pub dds-most : (job : Effective) → IsFitting job → dds_of job.steps ≤ 1024
dds-most job fits = omega (arith, few_in job.steps fits.steps, fits.few)
  where
    few_in : (steps : List OwnedStep) → list_all is_fitting_step steps ≡ true → dds_of steps ≤ 16 * length steps
    few_in [] all = omega arith
    few_in (own ∷ steps) all =
        omega (arith, few_in steps (and-second (is_fitting_step own) _ all), (step-fits own (and-first (is_fitting_step own) _ all)).dds, sum_by-cons (λ (one : OwnedStep). length one.step.dds) own steps)
