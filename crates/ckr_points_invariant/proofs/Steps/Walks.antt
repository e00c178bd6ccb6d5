-- A job behind one more step, and a job that has come behind its last step.
use Rattle.std.proofs.Common.{◌≡◌, ◌≤◌, ℕ, zero, suc, pred, ◌+◌, true, false, List, [], ◌∷◌, ◌++◌, take, length, refl, ap, sym, ◌∙◌, Option, Some, None, arith}
use Rattle.std.specs.Prelude.{slice_get}
use Rattle.std.specs.Option.{option_map, option_map_or}
use Rattle.std.proofs.lemmas.Bool.{false≢true}
use Rattle.ckr_base.specs.declared.programs.Finish.TheVariants.{Returned}
use Rattle.ckr_points_invariant.specs.RunningSteps.{start_of}
use Rattle.ckr_base.proofs.Options.{some-not-none}
use Rattle.ckr_base.proofs.Sequences.{length-take, take-next}
use Rattle.ckr_library.specs.NameMaps.{Name, entry_at}
use Rattle.ckr_meaning.specs.declared.place.Place.{Place}
use Rattle.ckr_meaning.specs.declared.place.Place.TheVariants.{Before, Opened, Within}
use Rattle.ckr_meaning.specs.LibrarySet.{Library, LibrarySet}
use Rattle.ckr_meaning.specs.Dispositions.{Stock}
use Rattle.ckr_meaning.specs.EffectiveJob.{Effective, OwnedStep, flaws_in, is_among, names_made, names_of, step_at}
use Rattle.ckr_meaning.specs.StepRun.{StepStart, disposed_at, end_at, end_by, opened_at, placed_at, within_at, work_at}
use Rattle.ckr_meaning.specs.JobRun.{Walk, all_go_on, at, cut_at, end_from, end_in, end_of_job, end_unless, ended_with, is_bypassed, job_run, place_of_end, rc_of, start_at, start_in, step_walked, walk_before, walk_from, walked, walked_by, walked_one, with_sets}
use Rattle.ckr_meaning.proofs.JobEnds.{all_go_on-more, all_go_on-step, end_from-step, end_or, go_on_unless}
use Rattle.ckr_meaning.proofs.OtherNames.{opened_at-other, within_at-other}
use Rattle.ckr_meaning.proofs.Walks.{walk_before-next}
use Rattle.ckr_points.specs.Restart.{step_in}

-- ---- one step more

pub start_at-of : (job : Effective) (library : Library) (number : ℕ) (owned : OwnedStep) → step_at job number ≡ Some owned → start_at job library number ≡ Some (start_of job library number owned)
unfolding start_at
start_at-of job library number owned found = ap (option_map (start_of job library number)) found

-- behind a step that isn't bypassed
pub walk_before-behind : (job : Effective) (library : Library) (number : ℕ) (owned : OwnedStep) → step_at job number ≡ Some owned → is_bypassed (walk_before job library number).rcs owned ≡ false → walk_before job library (suc number) ≡ step_walked (start_of job library number owned) (walk_before job library number)
unfolding walked_one
walk_before-behind job library zero owned found runs = absurd (some-not-none owned (sym found))
walk_before-behind job library (suc before) owned found runs =
    walk_before-next job library before owned found
    ∙ ap (λ by. walked_by by (start_of job library (suc before) owned) (walk_before job library (suc before))) runs

pub step_walked-standing : (start : StepStart) (walk : Walk) → (step_walked start walk).standing ≡ disposed_at start false (within_at start (length (work_at start).writes))
unfolding step_walked
step_walked-standing start walk = refl

pub step_walked-earlier : (start : StepStart) (walk : Walk) → (step_walked start walk).earlier ≡ walk.earlier ++ names_made (placed_at start)
unfolding step_walked
step_walked-earlier start walk = refl

pub step_walked-rcs : (start : StepStart) (walk : Walk) (rc : ℕ) → (work_at start).finish ≡ Returned rc → (step_walked start walk).rcs ≡ walk.rcs ++ (start.number, rc) ∷ []
unfolding step_walked
step_walked-rcs start walk rc returned = ap (λ finish. walk.rcs ++ rc_of start.number finish) returned

-- a step that ends with a return code goes on
end_in-none : (root number : ℕ) (owned : OwnedStep) (walk : Walk) (rc : ℕ) → is_bypassed walk.rcs owned ≡ false → flaws_in (placed_at (start_in root number owned walk)) ≡ [] → (work_at (start_in root number owned walk)).finish ≡ Returned rc → end_in root number owned walk ≡ None
unfolding end_in end_at
end_in-none root number owned walk rc runs flawless returned =
    ap (λ by. end_unless by (start_in root number owned walk)) runs
    ∙ ap (λ flaws. place_of_end number (work_at (start_in root number owned walk)) (end_by flaws (work_at (start_in root number owned walk)).finish)) flawless
    ∙ ap (λ finish. place_of_end number (work_at (start_in root number owned walk)) (end_by [] finish)) returned

-- so its job goes on behind it
pub goes_on-behind : (job : Effective) (library : Library) (number : ℕ) (owned : OwnedStep) (rc : ℕ) → step_at job number ≡ Some owned → all_go_on job.root 1 (take (pred number) job.steps) (walk_from library) ≡ true → is_bypassed (walk_before job library number).rcs owned ≡ false → flaws_in (placed_at (start_of job library number owned)) ≡ [] → (work_at (start_of job library number owned)).finish ≡ Returned rc → all_go_on job.root 1 (take number job.steps) (walk_from library) ≡ true
unfolding walk_before
goes_on-behind job library zero owned rc found goes runs flawless returned = absurd (some-not-none owned (sym found))
goes_on-behind job library (suc before) owned rc found goes runs flawless returned =
    ap (λ steps. all_go_on job.root 1 steps (walk_from library)) (take-next before job.steps owned found)
    ∙ all_go_on-more job.root 1 (take before job.steps) owned (walk_from library) goes
    (ap (λ n. end_in job.root n owned (walked job.root 1 (take before job.steps) (walk_from library))) (let long : length (take before job.steps) ≡ before = length-take before job.steps owned found in let e : 1 + length (take before job.steps) ≡ suc before = omega (arith, long) in e)
    ∙ end_in-none job.root (suc before) owned (walk_before job library (suc before)) rc runs flawless returned)

-- ---- the places

pub at-opened : (job : Effective) (library : Library) (number : ℕ) (owned : OwnedStep) → step_at job number ≡ Some owned → (at job library (Opened number)).sets ≡ opened_at (start_of job library number owned)
unfolding at
at-opened job library number owned found =
    ap (λ (o : Option StepStart). let standing : Stock LibrarySet = option_map_or (λ start. with_sets (opened_at start) start.standing) o (walk_before job library number).standing in standing.sets) (start_at-of job library number owned found)

pub at-within : (job : Effective) (library : Library) (number writes : ℕ) (owned : OwnedStep) → step_at job number ≡ Some owned → (at job library (Within number writes)).sets ≡ within_at (start_of job library number owned) writes
unfolding at
at-within job library number writes owned found =
    ap (λ (o : Option StepStart). let standing : Stock LibrarySet = option_map_or (λ start. with_sets (within_at start writes) start.standing) o (walk_before job library number).standing in standing.sets) (start_at-of job library number owned found)

pub at-before : (job : Effective) (library : Library) (number : ℕ) → (at job library (Before number)) ≡ (walk_before job library number).standing
unfolding at
at-before job library number = refl

-- a name that the step doesn't have is there as it was before the step
pub at-elsewhere : (job : Effective) (library : Library) (place : Place) (name : Name) → ((owned : OwnedStep) → step_at job (step_in place) ≡ Some owned → is_among (names_of job.root owned) name ≡ false)
    → entry_at (at job library place).sets name ≡ entry_at (walk_before job library (step_in place)).standing.sets name
unfolding at start_at
at-elsewhere job library (Before number) name out = refl
at-elsewhere job library (Opened number) name out = by (step_at job number) refl
  where
    by : (step : Option OwnedStep) → step_at job number ≡ step
        → (let standing : Stock LibrarySet = option_map_or (λ (start : StepStart). with_sets (opened_at start) start.standing) (option_map (λ owned. start_in job.root number owned (walk_before job library number)) step) (walk_before job library number).standing in entry_at standing.sets name)
        ≡ entry_at (walk_before job library number).standing.sets name
    by None e = refl
    by (Some owned) e = opened_at-other (start_of job library number owned) name (out owned e)
at-elsewhere job library (Within number writes) name out = by (step_at job number) refl
  where
    by : (step : Option OwnedStep) → step_at job number ≡ step
        → (let standing : Stock LibrarySet = option_map_or (λ (start : StepStart). with_sets (within_at start writes) start.standing) (option_map (λ owned. start_in job.root number owned (walk_before job library number)) step) (walk_before job library number).standing in entry_at standing.sets name)
        ≡ entry_at (walk_before job library number).standing.sets name
    by None e = refl
    by (Some owned) e = within_at-other (start_of job library number owned) writes name (out owned e)

-- and so it is at each place of the step
pub at-same-step : (job : Effective) (library : Library) (one other : Place) (name : Name) → step_in other ≡ step_in one → ((owned : OwnedStep) → step_at job (step_in one) ≡ Some owned → is_among (names_of job.root owned) name ≡ false)
    → entry_at (at job library one).sets name ≡ entry_at (at job library other).sets name
at-same-step job library one other name same out =
    at-elsewhere job library one name out
    ∙ ap (λ n. entry_at (walk_before job library n).standing.sets name) (sym same)
    ∙ sym (at-elsewhere job library other name (λ owned found. out owned (ap (step_at job) (sym same) ∙ found)))

-- ---- the end

pub cut-before : (job : Effective) (library : Library) (number : ℕ) → cut_at job library (Before number) ≡ ended_with (walk_before job library number).standing
unfolding cut_at
cut-before job library number = ap ended_with (at-before job library number)

pub cut-opened : (job : Effective) (library : Library) (number : ℕ) → cut_at job library (Opened number) ≡ ended_with (at job library (Opened number))
unfolding cut_at
cut-opened job library number = refl

pub cut-within : (job : Effective) (library : Library) (number writes : ℕ) (owned : OwnedStep) → step_at job number ≡ Some owned → cut_at job library (Within number writes) ≡ ended_with (disposed_at (start_of job library number owned) true (within_at (start_of job library number owned) writes))
unfolding cut_at
cut-within job library number writes owned found =
    ap (λ (o : Option StepStart). ended_with (option_map_or (λ start. disposed_at start true (at job library (Within number writes)).sets) o (at job library (Within number writes)))) (start_at-of job library number owned found)
    ∙ ap (λ sets. ended_with (disposed_at (start_of job library number owned) true sets)) (at-within job library number writes owned found)

take-beyond : (count : ℕ) (steps : List OwnedStep) → slice_get steps count ≡ None → take count steps ≡ steps
take-beyond zero [] none = refl
take-beyond (suc count) [] none = refl
take-beyond zero (first ∷ rest) none = absurd (some-not-none first none)
take-beyond (suc count) (first ∷ rest) none = ap (λ steps. first ∷ steps) (take-beyond count rest none)

end_from-all : (root number : ℕ) (steps : List OwnedStep) (walk : Walk) → all_go_on root number steps walk ≡ true → end_from root number steps walk ≡ Before (number + length steps)
end_from-all root number [] walk goes = ap Before (let e : number ≡ number + 0 = omega arith in e)
end_from-all root number (owned ∷ rest) walk goes =
    end_from-step root number owned rest walk
    ∙ by (end_in root number owned walk) (sym (all_go_on-step root number owned rest walk) ∙ goes) (λ others. end_from-all root (suc number) rest (walked_one root number owned walk) others)
  where
    by : (place : Option Place) → go_on_unless place (all_go_on root (suc number) rest (walked_one root number owned walk)) ≡ true → (all_go_on root (suc number) rest (walked_one root number owned walk) ≡ true → end_from root (suc number) rest (walked_one root number owned walk) ≡ Before (suc number + length rest)) → end_or place (end_from root (suc number) rest (walked_one root number owned walk)) ≡ Before (number + suc (length rest))
    by (Some place) goes more = absurd (false≢true goes)
    by None goes more = more goes ∙ ap Before (let e : suc number + length rest ≡ number + suc (length rest) = omega arith in e)

-- a job that has no step left has ended there
pub run-behind : (job : Effective) (library : Library) (number : ℕ) → 1 ≤ number → step_at job number ≡ None → all_go_on job.root 1 (take (pred number) job.steps) (walk_from library) ≡ true → job_run job library None ≡ ended_with (walk_before job library number).standing
unfolding job_run end_of_job walk_before
run-behind job library zero begun none goes = absurd (omega (arith, begun))
run-behind job library (suc before) begun none goes =
    ap (cut_at job library) (end_from-all job.root 1 job.steps (walk_from library) (sym (ap (λ steps. all_go_on job.root 1 steps (walk_from library)) (take-beyond before job.steps none)) ∙ goes))
    ∙ cut-before job library (1 + length job.steps)
    ∙ ap (λ steps. ended_with (walked job.root 1 steps (walk_from library)).standing) (every ∙ sym (take-beyond before job.steps none))
  where
    whole : (steps : List OwnedStep) → take (length steps) steps ≡ steps
    whole [] = refl
    whole (first ∷ rest) = ap (λ steps. first ∷ steps) (whole rest)

    every : take (pred (1 + length job.steps)) job.steps ≡ job.steps
    every = ap (λ count. take count job.steps) (let e : pred (1 + length job.steps) ≡ length job.steps = omega arith in e) ∙ whole job.steps

pub run-cut : (job : Effective) (library : Library) (place : Place) → job_run job library (Some place) ≡ cut_at job library place
unfolding job_run
run-cut job library place = refl
