-- A walk over steps in parts.
use Rattle.std.proofs.Common.{◌≡◌, ℕ, suc, ◌+◌, true, false, List, [], ◌∷◌, ◌++◌, take, length, Some, ap, sym, ◌∙◌, arith}
use Rattle.std.specs.Option.{option_map}
use Rattle.std.proofs.lemmas.Option.{same_Some}
use Rattle.ckr_base.proofs.Sequences.{length-take, take-next}
use Rattle.ckr_meaning.specs.declared.place.Place.TheVariants.{Before}
use Rattle.ckr_meaning.specs.LibrarySet.{Library}
use Rattle.ckr_meaning.specs.EffectiveJob.{OwnedStep, Effective, step_at}
use Rattle.ckr_meaning.specs.StepRun.{StepStart, disposed_at, within_at, work_at}
use Rattle.ckr_meaning.specs.JobRun.{Walk, walked, walked_one, walked_by, step_walked, walk_from, walk_before, start_at, start_in, is_bypassed, at}

shifted : (number count : ℕ) → suc number + count ≡ number + suc count
shifted number count = omega arith

-- to walk over two lists of steps is to walk over one and then over the other
pub walked-append : (root number : ℕ) (first second : List OwnedStep) (walk : Walk) → walked root number (first ++ second) walk ≡ walked root (number + length first) second (walked root number first walk)
walked-append root number [] second walk = let e : number ≡ number + 0 = omega arith in ap (λ n. walked root n second walk) e
walked-append root number (owned ∷ rest) second walk =
    walked-append root (suc number) rest second (walked_one root number owned walk)
    ∙ ap (λ n. walked root n second (walked root (suc number) rest (walked_one root number owned walk))) (shifted number (length rest))

-- ---- from step to step

-- before a step is behind the step before it
pub walk_before-next : (job : Effective) (library : Library) (number : ℕ) (owned : OwnedStep) → step_at job (suc number) ≡ Some owned → walk_before job library (suc (suc number)) ≡ walked_one job.root (suc number) owned (walk_before job library (suc number))
unfolding walk_before
walk_before-next job library number owned at =
    ap (λ steps. walked job.root 1 steps (walk_from library)) (take-next number job.steps owned at)
    ∙ walked-append job.root 1 (take number job.steps) (owned ∷ []) (walk_from library)
    ∙ ap (λ n. walked_one job.root n owned (walked job.root 1 (take number job.steps) (walk_from library)))
    (let e : length (take number job.steps) ≡ number = length-take number job.steps owned at in let f : 1 + length (take number job.steps) ≡ suc number = omega (arith, e) in f)

pub at-bypassed : (job : Effective) (library : Library) (number : ℕ) (owned : OwnedStep) → step_at job (suc number) ≡ Some owned → is_bypassed (walk_before job library (suc number)).rcs owned ≡ true → at job library (Before (suc (suc number))) ≡ at job library (Before (suc number))
unfolding at walked_one
at-bypassed job library number owned found bypassed =
    ap (λ (walk : Walk). walk.standing) (walk_before-next job library number owned found)
    ∙ ap (λ by. (walked_by by (start_in job.root (suc number) owned (walk_before job library (suc number))) (walk_before job library (suc number))).standing) bypassed

pub at-behind : (job : Effective) (library : Library) (number : ℕ) (owned : OwnedStep) (start : StepStart) → step_at job (suc number) ≡ Some owned → start_at job library (suc number) ≡ Some start → is_bypassed (walk_before job library (suc number)).rcs owned ≡ false → at job library (Before (suc (suc number))) ≡ disposed_at start false (within_at start (length (work_at start).writes))
unfolding at walked_one step_walked start_at
at-behind job library number owned start found starts runs =
    ap (λ (walk : Walk). walk.standing) (walk_before-next job library number owned found)
    ∙ ap (λ by. (walked_by by (start_in job.root (suc number) owned (walk_before job library (suc number))) (walk_before job library (suc number))).standing) runs
    ∙ ap (λ (s : StepStart). disposed_at s false (within_at s (length (work_at s).writes)))
    (same_Some (start_in job.root (suc number) owned (walk_before job library (suc number))) start
    (sym (ap (option_map (λ one. start_in job.root (suc number) one (walk_before job library (suc number)))) found) ∙ starts))
