-- The return codes that a job has before a step are of the steps before it.
use Rattle.std.proofs.Common.{◌≡◌, ◌≤◌, ◌<◌, ℕ, zero, suc, pred, ◌+◌, Bool, true, false, cond, List, [], ◌∷◌, ◌++◌, take, length, refl, ap, ◌∙◌, arith}
use Rattle.std.specs.Prelude.{nat_lt}
use Rattle.std.specs.List.{list_all}
use Rattle.std.proofs.lemmas.Bool.{and_from}
use Rattle.std.proofs.lemmas.List.Elements.{filter-append}
use Rattle.std.proofs.lemmas.List.Folds.{list_all-append}
use Rattle.ckr_base.specs.declared.programs.Finish.{Finish}
use Rattle.ckr_base.specs.declared.programs.Finish.TheVariants.{Returned, Abend}
use Rattle.ckr_base.proofs.Bools.{and-first, and-second}
use Rattle.ckr_base.proofs.Numbers.{nat_lt-beyond, nat_lt-from, nat_lt-true}
use Rattle.ckr_base.proofs.Sequences.{all-implies}
use Rattle.ckr_meaning.specs.EffectiveJob.{Effective, OwnedStep}
use Rattle.ckr_meaning.specs.JobRun.{StepCodes, Walk, is_bypassed, rc_of, start_in, step_walked, walk_before, walk_from, walked, walked_by, walked_one}
use Rattle.ckr_meaning.specs.LibrarySet.{Library}
use Rattle.ckr_meaning.specs.StepRun.{StepStart, work_at}
use Rattle.ckr_points.specs.Restart.{rcs_before}

-- each is of a step before this one
abbrev are_before : ℕ → StepCodes → Bool
are_before step rcs = list_all (λ at. nat_lt at.0 step) rcs

before-more : (step later : ℕ) (rcs : StepCodes) → step ≤ later → are_before step rcs ≡ true → are_before later rcs ≡ true
before-more step later rcs below each =
    all-implies (λ (at : ℕ × ℕ). nat_lt at.0 step) (λ (at : ℕ × ℕ). nat_lt at.0 later) rcs
    (λ at its. let under : at.0 < step = nat_lt-true at.0 step its in nat_lt-from at.0 later (omega (arith, under, below))) each

before-all : (step : ℕ) (rcs : StepCodes) → are_before step rcs ≡ true → rcs_before step rcs ≡ rcs
before-all step [] each = refl
before-all step (first ∷ rest) each =
    ap (λ b. cond b (first ∷ rcs_before step rest) (rcs_before step rest)) (and-first (nat_lt first.0 step) _ each)
    ∙ ap (λ others. first ∷ others) (before-all step rest (and-second (nat_lt first.0 step) _ each))

-- a step adds its own
own-codes : (number : ℕ) (finish : Finish) → are_before (suc number) (rc_of number finish) ≡ true
own-codes number (Returned rc) = and_from (nat_lt number (suc number)) true (nat_lt-from number (suc number) (omega arith)) refl
own-codes number (Abend code) = refl

step-codes : (start : StepStart) (walk : Walk) → are_before start.number walk.rcs ≡ true → are_before (suc start.number) (step_walked start walk).rcs ≡ true
unfolding step_walked
step-codes start walk each =
    list_all-append (λ (at : ℕ × ℕ). nat_lt at.0 (suc start.number)) walk.rcs (rc_of start.number (work_at start).finish)
    ∙ and_from (are_before (suc start.number) walk.rcs) _ (before-more start.number (suc start.number) walk.rcs (omega arith) each) (own-codes start.number (work_at start).finish)

one-codes : (root number : ℕ) (owned : OwnedStep) (walk : Walk) → are_before number walk.rcs ≡ true → are_before (suc number) (walked_one root number owned walk).rcs ≡ true
unfolding walked_one
one-codes root number owned walk each = by (is_bypassed walk.rcs owned)
  where
    by : (b : Bool) → are_before (suc number) (walked_by b (start_in root number owned walk) walk).rcs ≡ true
    by true = before-more number (suc number) walk.rcs (omega arith) each
    by false = step-codes (start_in root number owned walk) walk each

all-codes : (root number : ℕ) (steps : List OwnedStep) (walk : Walk) → are_before number walk.rcs ≡ true → are_before (number + length steps) (walked root number steps walk).rcs ≡ true
all-codes root number [] walk each = before-more number (number + 0) walk.rcs (omega arith) each
all-codes root number (owned ∷ rest) walk each =
    before-more (suc number + length rest) (number + suc (length rest)) (walked root (suc number) rest (walked_one root number owned walk)).rcs (omega arith)
    (all-codes root (suc number) rest (walked_one root number owned walk) (one-codes root number owned walk each))

pub short-take : {A : Type 0} (count : ℕ) (items : List A) → length (take count items) ≤ count
short-take zero items = omega arith
short-take (suc count) [] = omega arith
short-take (suc count) (first ∷ rest) = let short : length (take count rest) ≤ count = short-take count rest in omega (arith, short)

-- so those before a step are all that the job has there
pub walk-codes : (job : Effective) (library : Library) (step : ℕ) → 1 ≤ step → rcs_before step (walk_before job library step).rcs ≡ (walk_before job library step).rcs
unfolding walk_before
walk-codes job library step begun =
    before-all step (walked job.root 1 (take (pred step) job.steps) (walk_from library)).rcs
    (before-more (1 + length (take (pred step) job.steps)) step (walked job.root 1 (take (pred step) job.steps) (walk_from library)).rcs
    (let short : length (take (pred step) job.steps) ≤ pred step = short-take (pred step) job.steps in omega (arith, short, begun))
    (all-codes job.root 1 (take (pred step) job.steps) (walk_from library) refl))

-- a code more, of a step that isn't before it, isn't among them
pub codes-behind : (step ended rc : ℕ) (rcs : StepCodes) → step ≤ ended → rcs_before step (rcs ++ (ended, rc) ∷ []) ≡ rcs_before step rcs
codes-behind step ended rc rcs behind =
    filter-append (λ (at : ℕ × ℕ). nat_lt at.0 step) rcs ((ended, rc) ∷ [])
    ∙ ap (λ b. rcs_before step rcs ++ cond b ((ended, rc) ∷ []) []) (nat_lt-beyond ended step behind)
    ∙ nothing (rcs_before step rcs)
  where
    nothing : (codes : StepCodes) → codes ++ [] ≡ codes
    nothing [] = refl
    nothing (first ∷ rest) = ap (λ others. first ∷ others) (nothing rest)
