-- Jobs that begin with the same steps, on libraries that agree on the names of these, come equally far in them.
use Rattle.std.proofs.Common.{◌≡◌, ◌≤◌, ◌<◌, ℕ, zero, suc, pred, false, List, [], ◌∷◌, take, refl, ap, sym, ◌∙◌, subst, Option, Some, arith}
use Rattle.std.specs.Prelude.{slice_get}
use Rattle.std.specs.Option.{option_map, option_map_or}
use Rattle.ckr_meaning.specs.declared.place.Place.{Place}
use Rattle.ckr_meaning.specs.declared.place.Place.TheVariants.{Before, Opened, Within}
use Rattle.ckr_meaning.specs.Dispositions.{Stock}
use Rattle.ckr_meaning.specs.EffectiveJob.{Effective, OwnedStep, is_among, step_at}
use Rattle.ckr_meaning.specs.Fronts.{BeginAlike, StandAlike, WalkAlike, front_names}
use Rattle.ckr_meaning.specs.JobRun.{Walk, all_go_on, at, start_at, start_in, walk_before, walk_from, walked, with_sets}
use Rattle.ckr_meaning.specs.LibrarySet.{Library, LibrarySet}
use Rattle.ckr_meaning.specs.StepRun.{StepStart, case_at, opened_at, placed_at, within_at, work_at}
use Rattle.ckr_library.specs.NameMaps.{Name, entry_at}
use Rattle.ckr_meaning.proofs.OtherNames.{at-other}
use Rattle.ckr_meaning.proofs.NameDependence.{at-agrees, at-passes, before-agrees, case-agrees, goes-agrees, placed-agrees, work-agrees}

-- ---- fronts of lists

take-take : {A : Type 0} (count most : ℕ) (items : List A) → count ≤ most → take count (take most items) ≡ take count items
take-take zero most items low = refl
take-take (suc count) zero items low = absurd (omega (arith, low))
take-take (suc count) (suc most) [] low = refl
take-take (suc count) (suc most) (first ∷ rest) low = ap (λ items. first ∷ items) (take-take count most rest (omega (arith, low)))

get-take : {A : Type 0} (place count : ℕ) (items : List A) → place < count → slice_get (take count items) place ≡ slice_get items place
get-take place zero items inside = absurd (omega (arith, inside))
get-take place (suc count) [] inside = refl
get-take zero (suc count) (first ∷ rest) inside = refl
get-take (suc place) (suc count) (first ∷ rest) inside = get-take place count rest (omega (arith, inside))

-- ---- a job and its first steps

-- the first steps of a job, as a job
abbrev front : ℕ → Effective → Effective
front count job = record { root = job.root; steps = take count job.steps }

module _ (count : ℕ) (job : Effective) where
  front-walk : (library : Library) (number : ℕ) → pred number ≤ count → walk_before (front count job) library number ≡ walk_before job library number
  unfolding walk_before
  front-walk library number low = ap (λ steps. walked job.root 1 steps (walk_from library)) (take-take (pred number) count job.steps low)

  front-step : (number : ℕ) → number ≤ count → step_at (front count job) number ≡ step_at job number
  front-step zero low = refl
  front-step (suc before) low = get-take before count job.steps (omega (arith, low))

  before-front : (number : ℕ) → number ≤ count → pred number ≤ count
  before-front number low = omega (arith, low)

  front-start : (library : Library) (number : ℕ) → number ≤ count → start_at (front count job) library number ≡ start_at job library number
  unfolding start_at
  front-start library number low =
      ap (λ (walk : Walk). option_map (λ owned. start_in job.root number owned walk) (step_at (front count job) number)) (front-walk library number (before-front number low))
      ∙ ap (option_map (λ owned. start_in job.root number owned (walk_before job library number))) (front-step number low)

  front-before : (library : Library) (number : ℕ) → pred number ≤ count → at (front count job) library (Before number) ≡ at job library (Before number)
  unfolding at
  front-before library number low = ap (λ (walk : Walk). walk.standing) (front-walk library number low)

  front-opened : (library : Library) (number : ℕ) → number ≤ count → at (front count job) library (Opened number) ≡ at job library (Opened number)
  unfolding at
  front-opened library number low =
      ap (λ (start : Option StepStart). option_map_or (λ start. with_sets (opened_at start) start.standing) start (walk_before (front count job) library number).standing) (front-start library number low)
      ∙ ap (λ (walk : Walk). option_map_or (λ start. with_sets (opened_at start) start.standing) (start_at job library number) walk.standing) (front-walk library number (before-front number low))

  front-within : (library : Library) (number writes : ℕ) → number ≤ count → at (front count job) library (Within number writes) ≡ at job library (Within number writes)
  unfolding at
  front-within library number writes low =
      ap (λ (start : Option StepStart). option_map_or (λ start. with_sets (within_at start writes) start.standing) start (walk_before (front count job) library number).standing) (front-start library number low)
      ∙ ap (λ (walk : Walk). option_map_or (λ start. with_sets (within_at start writes) start.standing) (start_at job library number) walk.standing) (front-walk library number (before-front number low))

-- ---- names of later steps

module _ (count : ℕ) (job : Effective) (library : Library) (name : Name) (later : is_among (front_names count job) name ≡ false) where
  pub later-before : (number : ℕ) → pred number ≤ count → entry_at (at job library (Before number)).sets name ≡ entry_at library name
  later-before number low =
      ap (λ (standing : Stock LibrarySet). entry_at standing.sets name) (sym (front-before count job library number low)) ∙ at-other (front count job) library (Before number) name later

  pub later-opened : (number : ℕ) → number ≤ count → entry_at (at job library (Opened number)).sets name ≡ entry_at library name
  later-opened number low =
      ap (λ (standing : Stock LibrarySet). entry_at standing.sets name) (sym (front-opened count job library number low)) ∙ at-other (front count job) library (Opened number) name later

  pub later-within : (number writes : ℕ) → number ≤ count → entry_at (at job library (Within number writes)).sets name ≡ entry_at library name
  later-within number writes low =
      ap (λ (standing : Stock LibrarySet). entry_at standing.sets name) (sym (front-within count job library number writes low)) ∙ at-other (front count job) library (Within number writes) name later

-- ---- two jobs

module _ (count : ℕ) (first second : Effective) (one other : Library) (alike : BeginAlike count first second one other) where
  abbrev names : List (List ℕ)
  names = front_names count first

  same-front : front count first ≡ front count second
  same-front =
      ap (λ root. let job : Effective = record { root = root; steps = take count first.steps } in job) alike.root
      ∙ ap (λ steps. let job : Effective = record { root = second.root; steps = steps } in job) alike.steps

  pub begin-step : (number : ℕ) → number ≤ count → step_at first number ≡ step_at second number
  begin-step number low =
      sym (front-step count first number low) ∙ ap (λ job. step_at job number) same-front ∙ front-step count second number low

  pub begin-walk : (number : ℕ) → pred number ≤ count → WalkAlike names (walk_before first one number) (walk_before second other number)
  begin-walk number low =
      subst (λ walk. WalkAlike names walk (walk_before second other number)) (front-walk count first one number low)
      (subst (WalkAlike names (walk_before (front count first) one number)) (ap (λ job. walk_before job other number) same-front ∙ front-walk count second other number low)
      (let so = before-agrees (front count first) one other alike.agree number in record { standing = record { sets = so.sets; passed = so.passed }; earlier = so.earlier; rcs = so.rcs }))

  pub begin-goes_on : (number : ℕ) → pred number ≤ count → all_go_on first.root 1 (take (pred number) first.steps) (walk_from one) ≡ all_go_on second.root 1 (take (pred number) second.steps) (walk_from other)
  begin-goes_on number low =
      ap (λ steps. all_go_on first.root 1 steps (walk_from one)) (sym (take-take (pred number) count first.steps low))
      ∙ goes-agrees (front count first) one other alike.agree (pred number)
      ∙ ap (λ (job : Effective). all_go_on job.root 1 (take (pred number) job.steps) (walk_from other)) same-front
      ∙ ap (λ steps. all_go_on second.root 1 steps (walk_from other)) (take-take (pred number) count second.steps low)

  -- something of a step as it is about to start, which two libraries that agree give alike
  by-start : {X : Type 0} (told : StepStart → X) (number : ℕ) (owned : OwnedStep) → number ≤ count
      → told (start_in first.root number owned (walk_before (front count first) one number)) ≡ told (start_in first.root number owned (walk_before (front count first) other number))
      → told (start_in first.root number owned (walk_before first one number)) ≡ told (start_in second.root number owned (walk_before second other number))
  by-start told number owned low same =
      ap (λ walk. told (start_in first.root number owned walk)) (sym (front-walk count first one number (before-front count first number low)))
      ∙ same
      ∙ ap (λ (job : Effective). told (start_in job.root number owned (walk_before job other number))) same-front
      ∙ ap (λ walk. told (start_in second.root number owned walk)) (front-walk count second other number (before-front count second number low))

  found-front : (number : ℕ) (owned : OwnedStep) → number ≤ count → step_at first number ≡ Some owned → step_at (front count first) number ≡ Some owned
  found-front number owned low found = front-step count first number low ∙ found

  pub begin-placed : (number : ℕ) (owned : OwnedStep) → number ≤ count → step_at first number ≡ Some owned → placed_at (start_in first.root number owned (walk_before first one number)) ≡ placed_at (start_in second.root number owned (walk_before second other number))
  begin-placed number owned low found = by-start placed_at number owned low (placed-agrees (front count first) one other alike.agree number owned (found-front number owned low found))

  pub begin-work : (number : ℕ) (owned : OwnedStep) → number ≤ count → step_at first number ≡ Some owned → work_at (start_in first.root number owned (walk_before first one number)) ≡ work_at (start_in second.root number owned (walk_before second other number))
  begin-work number owned low found = by-start work_at number owned low (work-agrees (front count first) one other alike.agree number owned (found-front number owned low found))

  pub begin-case : (number : ℕ) (owned : OwnedStep) → number ≤ count → step_at first number ≡ Some owned → case_at (start_in first.root number owned (walk_before first one number)) ≡ case_at (start_in second.root number owned (walk_before second other number))
  begin-case number owned low found = by-start case_at number owned low (case-agrees (front count first) one other alike.agree number owned (found-front number owned low found))

  -- what holds of both fronts holds of both jobs
  by-front : (mine its : Stock LibrarySet) (place : Place) → at (front count first) one place ≡ mine → at (front count first) other place ≡ its → StandAlike names mine its
  by-front mine its place is also =
      subst (λ standing. StandAlike names standing its) is
      (subst (StandAlike names (at (front count first) one place)) also
      (record { sets = at-agrees (front count first) one other place alike.agree; passed = at-passes (front count first) one other place alike.agree }))

  pub begin-before : (number : ℕ) → pred number ≤ count → StandAlike names (at first one (Before number)) (at second other (Before number))
  begin-before number low =
      by-front (at first one (Before number)) (at second other (Before number)) (Before number) (front-before count first one number low)
      (ap (λ job. at job other (Before number)) same-front ∙ front-before count second other number low)

  pub begin-opened : (number : ℕ) → number ≤ count → StandAlike names (at first one (Opened number)) (at second other (Opened number))
  begin-opened number low =
      by-front (at first one (Opened number)) (at second other (Opened number)) (Opened number) (front-opened count first one number low)
      (ap (λ job. at job other (Opened number)) same-front ∙ front-opened count second other number low)

  pub begin-within : (number writes : ℕ) → number ≤ count → StandAlike names (at first one (Within number writes)) (at second other (Within number writes))
  begin-within number writes low =
      by-front (at first one (Within number writes)) (at second other (Within number writes)) (Within number writes) (front-within count first one number writes low)
      (ap (λ job. at job other (Within number writes)) same-front ∙ front-within count second other number writes low)
