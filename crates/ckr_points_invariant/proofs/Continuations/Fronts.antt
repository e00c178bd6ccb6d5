-- The job of a run that continues another one at a step comes as far as that one's job, up to this step.
use Rattle.std.proofs.Common.{◌≡◌, ◌≤◌, ℕ, zero, suc, true, false, cond, ◌||◌, List, [], ◌∷◌, ◌++◌, map, take, drop, length, refl, ap, sym, ◌∙◌, Some, arith}
use Rattle.std.specs.Prelude.{slice_get}
use Rattle.std.proofs.lemmas.Bool.{false≢true, or_left, or_right}
use Rattle.std.proofs.lemmas.List.Folds.{list_any-append}
use Rattle.ckr_base.proofs.Bools.{bool-cases}
use Rattle.ckr_base.proofs.Options.{some-not-none}
use Rattle.ckr_jcl.specs.declared.deck.Job.{Job}
use Rattle.ckr_library.specs.NameMaps.{Name, entry_at, same_name, taken_over}
use Rattle.ckr_meaning.specs.EffectiveJob.{Effective, OwnedStep, is_among, names_of, names_of_job, names_of_steps, owned_by, step_at}
use Rattle.ckr_meaning.specs.Fronts.{BeginAlike, front_names}
use Rattle.ckr_meaning.specs.JobRun.{at}
use Rattle.ckr_meaning.specs.LibrarySet.{Library}
use Rattle.ckr_meaning.specs.declared.place.Place.{Place}
use Rattle.ckr_meaning.specs.declared.place.Place.TheVariants.{Before, Opened, Within}
use Rattle.ckr_meaning.proofs.Fronts.{begin-before, begin-opened, begin-within, later-before, later-opened, later-within}
use Rattle.ckr_points.specs.Restart.{spliced, step_in}
use Rattle.ckr_points_invariant.proofs.Library.Entries.{at-taken_over}

-- ---- lists

inside : {A : Type 0} (place : ℕ) (items : List A) (item : A) → slice_get items place ≡ Some item → suc place ≤ length items
inside place [] item found = absurd (some-not-none item (sym found))
inside zero (first ∷ rest) item found = omega arith
inside (suc place) (first ∷ rest) item found = let low : suc place ≤ length rest = inside place rest item found in omega (arith, low)

-- the front of a list that begins with a front of the same length
front-joined : {A : Type 0} (count : ℕ) (items others : List A) → count ≤ length items → take count (take count items ++ others) ≡ take count items
front-joined zero items others low = refl
front-joined (suc count) [] others low = absurd (omega (arith, low))
front-joined (suc count) (first ∷ rest) others low = ap (λ items. first ∷ items) (front-joined count rest others (omega (arith, low)))

-- ---- names

-- the names of the first steps are those of all
pub among-front : (root count : ℕ) (steps : List OwnedStep) (name : Name) → is_among (names_of_steps root (take count steps)) name ≡ true → is_among (names_of_steps root steps) name ≡ true
among-front root zero steps name among = absurd (false≢true among)
among-front root (suc count) [] name among = among
among-front root (suc count) (first ∷ rest) name among =
    list_any-append (same_name name) (names_of root first) (names_of_steps root rest)
    ∙ bool-cases (is_among (names_of root first) name)
    (λ here. or_left _ (is_among (names_of_steps root rest) name) here)
    (λ other.
    or_right (is_among (names_of root first) name) _
    (among-front root count rest name
    (ap (λ b. b || is_among (names_of_steps root (take count rest)) name) (sym other)
    ∙ sym (list_any-append (same_name name) (names_of root first) (names_of_steps root (take count rest))) ∙ among)))

module _ (earlier : Effective) (start library : Library) (step run : ℕ) (deck : Job) (owned : OwnedStep) (found : step_at earlier step ≡ Some owned) where
  abbrev pub its_job : Effective
  its_job = spliced earlier step run deck

  abbrev pub its_library : Library
  its_library = taken_over (names_of_job earlier) start library

  long : step ≤ length earlier.steps
  long = by step found
    where
      by : (number : ℕ) → step_at earlier number ≡ Some owned → number ≤ length earlier.steps
      by zero e = absurd (some-not-none owned (sym e))
      by (suc before) e = inside before earlier.steps owned e

  pub same-steps : take step its_job.steps ≡ take step earlier.steps
  same-steps = front-joined step earlier.steps (map (owned_by run deck) (drop step deck.steps)) long

  pub front-among : (name : Name) → is_among (front_names step its_job) name ≡ true → is_among (names_of_job earlier) name ≡ true
  front-among name among =
      among-front earlier.root step earlier.steps name (ap (λ steps. is_among (names_of_steps earlier.root steps) name) (sym same-steps) ∙ among)

  -- it begins on what the earlier run began on, of the names of its job
  pub library-earlier : (name : Name) → is_among (names_of_job earlier) name ≡ true → entry_at its_library name ≡ entry_at start name
  library-earlier name among =
      at-taken_over (names_of_job earlier) start library name ∙ ap (λ b. cond b (entry_at start name) (entry_at library name)) among

  pub library-other : (name : Name) → is_among (names_of_job earlier) name ≡ false → entry_at its_library name ≡ entry_at library name
  library-other name out =
      at-taken_over (names_of_job earlier) start library name ∙ ap (λ b. cond b (entry_at start name) (entry_at library name)) out

  pub begins-alike : BeginAlike step its_job earlier its_library start
  begins-alike = record { root = refl; steps = same-steps; agree = λ name among. library-earlier name (front-among name among) }

  -- ---- at the places up to the step

  abbrev pub IsUpTo : Place → Type 0
  IsUpTo place = step_in place ≤ step

  not-front : (name : Name) → is_among (front_names step its_job) name ≡ false → is_among (front_names step earlier) name ≡ false
  not-front name out = ap (λ steps. is_among (names_of_steps earlier.root steps) name) (sym same-steps) ∙ out

  -- a name that the first steps don't have
  place-later : (place : Place) (name : Name) → IsUpTo place → is_among (front_names step its_job) name ≡ false → entry_at (at its_job its_library place).sets name ≡ entry_at its_library name
  place-later (Before number) name low out = later-before step its_job its_library name out number (omega (arith, low))
  place-later (Opened number) name low out = later-opened step its_job its_library name out number low
  place-later (Within number writes) name low out = later-within step its_job its_library name out number writes low

  earlier-later : (place : Place) (name : Name) → IsUpTo place → is_among (front_names step its_job) name ≡ false → entry_at (at earlier start place).sets name ≡ entry_at start name
  earlier-later (Before number) name low out = later-before step earlier start name (not-front name out) number (omega (arith, low))
  earlier-later (Opened number) name low out = later-opened step earlier start name (not-front name out) number low
  earlier-later (Within number writes) name low out = later-within step earlier start name (not-front name out) number writes low

  place-front : (place : Place) (name : Name) → IsUpTo place → is_among (front_names step its_job) name ≡ true → entry_at (at its_job its_library place).sets name ≡ entry_at (at earlier start place).sets name
  place-front (Before number) name low among = (begin-before step its_job earlier its_library start begins-alike number (omega (arith, low))).sets name among
  place-front (Opened number) name low among = (begin-opened step its_job earlier its_library start begins-alike number low).sets name among
  place-front (Within number writes) name low among = (begin-within step its_job earlier its_library start begins-alike number writes low).sets name among

  -- a name of the earlier job is as it was there
  pub place-earlier : (place : Place) (name : Name) → IsUpTo place → is_among (names_of_job earlier) name ≡ true → entry_at (at its_job its_library place).sets name ≡ entry_at (at earlier start place).sets name
  place-earlier place name low among =
      bool-cases (is_among (front_names step its_job) name)
      (place-front place name low)
      (λ out. place-later place name low out ∙ library-earlier name among ∙ sym (earlier-later place name low out))

  -- another one is as the ended jobs left it
  pub place-other : (place : Place) (name : Name) → IsUpTo place → is_among (names_of_job earlier) name ≡ false → entry_at (at its_job its_library place).sets name ≡ entry_at library name
  place-other place name low out =
      place-later place name low
      (bool-cases (is_among (front_names step its_job) name)
      (λ among. absurd (false≢true (sym out ∙ front-among name among)))
      (λ e. e))
      ∙ library-other name out

  -- and the same was passed on
  pub place-passed : (place : Place) → IsUpTo place → (at its_job its_library place).passed ≡ (at earlier start place).passed
  place-passed (Before number) low = (begin-before step its_job earlier its_library start begins-alike number (omega (arith, low))).passed
  place-passed (Opened number) low = (begin-opened step its_job earlier its_library start begins-alike number low).passed
  place-passed (Within number writes) low = (begin-within step its_job earlier its_library start begins-alike number writes low).passed
