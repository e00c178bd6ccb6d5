-- The names that a run holds: those of the steps that it executes itself, and each name of its deck that no owner tells apart.
use Rattle.std.proofs.Common.{◌≡◌, ◌≤◌, ◌<◌, ◌-◌, ℕ, zero, suc, pred, Bool, true, false, List, [], ◌∷◌, ◌++◌, map, take, drop, length, refl, ap, sym, ◌∙◌, arith, Option, Some, None}
use Rattle.std.specs.Prelude.{slice_get}
use Rattle.std.specs.List.{list_any}
use Rattle.std.specs.Option.{option_map, option_map_or}
use Rattle.std.proofs.lemmas.Bool.{false≢true, or_left, or_right}
use Rattle.std.proofs.lemmas.List.Folds.{list_any-append}
use Rattle.std.proofs.lemmas.Option.{same_Some, slice_get-map}
use Rattle.ckr_base.proofs.Bools.{or-cases}
use Rattle.ckr_base.proofs.Options.{some-not-none}
use Rattle.ckr_base.proofs.Sequences.{any-filter_map, get-inside}
use Rattle.ckr_jcl.specs.declared.deck.Dd.{Dd}
use Rattle.ckr_jcl.specs.declared.deck.Job.{Job}
use Rattle.ckr_jcl.specs.declared.deck.Origin.{Origin}
use Rattle.ckr_jcl.specs.declared.deck.Origin.TheVariants.{InStream, Named, Temporary, Unnamed, Sysout, Dummy}
use Rattle.ckr_jcl.specs.declared.deck.Step.{Step}
use Rattle.ckr_library.specs.NameMaps.{Name, same_name}
use Rattle.ckr_library.proofs.Named.{name-itself}
use Rattle.ckr_meaning.specs.EffectiveJob.{Effective, OwnedStep, is_among, name_of, names_of, names_of_job, names_of_steps, owned_by, plain_job, step_at}
use Rattle.ckr_points.specs.Restart.{spliced}
use Rattle.ckr_points_invariant.proofs.Continuations.ReachedNames.OwnSteps.{among-at, among-rest}
use Rattle.ckr_points_invariant.specs.JobNames.{IsNameOf}
use Rattle.ckr_desk_turn.proofs.AdmittedSteps.{spliced-here}
use Rattle.ckr_uses.specs.SetNames.{origin_name, run_name}
use Rattle.ckr_desk_refines.specs.Holders.{as_submitted, names_held, said_by, syschk_names}

-- ---- steps as a deck says them

-- the step at a place
said-at : (steps : List Step) (job : List OwnedStep) (place : ℕ) (step : Step) (owned : OwnedStep) → slice_get steps place ≡ Some step → slice_get job place ≡ Some owned
    → slice_get (said_by steps job) place ≡ Some (record owned { step = step })
said-at [] job place step owned its found = absurd (some-not-none step (sym its))
said-at (first ∷ steps) [] place step owned its found = absurd (some-not-none owned (sym found))
said-at (first ∷ steps) (own ∷ job) zero step owned its found =
    ap (λ (s : Step). let one : Option OwnedStep = Some (record own { step = s }) in one) (same_Some first step its)
    ∙ ap (λ (o : OwnedStep). let one : Option OwnedStep = Some (record o { step = step }) in one) (same_Some own owned found)
said-at (first ∷ steps) (own ∷ job) (suc place) step owned its found = said-at steps job place step owned its found

-- there is none where the deck has none, or the job
said-no-step : (steps : List Step) (job : List OwnedStep) (place : ℕ) → slice_get steps place ≡ None → slice_get (said_by steps job) place ≡ None
said-no-step [] job place none = refl
said-no-step (first ∷ steps) [] place none = refl
said-no-step (first ∷ steps) (own ∷ job) zero none = absurd (some-not-none first none)
said-no-step (first ∷ steps) (own ∷ job) (suc place) none = said-no-step steps job place none

said-no-own : (steps : List Step) (job : List OwnedStep) (place : ℕ) → slice_get job place ≡ None → slice_get (said_by steps job) place ≡ None
said-no-own [] job place none = refl
said-no-own (first ∷ steps) [] place none = refl
said-no-own (first ∷ steps) (own ∷ job) zero none = absurd (some-not-none own none)
said-no-own (first ∷ steps) (own ∷ job) (suc place) none = said-no-own steps job place none

-- by its number
module _ (deck : Job) (job : Effective) where
  first-back : (n : ℕ) → suc n - 1 ≡ n
  first-back n = omega arith

  pub submitted-at : (number : ℕ) (step : Step) (owned : OwnedStep) → 0 < number → slice_get deck.steps (number - 1) ≡ Some step → step_at job number ≡ Some owned
      → step_at (as_submitted deck job) number ≡ Some (record owned { step = step })
  submitted-at zero step owned some its found = absurd (omega (arith, some))
  submitted-at (suc before) step owned some its found = said-at deck.steps job.steps before step owned (ap (slice_get deck.steps) (sym (first-back before)) ∙ its) found

  pub submitted-no-step : (number : ℕ) → 0 < number → slice_get deck.steps (number - 1) ≡ None → step_at (as_submitted deck job) number ≡ None
  submitted-no-step zero some none = refl
  submitted-no-step (suc before) some none = said-no-step deck.steps job.steps before (ap (slice_get deck.steps) (sym (first-back before)) ∙ none)

  pub submitted-no-own : (number : ℕ) → step_at job number ≡ None → step_at (as_submitted deck job) number ≡ None
  submitted-no-own zero none = refl
  submitted-no-own (suc before) none = said-no-own deck.steps job.steps before none

  -- so many as the job at most
  pub submitted-few : (most : ℕ) → length job.steps ≤ most → length (as_submitted deck job).steps ≤ most
  submitted-few most few = by deck.steps job.steps most few
    where
      by : (steps : List Step) (own : List OwnedStep) (most : ℕ) → length own ≤ most → length (said_by steps own) ≤ most
      by [] own most few = omega arith
      by (first ∷ steps) [] most few = omega arith
      by (first ∷ steps) (one ∷ own) zero few = absurd (omega (arith, few))
      by (first ∷ steps) (one ∷ own) (suc most) few = let rest = by steps own most (omega (arith, few)) in omega (arith, rest)

-- a deck says its own steps as they are
pub said-own : (run : ℕ) (deck : Job) (steps : List Step) → said_by steps (map (owned_by run deck) steps) ≡ map (owned_by run deck) steps
said-own run deck [] = refl
said-own run deck (first ∷ steps) = ap (λ rest. owned_by run deck first ∷ rest) (said-own run deck steps)

-- so it is with its steps behind those of an earlier job, which has so many
said-later : (count run : ℕ) (deck : Job) (steps : List Step) (earlier : List OwnedStep) → count ≤ length earlier
    → drop count (said_by steps (take count earlier ++ map (owned_by run deck) (drop count steps))) ≡ map (owned_by run deck) (drop count steps)
said-later zero run deck steps earlier long = said-own run deck steps
said-later (suc count) run deck [] earlier long = refl
said-later (suc count) run deck (first ∷ steps) [] long = absurd (omega (arith, long))
said-later (suc count) run deck (first ∷ steps) (one ∷ earlier) long = said-later count run deck steps earlier (omega (arith, long))

-- such a job has a step for each of the deck
spliced-there : (count run : ℕ) (deck : Job) (steps : List Step) (earlier : List OwnedStep) → count ≤ length earlier → (place : ℕ) (step : Step) → slice_get steps place ≡ Some step
    → (owned : OwnedStep) × (slice_get (take count earlier ++ map (owned_by run deck) (drop count steps)) place ≡ Some owned)
spliced-there zero run deck steps earlier long place step at = (owned_by run deck step, slice_get-map (owned_by run deck) steps place ∙ ap (option_map (owned_by run deck)) at)
spliced-there (suc count) run deck [] earlier long place step at = absurd (some-not-none step (sym at))
spliced-there (suc count) run deck (first ∷ steps) [] long place step at = absurd (omega (arith, long))
spliced-there (suc count) run deck (first ∷ steps) (one ∷ earlier) long zero step at = (one, refl)
spliced-there (suc count) run deck (first ∷ steps) (one ∷ earlier) long (suc place) step at = spliced-there count run deck steps earlier (omega (arith, long)) place step at

-- ---- names that no owner tells apart

-- the name that an origin gives, unless it has the qualifier of the step's owner
abbrev rooted_name : Origin → Name → Name → Name → Option Name
rooted_name Sysout root step dd = None
rooted_name origin root step dd = origin_name origin root root step dd

rooted-named : (origin : Origin) (root owner step dd name : Name) → rooted_name origin root step dd ≡ Some name → origin_name origin root owner step dd ≡ Some name
rooted-named (InStream cards) root owner step dd name is = is
rooted-named (Named other) root owner step dd name is = is
rooted-named (Temporary other) root owner step dd name is = is
rooted-named Unnamed root owner step dd name is = is
rooted-named Sysout root owner step dd name is = absurd (some-not-none name (sym is))
rooted-named Dummy root owner step dd name is = is

module _ (root : ℕ) (name : Name) where
  -- whether the DD of a step gives the name so
  abbrev is_rooted : Name → Dd → Bool
  is_rooted step dd = option_map_or (same_name name) (rooted_name dd.origin (run_name root) step dd.name) false

  abbrev has_rooted : Step → Bool
  has_rooted step = list_any (is_rooted step.name) step.dds

  -- then it gives it with any owner
  rooted-dd : (owned : OwnedStep) (dd : Dd) → is_rooted owned.step.name dd ≡ true → option_map_or (same_name name) (name_of root owned dd) false ≡ true
  rooted-dd owned dd is = by (rooted_name dd.origin (run_name root) owned.step.name dd.name) refl is
    where
      by : (given : Option Name) → rooted_name dd.origin (run_name root) owned.step.name dd.name ≡ given → option_map_or (same_name name) given false ≡ true
          → option_map_or (same_name name) (name_of root owned dd) false ≡ true
      by None gives is = absurd (false≢true is)
      by (Some other) gives is =
          ap (λ o. option_map_or (same_name name) o false) (rooted-named dd.origin (run_name root) (run_name owned.owner) owned.step.name dd.name other gives) ∙ is

  rooted-dds : (owned : OwnedStep) (dds : List Dd) → list_any (is_rooted owned.step.name) dds ≡ true → list_any (λ dd. option_map_or (same_name name) (name_of root owned dd) false) dds ≡ true
  rooted-dds owned [] is = is
  rooted-dds owned (dd ∷ dds) is =
      or-cases (is_rooted owned.step.name dd) (list_any (is_rooted owned.step.name) dds) is
      (λ here. or_left _ (list_any (λ dd. option_map_or (same_name name) (name_of root owned dd) false) dds) (rooted-dd owned dd here))
      (λ later. or_right (option_map_or (same_name name) (name_of root owned dd) false) _ (rooted-dds owned dds later))

  rooted-step : (owned : OwnedStep) → has_rooted owned.step ≡ true → is_among (names_of root owned) name ≡ true
  rooted-step owned is = any-filter_map (name_of root owned) (same_name name) owned.step.dds ∙ rooted-dds owned owned.step.dds is

  -- so a step of the deck has the name whoever owns it, where the job has a step for it
  rooted-steps : (steps : List Step) (job : List OwnedStep) → ((place : ℕ) (step : Step) → slice_get steps place ≡ Some step → (owned : OwnedStep) × (slice_get job place ≡ Some owned))
      → list_any has_rooted steps ≡ true → is_among (names_of_steps root (said_by steps job)) name ≡ true
  rooted-steps [] job there is = absurd (false≢true is)
  rooted-steps (first ∷ steps) [] there is = let own = there zero first refl in absurd (some-not-none own.0 (sym own.1))
  rooted-steps (first ∷ steps) (own ∷ job) there is =
      let said : OwnedStep = record own { step = first } in
      list_any-append (same_name name) (names_of root said) (names_of_steps root (said_by steps job))
      ∙ or-cases (has_rooted first) (list_any has_rooted steps) is
      (λ here. or_left (is_among (names_of root said) name) _ (rooted-step said here))
      (λ later. or_right (is_among (names_of root said) name) _ (rooted-steps steps job (λ place step at. there (suc place) step at) later))

-- ---- the names that a run holds

module _ (deck : Job) (job : Effective) (name : Name) where
  -- a name of a step as the deck says it
  held-step : is_among (names_of_job (as_submitted deck job)) name ≡ true → is_among (names_held deck job) name ≡ true
  held-step among =
      list_any-append (same_name name) (names_of_job (as_submitted deck job)) (syschk_names deck)
      ∙ or_left (is_among (names_of_job (as_submitted deck job)) name) (is_among (syschk_names deck) name) among

-- a run that continues no other one holds the names of its job
pub plain-held : (run : ℕ) (deck : Job) (name : Name) → is_among (names_of_job (plain_job run deck)) name ≡ true → is_among (names_held deck (plain_job run deck)) name ≡ true
plain-held run deck name among =
    held-step deck (plain_job run deck) name (ap (λ steps. is_among (names_of_steps run steps) name) (said-own run deck deck.steps) ∙ among)

-- A run that continues another one at a step.
module _ (earlier : Effective) (step run : ℕ) (deck : Job) (owned : OwnedStep) (found : step_at earlier step ≡ Some owned) (name : Name) where
  abbrev its_job : Effective
  its_job = spliced earlier step run deck

  long : step ≤ length earlier.steps
  long = by step found
    where
      by : (number : ℕ) → step_at earlier number ≡ Some owned → number ≤ length earlier.steps
      by zero e = absurd (some-not-none owned (sym e))
      by (suc before) e = let inside = get-inside owned earlier.steps before e in omega (arith, inside)

  -- it holds the names of that step, if the deck has the same statements there
  pub step-held : (mine : Step) → slice_get deck.steps (pred step) ≡ Some mine → names_of earlier.root owned ≡ names_of earlier.root (owned_by owned.owner deck mine)
      → is_among (names_of earlier.root owned) name ≡ true → is_among (names_held deck its_job) name ≡ true
  step-held mine its same among =
      held-step deck its_job name
      (among-at (names_of earlier.root) (said_by deck.steps its_job.steps) (pred step) (record owned { step = mine }) name
      (said-at deck.steps its_job.steps (pred step) mine owned its (by step (spliced-here earlier step run deck owned found)))
      (ap (λ names. is_among names name) (sym same) ∙ among))
    where
      by : (number : ℕ) → step_at its_job number ≡ Some owned → slice_get its_job.steps (pred number) ≡ Some owned
      by zero e = absurd (some-not-none owned (sym e))
      by (suc before) e = e

  -- and those of its own later steps
  pub later-held : is_among (names_of_steps earlier.root (map (owned_by run deck) (drop step deck.steps))) name ≡ true → is_among (names_held deck its_job) name ≡ true
  later-held among =
      held-step deck its_job name
      (among-rest (names_of earlier.root) step (said_by deck.steps its_job.steps) name
      (ap (λ steps. is_among (names_of_steps earlier.root steps) name) (said-later step run deck deck.steps earlier.steps long) ∙ among))

  -- and each name that its deck gives to a DD, with whichever owner, unless that goes to SYSOUT
  pub named-held : (owner : ℕ) (its : IsNameOf deck earlier.root owner name) → (its.dd.origin ≡ Sysout → ⊥) → is_among (names_held deck its_job) name ≡ true
  named-held owner its no_sysout =
      held-step deck its_job name
      (rooted-steps earlier.root name deck.steps its_job.steps (spliced-there step run deck deck.steps earlier.steps long)
      (its.in_deck (has_rooted earlier.root name)
      (its.in_step (is_rooted earlier.root name its.step.name)
      (ap (λ o. option_map_or (same_name name) o false) (by its.dd.origin its.named no_sysout) ∙ name-itself name))))
    where
      by : (origin : Origin) → origin_name origin (run_name earlier.root) (run_name owner) its.step.name its.dd.name ≡ Some name → (origin ≡ Sysout → ⊥)
          → rooted_name origin (run_name earlier.root) its.step.name its.dd.name ≡ Some name
      by (InStream cards) gives other = gives
      by (Named given) gives other = gives
      by (Temporary given) gives other = gives
      by Unnamed gives other = gives
      by Sysout gives other = absurd (other refl)
      by Dummy gives other = gives
