-- The needed names of a deferred restart, by the step and the later ones of the run's own deck.
-- among-filter           among the names that are kept
-- among-steps            among the names of steps of a run
-- among-from             among the names of the step and of the later ones
-- needed-marked          a marked name is needed where it is among the needed names
-- spliced-from           the steps from the restart on
-- needed-spliced         what a continued run goes on with
use Rattle.std.proofs.Common.{◌≡◌, ℕ, zero, suc, pred, Bool, true, false, ◌&&◌, ◌||◌, not, cond, refl, ap, sym, ◌∙◌, List, [], ◌∷◌, ◌++◌, map, filter, drop, take, slice_get, Some}
use Rattle.std.specs.List.{list_any}
use Rattle.std.specs.Option.{is_some}
use Rattle.std.proofs.lemmas.List.Folds.{list_any-append}
use Rattle.std.proofs.lemmas.Option.{same_Some}
use Rattle.ckr_base.proofs.Options.{some-not-none}
use Rattle.ckr_entry.specs.declared.point.Mark.{Mark}
use Rattle.ckr_jcl.specs.declared.deck.Job.{Job}
use Rattle.ckr_jcl.specs.declared.deck.Step.{Step}
use Rattle.ckr_library.specs.NameMaps.{Name, same_name}
use Rattle.ckr_library.proofs.Named.{name-same}
use Rattle.ckr_meaning.specs.EffectiveJob.{Effective, OwnedStep, is_among, names_of, names_of_steps, owned_by, step_at}
use Rattle.ckr_points_library.specs.Holdings.{owned}
use Rattle.ckr_points.specs.declared.needed.Needed.{Needed}
use Rattle.ckr_points.specs.Marks.{mark_at, sysout_names}
use Rattle.ckr_points.specs.Needed.{IsNeededBy, first_step, is_needed, needed_at, steps_from}
use Rattle.ckr_points.specs.Restart.{needed_names, spliced}

-- ---- names

pub among-filter : (kept : Name → Bool) (names : List Name) (name : Name) → is_among (filter kept names) name ≡ (kept name && is_among names name)
among-filter kept [] name = none (kept name)
  where
    none : (b : Bool) → false ≡ (b && false)
    none true = refl
    none false = refl
among-filter kept (other ∷ names) name = by (kept other) (same_name name other) refl refl (among-filter kept names name)
  where
    by : (passes same : Bool) → kept other ≡ passes → same_name name other ≡ same → is_among (filter kept names) name ≡ (kept name && is_among names name)
        → is_among (cond passes (other ∷ filter kept names) (filter kept names)) name ≡ (kept name && (same || is_among names name))
    by true true passes same more = ap (λ b. b || is_among (filter kept names) name) same ∙ sym (ap (λ b. b && true) (ap kept (name-same name other same) ∙ passes))
    by true false passes same more = ap (λ b. b || is_among (filter kept names) name) same ∙ more
    by false true passes same more = more ∙ ap (λ b. b && is_among names name) (ap kept (name-same name other same) ∙ passes) ∙ sym (ap (λ b. b && true) (ap kept (name-same name other same) ∙ passes))
    by false false passes same more = more

pub among-steps : (root run : ℕ) (steps : List Step) (name : Name) → list_any (λ (step : Step). is_among (names_of root (owned step run [])) name) steps ≡ is_among (names_of_steps root (map (λ step. owned step run []) steps)) name
among-steps root run [] name = refl
among-steps root run (step ∷ steps) name =
    ap (λ b. is_among (names_of root (owned step run [])) name || b) (among-steps root run steps name)
    ∙ sym (list_any-append (same_name name) (names_of root (owned step run [])) (names_of_steps root (map (λ one. owned one run []) steps)))

-- a name of the step, or of a later one
pub among-from : (needed : Needed) (name : Name) → (is_among (names_of needed.root (first_step needed)) name || list_any (λ (step : Step). is_among (names_of needed.root (owned step needed.run [])) name) needed.later.now) ≡ is_among (names_of_steps needed.root (steps_from needed)) name
among-from needed name =
    ap (λ b. is_among (names_of needed.root (first_step needed)) name || b) (among-steps needed.root needed.run needed.later.now name)
    ∙ sym (list_any-append (same_name name) (names_of needed.root (first_step needed)) (names_of_steps needed.root (map (λ step. owned step needed.run []) needed.later.now)))

-- ---- a job that goes on so

-- the tests of the steps don't matter
names-later : (root run : ℕ) (deck : Job) (steps : List Step) → names_of_steps root (map (owned_by run deck) steps) ≡ names_of_steps root (map (λ step. owned step run []) steps)
names-later root run deck [] = refl
names-later root run deck (step ∷ steps) = ap (λ rest. names_of root (owned step run []) ++ rest) (names-later root run deck steps)

-- what depends on the root, and on a step and its owner alone
from-step : {A : Type 0} (of : ℕ → OwnedStep → A) → ((root : ℕ) (own : OwnedStep) → of root own ≡ of root (owned own.step own.owner [])) → (needed : Needed) (job : Effective) (step : ℕ) (own : OwnedStep) (deck : Job) → IsNeededBy needed job step own deck → of job.root own ≡ of needed.root (first_step needed)
from-step of plain needed job step own deck is =
    plain job.root own
    ∙ ap (λ root. of root (owned own.step own.owner [])) is.root
    ∙ ap (λ one. of needed.root (owned one own.owner [])) is.first
    ∙ ap (λ owner. of needed.root (owned needed.first.now owner [])) is.owner

names-from : (needed : Needed) (job : Effective) (step : ℕ) (own : OwnedStep) (deck : Job) → IsNeededBy needed job step own deck → names_of_steps job.root (drop (pred step) job.steps) ≡ names_of_steps needed.root (steps_from needed)
names-from needed job step own deck is =
    ap (names_of_steps job.root) is.steps
    ∙ ap (λ names. names ++ names_of_steps job.root (map (owned_by needed.run deck) needed.later.now)) (from-step names_of (λ root one. refl) needed job step own deck is)
    ∙ ap (λ root. names_of needed.root (first_step needed) ++ names_of_steps root (map (owned_by needed.run deck) needed.later.now)) is.root
    ∙ ap (λ names. names_of needed.root (first_step needed) ++ names) (names-later needed.root needed.run deck needed.later.now)

-- a marked name among the needed names is one of the steps from there on
marked-needed : (job : Effective) (step : ℕ) (marks : List Mark) (name : Name) → is_some (mark_at marks name) ≡ true → is_among (needed_names job step marks) name ≡ is_among (names_of_steps job.root (drop (pred step) job.steps)) name
marked-needed job step marks name marked =
    among-filter (λ one. is_some (mark_at marks one)) (names_of_steps job.root (drop (pred step) job.steps)) name
    ∙ ap (λ b. b && is_among (names_of_steps job.root (drop (pred step) job.steps)) name) marked

pub needed-marked : (needed : Needed) (job : Effective) (step : ℕ) (own : OwnedStep) (deck : Job) (marks : List Mark) (name : Name) → IsNeededBy needed job step own deck → is_some (mark_at marks name) ≡ true → is_needed needed name ≡ is_among (needed_at needed.at_start job step own marks) name
needed-marked needed job step own deck marks name is marked = by needed.at_start
  where
    all : is_among (names_of_steps needed.root (steps_from needed)) name ≡ is_among (needed_names job step marks) name
    all = ap (λ names. is_among names name) (sym (names-from needed job step own deck is)) ∙ sym (marked-needed job step marks name marked)

    by : (at_start : Bool) → (not (at_start && is_among (sysout_names needed.root (first_step needed)) name) && is_among (names_of_steps needed.root (steps_from needed)) name) ≡ is_among (needed_at at_start job step own marks) name
    by false = all
    by true =
        ap (λ names. not (is_among names name) && is_among (names_of_steps needed.root (steps_from needed)) name) (sym (from-step sysout_names (λ root one. refl) needed job step own deck is))
        ∙ ap (λ b. not (is_among (sysout_names job.root own) name) && b) all
        ∙ sym (among-filter (λ one. not (is_among (sysout_names job.root own) one)) (needed_names job step marks) name)

-- ---- a run that is continued

next-from : {A : Type 0} (count : ℕ) (items more : List A) (item : A) → slice_get items count ≡ Some item → drop count (take (suc count) items ++ more) ≡ item ∷ more
next-from count [] more item at = absurd (some-not-none item (sym at))
next-from zero (first ∷ items) more item at = ap (λ one. one ∷ more) (same_Some first item at)
next-from (suc count) (first ∷ items) more item at = next-from count items more item at

pub spliced-from : (earlier : Effective) (step run : ℕ) (deck : Job) (own : OwnedStep) → step_at earlier step ≡ Some own → drop (pred step) (spliced earlier step run deck).steps ≡ own ∷ map (owned_by run deck) (drop step deck.steps)
spliced-from earlier zero run deck own at = absurd (some-not-none own (sym at))
spliced-from earlier (suc before) run deck own at = next-from before earlier.steps (map (owned_by run deck) (drop (suc before) deck.steps)) own at

pub needed-spliced : (needed : Needed) (earlier : Effective) (step : ℕ) (deck : Job) (own : OwnedStep) → step_at earlier step ≡ Some own → earlier.root ≡ needed.root → own.step ≡ needed.first.now → own.owner ≡ needed.owner → drop step deck.steps ≡ needed.later.now → IsNeededBy needed (spliced earlier step needed.run deck) step own deck
needed-spliced needed earlier step deck own at root first owner later = record {
  root = root;
  first = first;
  owner = owner;
  steps = spliced-from earlier step needed.run deck own at ∙ ap (λ steps. own ∷ map (owned_by needed.run deck) steps) later;
}
