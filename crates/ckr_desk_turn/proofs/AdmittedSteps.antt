-- The steps of a run's job are steps of accepted decks, at their numbers: those of its own deck, and those that it has taken over.
use Rattle.std.proofs.Common.{◌≡◌, ◌≤◌, ◌<◌, ℕ, zero, suc, pred, true, false, List, [], ◌∷◌, ◌++◌, map, take, drop, length, slice_get, refl, ap, sym, ◌∙◌, subst, Some, Ok, arith}
use Rattle.std.specs.List.{AllByRecursion, list_all}
use Rattle.std.proofs.lemmas.List.{length-map}
use Rattle.std.proofs.lemmas.Option.{slice_get-map}
use Rattle.std.proofs.lemmas.Slice.Eq.{bytes_eq-Decides}
use Rattle.ckr_base.proofs.Bools.{and-first}
use Rattle.ckr_base.proofs.Numbers.{number-cases}
use Rattle.ckr_base.proofs.Options.{option_map-some, some-not-none, some-one}
use Rattle.ckr_base.proofs.Sequences.{each-by_place, each-get, get-inside}
use Rattle.ckr_jcl.specs.declared.deck.Job.{Job}
use Rattle.ckr_jcl.specs.declared.deck.Step.{Step}
use Rattle.ckr_jcl_decks.specs.Deck.{stored_deck}
use Rattle.ckr_meaning.specs.EffectiveJob.{Effective, OwnedStep, name_of, owned_by, plain_job, step_at}
use Rattle.ckr_meaning.specs.JobRun.{StepCodes, is_bypassed}
use Rattle.ckr_desk_turn.proofs.Decks.DeckLimits.{few_steps, steps_within}
use Rattle.ckr_desk_turn.specs.DeckLimits.{HasCheckParts, IsWithinLimits}
use Rattle.ckr_points_invariant.proofs.Select.Invariant.{owns_step}
use Rattle.ckr_points_library.specs.AllocationSteps.{fits_named}
use Rattle.ckr_points.specs.Restart.{spliced}
use Rattle.ckr_points.specs.Rows.{RunRow}
use Rattle.ckr_points.specs.Statements.{same_bytes, same_statements}
use Rattle.ckr_points.specs.Tables.{queued_run}
use Rattle.ckr_desk_turn.specs.Invariant.{HasStepName, IsAdmitted, IsAdmittedStep}
use Rattle.ckr_desk_turn.proofs.Start.Decks.{IsOfDeck, check-parts, fits-allocation, never-bypassed, of-deck}

-- the same bytes are equal
pub bytes-same : (one other : List ℕ) → same_bytes one other ≡ true → one ≡ other
bytes-same one other = (bytes_eq-Decides one other).0

-- ---- the steps of a deck

pub own-step : (cards : List ℕ) (run : ℕ) (deck : Job) → stored_deck cards ≡ Ok deck → (number : ℕ) (owned : OwnedStep) → step_at (plain_job run deck) number ≡ Some owned → IsAdmittedStep number owned
own-step cards run deck accepted number owned found = record {
  cards = cards;
  deck = deck;
  accepted = accepted;
  owned_so = ap (λ owner. step_at (plain_job owner deck) number) (owns_step run deck number owned found) ∙ found;
}

own-named : (run : ℕ) (deck : Job) (number : ℕ) (owned : OwnedStep) → step_at (plain_job run deck) number ≡ Some owned → HasStepName deck number owned.step.name
own-named run deck zero owned found = absurd (some-not-none owned (sym found))
own-named run deck (suc before) owned found =
    let its = option_map-some (owned_by run deck) (slice_get deck.steps before) owned (sym (slice_get-map (owned_by run deck) deck.steps before) ∙ found) in
    (its.0, its.1, ap (λ (one : OwnedStep). one.step.name) its.2)

-- a run that is submitted
pub queued-admitted : (cards : List ℕ) (run : ℕ) (deck : Job) → stored_deck cards ≡ Ok deck → IsAdmitted (queued_run run deck)
queued-admitted cards run deck accepted = record {
  cards = cards;
  accepted = accepted;
  steps = own-step cards run deck accepted;
  named = λ number owned from found. own-named run deck number owned found;
  lodged = refl;
}

-- ---- the steps of a run that continues another one

-- steps with the same statements have one name
pub same-name : (one other : Step) → same_statements one other ≡ true → one.name ≡ other.name
same-name one other same = bytes-same one.name other.name (and-first _ _ (and-first _ _ (and-first _ _ (and-first _ _ same))))

drop-none : {A : Type 0} (count : ℕ) → drop {A = A} count [] ≡ []
drop-none zero = refl
drop-none (suc count) = refl

-- what stands behind a front stands there in what the rest was dropped from
front-or-rest : {A B C : Type 0} (change : B → A) (count place : ℕ) (items : List A) (others : List B) (item : A) → count ≤ length items → slice_get (take count items ++ map change (drop count others)) place ≡ Some item
    → (slice_get items place ≡ Some item → C) → (slice_get (map change others) place ≡ Some item → C) → C
front-or-rest change zero place items others item long found front rest = rest found
front-or-rest change (suc count) place [] others item long found front rest = absurd (omega (arith, long))
front-or-rest change (suc count) zero (first ∷ items) others item long found front rest = front found
front-or-rest change (suc count) (suc place) (first ∷ items) [] item long found front rest =
    front-or-rest change count place items [] item (omega (arith, long))
    (ap (λ behind. slice_get (take count items ++ map change behind) place) (drop-none count) ∙ found) front (λ at. absurd (some-not-none item (sym at)))
front-or-rest change (suc count) (suc place) (first ∷ items) (other ∷ others) item long found front rest = front-or-rest change count place items others item (omega (arith, long)) found front rest

-- each step of its job is one of the earlier job, or one of its own deck
pub spliced-steps : (cards : List ℕ) (run : ℕ) (deck : Job) → stored_deck cards ≡ Ok deck → (earlier : Effective) (step : ℕ) (last : OwnedStep) → step_at earlier step ≡ Some last
    → ((number : ℕ) (owned : OwnedStep) → step_at earlier number ≡ Some owned → IsAdmittedStep number owned)
    → (number : ℕ) (owned : OwnedStep) → step_at (spliced earlier step run deck) number ≡ Some owned → IsAdmittedStep number owned
spliced-steps cards run deck accepted earlier zero last there each number owned found = absurd (some-not-none last (sym there))
spliced-steps cards run deck accepted earlier (suc step) last there each zero owned found = absurd (some-not-none owned (sym found))
spliced-steps cards run deck accepted earlier (suc step) last there each (suc before) owned found =
    front-or-rest (owned_by run deck) (suc step) before earlier.steps deck.steps owned (let inside = get-inside last earlier.steps step there in omega (arith, inside)) found
    (each (suc before) owned) (own-step cards run deck accepted (suc before) owned)

-- what stands in a front stands at its place
front-get : {A : Type 0} (count place : ℕ) (items others : List A) (item : A) → place < count → slice_get items place ≡ Some item → slice_get (take count items ++ others) place ≡ Some item
front-get zero place items others item before found = absurd (omega (arith, before))
front-get (suc count) place [] others item before found = absurd (some-not-none item (sym found))
front-get (suc count) zero (first ∷ rest) others item before found = found
front-get (suc count) (suc place) (first ∷ rest) others item before found = front-get count place rest others item (omega (arith, before)) found

-- what stands behind it, in what the rest was dropped from
rest-get : {A B : Type 0} (change : B → A) (count place : ℕ) (items : List A) (others : List B) → count ≤ length items → count ≤ place → slice_get (take count items ++ map change (drop count others)) place ≡ slice_get (map change others) place
rest-get change zero place items others long behind = refl
rest-get change (suc count) zero items others long behind = absurd (omega (arith, behind))
rest-get change (suc count) (suc place) [] others long behind = absurd (omega (arith, long))
rest-get change (suc count) (suc place) (first ∷ items) [] long behind =
    ap (λ rest. slice_get (take count items ++ map change rest) place) (sym (drop-none count)) ∙ rest-get change count place items [] (omega (arith, long)) (omega (arith, behind))
rest-get change (suc count) (suc place) (first ∷ items) (other ∷ others) long behind = rest-get change count place items others (omega (arith, long)) (omega (arith, behind))

-- the step at which it goes on is the earlier run's
pub spliced-here : (earlier : Effective) (step run : ℕ) (deck : Job) (owned : OwnedStep) → step_at earlier step ≡ Some owned → step_at (spliced earlier step run deck) step ≡ Some owned
spliced-here earlier zero run deck owned found = found
spliced-here earlier (suc before) run deck owned found = front-get (suc before) before earlier.steps _ owned (omega arith) found

-- it has the name of that step in its deck, and the later ones are those of its deck
pub spliced-named : (run : ℕ) (deck : Job) (earlier : Effective) (step : ℕ) (last : OwnedStep) (mine : Step) → step_at earlier step ≡ Some last → slice_get deck.steps (pred step) ≡ Some mine → same_statements last.step mine ≡ true
    → (number : ℕ) (owned : OwnedStep) → step ≤ number → step_at (spliced earlier step run deck) number ≡ Some owned → HasStepName deck number owned.step.name
spliced-named run deck earlier zero last mine there its same number owned from found = absurd (some-not-none last (sym there))
spliced-named run deck earlier (suc step) last mine there its same zero owned from found = absurd (some-not-none owned (sym found))
spliced-named run deck earlier (suc step) last mine there its same (suc before) owned from found =
    number-cases before step
    (λ here.
    let is : last ≡ owned = some-one last owned (step_at (spliced earlier (suc step) run deck) (suc step)) (spliced-here earlier (suc step) run deck last there) (ap (λ n. step_at (spliced earlier (suc step) run deck) (suc n)) (sym here) ∙ found) in
    (mine, ap (slice_get deck.steps) here ∙ its, sym (same-name last.step mine same) ∙ ap (λ (one : OwnedStep). one.step.name) is))
    (λ apart.
    own-named run deck (suc before) owned
    (sym (rest-get (owned_by run deck) (suc step) before earlier.steps deck.steps (let inside = get-inside last earlier.steps step there in omega (arith, inside)) (omega (arith, from, apart))) ∙ found))

-- ---- what an accepted deck gives to its step

module _ (number : ℕ) (owned : OwnedStep) (its : IsAdmittedStep number owned) where
  -- no return code bypasses it
  pub admitted-runs : (rcs : StepCodes) → is_bypassed rcs owned ≡ false
  admitted-runs rcs = never-bypassed its.cards owned.owner its.deck number owned rcs its.accepted its.owned_so

  -- its DDs are such as allocation needs them
  pub admitted-fits : (root : ℕ) → list_all (fits_named (name_of root owned)) owned.step.dds ≡ true
  admitted-fits root = fits-allocation its.cards owned.owner its.deck number owned root its.accepted its.owned_so

  -- its checkpoints have what they are taken by
  pub admitted-parts : HasCheckParts owned.step
  admitted-parts = check-parts its.cards owned.owner its.deck number owned its.accepted its.owned_so

  -- it has at most 16 DDs, and no deck has more than 64 steps
  pub admitted-few : length owned.step.dds ≤ 16
  admitted-few =
      let from : IsOfDeck owned.owner its.deck owned = of-deck owned.owner its.deck number owned its.owned_so in
      subst (λ (one : OwnedStep). length one.step.dds ≤ 16) from.is (each-get IsWithinLimits its.deck.steps from.place from.step (steps_within its.cards its.deck its.accepted) from.at).few_dds

pub admitted-early : (number : ℕ) (owned : OwnedStep) → IsAdmittedStep number owned → number ≤ 64
admitted-early zero owned its = omega arith
admitted-early (suc before) owned its =
    let inside = get-inside owned (map (owned_by owned.owner its.deck) its.deck.steps) before its.owned_so in
    omega (arith, inside, length-map its.deck.steps (owned_by owned.owner its.deck), few_steps its.cards its.deck its.accepted)

-- ---- all steps of a job

few-places : {A : Type 0} (items : List A) (most : ℕ) → ((place : ℕ) (item : A) → slice_get items place ≡ Some item → place < most) → length items ≤ most
few-places [] most each = omega arith
few-places (first ∷ rest) zero each = absurd (let none = each 0 first refl in omega (arith, none))
few-places (first ∷ rest) (suc most) each =
    let few = few-places rest most (λ place item at. let less = each (suc place) item at in omega (arith, less)) in
    omega (arith, few)

pub job-few : (row : RunRow) → IsAdmitted row → length row.job.steps ≤ 64
job-few row was =
    few-places row.job.steps 64 (λ place owned at. let early = admitted-early (suc place) owned (was.steps (suc place) owned at) in omega (arith, early))

pub steps-few : (row : RunRow) → IsAdmitted row → AllByRecursion (λ (owned : OwnedStep). length owned.step.dds ≤ 16) row.job.steps
steps-few row was = each-by_place (λ (owned : OwnedStep). length owned.step.dds ≤ 16) row.job.steps (λ place owned at. admitted-few (suc place) owned (was.steps (suc place) owned at))
