-- Where a job ends is one of its places.
use Rattle.std.proofs.Common.{◌≡◌, ◌≤◌, ℕ, suc, ◌+◌, Bool, true, false, not, ◌&&◌, List, [], ◌∷◌, ◌++◌, take, length, Option, Some, None, refl, ap, sym, ◌∙◌, arith, append_assoc, length-append}
use Rattle.std.specs.Prelude.{slice_get, nat_le}
use Rattle.std.specs.Option.{option_map, option_map_or}
use Rattle.std.proofs.lemmas.Bool.Decides.{nat_tests}
use Rattle.std.proofs.lemmas.Bool.{and_from}
use Rattle.std.proofs.lemmas.Option.{same_Some}
use Rattle.std.proofs.Math.Seq.{take-append_seam}
use Rattle.ckr_base.specs.declared.programs.Finish.TheVariants.{Returned, Abend}
use Rattle.ckr_base.proofs.Options.{some-not-none}
use Rattle.ckr_meaning.specs.declared.place.Place.{Place}
use Rattle.ckr_meaning.specs.declared.place.Place.TheVariants.{Before, Within}
use Rattle.ckr_meaning.specs.LibrarySet.{Library}
use Rattle.ckr_meaning.specs.EffectiveJob.{OwnedStep, Effective}
use Rattle.ckr_meaning.specs.StepRun.{StepEnd, not_started, ended, work_at, end_at}
use Rattle.ckr_meaning.specs.JobRun.{Walk, start_in, walked_one, walked, walk_from, walk_before, start_at, is_bypassed, place_of_end, end_unless, end_in, end_from, end_of_job, all_go_on, is_reached, is_within, is_open_place, is_place}
use Rattle.ckr_meaning.proofs.Walks.{walked-append}

get-behind : {A : Type 0} (front : List A) (x : A) (rest : List A) → slice_get (front ++ x ∷ rest) (length front) ≡ Some x
get-behind [] x rest = refl
get-behind (y ∷ front) x rest = get-behind front x rest

abbrev pub end_or : Option Place → Place → Place
end_or None place = place
end_or (Some first) place = first

pub end_from-step : (root number : ℕ) (owned : OwnedStep) (rest : List OwnedStep) (walk : Walk) → end_from root number (owned ∷ rest) walk ≡ end_or (end_in root number owned walk) (end_from root (suc number) rest (walked_one root number owned walk))
end_from-step root number owned rest walk =
    elim (end_in root number owned walk) as
    (λ place. elim place [ Some first ↦ first | None ↦ end_from root (suc number) rest (walked_one root number owned walk) ] ≡ end_or place (end_from root (suc number) rest (walked_one root number owned walk))) [
      | None ↦ refl
      | Some place ↦ refl
    ]

abbrev pub go_on_unless : Option Place → Bool → Bool
go_on_unless (Some place) others = false
go_on_unless None others = others

pub all_go_on-step : (root number : ℕ) (owned : OwnedStep) (rest : List OwnedStep) (walk : Walk) → all_go_on root number (owned ∷ rest) walk ≡ go_on_unless (end_in root number owned walk) (all_go_on root (suc number) rest (walked_one root number owned walk))
all_go_on-step root number owned rest walk =
    elim (end_in root number owned walk) as
    (λ place. elim place [ Some first ↦ false | None ↦ all_go_on root (suc number) rest (walked_one root number owned walk) ] ≡ go_on_unless place (all_go_on root (suc number) rest (walked_one root number owned walk))) [
      | None ↦ refl
      | Some place ↦ refl
    ]

-- steps go on, and one more
pub all_go_on-more : (root number : ℕ) (front : List OwnedStep) (owned : OwnedStep) (walk : Walk) → all_go_on root number front walk ≡ true → end_in root (number + length front) owned (walked root number front walk) ≡ None → all_go_on root number (front ++ owned ∷ []) walk ≡ true
all_go_on-more root number [] owned walk go none =
    all_go_on-step root number owned [] walk
    ∙ ap (λ place. go_on_unless place true) (ap (λ n. end_in root n owned walk) (let e : number ≡ number + 0 = omega arith in e) ∙ none)
all_go_on-more root number (first ∷ front) owned walk go none =
    all_go_on-step root number first (front ++ owned ∷ []) walk
    ∙ by (end_in root number first walk) (sym (all_go_on-step root number first front walk) ∙ go)
    (λ others. all_go_on-more root (suc number) front owned (walked_one root number first walk) others
    (ap (λ n. end_in root n owned (walked root (suc number) front (walked_one root number first walk))) (let e : suc number + length front ≡ number + suc (length front) = omega arith in e) ∙ none))
  where
    by : (place : Option Place) → go_on_unless place (all_go_on root (suc number) front (walked_one root number first walk)) ≡ true → (all_go_on root (suc number) front (walked_one root number first walk) ≡ true → all_go_on root (suc number) (front ++ owned ∷ []) (walked_one root number first walk) ≡ true) → go_on_unless place (all_go_on root (suc number) (front ++ owned ∷ []) (walked_one root number first walk)) ≡ true
    by (Some place) go rest = go
    by None go rest = rest go

from_one : (count : ℕ) → nat_le 1 (suc count) ≡ true
from_one count = grind (arith, nat_tests)

up_to : (count all : ℕ) → count ≤ all → nat_le (suc count) (all + 1) ≡ true
up_to count all within = grind (arith, nat_tests)

all_of_them : (count : ℕ) → nat_le count count ≡ true
all_of_them count = grind (arith, nat_tests)

module _ (job : Effective) (library : Library) where
  abbrev behind : List OwnedStep → Walk
  behind front = walked job.root 1 front (walk_from library)

  abbrev Goes : List OwnedStep → Type 0
  Goes front = all_go_on job.root 1 front (walk_from library) ≡ true

  front_of : (front rest : List OwnedStep) → job.steps ≡ front ++ rest → take (length front) job.steps ≡ front
  front_of front rest e = ap (take (length front)) e ∙ take-append_seam front rest

  no_longer : (front rest : List OwnedStep) → job.steps ≡ front ++ rest → length front ≤ length job.steps
  no_longer front rest e =
      let all : length job.steps ≡ length front + length rest = ap length e ∙ length-append front rest in omega (arith, all)

  -- the step behind steps that go on is reached
  reached_behind : (front rest : List OwnedStep) → job.steps ≡ front ++ rest → Goes front → is_reached job library (suc (length front)) ≡ true
  unfolding is_reached
  reached_behind front rest e goes =
      and_from (nat_le 1 (suc (length front)) && nat_le (suc (length front)) (length job.steps + 1)) (all_go_on job.root 1 (take (length front) job.steps) (walk_from library))
      (and_from (nat_le 1 (suc (length front))) _ (from_one (length front)) (up_to (length front) (length job.steps) (no_longer front rest e)))
      (ap (λ steps. all_go_on job.root 1 steps (walk_from library)) (front_of front rest e) ∙ goes)

  walk_before-is : (front rest : List OwnedStep) → job.steps ≡ front ++ rest → walk_before job library (suc (length front)) ≡ behind front
  unfolding walk_before
  walk_before-is front rest e = ap behind (front_of front rest e)

  start_at-is : (front : List OwnedStep) (owned : OwnedStep) (rest : List OwnedStep) → job.steps ≡ front ++ owned ∷ rest → start_at job library (suc (length front)) ≡ Some (start_in job.root (suc (length front)) owned (behind front))
  unfolding start_at
  start_at-is front owned rest e =
      ap (option_map (λ one. start_in job.root (suc (length front)) one (walk_before job library (suc (length front))))) (ap (λ steps. slice_get steps (length front)) e ∙ get-behind front owned rest)
      ∙ ap (λ walk. Some (start_in job.root (suc (length front)) owned walk)) (walk_before-is front (owned ∷ rest) e)

  open_behind : (front : List OwnedStep) (owned : OwnedStep) (rest : List OwnedStep) (writes : ℕ) → job.steps ≡ front ++ owned ∷ rest → is_open_place job library (suc (length front)) writes ≡ is_within (behind front).rcs writes (start_in job.root (suc (length front)) owned (behind front))
  open_behind front owned rest writes e =
      ap (λ start. option_map_or (is_within (walk_before job library (suc (length front))).rcs writes) start false) (start_at-is front owned rest e)
      ∙ ap (λ (walk : Walk). is_within walk.rcs writes (start_in job.root (suc (length front)) owned (behind front))) (walk_before-is front (owned ∷ rest) e)

  -- an end in a step is a place
  end_in-place : (front : List OwnedStep) (owned : OwnedStep) (rest : List OwnedStep) (place : Place) → job.steps ≡ front ++ owned ∷ rest → Goes front → end_in job.root (suc (length front)) owned (behind front) ≡ Some place → is_place job library place ≡ true
  unfolding end_in is_place
  end_in-place front owned rest place e goes ends = by (is_bypassed (behind front).rcs owned) refl ends
    where
      by_end : is_bypassed (behind front).rcs owned ≡ false → (end : StepEnd) → place_of_end (suc (length front)) (work_at (start_in job.root (suc (length front)) owned (behind front))) end ≡ Some place → is_place job library place ≡ true
      by_end how (not_started cause) ends =
          ap (is_place job library) (sym (same_Some (Before (suc (length front))) place ends)) ∙ reached_behind front (owned ∷ rest) e goes
      by_end how (ended (Returned rc)) ends = absurd (some-not-none place (sym ends))
      by_end how (ended (Abend code)) ends =
          ap (is_place job library) (sym (same_Some (Within (suc (length front)) (length (work_at (start_in job.root (suc (length front)) owned (behind front))).writes)) place ends))
          ∙ and_from _ _ (reached_behind front (owned ∷ rest) e goes)
          (open_behind front owned rest (length (work_at (start_in job.root (suc (length front)) owned (behind front))).writes) e
          ∙ and_from (not (is_bypassed (behind front).rcs owned)) _ (ap not how) (all_of_them (length (work_at (start_in job.root (suc (length front)) owned (behind front))).writes)))

      by : (bypassed : Bool) → is_bypassed (behind front).rcs owned ≡ bypassed → end_unless bypassed (start_in job.root (suc (length front)) owned (behind front)) ≡ Some place → is_place job library place ≡ true
      by true how ends = absurd (some-not-none place (sym ends))
      by false how ends = by_end how (end_at (start_in job.root (suc (length front)) owned (behind front))) ends

  grown : (front : List OwnedStep) (owned : OwnedStep) (rest : List OwnedStep) → job.steps ≡ front ++ owned ∷ rest → job.steps ≡ (front ++ owned ∷ []) ++ rest
  grown front owned rest e = e ∙ sym (append_assoc front (owned ∷ []) rest)

  longer : (front : List OwnedStep) (owned : OwnedStep) → suc (length (front ++ owned ∷ [])) ≡ suc (suc (length front))
  longer front owned = let more : length (front ++ owned ∷ []) ≡ length front + 1 = length-append front (owned ∷ []) in omega (arith, more)

  one_behind : (front : List OwnedStep) (owned : OwnedStep) → behind (front ++ owned ∷ []) ≡ walked_one job.root (suc (length front)) owned (behind front)
  one_behind front owned =
      walked-append job.root 1 front (owned ∷ []) (walk_from library)
      ∙ ap (λ number. walked_one job.root number owned (behind front)) (let e : 1 + length front ≡ suc (length front) = omega arith in e)

  goes_one_more : (front : List OwnedStep) (owned : OwnedStep) → Goes front → end_in job.root (suc (length front)) owned (behind front) ≡ None → Goes (front ++ owned ∷ [])
  goes_one_more front owned goes none =
      all_go_on-more job.root 1 front owned (walk_from library) goes
      (ap (λ number. end_in job.root number owned (behind front)) (let e : 1 + length front ≡ suc (length front) = omega arith in e) ∙ none)

  end_from-place : (rest front : List OwnedStep) → job.steps ≡ front ++ rest → Goes front → is_place job library (end_from job.root (suc (length front)) rest (behind front)) ≡ true
  unfolding is_place
  end_from-place [] front e goes = reached_behind front [] e goes
  end_from-place (owned ∷ rest) front e goes =
      ap (is_place job library) (end_from-step job.root (suc (length front)) owned rest (behind front))
      ∙ by (end_in job.root (suc (length front)) owned (behind front)) refl
      (λ none. ap (λ place. is_place job library place) (sym (ap (λ walk. end_from job.root (suc (length (front ++ owned ∷ []))) rest walk) (one_behind front owned) ∙ ap (λ number. end_from job.root number rest (walked_one job.root (suc (length front)) owned (behind front))) (longer front owned)))
      ∙ end_from-place rest (front ++ owned ∷ []) (grown front owned rest e) (goes_one_more front owned goes none))
    where
      by : (place : Option Place) → end_in job.root (suc (length front)) owned (behind front) ≡ place → (end_in job.root (suc (length front)) owned (behind front) ≡ None → is_place job library (end_from job.root (suc (suc (length front))) rest (walked_one job.root (suc (length front)) owned (behind front))) ≡ true) → is_place job library (end_or place (end_from job.root (suc (suc (length front))) rest (walked_one job.root (suc (length front)) owned (behind front)))) ≡ true
      by None none more = more none
      by (Some place) ends more = end_in-place front owned rest place e goes ends

pub is_place-end_of_job : (job : Effective) (library : Library) → is_place job library (end_of_job job library) ≡ true
unfolding end_of_job
is_place-end_of_job job library = end_from-place job library job.steps [] refl refl
