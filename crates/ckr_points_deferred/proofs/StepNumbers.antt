-- The number of a step by its name, from one step on.
-- numbered-here          the step of this number has the name
-- numbered-later         it hasn't: the later ones
-- numbered-nowhere       there is no step of this number
-- number-inside          a number of a step is at most the count of the steps
use Rattle.std.proofs.Common.{◌≡◌, ◌≤◌, ◌<◌, ℕ, zero, suc, ◌+◌, Bool, true, false, cond, List, [], ◌∷◌, drop, length, position, slice_get, refl, ap, sym, ◌∙◌, arith, Option, Some, None}
use Rattle.std.specs.List.{position_from}
use Rattle.std.specs.Option.{option_map_or}
use Rattle.std.proofs.lemmas.Iterator.Adapters.{position_from-zero}
use Rattle.ckr_base.proofs.Options.{some-not-none}
use Rattle.ckr_base.proofs.Sequences.{drop-get, get-inside}
use Rattle.ckr_library.specs.NameMaps.{Name}
use Rattle.ckr_meaning.specs.EffectiveJob.{Effective, OwnedStep, step_at}
use Rattle.ckr_points_deferred.specs.Numbers.{has_step_name, number_from}

shifted : {A : Type 0} (test : A → Bool) (before at : ℕ) (items : List A) → option_map_or (λ place. suc (before + place)) (position_from test (at + 1) items) 0 ≡ option_map_or (λ place. suc (suc before + place)) (position_from test at items) 0
shifted test before at [] = refl
shifted test before at (item ∷ items) = by (test item) (shifted test before (at + 1) items)
  where
    by : (b : Bool) → option_map_or (λ place. suc (before + place)) (position_from test (at + 1 + 1) items) 0 ≡ option_map_or (λ place. suc (suc before + place)) (position_from test (at + 1) items) 0
        → option_map_or (λ place. suc (before + place)) (cond b (Some (at + 1)) (position_from test (at + 1 + 1) items)) 0 ≡ option_map_or (λ place. suc (suc before + place)) (cond b (Some at) (position_from test (at + 1) items)) 0
    by true more = omega arith
    by false more = more

beyond : {A : Type 0} (items : List A) (place : ℕ) → slice_get items place ≡ None → drop place items ≡ []
beyond [] zero at = refl
beyond [] (suc place) at = refl
beyond (first ∷ items) zero at = absurd (some-not-none first at)
beyond (first ∷ items) (suc place) at = beyond items place at

module _ (job : Effective) (name : Name) where
  abbrev test : OwnedStep → Bool
  test = has_step_name name

  abbrev placed : ℕ → Option ℕ → ℕ
  placed before found = option_map_or (λ place. suc (before + place)) found 0

  from-here : (before : ℕ) (own : OwnedStep) → slice_get job.steps before ≡ Some own → number_from job name (suc before) ≡ placed before (cond (test own) (Some 0) (position_from test 1 (drop (suc before) job.steps)))
  from-here before own at = ap (placed before) (position_from-zero test (drop before job.steps) ∙ ap (position_from test 0) (drop-get job.steps before own at))

  pub numbered-here : (number : ℕ) (own : OwnedStep) → step_at job number ≡ Some own → has_step_name name own ≡ true → number ≡ number_from job name number
  numbered-here zero own at is = absurd (some-not-none own (sym at))
  numbered-here (suc before) own at is = sym (from-here before own at ∙ ap (λ b. placed before (cond b (Some 0) (position_from test 1 (drop (suc before) job.steps)))) is ∙ omega arith)

  pub numbered-later : (number : ℕ) (own : OwnedStep) → step_at job number ≡ Some own → has_step_name name own ≡ false → number_from job name (number + 1) ≡ number_from job name number
  numbered-later zero own at isnt = absurd (some-not-none own (sym at))
  numbered-later (suc before) own at isnt =
      ap (number_from job name) (one-more before)
      ∙ ap (placed (suc before)) (position_from-zero test (drop (suc before) job.steps))
      ∙ sym (shifted test before 0 (drop (suc before) job.steps))
      ∙ sym (from-here before own at ∙ ap (λ b. placed before (cond b (Some 0) (position_from test 1 (drop (suc before) job.steps)))) isnt)
    where
      one-more : (before : ℕ) → suc before + 1 ≡ suc (suc before)
      one-more before = omega arith

  pub numbered-nowhere : (number : ℕ) → 1 ≤ number → step_at job number ≡ None → 0 ≡ number_from job name number
  numbered-nowhere zero one at = absurd (omega arith)
  numbered-nowhere (suc before) one at = sym (ap (λ steps. placed before (position test steps)) (beyond job.steps before at))

pub number-inside : (job : Effective) (number : ℕ) (own : OwnedStep) → step_at job number ≡ Some own → number ≤ length job.steps
number-inside job zero own at = absurd (some-not-none own (sym at))
number-inside job (suc before) own at = let inside : before < length job.steps = get-inside own job.steps before at in omega arith
