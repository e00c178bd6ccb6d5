-- A run that continues another one is within the limits, and has a MASTER in each step that needs one, as both runs are.
use Rattle.std.proofs.Common.{◌≡◌, ℕ, zero, suc, ◌≤◌, Bool, true, nat_le, List, [], ◌∷◌, ◌++◌, map, take, drop, length, length-append, refl, sym, arith, Some}
use Rattle.std.specs.List.{list_all}
use Rattle.std.proofs.lemmas.Bool.{and_from}
use Rattle.std.proofs.lemmas.Bool.Decides.{nat_tests}
use Rattle.std.proofs.lemmas.List.{length-drop, length-map, length-take}
use Rattle.std.proofs.lemmas.Option.{slice_get_within}
use Rattle.ckr_base.proofs.Bools.{and-first, and-second}
use Rattle.ckr_base.proofs.Numbers.{nat_le-true}
use Rattle.ckr_base.proofs.Options.{some-not-none}
use Rattle.ckr_jcl.specs.declared.deck.Job.{Job}
use Rattle.ckr_jcl.specs.declared.deck.Step.{Step}
use Rattle.ckr_meaning.specs.EffectiveJob.{HasDistinctNames, OwnedStep, names_of, owned_by, step_at}
use Rattle.ckr_uses.specs.Uses.{are_distinct}
use Rattle.ckr_points_runs.specs.Rewrite.{has_master}
use Rattle.ckr_points_runs.specs.RunJobs.{IsFitting, JobView, continued_view, effective, has_few_dds, is_fitting_step, is_within_limits}

-- ---- of some of the items

all-front : {A : Type 0} (test : A → Bool) (items : List A) (count : ℕ) → list_all test items ≡ true → list_all test (take count items) ≡ true
all-front test items zero all = refl
all-front test [] (suc count) all = refl
all-front test (item ∷ items) (suc count) all = and_from _ _ (and-first (test item) _ all) (all-front test items count (and-second (test item) _ all))

all-behind : {A : Type 0} (test : A → Bool) (items : List A) (count : ℕ) → list_all test items ≡ true → list_all test (drop count items) ≡ true
all-behind test items zero all = all
all-behind test [] (suc count) all = refl
all-behind test (item ∷ items) (suc count) all = all-behind test items count (and-second (test item) _ all)

-- a test of each step of a run is one of each step of its deck
all-owned : (test : OwnedStep → Bool) (run : ℕ) (deck : Job) (steps : List Step) → list_all (λ step. test (owned_by run deck step)) steps ≡ true → list_all test (map (owned_by run deck) steps) ≡ true
all-owned test run deck [] all = refl
all-owned test run deck (step ∷ steps) all = and_from _ _ (and-first (test (owned_by run deck step)) _ all) (all-owned test run deck steps (and-second (test (owned_by run deck step)) _ all))

all-joined : {A : Type 0} (test : A → Bool) (first second : List A) → list_all test first ≡ true → list_all test second ≡ true → list_all test (first ++ second) ≡ true
all-joined test [] second one two = two
all-joined test (item ∷ first) second one two = and_from _ _ (and-first (test item) _ one) (all-joined test first second (and-second (test item) _ one) two)

module _ (number run step : ℕ) (deck : Job) (earlier : JobView) where
  abbrev job : JobView
  job = continued_view number deck earlier step

  -- what holds of each step of the earlier run, and of each of the deck as the run owns it, holds of each step
  pub continued-all : (test : OwnedStep → Bool) → list_all test (effective number earlier).steps ≡ true → list_all (λ one. test (owned_by run deck one)) deck.steps ≡ true → list_all test (effective run job).steps ≡ true
  continued-all test before own =
      all-joined test job.taken (map (owned_by run deck) (drop (length job.taken) deck.steps)) (all-front test (effective number earlier).steps step before)
      (all-owned test run deck (drop (length job.taken) deck.steps) (all-behind (λ one. test (owned_by run deck one)) deck.steps (length job.taken) own))

  few-fit : (steps : List Step) → run ≤ 9999999 → list_all has_few_dds steps ≡ true → list_all (λ one. is_fitting_step (owned_by run deck one)) steps ≡ true
  few-fit [] low few = refl
  few-fit (one ∷ steps) low few = and_from _ _ (and_from _ _ (small run low) (and-first (has_few_dds one) _ few)) (few-fit steps low (and-second (has_few_dds one) _ few))
    where
      small : (n : ℕ) → n ≤ 9999999 → nat_le n 9999999 ≡ true
      small n low = grind (arith, nat_tests)

  -- it is within the limits
  pub continued-fits : IsFitting (effective number earlier) → is_within_limits deck ≡ true → run ≤ 9999999 → IsFitting (effective run job)
  continued-fits fits limits low = record {
    root = fits.root;
    few =
        omega (
          arith,
          length-append job.taken (map (owned_by run deck) (drop (length job.taken) deck.steps)),
          length-map (drop (length job.taken) deck.steps) (owned_by run deck),
          length-drop (length job.taken) deck.steps,
          length-take step (effective number earlier).steps,
          fits.few,
          nat_le-true (length deck.steps) 64 (and-first (nat_le (length deck.steps) 64) _ limits),
        );
    steps = continued-all is_fitting_step fits.steps (few-fit deck.steps low (and-second (nat_le (length deck.steps) 64) _ limits));
  }

  -- so are the names of its steps distinct, and it has each MASTER, if the deck's are and it does
  pub continued-distinct : HasDistinctNames (effective number earlier) → list_all (λ one. are_distinct (names_of earlier.root (owned_by run deck one))) deck.steps ≡ true → HasDistinctNames (effective run job)
  continued-distinct before own = continued-all (λ owned. are_distinct (names_of earlier.root owned)) before own

  pub continued-masters : list_all (λ (own : OwnedStep). has_master own.step) (effective number earlier).steps ≡ true → list_all has_master deck.steps ≡ true → list_all (λ (own : OwnedStep). has_master own.step) (effective run job).steps ≡ true
  continued-masters before own = continued-all (λ own. has_master own.step) before own

  -- it has taken over as many steps as the number of the one at which it continues the earlier run
  pub continued-taken : (own : OwnedStep) → step_at (effective number earlier) step ≡ Some own → length job.taken ≡ step
  continued-taken own there = by step there
    where
      by : (n : ℕ) → step_at (effective number earlier) n ≡ Some own → length (take n (effective number earlier).steps) ≡ n
      by zero there = absurd (some-not-none own (sym there))
      by (suc place) there = omega (arith, slice_get_within (effective number earlier).steps place own there, length-take (suc place) (effective number earlier).steps)
