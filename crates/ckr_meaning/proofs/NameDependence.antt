-- What a job does with the data sets of its names depends on these alone.
use Rattle.std.proofs.Common.{◌≡◌, ℕ, zero, suc, pred, Bool, true, false, ◌||◌, if◌then◌else◌, List, [], ◌∷◌, ◌++◌, take, length, Option, Some, None, refl, ap, sym, subst, ◌∙◌}
use Rattle.std.specs.Prelude.{slice_get}
use Rattle.std.specs.Option.{option_map, option_map_or}
use Rattle.std.specs.Ordering.{is_eq}
use Rattle.std.specs.Cmp.Lexicographic.{nat_list_cmp_total}
use Rattle.std.specs.Cmp.{tied_itself}
use Rattle.std.proofs.lemmas.List.Folds.{list_any-append}
use Rattle.std.proofs.lemmas.Bool.{or_left, or_right}
use Rattle.std.proofs.lemmas.Option.{same_Some}
use Rattle.ckr_base.proofs.Options.{some-not-none}
use Rattle.ckr_library.specs.NameMaps.{Name, same_name, entry_at, without_entry}
use Rattle.ckr_entry.specs.declared.point.Passed.{Passed}
use Rattle.ckr_programs.specs.Work.{Work}
use Rattle.ckr_meaning.specs.declared.place.Place.{Place}
use Rattle.ckr_meaning.specs.declared.place.Place.TheVariants.{Before, Opened, Within}
use Rattle.ckr_meaning.specs.LibrarySet.{LibrarySet, Library}
use Rattle.ckr_meaning.specs.Dispositions.{Stock, passed_ended}
use Rattle.ckr_meaning.specs.EffectiveJob.{OwnedStep, Effective, AgreeOn, names_of, names_of_steps, names_of_job, names_made, is_among, step_at}
use Rattle.ckr_meaning.specs.StepRun.{StepStart, placed_at, opened_at, case_at, work_at, within_at, disposed_at, end_at}
use Rattle.ckr_meaning.specs.JobRun.{Walk, StepCodes, start_in, rc_of, step_walked, walked_by, walked_one, walked, walk_from, walk_before, start_at, is_bypassed, with_sets, at, cut_from, cut_at, place_of_end, end_unless, end_in, end_from, end_of_job, job_run, all_go_on}
use Rattle.ckr_meaning.proofs.StepDependence.{Same, Each, start_on, same-without_entry, placed_there, opened_there, within_there, work_there, case_there, end_there, disposed_there, passed_there}
use Rattle.ckr_meaning.proofs.JobEnds.{all_go_on-step, end_or, end_from-step, go_on_unless}

abbrev walk_on : Library → Walk → Walk
walk_on library walk = record walk { standing = with_sets library walk.standing }

module _ (P : Name → Type 0) where
  -- ---- between steps

  -- two walks that differ in the library alone, and agree there on the names that are looked at
  pub record Alike (first second : Walk) : Type 0 where
    pub sets : Same P first.standing.sets second.standing.sets
    pub passed : first.standing.passed ≡ second.standing.passed
    pub earlier : first.earlier ≡ second.earlier
    pub rcs : first.rcs ≡ second.rcs

  on_second : (first second : Walk) → Alike first second → walk_on second.standing.sets first ≡ second
  on_second first second alike =
      ap (λ passed. walk_with passed first.earlier first.rcs) alike.passed
      ∙ ap (λ earlier. walk_with second.standing.passed earlier first.rcs) alike.earlier
      ∙ ap (λ rcs. walk_with second.standing.passed second.earlier rcs) alike.rcs
    where
      walk_with : List Passed → List Name → StepCodes → Walk
      walk_with passed earlier rcs = record { standing = record { sets = second.standing.sets; passed = passed }; earlier = earlier; rcs = rcs }

  step_walked_alike : (start : StepStart) (walk : Walk) (other : Library) → Each P (names_of start.root start.owned) → Same P start.standing.sets other → Alike (step_walked start walk) (step_walked (start_on other start) (walk_on other walk))
  unfolding step_walked
  step_walked_alike start walk other named same =
      let count : ℕ = length (work_at start).writes in
      let work_same : work_at start ≡ work_at (start_on other start) = work_there P start other named same in
      let there : Library = within_at (start_on other start) (length (work_at (start_on other start)).writes) in
      record {
        sets = λ name looked.
            disposed_there P start other named same false (within_at start count) (within_at (start_on other start) count) (within_there P start other named same count) name looked
            ∙ ap (λ (all : Work). entry_at (disposed_at (start_on other start) false (within_at (start_on other start) (length all.writes))).sets name) work_same;
        passed =
            passed_there P start other named same false (within_at start count) there;
        earlier = ap (λ all. walk.earlier ++ names_made all) (placed_there P start other named same);
        rcs = ap (λ (all : Work). walk.rcs ++ rc_of start.number all.finish) work_same;
      }

  walked_on_alike : (root number : ℕ) (owned : OwnedStep) (walk : Walk) (other : Library) → Each P (names_of root owned) → Same P walk.standing.sets other → Alike (walked_one root number owned walk) (walked_one root number owned (walk_on other walk))
  unfolding walked_one
  walked_on_alike root number owned walk other named same = by (is_bypassed walk.rcs owned)
    where
      by : (bypassed : Bool) → Alike (walked_by bypassed (start_in root number owned walk) walk) (walked_by bypassed (start_in root number owned (walk_on other walk)) (walk_on other walk))
      by true = record { sets = same; passed = refl; earlier = refl; rcs = refl }
      by false = step_walked_alike (start_in root number owned walk) walk other named same

  walked_one_alike : (root number : ℕ) (owned : OwnedStep) (first second : Walk) → Each P (names_of root owned) → Alike first second → Alike (walked_one root number owned first) (walked_one root number owned second)
  walked_one_alike root number owned first second named alike =
      subst (λ walk. Alike (walked_one root number owned first) (walked_one root number owned walk)) (on_second first second alike)
      (walked_on_alike root number owned first second.standing.sets named alike.sets)

  -- each name of these steps is looked at
  abbrev EachStep : ℕ → List OwnedStep → Type 0
  EachStep root [] = Unit {0}
  EachStep root (owned ∷ rest) = Each P (names_of root owned) × EachStep root rest

  each_taken : (root count : ℕ) (steps : List OwnedStep) → EachStep root steps → EachStep root (take count steps)
  each_taken root zero steps named = tt
  each_taken root (suc count) [] named = tt
  each_taken root (suc count) (owned ∷ rest) named = (named.0, each_taken root count rest named.1)

  each_at : (root place : ℕ) (steps : List OwnedStep) (owned : OwnedStep) → EachStep root steps → slice_get steps place ≡ Some owned → Each P (names_of root owned)
  each_at root place [] owned named at = absurd (some-not-none owned (sym at))
  each_at root zero (first ∷ rest) owned named at = subst (λ step. Each P (names_of root step)) (same_Some first owned at) named.0
  each_at root (suc place) (first ∷ rest) owned named at = each_at root place rest owned named.1 at

  each_step : (job : Effective) (number : ℕ) (owned : OwnedStep) → EachStep job.root job.steps → step_at job number ≡ Some owned → Each P (names_of job.root owned)
  each_step job zero owned named at = absurd (some-not-none owned (sym at))
  each_step job (suc before) owned named at = each_at job.root before job.steps owned named at

  walked_alike : (root number : ℕ) (steps : List OwnedStep) (first second : Walk) → EachStep root steps → Alike first second → Alike (walked root number steps first) (walked root number steps second)
  walked_alike root number [] first second named alike = alike
  walked_alike root number (owned ∷ rest) first second named alike =
      walked_alike root (suc number) rest (walked_one root number owned first) (walked_one root number owned second) named.1
      (walked_one_alike root number owned first second named.0 alike)

  -- ---- ends

  end_on : (root number : ℕ) (owned : OwnedStep) (walk : Walk) (other : Library) → Each P (names_of root owned) → Same P walk.standing.sets other → end_in root number owned walk ≡ end_in root number owned (walk_on other walk)
  unfolding end_in
  end_on root number owned walk other named same = by (is_bypassed walk.rcs owned)
    where
      by : (bypassed : Bool) → end_unless bypassed (start_in root number owned walk) ≡ end_unless bypassed (start_in root number owned (walk_on other walk))
      by true = refl
      by false =
          ap (λ all. place_of_end number all (end_at (start_in root number owned walk))) (work_there P (start_in root number owned walk) other named same)
          ∙ ap (λ end. place_of_end number (work_at (start_on other (start_in root number owned walk))) end) (end_there P (start_in root number owned walk) other named same)

  end_alike : (root number : ℕ) (owned : OwnedStep) (first second : Walk) → Each P (names_of root owned) → Alike first second → end_in root number owned first ≡ end_in root number owned second
  end_alike root number owned first second named alike =
      subst (λ walk. end_in root number owned first ≡ end_in root number owned walk) (on_second first second alike)
      (end_on root number owned first second.standing.sets named alike.sets)

  end_from_alike : (root number : ℕ) (steps : List OwnedStep) (first second : Walk) → EachStep root steps → Alike first second → end_from root number steps first ≡ end_from root number steps second
  end_from_alike root number [] first second named alike = refl
  end_from_alike root number (owned ∷ rest) first second named alike =
      end_from-step root number owned rest first
      ∙ ap (λ place. end_or place (end_from root (suc number) rest (walked_one root number owned first))) (end_alike root number owned first second named.0 alike)
      ∙ ap (end_or (end_in root number owned second)) (end_from_alike root (suc number) rest (walked_one root number owned first) (walked_one root number owned second) named.1 (walked_one_alike root number owned first second named.0 alike))
      ∙ sym (end_from-step root number owned rest second)

  all_go_on_alike : (root number : ℕ) (steps : List OwnedStep) (first second : Walk) → EachStep root steps → Alike first second → all_go_on root number steps first ≡ all_go_on root number steps second
  all_go_on_alike root number [] first second named alike = refl
  all_go_on_alike root number (owned ∷ rest) first second named alike =
      all_go_on-step root number owned rest first
      ∙ ap (λ place. go_on_unless place (all_go_on root (suc number) rest (walked_one root number owned first))) (end_alike root number owned first second named.0 alike)
      ∙ ap (go_on_unless (end_in root number owned second)) (all_go_on_alike root (suc number) rest (walked_one root number owned first) (walked_one root number owned second) named.1 (walked_one_alike root number owned first second named.0 alike))
      ∙ sym (all_go_on-step root number owned rest second)

  same-passed_ended : (passed : List Passed) (first second : Library) → Same P first second → Same P (passed_ended passed first) (passed_ended passed second)
  same-passed_ended [] first second same = same
  same-passed_ended (one ∷ passed) first second same =
      same-passed_ended passed _ _ (by one.made)
    where
      by : (goes : Bool) → Same P (if goes then without_entry one.name first else first) (if goes then without_entry one.name second else second)
      by true = same-without_entry P one.name first second same
      by false = same

  -- a job on two libraries
  module _ (job : Effective) (first second : Library) (named : EachStep job.root job.steps) (same : Same P first second) where
    pub before_alike : (number : ℕ) → Alike (walk_before job first number) (walk_before job second number)
    unfolding walk_before
    before_alike number =
        walked_alike job.root 1 (take (pred number) job.steps) (walk_from first) (walk_from second) (each_taken job.root (pred number) job.steps named)
        (record { sets = same; passed = refl; earlier = refl; rcs = refl })

    pub goes_alike : (count : ℕ) → all_go_on job.root 1 (take count job.steps) (walk_from first) ≡ all_go_on job.root 1 (take count job.steps) (walk_from second)
    goes_alike count =
        all_go_on_alike job.root 1 (take count job.steps) (walk_from first) (walk_from second) (each_taken job.root count job.steps named)
        (record { sets = same; passed = refl; earlier = refl; rcs = refl })

    module _ (number : ℕ) (owned : OwnedStep) (found : step_at job number ≡ Some owned) where
      its_names : Each P (names_of job.root owned)
      its_names = each_step job number owned named found

      placed_on : (walk : Walk) → Alike (walk_before job first number) walk → placed_at (start_in job.root number owned (walk_before job first number)) ≡ placed_at (start_in job.root number owned walk)
      placed_on walk alike =
          subst (λ w. placed_at (start_in job.root number owned (walk_before job first number)) ≡ placed_at (start_in job.root number owned w)) (on_second (walk_before job first number) walk alike)
          (placed_there P (start_in job.root number owned (walk_before job first number)) walk.standing.sets its_names alike.sets)

      work_on : (walk : Walk) → Alike (walk_before job first number) walk → work_at (start_in job.root number owned (walk_before job first number)) ≡ work_at (start_in job.root number owned walk)
      work_on walk alike =
          subst (λ w. work_at (start_in job.root number owned (walk_before job first number)) ≡ work_at (start_in job.root number owned w)) (on_second (walk_before job first number) walk alike)
          (work_there P (start_in job.root number owned (walk_before job first number)) walk.standing.sets its_names alike.sets)

      case_on : (walk : Walk) → Alike (walk_before job first number) walk → case_at (start_in job.root number owned (walk_before job first number)) ≡ case_at (start_in job.root number owned walk)
      case_on walk alike =
          subst (λ w. case_at (start_in job.root number owned (walk_before job first number)) ≡ case_at (start_in job.root number owned w)) (on_second (walk_before job first number) walk alike)
          (case_there P (start_in job.root number owned (walk_before job first number)) walk.standing.sets its_names alike.sets)

      pub placed_alike : placed_at (start_in job.root number owned (walk_before job first number)) ≡ placed_at (start_in job.root number owned (walk_before job second number))
      placed_alike = placed_on (walk_before job second number) (before_alike number)

      pub work_alike : work_at (start_in job.root number owned (walk_before job first number)) ≡ work_at (start_in job.root number owned (walk_before job second number))
      work_alike = work_on (walk_before job second number) (before_alike number)

      pub case_alike : case_at (start_in job.root number owned (walk_before job first number)) ≡ case_at (start_in job.root number owned (walk_before job second number))
      case_alike = case_on (walk_before job second number) (before_alike number)

    -- a library with its passed list, as the other
    pub record AlikeStanding (one other : Stock LibrarySet) : Type 0 where
      pub sets : Same P one.sets other.sets
      pub passed : one.passed ≡ other.passed

    abbrev start_by : Library → ℕ → Option OwnedStep → Option StepStart
    start_by library number step = option_map (λ owned. start_in job.root number owned (walk_before job library number)) step

    opened_on : (number : ℕ) (owned : OwnedStep) → Each P (names_of job.root owned) → (walk : Walk) → Alike (walk_before job first number) walk → Same P (opened_at (start_in job.root number owned (walk_before job first number))) (opened_at (start_in job.root number owned walk))
    opened_on number owned mine walk alike =
        subst (λ w. Same P (opened_at (start_in job.root number owned (walk_before job first number))) (opened_at (start_in job.root number owned w))) (on_second (walk_before job first number) walk alike)
        (opened_there P (start_in job.root number owned (walk_before job first number)) walk.standing.sets mine alike.sets)

    within_on : (number writes : ℕ) (owned : OwnedStep) → Each P (names_of job.root owned) → (walk : Walk) → Alike (walk_before job first number) walk → Same P (within_at (start_in job.root number owned (walk_before job first number)) writes) (within_at (start_in job.root number owned walk) writes)
    within_on number writes owned mine walk alike =
        subst (λ w. Same P (within_at (start_in job.root number owned (walk_before job first number)) writes) (within_at (start_in job.root number owned w) writes)) (on_second (walk_before job first number) walk alike)
        (within_there P (start_in job.root number owned (walk_before job first number)) walk.standing.sets mine alike.sets writes)

    disposed_on : (number : ℕ) (owned : OwnedStep) → Each P (names_of job.root owned) → (walk : Walk) → Alike (walk_before job first number) walk → (one other : Library) → Same P one other → AlikeStanding (disposed_at (start_in job.root number owned (walk_before job first number)) true one) (disposed_at (start_in job.root number owned walk) true other)
    disposed_on number owned mine walk alike one other agree =
        subst (λ w. AlikeStanding (disposed_at (start_in job.root number owned (walk_before job first number)) true one) (disposed_at (start_in job.root number owned w) true other)) (on_second (walk_before job first number) walk alike)
        (record {
          sets = disposed_there P (start_in job.root number owned (walk_before job first number)) walk.standing.sets mine alike.sets true one other agree;
          passed = passed_there P (start_in job.root number owned (walk_before job first number)) walk.standing.sets mine alike.sets true one other;
        })

    pub at_alike : (place : Place) → AlikeStanding (at job first place) (at job second place)
    unfolding at start_at
    at_alike (Before number) = let before = before_alike number in record { sets = before.sets; passed = before.passed }
    at_alike (Opened number) = by (step_at job number) refl
      where
        before : Alike (walk_before job first number) (walk_before job second number)
        before = before_alike number

        by : (step : Option OwnedStep) → step_at job number ≡ step → AlikeStanding (option_map_or (λ (start : StepStart). with_sets (opened_at start) start.standing) (start_by first number step) (walk_before job first number).standing) (option_map_or (λ (start : StepStart). with_sets (opened_at start) start.standing) (start_by second number step) (walk_before job second number).standing)
        by None e = record { sets = before.sets; passed = before.passed }
        by (Some owned) e = record { sets = opened_on number owned (each_step job number owned named e) (walk_before job second number) before; passed = before.passed }
    at_alike (Within number writes) = by (step_at job number) refl
      where
        before : Alike (walk_before job first number) (walk_before job second number)
        before = before_alike number

        by : (step : Option OwnedStep) → step_at job number ≡ step → AlikeStanding (option_map_or (λ (start : StepStart). with_sets (within_at start writes) start.standing) (start_by first number step) (walk_before job first number).standing) (option_map_or (λ (start : StepStart). with_sets (within_at start writes) start.standing) (start_by second number step) (walk_before job second number).standing)
        by None e = record { sets = before.sets; passed = before.passed }
        by (Some owned) e = record { sets = within_on number writes owned (each_step job number owned named e) (walk_before job second number) before; passed = before.passed }

    cut_alike : (place : Place) (one other : Stock LibrarySet) → AlikeStanding one other → AlikeStanding (cut_from job first place one) (cut_from job second place other)
    unfolding start_at
    cut_alike (Before number) one other alike = alike
    cut_alike (Opened number) one other alike = alike
    cut_alike (Within number writes) one other alike = by (step_at job number) refl
      where
        before : Alike (walk_before job first number) (walk_before job second number)
        before = before_alike number

        by : (step : Option OwnedStep) → step_at job number ≡ step → AlikeStanding (option_map_or (λ (start : StepStart). disposed_at start true one.sets) (start_by first number step) one) (option_map_or (λ (start : StepStart). disposed_at start true other.sets) (start_by second number step) other)
        by None e = alike
        by (Some owned) e = disposed_on number owned (each_step job number owned named e) (walk_before job second number) before one.sets other.sets alike.sets

    pub cut_at_alike : (place : Place) → Same P (cut_at job first place) (cut_at job second place)
    unfolding cut_at
    cut_at_alike place name looked =
        let one : Stock LibrarySet = cut_from job first place (at job first place) in
        let other : Stock LibrarySet = cut_from job second place (at job second place) in
        let alike : AlikeStanding one other = cut_alike place (at job first place) (at job second place) (at_alike place) in
        same-passed_ended one.passed one.sets other.sets alike.sets name looked ∙ ap (λ passed. entry_at (passed_ended passed other.sets) name) alike.passed

    pub end_of_job_alike : end_of_job job first ≡ end_of_job job second
    unfolding end_of_job
    end_of_job_alike =
        end_from_alike job.root 1 job.steps (walk_from first) (walk_from second) named (record { sets = same; passed = refl; earlier = refl; rcs = refl })

    pub job_run_alike : (cut : Option Place) → Same P (job_run job first cut) (job_run job second cut)
    unfolding job_run
    job_run_alike None name looked =
        cut_at_alike (end_of_job job first) name looked ∙ ap (λ place. entry_at (cut_at job second place) name) end_of_job_alike
    job_run_alike (Some place) name looked = cut_at_alike place name looked

-- ---- the names of the job

abbrev Among : List Name → Name → Type 0
Among names name = is_among names name ≡ true

each_weaker : (P Q : Name → Type 0) → ((name : Name) → P name → Q name) → (names : List Name) → Each P names → Each Q names
each_weaker P Q weaker [] each = tt
each_weaker P Q weaker (name ∷ names) each = (weaker name each.0, each_weaker P Q weaker names each.1)

each_step_weaker : (P Q : Name → Type 0) → ((name : Name) → P name → Q name) → (root : ℕ) (steps : List OwnedStep) → EachStep P root steps → EachStep Q root steps
each_step_weaker P Q weaker root [] each = tt
each_step_weaker P Q weaker root (owned ∷ rest) each = (each_weaker P Q weaker (names_of root owned) each.0, each_step_weaker P Q weaker root rest each.1)

each_among : (names : List Name) → Each (Among names) names
each_among [] = tt
each_among (name ∷ names) = (
  or_left (same_name name name) (is_among names name) (ap is_eq (tied_itself nat_list_cmp_total name)),
  each_weaker (Among names) (Among (name ∷ names)) (λ other is. or_right (same_name other name) (is_among names other) is) names (each_among names),
)

-- each name of each step is a name of the job
each_of_job : (root : ℕ) (steps : List OwnedStep) → EachStep (Among (names_of_steps root steps)) root steps
each_of_job root [] = tt
each_of_job root (owned ∷ rest) = (
  each_weaker (Among (names_of root owned)) (Among (names_of_steps root (owned ∷ rest))) (λ name is. parts name ∙ or_left _ (is_among (names_of_steps root rest) name) is) (names_of root owned) (each_among (names_of root owned)),
  each_step_weaker (Among (names_of_steps root rest)) (Among (names_of_steps root (owned ∷ rest))) (λ name is. parts name ∙ or_right (is_among (names_of root owned) name) _ is) root rest (each_of_job root rest),
)
  where
    parts : (name : Name) → is_among (names_of_steps root (owned ∷ rest)) name ≡ (is_among (names_of root owned) name || is_among (names_of_steps root rest) name)
    parts name = list_any-append (same_name name) (names_of root owned) (names_of_steps root rest)

-- ---- the laws

pub at-agrees : (job : Effective) (first second : Library) (place : Place) → AgreeOn (names_of_job job) first second → AgreeOn (names_of_job job) (at job first place).sets (at job second place).sets
at-agrees job first second place same =
    (at_alike (Among (names_of_job job)) job first second (each_of_job job.root job.steps) same place).sets

pub at-passes : (job : Effective) (first second : Library) (place : Place) → AgreeOn (names_of_job job) first second → (at job first place).passed ≡ (at job second place).passed
at-passes job first second place same =
    (at_alike (Among (names_of_job job)) job first second (each_of_job job.root job.steps) same place).passed

pub end-agrees : (job : Effective) (first second : Library) → AgreeOn (names_of_job job) first second → end_of_job job first ≡ end_of_job job second
end-agrees job first second same = end_of_job_alike (Among (names_of_job job)) job first second (each_of_job job.root job.steps) same

pub job_run-agrees : (job : Effective) (first second : Library) (cut : Option Place) → AgreeOn (names_of_job job) first second → AgreeOn (names_of_job job) (job_run job first cut) (job_run job second cut)
job_run-agrees job first second cut same = job_run_alike (Among (names_of_job job)) job first second (each_of_job job.root job.steps) same cut

module _ (job : Effective) (first second : Library) (same : AgreeOn (names_of_job job) first second) where
  pub before-agrees : (number : ℕ) → Alike (Among (names_of_job job)) (walk_before job first number) (walk_before job second number)
  before-agrees = before_alike (Among (names_of_job job)) job first second (each_of_job job.root job.steps) same

  pub goes-agrees : (count : ℕ) → all_go_on job.root 1 (take count job.steps) (walk_from first) ≡ all_go_on job.root 1 (take count job.steps) (walk_from second)
  goes-agrees = goes_alike (Among (names_of_job job)) job first second (each_of_job job.root job.steps) same

  pub placed-agrees : (number : ℕ) (owned : OwnedStep) → step_at job number ≡ Some owned → placed_at (start_in job.root number owned (walk_before job first number)) ≡ placed_at (start_in job.root number owned (walk_before job second number))
  placed-agrees = placed_alike (Among (names_of_job job)) job first second (each_of_job job.root job.steps) same

  pub work-agrees : (number : ℕ) (owned : OwnedStep) → step_at job number ≡ Some owned → work_at (start_in job.root number owned (walk_before job first number)) ≡ work_at (start_in job.root number owned (walk_before job second number))
  work-agrees = work_alike (Among (names_of_job job)) job first second (each_of_job job.root job.steps) same

  pub case-agrees : (number : ℕ) (owned : OwnedStep) → step_at job number ≡ Some owned → case_at (start_in job.root number owned (walk_before job first number)) ≡ case_at (start_in job.root number owned (walk_before job second number))
  case-agrees = case_alike (Among (names_of_job job)) job first second (each_of_job job.root job.steps) same
