-- Runs that were running when the system failed, and runs that wait with a code for the operator's word.
use Rattle.std.proofs.Common.{◌≡◌, ◌==◌, ℕ, Bool, true, false, ◌&&◌, ◌||◌, not, refl, ap, sym, ◌∙◌, subst, List, [], ◌∷◌, find, IsSome, Option, None, Some, arith}
use Rattle.std.specs.Prelude.{if◌then◌else◌}
use Rattle.std.specs.List.{AllByRecursion, list_any}
use Rattle.std.specs.Option.{option_map, option_map_or}
use Rattle.std.proofs.lemmas.Bool.{and_from, false≢true, true≢false}
use Rattle.std.proofs.lemmas.Option.{same_Some}
use Rattle.ckr_base.specs.declared.code.Code.{Code}
use Rattle.ckr_base.proofs.Bools.{and-first, and-second, bool-cases}
use Rattle.ckr_base.proofs.Numbers.{equal-false, equal-true}
use Rattle.ckr_base.proofs.Options.{some-not-none}
use Rattle.ckr_meaning.specs.declared.place.Place.{Place}
use Rattle.ckr_meaning.specs.declared.place.Place.TheVariants.{Before, Opened, Within}
use Rattle.ckr_points.specs.declared.run.RunState.TheVariants.{On}
use Rattle.ckr_points.specs.Follows.{is_in_state, is_within, own_step, state_number}
use Rattle.ckr_points.specs.Restart.{place_of}
use Rattle.ckr_points.specs.Rows.{TablesModel, run_of}
use Rattle.ckr_points_tables.specs.Model.RunTable.{RunTable}
use Rattle.ckr_volumes.specs.declared.layout.Layout.{Layout}
use Rattle.ckr_desk_turn.specs.declared.failed_run.FailedRun.{FailedRun}
use Rattle.ckr_desk_turn.specs.Jobs.{TurnStep, is_asked, is_failed, running_in, system_failure, waiting_code}
use Rattle.ckr_desk_turn.specs.Spelling.{IsCode}
use Rattle.ckr_desk_turn.proofs.RunningSteps.{stopped-code}
use Rattle.ckr_desk_memory.specs.Invariant.{IsPlacedRow, IsRunnable}
use Rattle.ckr_desk_memory.specs.OwnSets.{IsRunningOf}
use Rattle.ckr_desk_memory.specs.OwnSteps.{AreLeft, IsLeft, IsOther}
use Rattle.ckr_desk_memory.specs.Plans.{IsAnyCode, IsKnown, next_step, row_for}
use Rattle.ckr_desk_memory.specs.View.{JobsView, RunningStepView, jobs_of, running_of}
use Rattle.ckr_desk_memory.proofs.FoundRuns.{find-is, known-by, running-found, working_of}
use Rattle.ckr_desk_memory.proofs.Plans.{within-there}
use Rattle.ckr_desk_memory.proofs.Starts.Steps.{row-among}

module _ (jobs : JobsView) (run : ℕ) where
  abbrev waits_by : Bool → Option TurnStep → Option Code
  waits_by asked step = if asked then Some system_failure else option_map_or (λ step. step.code) step None

  -- the operator was asked for a run that was running when the system failed
  pub waits-asked : is_asked (jobs_of jobs) run ≡ true → waiting_code (jobs_of jobs) run ≡ Some system_failure
  waits-asked asked = ap (λ b. waits_by b (running_in (jobs_of jobs) run)) asked

  waits_so : is_asked (jobs_of jobs) run ≡ false → (found : Option RunningStepView) → found ≡ find (λ (on : RunningStepView). on.run == run) jobs.running
      → waiting_code (jobs_of jobs) run ≡ option_map_or (λ step. step.code) (option_map (running_of jobs.tables.desk) found) None
  waits_so unasked found is = ap (λ b. waits_by b (running_in (jobs_of jobs) run)) unasked ∙ ap (waits_by false) (running-found jobs run found is)

  -- no step of it is running
  pub waits-none : is_asked (jobs_of jobs) run ≡ false → None ≡ find (λ (on : RunningStepView). on.run == run) jobs.running → waiting_code (jobs_of jobs) run ≡ None
  waits-none unasked is = waits_so unasked None is

  -- its step waits with that code
  pub waits-on : is_asked (jobs_of jobs) run ≡ false → (on : RunningStepView) → Some on ≡ find (λ (on : RunningStepView). on.run == run) jobs.running → waiting_code (jobs_of jobs) run ≡ on.code
  waits-on unasked on is = waits_so unasked (Some on) is ∙ stopped-code on.code (working_of jobs.tables.desk on) refl

  -- the running step of a run that waits with no code does neither
  pub uncoded-on : waiting_code (jobs_of jobs) run ≡ None → (on : RunningStepView) → Some on ≡ find (λ (on : RunningStepView). on.run == run) jobs.running → on.code ≡ None
  uncoded-on waits on is =
      bool-cases (is_asked (jobs_of jobs) run)
      (λ asked. absurd (some-not-none system_failure (sym (waits-asked asked) ∙ waits)))
      (λ unasked. sym (waits-on unasked on is) ∙ waits)

  -- a code with which a run waits has a spelling
  pub waits-coded : (layout : Layout) → AllByRecursion (IsRunnable layout) jobs.running → (code : Code) → waiting_code (jobs_of jobs) run ≡ Some code → IsCode code
  waits-coded layout runnable code waits =
      bool-cases (is_asked (jobs_of jobs) run)
      (λ asked. subst IsCode (same_Some system_failure code (sym (waits-asked asked) ∙ waits)) (omega arith))
      (λ unasked. by unasked (find (λ (on : RunningStepView). on.run == run) jobs.running) refl)
    where
      by : is_asked (jobs_of jobs) run ≡ false → (found : Option RunningStepView) → found ≡ find (λ (on : RunningStepView). on.run == run) jobs.running → IsCode code
      by unasked None is = absurd (some-not-none code (sym waits ∙ waits-none unasked is))
      by unasked (Some on) is =
          subst IsAnyCode (sym (waits-on unasked on is) ∙ waits)
          (find-is (IsRunnable layout) (λ (on : RunningStepView). on.run == run) jobs.running on runnable (sym is)).holds.coded

-- ---- runs that were running when the system failed

-- one that is marked, or was, is within a step
any_left : (tables : TablesModel) (run : ℕ) (more : FailedRun → Bool) (failed : List FailedRun) → list_any (λ (one : FailedRun). one.run == run && more one) failed ≡ true
    → AllByRecursion (λ (one : FailedRun). IsLeft tables one.run) failed → IsLeft tables run
any_left tables run more [] any left = absurd (false≢true any)
any_left tables run more (one ∷ rest) any left =
    bool-cases (one.run == run && more one)
    (λ is. subst (IsLeft tables) (equal-true one.run run (and-first (one.run == run) (more one) is)) left.0)
    (λ isnt. any_left tables run more rest (sym (ap (λ b. b || list_any (λ (one : FailedRun). one.run == run && more one) rest) isnt) ∙ any) left.1)

pub marked-left : (jobs : JobsView) (run : ℕ) → AreLeft jobs → is_failed (jobs_of jobs) run ≡ true → IsLeft jobs.tables.desk run
unfolding jobs_of
marked-left jobs run left failed = any_left jobs.tables.desk run (λ one. not one.asked) jobs.failed failed left

asked-left : (jobs : JobsView) (run : ℕ) → AreLeft jobs → is_asked (jobs_of jobs) run ≡ true → IsLeft jobs.tables.desk run
unfolding jobs_of
asked-left jobs run left asked = any_left jobs.tables.desk run (λ one. one.asked) jobs.failed asked left

-- a run that is neither isn't among them
none_left : (run : ℕ) (failed : List FailedRun) → list_any (λ (one : FailedRun). one.run == run && not one.asked) failed ≡ false → list_any (λ (one : FailedRun). one.run == run && one.asked) failed ≡ false → AllByRecursion (IsOther run) failed
none_left run [] unmarked unasked = tt
none_left run (one ∷ rest) unmarked unasked =
    bool-cases (one.run == run)
    (λ same.
    absurd
    (neither one.asked
    (sym (ap (λ b. b && not one.asked) same) ∙ here _ _ unmarked)
    (sym (ap (λ b. b && one.asked) same) ∙ here _ _ unasked)))
    (λ other. (equal-false one.run run other, none_left run rest (later _ _ unmarked) (later _ _ unasked)))
  where
    here : (b more : Bool) → (b || more) ≡ false → b ≡ false
    here true more is = absurd (true≢false is)
    here false more is = refl

    later : (b more : Bool) → (b || more) ≡ false → more ≡ false
    later true more is = absurd (true≢false is)
    later false more is = is

    neither : (b : Bool) → not b ≡ false → b ≡ false → ⊥
    neither true unmarked unasked = true≢false unasked
    neither false unmarked unasked = true≢false unmarked

pub unmarked-others : (jobs : JobsView) (run : ℕ) → is_failed (jobs_of jobs) run ≡ false → waiting_code (jobs_of jobs) run ≡ None → AllByRecursion (IsOther run) jobs.failed
unfolding jobs_of
unmarked-others jobs run unmarked waits =
    none_left run jobs.failed unmarked
    (bool-cases (is_asked (jobs_of jobs) run) (λ asked. absurd (some-not-none system_failure (sym (waits-asked jobs run asked) ∙ waits))) (λ unasked. unasked))

-- ---- a run with a code is within a step that it has

pub left-place : (place : Place) → is_within place ≡ true → next_step false None None place ≡ None
left-place (Before number) within = absurd (false≢true within)
left-place (Opened number) within = absurd (false≢true within)
left-place (Within number writes) within = refl

left_there : (tables : TablesModel) (run : ℕ) (table : RunTable) → IsKnown tables run table → AllByRecursion IsPlacedRow tables.runs → IsLeft tables run → IsSome (own_step (row_for run table))
left_there tables run table known placed its =
    subst IsSome (known-by tables run table known own_step refl its.0 its.1)
    (within-there its.0 (row-among IsPlacedRow tables run its.0 placed its.1) (left-place (place_of its.0) (and-second (is_in_state On its.0) (is_within (place_of its.0)) its.2)))

-- one that was running then
pub left-there : (jobs : JobsView) (run : ℕ) (table : RunTable) → IsKnown jobs.tables.desk run table → AllByRecursion IsPlacedRow jobs.tables.desk.runs → AreLeft jobs → is_failed (jobs_of jobs) run ≡ true → IsSome (own_step (row_for run table))
left-there jobs run table known placed left failed = left_there jobs.tables.desk run table known placed (marked-left jobs run left failed)

-- one that waits
pub waits-left : (jobs : JobsView) (run : ℕ) → AreLeft jobs → AllByRecursion (IsRunningOf jobs.tables.desk) jobs.running → (code : Code) → waiting_code (jobs_of jobs) run ≡ Some code → IsLeft jobs.tables.desk run
waits-left jobs run left running code waits =
    bool-cases (is_asked (jobs_of jobs) run) (asked-left jobs run left) (λ unasked. by unasked (find (λ (on : RunningStepView). on.run == run) jobs.running) refl)
  where
    by : is_asked (jobs_of jobs) run ≡ false → (found : Option RunningStepView) → found ≡ find (λ (on : RunningStepView). on.run == run) jobs.running → IsLeft jobs.tables.desk run
    by unasked None is = absurd (some-not-none code (sym waits ∙ waits-none jobs run unasked is))
    by unasked (Some on) is =
        let found = find-is (IsRunningOf jobs.tables.desk) (λ (on : RunningStepView). on.run == run) jobs.running on running (sym is) in
        let its = found.holds in (
          its.row,
          sym (ap (run_of jobs.tables.desk) (equal-true on.run run found.passes)) ∙ its.row_at,
          and_from (is_in_state On its.row) (is_within (place_of its.row)) (ap (λ s. state_number s == state_number On) its.state) its.within,
        )

pub waits-there : (jobs : JobsView) (run : ℕ) (table : RunTable) → IsKnown jobs.tables.desk run table → AllByRecursion IsPlacedRow jobs.tables.desk.runs → AreLeft jobs → AllByRecursion (IsRunningOf jobs.tables.desk) jobs.running
    → (code : Code) → waiting_code (jobs_of jobs) run ≡ Some code → IsSome (own_step (row_for run table))
waits-there jobs run table known placed left running code waits = left_there jobs.tables.desk run table known placed (waits-left jobs run left running code waits)
