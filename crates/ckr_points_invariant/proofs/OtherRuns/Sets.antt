-- An event leaves each data set that its run doesn't reach.
use Rattle.std.proofs.Common.{◌≡◌, ◌≤◌, ℕ, Bool, true, false, if◌then◌else◌, ◌||◌, List, ◌∷◌, refl, ap, sym, ◌∙◌, subst, Option, Some, arith, []}
use Rattle.std.specs.Prelude.{◌==◌}
use Rattle.std.specs.Option.{option_map_or}
use Rattle.std.proofs.lemmas.Bool.{false≢true, or_right}
use Rattle.arrayvec.specs.ArrayVec.{ArrayVec}
use Rattle.ckr_base.specs.declared.code.Code.{Code}
use Rattle.ckr_base.specs.declared.programs.Output.TheVariants.{InPlace}
use Rattle.ckr_base.proofs.Bools.{and-first, and-second, bool-cases}
use Rattle.ckr_base.proofs.Options.{option-cases}
use Rattle.ckr_events.specs.declared.event.Ending.TheVariants.{Allocation, Coded, Completed}
use Rattle.ckr_events.specs.declared.event.Made.{Made}
use Rattle.ckr_library.specs.NameMaps.{Name, Named, same_name, entry_at, with_changed}
use Rattle.ckr_library.proofs.Named.{at-with_changed-other, name-itself, name-same}
use Rattle.ckr_meaning.specs.Allotments.{DdAllotment, opened_all}
use Rattle.ckr_meaning.specs.EffectiveJob.{Effective, OwnedStep, is_among, names_of, placed_in, stamp_of, step_at}
use Rattle.ckr_meaning.specs.StepRun.{StepStart}
use Rattle.ckr_meaning.specs.declared.place.Place.{Place}
use Rattle.ckr_meaning.specs.declared.place.Place.TheVariants.{Before, Opened, Within}
use Rattle.ckr_volumes.specs.declared.layout.Layout.{Layout}
use Rattle.ckr_points_library.specs.Commit.{output_names}
use Rattle.ckr_points.specs.Follows.{are_lengths, is_length_of, is_update}
use Rattle.ckr_points.specs.Office.{Leg, Office}
use Rattle.ckr_points.specs.Payload.{commits, writes_in}
use Rattle.ckr_points.specs.Restart.{after_abnormal, after_ended, after_passed_ended, place_of}
use Rattle.ckr_points.specs.Rows.{RunRow, TableSet, TablesModel, standing_of, step_of_run, table_ways}
use Rattle.ckr_points.specs.Tables.{after_checkpointed, after_commit, after_dispositions, after_held, after_rewritten, after_step_ended, committed, is_checkpoints, is_updates, name_with_role, table_rewritten, after_started}
use Rattle.ckr_points_invariant.specs.Invariant.{IsAgreed, IsAtPlace, IsHolder, step_now}
use Rattle.ckr_points_invariant.specs.RunningSteps.{IsRunning, its_start}
use Rattle.ckr_points_invariant.proofs.Library.Likeness.{made_all-apart, opened_all-apart, placed-apart}
use Rattle.ckr_points_invariant.proofs.Library.PassedList.{ended-stays}
use Rattle.ckr_points_invariant.proofs.Rewrite.Invariant.{updated-name}
use Rattle.ckr_points_invariant.proofs.RunEnd.Event.{committed_office, kept_then, running_then}
use Rattle.ckr_points_invariant.proofs.Start.Invariant as starting
use Rattle.ckr_points_invariant.proofs.StepEnd.Invariant.{disposed-enters, disposed-outside}
use Rattle.ckr_points_invariant.proofs.Steps.Commits.{formed_step, in_reach, out_of_outputs}
use Rattle.ckr_points_invariant.proofs.Writes.Likeness.{committed-other}
use Rattle.ckr_points_invariant.proofs.Writes.Roles.{target, target-named}
use Rattle.ckr_points_invariant.proofs.EventRows.{IsChecking, IsCommitting, IsRefused, IsRewriting, IsStepDone, IsThrough}
use Rattle.ckr_points_invariant.proofs.Start.Event.{StartsNow}

-- a run that holds its names doesn't reach this one
abbrev pub IsApart : Office → ℕ → Name → Type 0
IsApart now job name = (row : RunRow) (leg : Leg) → IsHolder now job row leg → is_among leg.reach name ≡ false

-- data sets are as they were but for those that a run reaches
abbrev pub LeavesApart : Office → ℕ → Named TableSet → Type 0
LeavesApart now job sets = (name : Name) → IsApart now job name → entry_at sets name ≡ entry_at now.tables.sets name

pub length-among : (set : Name) (most : ℕ) (names : List Name) (lengths : List ℕ) → is_length_of set most names lengths ≡ true → is_among names set ≡ true
length-among set most [] lengths e = absurd (false≢true e)
length-among set most (first ∷ names) [] e = absurd (false≢true e)
length-among set most (first ∷ names) (now ∷ lengths) e = by (length-among set most names lengths) (same_name first set) refl e
  where
    by : (is_length_of set most names lengths ≡ true → is_among names set ≡ true) → (b : Bool) → same_name first set ≡ b → (if b then now == most else is_length_of set most names lengths) ≡ true → (same_name set first || is_among names set) ≡ true
    by others true same e = ap (λ n. same_name n first || is_among names set) (sym (name-same first set same)) ∙ ap (λ b. b || is_among names set) (name-itself first)
    by others false same e = or_right (same_name set first) (is_among names set) (others e)

-- ---- a step that runs

module _ (layout : Layout) (now : Office) (job : ℕ) (row : RunRow) (leg : Leg) (owned : OwnedStep) (kept : IsAgreed layout now) (running : IsRunning now job row leg owned (step_now row) (writes_in (place_of row))) (name : Name) (out : is_among leg.reach name ≡ false) where
  same_job : leg.job ≡ row.job
  same_job = (kept.places job row leg running.holder).job

  outputs_out : is_among (output_names row.job.root owned) name ≡ false
  outputs_out =
      ap (λ (effective : Effective). is_among (output_names effective.root owned) name) (sym same_job)
      ∙ out_of_outputs layout now job row leg owned (step_now row) (writes_in (place_of row)) kept running name out

  committed-out : (lengths : List ℕ) → entry_at (committed (output_names row.job.root owned) lengths now.tables.sets) name ≡ entry_at now.tables.sets name
  committed-out lengths = committed-other (output_names row.job.root owned) lengths now.tables.sets name outputs_out

  -- a data set of the step is another one
  differs : (to : Name) → is_among (names_of leg.job.root owned) to ≡ true → same_name name to ≡ false
  differs to among =
      bool-cases (same_name name to)
      (λ same.
      absurd (false≢true (sym out ∙ ap (is_among leg.reach) (name-same name to same)
      ∙ in_reach layout now job row leg owned (step_now row) (writes_in (place_of row)) kept running to among)))
      (λ apart. apart)

  rewritten-out : (lengths : List ℕ) → is_update owned.step.program ≡ true → entry_at (with_changed (name_with_role row.job.root owned is_updates) (table_rewritten owned.owner (step_now row)) (committed (output_names row.job.root owned) lengths now.tables.sets)) name ≡ entry_at now.tables.sets name
  rewritten-out lengths updates =
      let start : StepStart = its_start leg owned (step_now row) in
      let to = target start (InPlace 0) (name_with_role leg.job.root owned is_updates) (updated-name start 0 (formed_step layout now job row leg owned (step_now row) (writes_in (place_of row)) kept running) updates) in
      at-with_changed-other (name_with_role row.job.root owned is_updates) name (table_rewritten owned.owner (step_now row)) (committed (output_names row.job.root owned) lengths now.tables.sets)
      (ap (λ (effective : Effective). same_name name (name_with_role effective.root owned is_updates)) (sym same_job)
      ∙ differs (name_with_role leg.job.root owned is_updates) (target-named start (InPlace 0) (name_with_role leg.job.root owned is_updates) to.0 to.1))
      ∙ committed-out lengths

  -- committed and then ended, it is another one still
  module _ (writes : ℕ) (lengths : List ℕ) (carried : commits now.tables.sets row writes lengths (its_start leg owned (step_now row)) ≡ true) (are : are_lengths now.tables.sets (output_names row.job.root owned) lengths ≡ true) where
    abbrev done : TablesModel
    done = after_commit row owned (step_now row) writes lengths now.tables

    abbrev row_then : RunRow
    row_then = record row { place = Some (Within (step_now row) writes) }

    agreed : IsAgreed layout (committed_office now row owned writes lengths)
    agreed = kept_then layout now job row leg owned writes lengths kept running carried are

    runs : IsRunning (committed_office now row owned writes lengths) job row_then leg owned (step_now row) writes
    runs = running_then layout now job row leg owned writes lengths kept running carried are

    disposed-out : (abnormal : Bool) → entry_at (after_dispositions row_then owned (step_now row) abnormal done).sets name ≡ entry_at now.tables.sets name
    disposed-out abnormal =
        disposed-outside layout (committed_office now row owned writes lengths) job row_then leg owned (step_now row) writes agreed runs abnormal name out
        ∙ committed-out lengths

    coded-out : entry_at (after_abnormal row_then (Within (step_now row) writes) done).sets name ≡ entry_at now.tables.sets name
    coded-out =
        ap (λ (o : Option OwnedStep). entry_at (option_map_or (λ owned. let disposed = after_dispositions row_then owned (step_now row) true done in after_passed_ended (record row_then { passed = disposed.passed }) (record done { sets = disposed.sets })) o done).sets name) running.found
        ∙ ended-stays row.lost (after_dispositions row_then owned (step_now row) true done).passed (after_dispositions row_then owned (step_now row) true done).sets name
        (disposed-enters layout (committed_office now row owned writes lengths) job row_then leg owned (step_now row) writes agreed runs true name out)
        ∙ disposed-out true

-- ---- the events

module _ (layout : Layout) (now : Office) (kept : IsAgreed layout now) where
  pub apart-started : (job step : ℕ) (items : List Made) (row : RunRow) (leg : Leg) (owned : OwnedStep) → StartsNow layout now job row leg owned step items → LeavesApart now job (after_started row owned step items now.tables).sets
  apart-started job step items row leg owned starts name apart =
      let place : IsAtPlace now.tables row leg = kept.places job row leg starts.holder in
      let here : step_now row ≡ step = starting.now layout now job row leg owned step items kept starts.holder starts.stands starts.found in
      let at_leg : step_at leg.job step ≡ Some owned = starting.found_leg layout now job row leg owned step items kept starts.holder starts.stands starts.found in
      let out : is_among (names_of row.job.root owned) name ≡ false =
      ap (λ (effective : Effective). is_among (names_of effective.root owned) name) (sym place.job)
      ∙ bool-cases (is_among (names_of leg.job.root owned) name)
      (λ among. absurd (false≢true (sym (apart row leg starts.holder) ∙ (place.ahead step owned name (subst (λ n. n ≤ step) (sym here) (omega arith)) at_leg among).0)))
      (λ e. e) in
      let placed : List DdAllotment = placed_in table_ways (standing_of row now.tables) row.job.root owned in
      let each = placed-apart table_ways (standing_of row now.tables) row.job.root owned 1 owned.step.dds name out in
      made_all-apart (stamp_of owned step) items placed (opened_all table_ways (stamp_of owned step) placed now.tables.sets) name each
      ∙ opened_all-apart (stamp_of owned step) placed now.tables.sets name each

  pub apart-held : (job writes : ℕ) (code : Code) (lengths : List ℕ) (row : RunRow) (leg : Leg) (owned : OwnedStep) → IsCommitting now job row leg owned writes lengths → LeavesApart now job (after_held row owned (step_now row) code writes lengths now.tables).sets
  apart-held job writes code lengths row leg owned its name apart =
      committed-out layout now job row leg owned kept its.at.running name (apart row leg its.at.running.holder) lengths

  pub apart-rewritten : (job taken writes place : ℕ) (lengths image : List ℕ) (row : RunRow) (leg : Leg) (owned : OwnedStep) → IsRewriting now job row leg owned taken writes place lengths image → LeavesApart now job (after_rewritten row owned (step_now row) writes lengths now.tables).sets
  apart-rewritten job taken writes place lengths image row leg owned its name apart =
      rewritten-out layout now job row leg owned kept its.at.running name (apart row leg its.at.running.holder) lengths (and-first (is_update owned.step.program) _ its.rewrite)

  pub apart-checkpointed : (job taken writes place bytes : ℕ) (id : Name) (lengths : List ℕ) (row : RunRow) (leg : Leg) (owned : OwnedStep) → IsChecking now job row leg owned id taken writes place bytes lengths → LeavesApart now job (after_checkpointed row owned (step_now row) (record { id = id; run = job; place = place; bytes = bytes }) taken writes lengths now.tables).sets
  apart-checkpointed job taken writes place bytes id lengths row leg owned its name apart =
      let running = its.committing.at.running in
      let set : Name = name_with_role row.job.root owned is_checkpoints in
      let out = outputs_out layout now job row leg owned kept running name (apart row leg running.holder) in
      let listed : is_among (output_names row.job.root owned) set ≡ true = length-among set _ (output_names row.job.root owned) lengths (and-second _ (is_length_of set _ (output_names row.job.root owned) lengths) its.check) in
      at-with_changed-other set name _ (committed (output_names row.job.root owned) lengths now.tables.sets)
      (bool-cases (same_name name set) (λ same. absurd (false≢true (sym out ∙ ap (is_among (output_names row.job.root owned)) (name-same name set same) ∙ listed))) (λ differs. differs))
      ∙ committed-out layout now job row leg owned kept running name (apart row leg running.holder) lengths

  pub apart-step_ended : (job rc writes : ℕ) (lengths : List ℕ) (row : RunRow) (leg : Leg) (owned : OwnedStep) → IsStepDone now job row leg owned rc writes lengths → LeavesApart now job (after_step_ended row owned (step_now row) rc writes lengths now.tables).sets
  apart-step_ended job rc writes lengths row leg owned its name apart =
      disposed-out layout now job row leg owned kept its.committing.at.running name (apart row leg its.committing.at.running.holder) writes lengths its.committing.commit its.committing.at.are false

  -- ---- a run ends

  pub apart-completed : (job : ℕ) (row : RunRow) (leg : Leg) → IsThrough now job row leg → LeavesApart now job (after_ended row Completed now.tables).sets
  apart-completed job row leg its name apart =
      ended-stays row.lost row.passed now.tables.sets name ((kept.places job row leg its.holder).entered name (apart row leg its.holder))

  pub apart-coded : (job rule writes : ℕ) (code : Code) (lengths : ArrayVec ℕ) (row : RunRow) (leg : Leg) (owned : OwnedStep) → IsCommitting now job row leg owned writes lengths.items → LeavesApart now job (after_ended row (Coded code rule writes lengths) now.tables).sets
  apart-coded job rule writes code lengths row leg owned its name apart =
      ap (λ (o : Option OwnedStep). entry_at (option_map_or (λ owned. after_abnormal (record row { place = Some (Within (step_now row) writes) }) (Within (step_now row) writes) (after_commit row owned (step_now row) writes lengths.items now.tables)) o now.tables).sets name) its.at.running.found
      ∙ coded-out layout now job row leg owned kept its.at.running name (apart row leg its.at.running.holder) writes lengths.items its.commit its.at.are

  abnormal-out : (job : ℕ) (row : RunRow) (leg : Leg) (name : Name) → IsHolder now job row leg → is_among leg.reach name ≡ false → (place : Place) → place_of row ≡ place → entry_at (after_abnormal row place now.tables).sets name ≡ entry_at now.tables.sets name
  abnormal-out job row leg name holder out (Before step) stands = ended-stays row.lost row.passed now.tables.sets name ((kept.places job row leg holder).entered name out)
  abnormal-out job row leg name holder out (Opened step) stands = ended-stays row.lost row.passed now.tables.sets name ((kept.places job row leg holder).entered name out)
  abnormal-out job row leg name holder out (Within step writes) stands =
      option-cases (step_of_run row step)
      (λ none. ap (λ (o : Option OwnedStep). entry_at (option_map_or (λ owned. let disposed = after_dispositions row owned step true now.tables in after_passed_ended (record row { passed = disposed.passed }) (record now.tables { sets = disposed.sets })) o now.tables).sets name) none)
      (λ owned found.
      let running : IsRunning now job row leg owned step writes = record { holder = holder; stands = stands; found = found } in
      ap (λ (o : Option OwnedStep). entry_at (option_map_or (λ owned. let disposed = after_dispositions row owned step true now.tables in after_passed_ended (record row { passed = disposed.passed }) (record now.tables { sets = disposed.sets })) o now.tables).sets name) found
      ∙ ended-stays row.lost (after_dispositions row owned step true now.tables).passed (after_dispositions row owned step true now.tables).sets name (disposed-enters layout now job row leg owned step writes kept running true name out)
      ∙ disposed-outside layout now job row leg owned step writes kept running true name out)

  pub apart-allocation : (job dd cause first second : ℕ) (row : RunRow) (leg : Leg) (owned : OwnedStep) → IsRefused now job row leg owned → LeavesApart now job (after_ended row (Allocation dd cause first second) now.tables).sets
  apart-allocation job dd cause first second row leg owned its name apart = abnormal-out job row leg name its.holder (apart row leg its.holder) (place_of row) refl
