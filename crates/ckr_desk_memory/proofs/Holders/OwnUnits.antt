-- What a turn tells of a unit of a running step follows on any disk, and commits what the step has behind it.
use Rattle.std.proofs.Common.{◌≡◌, ◌==◌, ◌+◌, ℕ, Bool, true, false, cond, List, [], ◌∷◌, refl, ap, sym, ◌∙◌, subst, Option, Some, None}
use Rattle.std.specs.List.{AllByRecursion}
use Rattle.std.specs.Option.{is_some, option_map_or}
use Rattle.std.specs.Prelude.{IsSome, find}
use Rattle.std.proofs.lemmas.Bool.{and_from, false≢true}
use Rattle.ckr_base.specs.declared.programs.Heads.{Heads}
use Rattle.ckr_base.proofs.Numbers.{equal-false}
use Rattle.ckr_events.specs.Jobs.{job_of}
use Rattle.ckr_events.specs.declared.event.Ending.TheVariants.{Coded}
use Rattle.ckr_events.specs.declared.event.Event.{Event}
use Rattle.ckr_events.specs.declared.event.Event.TheVariants.{Checkpointed, Ended, Rewritten, StepEnded}
use Rattle.ckr_library.specs.Catalog.{Holding, records_of}
use Rattle.ckr_library.specs.NameMaps.{Named}
use Rattle.ckr_meaning.specs.EffectiveJob.{OwnedStep}
use Rattle.ckr_points.specs.declared.run.RunState.TheVariants.{On}
use Rattle.ckr_points.specs.Follows.{is_in_state, is_running, is_within, state_number}
use Rattle.ckr_points.specs.Restart.{place_of, step_in}
use Rattle.ckr_points.specs.Rows.{RunRow, TablesModel, run_of, step_of_run}
use Rattle.ckr_desk_plans.specs.Model.Commit.{output_names}
use Rattle.ckr_points_tables.specs.Checkpoint.{checkpoint_name}
use Rattle.ckr_rules.specs.RuleTables.{rule_number}
use Rattle.ckr_desk_plans.specs.Model.Inputs.{AreThere}
use Rattle.ckr_desk_plans.specs.Model.StepUnit.{HasDone, IsUnitFor}
use Rattle.ckr_desk_plans.specs.Model.Writes.{grown}
use Rattle.ckr_desk_plans.specs.StepTypes.Worked.{Worked}
use Rattle.ckr_desk_plans.specs.StepTypes.Worked.TheVariants.{Abend, Rewrite, Went}
use Rattle.ckr_desk_plans.specs.StepTypes.UnitAhead.{UnitAhead}
use Rattle.ckr_volumes.specs.declared.layout.Layout.{Layout}
use Rattle.ckr_desk_turn.specs.declared.failed_run.FailedRun.{FailedRun}
use Rattle.ckr_desk_turn.specs.declared.plan.Plan.{Plan}
use Rattle.ckr_desk_turn.specs.declared.plan.Plan.TheVariants.{Tell}
use Rattle.ckr_desk_turn.specs.Codes.{initiator_of, running_reached}
use Rattle.ckr_desk_turn.specs.Queue.{AreNumbered}
use Rattle.ckr_desk_turn.proofs.Codes.{by-verdict}
use Rattle.ckr_desk_turn.proofs.Queue.Events.{run_number}
use Rattle.ckr_desk_memory.proofs.Holders.Inquiries.{coded-plan}
use Rattle.ckr_desk_memory.proofs.Holders.OwnEvents.{own-committed, own-follows, restarts-follow}
use Rattle.ckr_desk_memory.proofs.Holders.Rewrites.{nothing-before}
use Rattle.ckr_desk_memory.proofs.Holders.Rooms.{unit-fits}
use Rattle.ckr_desk_memory.proofs.Holders.Units.{running-unit}
use Rattle.ckr_desk_memory.proofs.RunningSteps.First.{all-without}
use Rattle.ckr_desk_memory.specs.EventChanges.{is_of_run, with_entry_end, without_first}
use Rattle.ckr_desk_memory.proofs.Starts.Steps.{row-among}
use Rattle.ckr_desk_memory.specs.Invariant.{IsAcceptedRow, IsPlacedRow}
use Rattle.ckr_desk_memory.specs.OwnEvents.{HasOwnLengths}
use Rattle.ckr_desk_memory.specs.OwnSets.{AreUpTo, CommitsItsOwn, IsCommitted, IsCommittedWith, IsRunningOf}
use Rattle.ckr_desk_memory.specs.OwnSteps.{IsOfOther, LeavesLeft, PlanCommits, PlanFollows, PlanIsOf, PlanLeaves}
use Rattle.ckr_desk_memory.specs.Plans.{IsUnitPlan, behind_unit, is_unit_event, told_by}
use Rattle.ckr_desk_memory.specs.Start.{AllFit}
use Rattle.ckr_desk_memory.specs.View.{RunningStepView, lengths_of_row, running_of}

-- ---- steps of other runs

others_committed : (tables : TablesModel) (job : ℕ) (lengths : List ℕ) (others : List RunningStepView) → AllByRecursion (IsOfOther job) others → AllByRecursion (IsCommitted job lengths tables) others
others_committed tables job lengths [] apart = tt
others_committed tables job lengths (on ∷ rest) apart = (λ same. absurd (apart.0 same), others_committed tables job lengths rest apart.1)

others_entered : (tables : TablesModel) (most job : ℕ) (lengths : List ℕ) (others : List RunningStepView) → AllByRecursion (IsOfOther job) others → AllByRecursion (IsCommittedWith most job lengths tables) others
others_entered tables most job lengths [] apart = tt
others_entered tables most job lengths (on ∷ rest) apart = (λ same. absurd (apart.0 same), others_entered tables most job lengths rest apart.1)

-- a step with others beside it, none of which is of the run, is the only one of it
alone_first : (job : ℕ) (on : RunningStepView) (others : List RunningStepView) → AllByRecursion (IsOfOther job) others → AllByRecursion (IsOfOther job) (without_first job (on ∷ others))
alone_first job on others apart = by (is_of_run job on) refl
  where
    by : (b : Bool) → is_of_run job on ≡ b → AllByRecursion (IsOfOther job) (cond b others (on ∷ without_first job others))
    by true e = apart
    by false e = (equal-false on.run job e, all-without (IsOfOther job) job others apart)

-- a step of the run is running, and another one stands in its place
found_first : (job : ℕ) (seen moved : RunningStepView) (others : List RunningStepView) → moved.run ≡ seen.run → IsSome (find (is_of_run job) (seen ∷ [])) → IsSome (find (is_of_run job) (moved ∷ others))
found_first job seen moved others same there = by (is_of_run job seen) (ap (λ n. n == job) same) there
  where
    by : (b : Bool) → is_of_run job moved ≡ b → IsSome (cond b (Some seen) None) → IsSome (find (is_of_run job) (moved ∷ others))
    by true is there = ap (λ b. is_some (cond b (Some moved) (find (is_of_run job) others))) is
    by false is there = absurd (false≢true there)

-- what a running step commits of its own, it commits with steps of other runs beside it
pub others-commit : (tables : TablesModel) (event : Event) (seen moved : RunningStepView) (others : List RunningStepView) → moved.run ≡ seen.run → moved.sets.sets ≡ seen.sets.sets → AllByRecursion (IsOfOther (job_of event)) others
    → CommitsItsOwn event tables (seen ∷ []) → CommitsItsOwn event tables (moved ∷ others)
others-commit tables (Rewritten job taken writes lengths place image) seen moved others run sets apart commits = (
  λ same row owned at found. subst (λ (s : Named Holding). AreUpTo s (output_names row.job.root owned) lengths.items) (sym sets) (commits.0 (sym run ∙ same) row owned at found),
  others_committed tables job lengths.items others apart,
)
others-commit tables (Checkpointed job id taken writes lengths place bytes) seen moved others run sets apart commits = (
  (
    λ same row owned at found.
        subst (λ (s : Named Holding). AreUpTo (with_entry_end (checkpoint_name row.job.root owned) (place + records_of bytes) s) (output_names row.job.root owned) lengths.items) (sym sets)
        (commits.0.0 (sym run ∙ same) row owned at found),
    others_entered tables (place + records_of bytes) job lengths.items others apart,
  ),
  alone_first job moved others apart,
  found_first job seen moved others run commits.2,
)
others-commit tables _ seen moved others run sets apart commits = tt

-- ---- what is told of a unit

module _ (layout : Layout) (tables : TablesModel) (on : RunningStepView) (ahead : UnitAhead) (plan : Plan) (numbered : AreNumbered 1 tables.runs) (rows : AllByRecursion IsAcceptedRow tables.runs) (is : IsRunningOf tables on)
    (told : (row : RunRow) (own : OwnedStep) → run_of tables on.run ≡ Some row → step_of_run row (step_in (place_of row)) ≡ Some own → plan ≡ told_by layout tables row (running_of tables (behind_unit on ahead)) ahead.worked) where
  abbrev moved : RunningStepView
  moved = behind_unit on ahead

  -- what holds of what is told by the row of its run
  by-told : (Q : Plan → Type 0) → Q (told_by layout tables is.row (running_of tables moved) ahead.worked) → Q plan
  by-told Q holds = subst Q (sym (told is.row is.owned is.row_at is.found)) holds

  number : is.row.number ≡ on.run
  number = run_number tables on.run is.row numbered is.row_at

  lengths_of : HasOwnLengths tables moved (running_of tables moved).lengths
  lengths_of = λ row at. ap (λ (o : Option RunRow). option_map_or (lengths_of_row moved.sets.sets) o []) at

  pub told-commits : PlanCommits tables (moved ∷ []) plan
  told-commits = by-told (PlanCommits tables (moved ∷ [])) (by ahead.worked)
    where
      by : (worked : Worked) → PlanCommits tables (moved ∷ []) (told_by layout tables is.row (running_of tables moved) worked)
      by (Went taken) = tt
      by (Rewrite place image taken) = (own-committed tables moved is.row.number (running_of tables moved).lengths lengths_of, tt)
      by (Abend code) = by-verdict (PlanCommits tables (moved ∷ [])) layout tables is.row (initiator_of is.row) true code (running_reached (running_of tables moved)) (λ rule ends. tt) (λ judged. tt) (λ entry judged there. tt)

  pub told-of : PlanIsOf on.run plan
  told-of = by-told (PlanIsOf on.run) (by ahead.worked)
    where
      by : (worked : Worked) → PlanIsOf on.run (told_by layout tables is.row (running_of tables moved) worked)
      by (Went taken) = tt
      by (Rewrite place image taken) = number
      by (Abend code) = by-verdict (PlanIsOf on.run) layout tables is.row (initiator_of is.row) true code (running_reached (running_of tables moved)) (λ rule ends. number) (λ judged. number) (λ entry judged there. number)

  running : is_running is.row ≡ true
  running = and_from (is_in_state On is.row) (is_within (place_of is.row)) (ap (λ s. state_number s == state_number On) is.state) is.within

  module _ (heads : Heads) (placed : AllByRecursion IsPlacedRow tables.runs) (fits : AllFit on.sets.sets) (there : AreThere on.step.files on.sets) (unit : IsUnitFor on.sets on.step heads ahead) where
    done : HasDone heads on.step moved.step on.sets moved.sets ahead.worked
    done = record { answer = unit.answer; step = unit.behind; lengths = ap (λ writes. grown on.step.files writes on.sets.sets) unit.writes }

    pub told-own : PlanFollows layout tables plan
    told-own = by-told (PlanFollows layout tables) (by ahead.worked refl)
      where
        by : (worked : Worked) → ahead.worked ≡ worked → PlanFollows layout tables (told_by layout tables is.row (running_of tables moved) worked)
        by (Went taken) same = tt
        by (Rewrite place image taken) same =
            let asks = sym unit.answer ∙ same in
            own-follows layout tables
            (Rewritten is.row.number (running_of tables moved).taken (running_of tables moved).writes (record { items = (running_of tables moved).lengths }) place image)
            None on rows numbered is fits (record {
              run = number;
              own = λ row at.
                  lengths_of row at
                  ∙ ap (λ (sets : Named Holding). lengths_of_row sets row) (ap (λ writes. grown on.step.files writes on.sets.sets) (unit.writes ∙ nothing-before on.sets on.step heads place image taken asks));
              heads = heads;
              taken = taken;
              asks = asks;
            })
        by (Abend code) same =
            coded-plan layout tables is.row (initiator_of is.row) true code (running_reached (running_of tables moved))
            (λ checkpoint judged. restarts-follow layout tables is.row code None checkpoint (ap (run_of tables) number ∙ is.row_at) running (row-among IsPlacedRow tables on.run is.row placed is.row_at) judged)
            (λ rule.
            own-follows layout tables
            (Ended is.row.number (Coded code (rule_number rule) (running_of tables moved).writes (record { items = (running_of tables moved).lengths })))
            None moved rows numbered (running-unit tables on moved heads ahead.worked rows numbered refl done is) (unit-fits on moved heads ahead.worked there fits done) (number, lengths_of))

-- it ends no step
pub told-leaves : (failed : List FailedRun) (plan : Plan) → IsUnitPlan plan → PlanLeaves failed plan
told-leaves failed (Tell reply event) is = by event is
  where
    by : (event : Event) → is_unit_event event ≡ true → LeavesLeft event failed
    by (StepEnded job step rc writes lengths) is = absurd (false≢true is)
    by _ is = tt
told-leaves failed _ is = tt
