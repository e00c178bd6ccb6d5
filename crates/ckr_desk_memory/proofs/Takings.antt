-- What a turn comes to by what has become of the volumes that its step wants.
use Rattle.std.proofs.Common.{◌≡◌, ◌==◌, ◌&&◌, ℕ, Bool, true, false, refl, ap, sym, ◌∙◌, List, length, nat_le, Option, None, Some, arith}
use Rattle.std.proofs.lemmas.Option.{same_Some}
use Rattle.std.specs.Option.{option_map_or}
use Rattle.ckr_base.proofs.Bools.{and-first}
use Rattle.ckr_base.proofs.Numbers.{equal-true, nat_le-from}
use Rattle.ckr_base.proofs.Options.{some-not-none, some-one}
use Rattle.ckr_desk_turn.specs.declared.plan.Plan.{Plan}
use Rattle.ckr_desk_turn.specs.declared.plan.Plan.TheVariants.{Rest, Tell, Work}
use Rattle.ckr_points.specs.declared.reply.Reply.{Reply}
use Rattle.ckr_points.specs.declared.reply.Reply.TheVariants.{AwaitingReply, WaitingUnits}
use Rattle.ckr_desk_turn.specs.declared.taking.Taking.{Taking}
use Rattle.ckr_desk_turn.specs.declared.taking.Taking.TheVariants.{Taken, Exceeds, Lacks, Refused, Awaited}
use Rattle.ckr_desk_turn.specs.Allocation.{cause_numbers}
use Rattle.ckr_desk_turn.specs.Mounts.{Wanting, by_taking, dd_on, ended_at, plan_by, wanting, wanting_in, wants}
use Rattle.ckr_desk_turn.specs.Plans.{allocation_ended}
use Rattle.ckr_events.specs.declared.event.Ending.TheVariants.{Allocation}
use Rattle.ckr_events.specs.declared.event.Event.TheVariants.{Cancelled as CancelledEvent, Started as StartedEvent}
use Rattle.ckr_events.specs.declared.event.Made.{Made}
use Rattle.ckr_meaning.specs.EffectiveJob.{OwnedStep}
use Rattle.ckr_points.specs.Follows.{ended_follows, is_in_state, is_running, is_within, of_run, own_step, started_follows, state_number}
use Rattle.ckr_points.specs.Restart.{place_of}
use Rattle.ckr_points.specs.Rows.{RunRow, TablesModel, run_of}
use Rattle.ckr_points.specs.declared.run.RunState.TheVariants.{On}
use Rattle.ckr_desk_plans.specs.Model.Cause.{Cause}
use Rattle.ckr_desk_plans.specs.Model.Cause.TheVariants.{MountRefused, Units}
use Rattle.ckr_volumes.specs.declared.layout.Layout.{Layout}
use Rattle.ckr_desk_memory.specs.EventChanges.{is_of_run}
use Rattle.ckr_desk_memory.specs.OwnSets.{IsRunningOf}
use Rattle.ckr_desk_memory.specs.OwnSteps.{HoldTheirOwn, PlanFollows}
use Rattle.ckr_desk_memory.specs.Plans.{HasDue}
use Rattle.ckr_desk_memory.specs.View.{JobsView}
use Rattle.ckr_desk_memory.proofs.FoundRuns.{AreRunRows, find-is}
use Rattle.ckr_desk_memory.proofs.WantedVolumes.{first-within}
use Rattle.ckr_desk_memory.proofs.WantingSteps.{wanting-by, wanting-found}

-- where nothing is in the way, it comes to what it came to
pub same-either : {A : Type 0} (found : Option A) (plan : Plan) → plan ≡ option_map_or (λ _. plan) found plan
same-either None plan = refl
same-either (Some step) plan = refl

-- by what has become of the volumes
pub taken-by : (layout : Layout) (tables : TablesModel) (became one : Taking) (plan result : Plan) → became ≡ one → result ≡ option_map_or (by_taking layout one plan) (wanting tables plan) plan → result ≡ plan_by layout tables became plan
unfolding plan_by
taken-by layout tables became one plan result is same = same ∙ ap (λ other. option_map_or (by_taking layout other plan) (wanting tables plan) plan) (sym is)

-- it comes to what it came to, rests, or ends the run at a DD of the step
pub by-taken : (P : Plan → Type 0) (layout : Layout) (tables : TablesModel) (taking : Taking) (plan : Plan) → P plan → ((reply : Reply) → P (Rest reply))
    → ((step : Wanting) (cause : Cause) (sought : Option ℕ) (dd : ℕ) → wanting tables plan ≡ Some step → dd_on step sought ≡ Some dd → P (allocation_ended step.row step.owned dd cause))
    → P (plan_by layout tables taking plan)
unfolding plan_by
by-taken P layout tables taking plan same rests ends = by (wanting tables plan) refl
  where
    by : (found : Option Wanting) → wanting tables plan ≡ found → P (option_map_or (by_taking layout taking plan) found plan)
    by None is = same
    by (Some step) is = each taking
      where
        ended : (sought : Option ℕ) (cause : Cause) (found : Option ℕ) → dd_on step sought ≡ found → P (ended_at step cause plan found)
        ended sought cause None there = same
        ended sought cause (Some dd) there = ends step cause sought dd is there

        each : (one : Taking) → P (by_taking layout one plan step)
        each Taken = same
        each (Exceeds need) = ended None (Units need layout.units) (dd_on step None) refl
        each (Lacks need free) = rests (WaitingUnits need free)
        each (Refused volume) = ended (Some volume) (MountRefused volume) (dd_on step (Some volume)) refl
        each Awaited = rests AwaitingReply

-- ---- the end of the run follows

-- the step that wants its volumes, by the plan
record IsWantedBy (tables : TablesModel) (plan : Plan) (step : Wanting) : Type 0 where
  job : ℕ
  made : List Made
  is : wants plan ≡ Some (job, made)
  at : run_of tables job ≡ Some step.row
  there : own_step step.row ≡ Some step.owned

wanted-by : (tables : TablesModel) (plan : Plan) (step : Wanting) → wanting tables plan ≡ Some step → IsWantedBy tables plan step
wanted-by tables plan step found = of (wants plan) refl
  where
    owned_of : (job : ℕ) (made : List Made) → wants plan ≡ Some (job, made) → (row : RunRow) → run_of tables job ≡ Some row → (owned : Option OwnedStep) → own_step row ≡ owned → IsWantedBy tables plan step
    owned_of job made is row at None there = absurd (some-not-none step (sym found ∙ wanting-by tables plan (job, made) is ∙ wanting-found tables job made row None at there))
    owned_of job made is row at (Some owned) there =
        let same : step ≡ record { sets = tables.sets; row = row; owned = owned; items = made } =
        same_Some _ _ (sym found ∙ wanting-by tables plan (job, made) is ∙ wanting-found tables job made row (Some owned) at there) in
        record {
          job = job;
          made = made;
          is = is;
          at = at ∙ ap (λ (one : Wanting). let row : Option RunRow = Some one.row in row) (sym same);
          there = ap (λ (one : Wanting). own_step one.row) same ∙ there ∙ ap (λ (one : Wanting). let owned : Option OwnedStep = Some one.owned in owned) (sym same);
        }

    row_of : (job : ℕ) (made : List Made) → wants plan ≡ Some (job, made) → (row : Option RunRow) → run_of tables job ≡ row → IsWantedBy tables plan step
    row_of job made is None at = absurd (some-not-none step (sym found ∙ wanting-by tables plan (job, made) is ∙ ap (λ row. option_map_or (λ (row : RunRow). option_map_or (λ owned. let one : Option Wanting = Some (record { sets = tables.sets; row = row; owned = owned; items = made }) in one) (own_step row) None) row None) at))
    row_of job made is (Some row) at = owned_of job made is row at (own_step row) refl

    of : (want : Option (ℕ × List Made)) → wants plan ≡ want → IsWantedBy tables plan step
    of None is = absurd (some-not-none step (sym found ∙ ap (λ want. option_map_or (wanting_in tables) want None) is))
    of (Some want) is = row_of want.0 want.1 is (run_of tables want.0) refl

tested : (found : Option RunRow) (row : RunRow) (test : RunRow → Bool) → found ≡ Some row → option_map_or test found false ≡ true → test row ≡ true
tested found row test at is = sym (ap (λ o. option_map_or test o false) at) ∙ is

-- its run is on an initiator
is-on : (layout : Layout) (jobs : JobsView) (plan : Plan) (job : ℕ) (made : List Made) (row : RunRow) → wants plan ≡ Some (job, made) → run_of jobs.tables.desk job ≡ Some row
    → PlanFollows layout jobs.tables.desk plan → HasDue jobs plan → HoldTheirOwn jobs → is_in_state On row ≡ true
is-on layout jobs (Tell reply (StartedEvent run step items)) job made row is at follow due own =
    let same : run ≡ job = ap (λ (want : ℕ × List Made). want.0) (same_Some _ _ is) in
    and-first (is_in_state On row) _ (tested (run_of jobs.tables.desk run) row (started_follows layout jobs.tables.desk step items.items) (ap (run_of jobs.tables.desk) same ∙ at) follow)
is-on layout jobs (Tell reply (CancelledEvent run)) job made row is at follow due own =
    let same : run ≡ job = ap (λ (want : ℕ × List Made). want.0) (same_Some _ _ is) in
    and-first (is_in_state On row) (is_within (place_of row)) (tested (run_of jobs.tables.desk run) row is_running (ap (run_of jobs.tables.desk) same ∙ at) follow)
is-on layout jobs (Tell reply _) job made row is at follow due own = absurd (some-not-none (job, made) (sym is))
is-on layout jobs (Work run) job made row is at follow due own =
    let same : run ≡ job = ap (λ (want : ℕ × List Made). want.0) (same_Some _ _ is) in
    let its = find-is (IsRunningOf jobs.tables.desk) (is_of_run run) jobs.running due.0 own.running due.1 in
    let row_is = some-one its.holds.row row (run_of jobs.tables.desk due.0.run) its.holds.row_at (ap (run_of jobs.tables.desk) (equal-true due.0.run run its.passes ∙ same) ∙ at) in
    ap (is_in_state On) (sym row_is) ∙ ap (λ state. state_number state == state_number On) its.holds.state
is-on layout jobs _ job made row is at follow due own = absurd (some-not-none (job, made) (sym is))

pub ended-follows : (layout : Layout) (jobs : JobsView) (plan : Plan) (step : Wanting) (cause : Cause) (sought : Option ℕ) (dd : ℕ) → AreRunRows jobs.tables.desk → wanting jobs.tables.desk plan ≡ Some step → dd_on step sought ≡ Some dd
    → PlanFollows layout jobs.tables.desk plan → HasDue jobs plan → HoldTheirOwn jobs → PlanFollows layout jobs.tables.desk (allocation_ended step.row step.owned dd cause)
ended-follows layout jobs plan step cause sought dd rows found there follow due own =
    let its = wanted-by jobs.tables.desk plan step found in
    let inside = first-within _ 1 step.owned.step.dds dd there in
    let number : step.row.number ≡ its.job = (rows its.job step.row its.at).numbered in
    let on = is-on layout jobs plan its.job its.made step.row its.is its.at follow due own in
    let numbers = cause_numbers cause in
    let test : RunRow → Bool = λ row. ended_follows jobs.tables.desk row (Allocation dd numbers.0 numbers.1 numbers.2) in
    ap (λ n. of_run jobs.tables.desk n test) number
    ∙ ap (λ o. option_map_or test o false) its.at
    ∙ ap (λ b. b && option_map_or (λ (owned : OwnedStep). nat_le 1 dd && nat_le dd (length owned.step.dds)) (own_step step.row) false) on
    ∙ ap (λ o. option_map_or (λ (owned : OwnedStep). nat_le 1 dd && nat_le dd (length owned.step.dds)) o false) its.there
    ∙ ap (λ b. b && nat_le dd (length step.owned.step.dds)) (nat_le-from 1 dd inside.0)
    ∙ nat_le-from dd (length step.owned.step.dds) (omega (arith, inside.1))
