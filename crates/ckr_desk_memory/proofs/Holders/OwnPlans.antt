-- What a turn tells follows on any disk, what it commits is its step's own, and it ends no step of a run that was running when the system failed.
use Rattle.std.proofs.Common.{◌≡◌, ◌≤◌, ◌==◌, ◌||◌, ℕ, Bool, true, false, List, [], find, refl, ap, sym, ◌∙◌, subst, Option, Some, None}
use Rattle.std.specs.Prelude.{if◌then◌else◌}
use Rattle.std.specs.Option.{is_none, is_some, option_map_or}
use Rattle.std.proofs.lemmas.Bool.{and_from, false≢true, true≢false}
use Rattle.std.proofs.lemmas.Option.{same_Some}
use Rattle.ckr_base.specs.declared.code.Code.{Code}
use Rattle.ckr_base.proofs.Bools.{and-second, bool-cases, if-then}
use Rattle.ckr_base.proofs.Numbers.{equal-true}
use Rattle.ckr_base.proofs.Options.{is_some-true, option-cases, some-not-none, some-one}
use Rattle.ckr_base.proofs.Sequences.{find-holds, find-passes}
use Rattle.ckr_events.specs.declared.event.Event.{Event}
use Rattle.ckr_events.specs.declared.event.Event.TheVariants.{Checkpointed, Ended, Rewritten, StepEnded}
use Rattle.ckr_events.specs.declared.event.Ending.TheVariants.{Coded}
use Rattle.ckr_meaning.specs.EffectiveJob.{OwnedStep}
use Rattle.ckr_meaning.specs.declared.place.Place.{Place}
use Rattle.ckr_meaning.specs.declared.place.Place.TheVariants.{Before, Opened, Within}
use Rattle.ckr_points.specs.declared.run.RunState.TheVariants.{On, Released}
use Rattle.ckr_points.specs.Follows.{follows, is_free, is_in_state, is_running, is_within, own_step, state_number}
use Rattle.ckr_points.specs.Payload.{lengths_kept}
use Rattle.ckr_points.specs.Restart.{place_of, step_in}
use Rattle.ckr_points.specs.Rows.{RunRow, TablesModel, run_of}
use Rattle.ckr_volumes.specs.declared.layout.Layout.{Layout}
use Rattle.ckr_rules.specs.RuleTables.{rule_number}
use Rattle.ckr_rules.specs.declared.cases.Rule.{Rule}
use Rattle.ckr_desk_turn.specs.declared.failed_run.FailedRun.{FailedRun}
use Rattle.ckr_desk_turn.specs.declared.plan.Plan.{Plan}
use Rattle.ckr_desk_turn.specs.declared.plan.Plan.TheVariants.{Ask, Rest, Tell, Wait, Work, Pass, Take}
use Rattle.ckr_desk_turn.specs.declared.reply.Turn.{Turn}
use Rattle.ckr_desk_turn.specs.Codes.{CodePlaceModel, code_plan, initiator_of, kept_reached, reached_by, running_reached}
use Rattle.ckr_desk_turn.specs.Invariant.{IsTurnOf, has_code_while_off, is_off}
use Rattle.ckr_desk_turn.specs.Jobs.{TurnJobs, TurnStep}
use Rattle.ckr_desk_turn.specs.Plans.{finished_plan, is_within as is_planned, plan_of, system_failure}
use Rattle.ckr_desk_turn.specs.Queue.{AreNumbered}
use Rattle.ckr_desk_turn.specs.Select.{is_on, may_select, next_run, run_on_initiator}
use Rattle.ckr_desk_turn.proofs.Codes.{by-verdict}
use Rattle.ckr_desk_turn.proofs.NextEvents.BetweenSteps.{free-there, lodged-on, next_cases}
use Rattle.ckr_desk_turn.proofs.RunningSteps.{stopped-reached}
use Rattle.ckr_desk_memory.proofs.FoundRuns.{found-run, running-found, working-is, working_of}
use Rattle.ckr_desk_memory.proofs.Holders.Inquiries.{coded-plan}
use Rattle.ckr_desk_memory.proofs.Holders.OwnEvents.{left-follows, own-follows, released-hand, released-restarts, restarts-follow, running-hand}
use Rattle.ckr_desk_memory.proofs.Holders.PlanCases.{PlanCases, plan-cases}
use Rattle.ckr_desk_memory.proofs.Holders.Rooms.{stored-fit}
use Rattle.ckr_desk_memory.proofs.Plans.{within-there}
use Rattle.ckr_desk_memory.proofs.Starts.Steps.{row-among}
use Rattle.ckr_desk_memory.proofs.TurnEvents.{FollowsBetween, is_of_step, plan-follows}
use Rattle.ckr_desk_memory.proofs.WaitingRuns.{left-place, marked-left, uncoded-on, unmarked-others, waits-left}
use Rattle.ckr_desk_memory.specs.EventChanges.{is_of_run}
use Rattle.ckr_desk_memory.specs.Invariant.{AreJobs, IsPlacedRow, IsRunnable}
use Rattle.ckr_desk_memory.specs.OwnEvents.{HasOwnLengths, IsOwnEvent, is_at_hand}
use Rattle.ckr_desk_memory.specs.OwnSets.{CommitsItsOwn, IsRunningOf}
use Rattle.ckr_desk_memory.specs.OwnSteps.{AnswersFollow, AreLeft, HoldTheirOwn, IsLeft, LeavesLeft, PlanCommits, PlanFollows, PlanLeaves}
use Rattle.ckr_desk_memory.specs.View.{JobsView, RunningStepView, jobs_of, lengths_of_row, running_of}

-- ---- what is told of a step

-- an event of a plan follows, if it is of a step
abbrev FollowsWithin : Layout → TablesModel → Plan → Type 0
FollowsWithin layout tables (Rest reply) = Unit {0}
FollowsWithin layout tables (Tell reply event) = is_of_step event ≡ true → follows layout tables event None ≡ true
FollowsWithin layout tables (Work job) = Unit {0}
FollowsWithin layout tables (Pass job reply) = Unit {0}
FollowsWithin layout tables (Take job) = Unit {0}
FollowsWithin layout tables (Ask inquiry) = AnswersFollow layout tables inquiry
FollowsWithin layout tables (Wait job code) = Unit {0}

follows_both : (layout : Layout) (tables : TablesModel) (plan : Plan) → FollowsBetween layout tables plan → FollowsWithin layout tables plan → PlanFollows layout tables plan
follows_both layout tables (Rest reply) between within = tt
follows_both layout tables (Tell reply event) between within = bool-cases (is_of_step event) within between
follows_both layout tables (Work job) between within = tt
follows_both layout tables (Pass job reply) between within = tt
follows_both layout tables (Take job) between within = tt
follows_both layout tables (Ask inquiry) between within = within
follows_both layout tables (Wait job code) between within = tt

within_from : (layout : Layout) (tables : TablesModel) (plan : Plan) → PlanFollows layout tables plan → FollowsWithin layout tables plan
within_from layout tables (Rest reply) follow = tt
within_from layout tables (Tell reply event) follow = λ it. follow
within_from layout tables (Work job) follow = tt
within_from layout tables (Pass job reply) follow = tt
within_from layout tables (Take job) follow = tt
within_from layout tables (Ask inquiry) follow = follow
within_from layout tables (Wait job code) follow = tt

planned_within : (place : Place) → is_planned place ≡ true → is_within place ≡ true
planned_within (Before number) within = within
planned_within (Opened number) within = within
planned_within (Within number writes) within = within

-- a run that is off its initiator has a code, and one with a code is off it, within its step
code-off : (row : RunRow) (code : Code) → has_code_while_off row ≡ true → row.code ≡ Some code → is_off row.state ≡ true
code-off row code has some = by (is_off row.state) (sym (ap (λ (o : Option Code). if is_off row.state then is_some o else is_none o) some) ∙ has)
  where
    by : (b : Bool) → (if b then true else false) ≡ true → b ≡ true
    by true is = refl
    by false is = is

module _ (layout : Layout) (jobs : JobsView) (numbered : AreNumbered 1 jobs.tables.desk.runs) (are : AreJobs layout jobs) (own : HoldTheirOwn jobs) (left : AreLeft jobs) where
  abbrev tables : TablesModel
  tables = jobs.tables.desk

  abbrev seen : TurnJobs
  seen = jobs_of jobs

  abbrev Follows : Plan → Type 0
  Follows plan = FollowsWithin layout tables plan

  lengths_of : (on : RunningStepView) → HasOwnLengths tables on (working_of tables on).lengths
  lengths_of on = λ row at. ap (λ (o : Option RunRow). option_map_or (lengths_of_row on.sets.sets) o []) at

  module _ (row : RunRow) (at : run_of tables row.number ≡ Some row) where
    placed : IsPlacedRow row
    placed = row-among IsPlacedRow tables row.number row are.placed at

    module _ (on : RunningStepView) (found : find (is_of_run row.number) jobs.running ≡ Some on) where
      same_run : on.run ≡ row.number
      same_run = equal-true on.run row.number (find-passes (is_of_run row.number) jobs.running on found)

      own_in : (event : Event) → IsOwnEvent event tables on → follows layout tables event None ≡ true
      own_in event is =
          own-follows layout tables event None on are.rows numbered (find-holds (IsRunningOf tables) (is_of_run row.number) jobs.running on own.running found)
          (stored-fit layout on.sets (find-holds (IsRunnable layout) (is_of_run row.number) jobs.running on are.running found).stored) is

      ended_own : (number writes : ℕ) → place_of row ≡ Within number writes → (rc : ℕ) → Follows (finished_plan row number (working_of tables on) rc)
      ended_own number writes is rc = λ it.
          own_in (StepEnded row.number number rc on.step.writes (record { items = (working_of tables on).lengths })) (record {
            run = sym same_run;
            ends = λ other there. sym (ap step_in is) ∙ ap (λ (r : RunRow). step_in (place_of r)) (some-one row other (run_of tables on.run) (ap (run_of tables) same_run ∙ at) there);
            own = lengths_of on;
          })

    abbrev Ends : Code → Rule → CodePlaceModel → Type 0
    Ends code rule reached = follows layout tables (Ended row.number (Coded code (rule_number rule) reached.writes (record { items = reached.lengths }))) None ≡ true

    -- its end by a code, with the lengths of its running step or with those that are committed
    ended_coded : is_at_hand row ≡ true → (code : Code) (rule : Rule) → Ends code rule (reached_by seen row)
    unfolding jobs_of
    ended_coded hand code rule =
        option-cases (find (is_of_run row.number) jobs.running)
        (λ none.
        subst (λ (o : Option TurnStep). Ends code rule (option_map_or running_reached o (kept_reached seen row))) (sym (running-found jobs row.number None (sym none)))
        (is_some-true (own_step row) (within-there row placed (left-place (place_of row) (and-second (is_in_state On row || is_in_state Released row) (is_within (place_of row)) hand)))
        (λ owned there.
        left-follows layout tables row.number (rule_number rule) (kept_reached seen row).writes code (record { items = (kept_reached seen row).lengths }) None own.holders are.laid (record {
          row = row;
          owned = owned;
          row_at = at;
          running = hand;
          found = there;
          kept = ap (λ (o : Option OwnedStep). option_map_or (λ owned. lengths_kept row.job.root owned tables.sets) o []) there;
        }))))
        (λ on found.
        subst (λ (o : Option TurnStep). Ends code rule (option_map_or running_reached o (kept_reached seen row))) (sym (running-found jobs row.number (Some on) (sym found)))
        (subst (Ends code rule) (sym (stopped-reached on.code (working_of tables on)))
        (own_in on found (Ended row.number (Coded code (rule_number rule) on.step.writes (record { items = (working_of tables on).lengths }))) (sym (same_run on found), lengths_of on))))

    -- what becomes of it with a code, on its initiator
    coded : is_running row ≡ true → (code : Code) → Follows (code_plan layout tables row (initiator_of row) true code (reached_by seen row))
    coded running code =
        within_from layout tables _
        (coded-plan layout tables row (initiator_of row) true code (reached_by seen row) (λ checkpoint judged. restarts-follow layout tables row code None checkpoint at running placed judged)
        (ended_coded (running-hand row running) code))

    -- and where it was released, on one that no run is on
    coded_released : (initiator : ℕ) → row.state ≡ Released → is_free layout tables initiator ≡ true → (code : Code) → row.code ≡ Some code → Follows (code_plan layout tables row initiator false code (reached_by seen row))
    coded_released initiator released free code some =
        within_from layout tables _
        (coded-plan layout tables row initiator false code (reached_by seen row) (λ checkpoint judged. released-restarts layout tables row initiator code None checkpoint at so free placed judged)
        (ended_coded (released-hand row so within) code))
      where
        so : is_in_state Released row ≡ true
        so = ap (λ state. state_number state == state_number Released) released

        within : is_within (place_of row) ≡ true
        within = if-then (is_off row.state) (is_within (place_of row)) placed.off (code-off row code placed.code some)

  running_left : (row : RunRow) → run_of tables row.number ≡ Some row → IsLeft tables row.number → is_running row ≡ true
  running_left row at its = ap is_running (some-one row its.0 (run_of tables row.number) at its.1) ∙ its.2

  -- the run on an initiator
  module _ (i : ℕ) (row : RunRow) (found : run_on_initiator tables i ≡ Some row) where
    at : run_of tables row.number ≡ Some row
    at = found-run tables (λ other. is_on i other.initiator) row numbered found

    running_so : is_within (place_of row) ≡ true → is_running row ≡ true
    running_so within =
        and_from (is_in_state On row) (is_within (place_of row))
        (ap (λ state. state_number state == state_number On)
        (lodged-on i row (find-passes (λ (other : RunRow). is_on i other.initiator) tables.runs row found) (row-among IsPlacedRow tables row.number row are.placed at).lodged)) within

  -- the run that comes to one that has none
  chosen_so : (i : ℕ) → 1 ≤ i → i ≤ layout.initiators → run_on_initiator tables i ≡ None → (row : RunRow) → next_run tables ≡ Some row → (code : Code) → row.code ≡ Some code → Follows (code_plan layout tables row i false code (reached_by seen row))
  chosen_so i above below free row next code some =
      next_cases tables row next
      (λ queued. absurd (false≢true (sym (ap is_off queued) ∙ code-off row code (row-among IsPlacedRow tables row.number row are.placed at).code some)))
      (λ released. coded_released row at i released (free-there layout tables i above below free) code some)
    where
      at : run_of tables row.number ≡ Some row
      at = found-run tables (λ other. may_select tables other.state other) row numbered next

  cases : (i : ℕ) → 1 ≤ i → i ≤ layout.initiators → PlanCases layout seen i Follows
  unfolding jobs_of
  cases i above below = record {
    rest = λ reply. tt;
    work = λ job. tt;
    pass = λ job reply. tt;
    take = λ job. tt;
    between = λ reply event out it. absurd (true≢false (sym it ∙ out));
    ended = λ row found sound idle number writes is step there rc.
        option-cases (find (is_of_run row.number) jobs.running)
        (λ none. absurd (some-not-none step (sym there ∙ running-found jobs row.number None (sym none))))
        (λ on found_on.
        subst (λ step. Follows (finished_plan row number step rc))
        (sym (working-is tables on (uncoded-on jobs row.number idle on (sym found_on))) ∙ same_Some (running_of tables on) step (sym (running-found jobs row.number (Some on) (sym found_on)) ∙ there))
        (ended_own row (at i row found) on found_on number writes is rc));
    failed = λ row found failed. coded row (at i row found) (running_left row (at i row found) (marked-left jobs row.number left failed)) system_failure;
    waits = λ row found code waits. coded row (at i row found) (running_left row (at i row found) (waits-left jobs row.number left own.running code waits)) code;
    given = λ row found within code. coded row (at i row found) (running_so i row found (planned_within (place_of row) within)) code;
    chosen = λ row free next code has. chosen_so i above below free row next code has;
  }

-- ---- what a turn comes to

-- the event that it tells follows
pub plan-own : (layout : Layout) (jobs : JobsView) (turn : Turn) → AreNumbered 1 jobs.tables.desk.runs → AreJobs layout jobs → IsTurnOf layout turn → HoldTheirOwn jobs → AreLeft jobs → PlanFollows layout jobs.tables.desk (plan_of layout (jobs_of jobs) turn)
unfolding jobs_of
plan-own layout jobs turn numbered are its own left =
    follows_both layout jobs.tables.desk (plan_of layout (jobs_of jobs) turn) (plan-follows layout jobs turn numbered are own.holders its)
    (plan-cases layout (jobs_of jobs) turn (FollowsWithin layout jobs.tables.desk) (cases layout jobs numbered are own left turn.initiator its.above its.below))

between_commits : (now : TablesModel) (running : List RunningStepView) (event : Event) → is_of_step event ≡ false → CommitsItsOwn event now running
between_commits now running (Rewritten job taken writes lengths place image) out = absurd (true≢false out)
between_commits now running (Checkpointed job id taken writes lengths place bytes) out = absurd (true≢false out)
between_commits now running _ out = tt

coded_commits : (layout : Layout) (now : TablesModel) (running : List RunningStepView) (row : RunRow) (initiator : ℕ) (lodged : Bool) (code : Code) (reached : CodePlaceModel) → PlanCommits now running (code_plan layout now row initiator lodged code reached)
coded_commits layout now running row initiator lodged code reached =
    by-verdict (PlanCommits now running) layout now row initiator lodged code reached (λ rule ends. tt) (λ judged. tt) (λ entry judged there. tt)

-- it tells no rewrite
pub plan-commits : (layout : Layout) (jobs : JobsView) (turn : Turn) (running : List RunningStepView) → PlanCommits jobs.tables.desk running (plan_of layout (jobs_of jobs) turn)
unfolding jobs_of
plan-commits layout jobs turn running =
    plan-cases layout (jobs_of jobs) turn (PlanCommits jobs.tables.desk running) (record {
      rest = λ reply. tt;
      work = λ job. tt;
      pass = λ job reply. tt;
      take = λ job. tt;
      between = λ reply event out. between_commits jobs.tables.desk running event out;
      ended = λ row found sound idle number writes is step there rc. tt;
      failed = λ row found failed. coded_commits layout jobs.tables.desk running row (initiator_of row) true system_failure (reached_by (jobs_of jobs) row);
      waits = λ row found code waits. coded_commits layout jobs.tables.desk running row (initiator_of row) true code (reached_by (jobs_of jobs) row);
      given = λ row found within code. coded_commits layout jobs.tables.desk running row (initiator_of row) true code (reached_by (jobs_of jobs) row);
      chosen = λ row free next code has. coded_commits layout jobs.tables.desk running row turn.initiator false code (reached_by (jobs_of jobs) row);
    })

between_leaves : (failed : List FailedRun) (event : Event) → is_of_step event ≡ false → LeavesLeft event failed
between_leaves failed (StepEnded job step rc writes lengths) out = absurd (true≢false out)
between_leaves failed _ out = tt

coded_leaves : (layout : Layout) (tables : TablesModel) (failed : List FailedRun) (row : RunRow) (initiator : ℕ) (lodged : Bool) (code : Code) (reached : CodePlaceModel) → PlanLeaves failed (code_plan layout tables row initiator lodged code reached)
coded_leaves layout tables failed row initiator lodged code reached =
    by-verdict (PlanLeaves failed) layout tables row initiator lodged code reached (λ rule ends. tt) (λ judged. tt) (λ entry judged there. tt)

-- a step that it ends is of no run that was running when the system failed
pub plan-leaves : (layout : Layout) (jobs : JobsView) (turn : Turn) → PlanLeaves jobs.failed (plan_of layout (jobs_of jobs) turn)
unfolding jobs_of
plan-leaves layout jobs turn =
    plan-cases layout (jobs_of jobs) turn (PlanLeaves jobs.failed) (record {
      rest = λ reply. tt;
      work = λ job. tt;
      pass = λ job reply. tt;
      take = λ job. tt;
      between = λ reply event out. between_leaves jobs.failed event out;
      ended = λ row found sound idle number writes is step there rc. unmarked-others jobs row.number sound idle;
      failed = λ row found failed. coded_leaves layout jobs.tables.desk jobs.failed row (initiator_of row) true system_failure (reached_by (jobs_of jobs) row);
      waits = λ row found code waits. coded_leaves layout jobs.tables.desk jobs.failed row (initiator_of row) true code (reached_by (jobs_of jobs) row);
      given = λ row found within code. coded_leaves layout jobs.tables.desk jobs.failed row (initiator_of row) true code (reached_by (jobs_of jobs) row);
      chosen = λ row free next code has. coded_leaves layout jobs.tables.desk jobs.failed row turn.initiator false code (reached_by (jobs_of jobs) row);
    })
