-- A turn that comes to a unit or a checkpoint finds the running step of which it is due.
use Rattle.std.proofs.Common.{◌≡◌, ◌==◌, ℕ, List, Bool, true, false, find, refl, ap, sym, ◌∙◌, Option, Some, None, Result, Ok, Err}
use Rattle.std.specs.Prelude.{if◌then◌else◌}
use Rattle.std.specs.Option.{option_map_or}
use Rattle.std.proofs.lemmas.Bool.{false≢true}
use Rattle.std.proofs.lemmas.Option.{same_Some}
use Rattle.ckr_base.specs.declared.code.Code.{Code}
use Rattle.ckr_base.specs.declared.programs.NextDue.{NextDue}
use Rattle.ckr_base.specs.declared.programs.NextDue.TheVariants.{Unit as OneUnit, Checkpoint, Cancel, Finished}
use Rattle.ckr_base.proofs.Options.{some-not-none}
use Rattle.ckr_events.specs.declared.event.Made.{Made}
use Rattle.ckr_meaning.specs.declared.place.Place.{Place}
use Rattle.ckr_meaning.specs.declared.place.Place.TheVariants.{Before, Opened, Within}
use Rattle.ckr_points.specs.Restart.{place_of}
use Rattle.ckr_desk_plans.specs.Model.Units.{due_of}
use Rattle.ckr_points.specs.Rows.{RunRow, step_of_run}
use Rattle.ckr_points.specs.RuleCases.{rd_in_effect}
use Rattle.ckr_rules.specs.RuleTables.{suppresses}
use Rattle.ckr_desk_plans.specs.Model.Refusal.{Refusal}
use Rattle.ckr_desk_turn.specs.declared.plan.Plan.{Plan}
use Rattle.ckr_desk_turn.specs.declared.plan.Plan.TheVariants.{Rest, Tell, Work, Pass, Take, Ask, Wait}
use Rattle.ckr_points.specs.declared.reply.Reply.TheVariants.{Idle}
use Rattle.ckr_desk_turn.specs.declared.reply.Turn.{Turn}
use Rattle.ckr_desk_turn.specs.Allocation.{allocation_of}
use Rattle.ckr_desk_turn.specs.Select.{next_run, run_on_initiator}
use Rattle.ckr_desk_turn.specs.Codes.{code_plan, initiator_of, reached_by}
use Rattle.ckr_desk_turn.specs.Jobs.{TurnStep, is_failed, running_in, waiting_code}
use Rattle.ckr_desk_turn.specs.Plans.{between_plan, chosen_plan, due_plan, fail_plan, free_plan, is_within, placed_plan, plan_of, run_plan, running_plan, suppressed_plan, system_failure, unmarked_plan}
use Rattle.ckr_desk_turn.proofs.Codes.{by-verdict}
use Rattle.ckr_desk_turn.proofs.Deferred.Plans.{by-queued}
use Rattle.ckr_volumes.specs.declared.layout.Layout.{Layout}
use Rattle.ckr_desk_memory.specs.EventChanges.{is_of_run}
use Rattle.ckr_desk_memory.specs.Plans.{HasDue, IsDue}
use Rattle.ckr_desk_memory.specs.View.{JobsView, RunningStepView, jobs_of, running_of}
use Rattle.ckr_desk_memory.proofs.FoundRuns.{running-found, working-is, working_of}
use Rattle.ckr_desk_memory.proofs.Plans.{run-other}
use Rattle.ckr_desk_memory.proofs.WaitingRuns.{uncoded-on}

module _ (layout : Layout) (jobs : JobsView) where
  either-due : (r : Result (List Made) Refusal) (f : Refusal → Plan) (g : List Made → Plan) → ((x : Refusal) → HasDue jobs (f x)) → ((x : List Made) → HasDue jobs (g x))
      → HasDue jobs (elim r as (λ _. Plan) [ Err refusal ↦ f refusal | Ok items ↦ g items ])
  either-due (Err refusal) f g first second = first refusal
  either-due (Ok items) f g first second = second items

  any-due : {X : Type 0} (o : Option X) (f : X → Plan) (none : Plan) → HasDue jobs none → ((x : X) → o ≡ Some x → HasDue jobs (f x)) → HasDue jobs (option_map_or f o none)
  any-due None f none first second = first
  any-due (Some x) f none first second = second x refl

  some-due : {X : Type 0} (o : Option X) (none : Plan) (f : X → Plan) → (o ≡ None → HasDue jobs none) → ((x : X) → HasDue jobs (f x)) → HasDue jobs (elim o as (λ _. Plan) [ None ↦ none | Some x ↦ f x ])
  some-due None none f first second = first refl
  some-due (Some x) none f first second = second x

  if-due : (b : Bool) (one two : Plan) → HasDue jobs one → HasDue jobs two → HasDue jobs (elim b as (λ _. Plan) [ true ↦ one | false ↦ two ])
  if-due true one two first second = first
  if-due false one two first second = second

  -- the running step that a turn sees is there
  step-there : (run : ℕ) (step : TurnStep) → running_in (jobs_of jobs) run ≡ Some step → (on : RunningStepView) × (find (is_of_run run) jobs.running ≡ Some on) × (running_of jobs.tables.desk on ≡ step)
  step-there run step is = by (find (is_of_run run) jobs.running) refl
    where
      by : (found : Option RunningStepView) → find (is_of_run run) jobs.running ≡ found → (on : RunningStepView) × (find (is_of_run run) jobs.running ≡ Some on) × (running_of jobs.tables.desk on ≡ step)
      by None none = absurd (some-not-none step (sym (sym (running-found jobs run None (sym none)) ∙ is)))
      by (Some on) found = (on, found, same_Some _ _ (sym (running-found jobs run (Some on) (sym found)) ∙ is))

  -- where its run waits with no code, that is due
  step-due : (run : ℕ) (step : TurnStep) (due : NextDue) → waiting_code (jobs_of jobs) run ≡ None → running_in (jobs_of jobs) run ≡ Some step → step.due ≡ due → IsDue jobs run due
  step-due run step due waits is same =
      let its = step-there run step is in
      let uncoded = uncoded-on jobs run waits its.0 (sym its.1) in
      (its.0, its.1, ap (λ (s : TurnStep). s.due) (sym (working-is jobs.tables.desk its.0 uncoded) ∙ its.2) ∙ same, uncoded)

  running-due : (row : RunRow) (number : ℕ) (step : TurnStep) → waiting_code (jobs_of jobs) row.number ≡ None → running_in (jobs_of jobs) row.number ≡ Some step → HasDue jobs (running_plan row number step)
  running-due row number step waits is = by step.due refl
    where
      by : (due : NextDue) → step.due ≡ due → HasDue jobs (due_plan row number step due)
      by OneUnit same = step-due row.number step OneUnit waits is same
      by Checkpoint same = rule (suppresses (rd_in_effect row number))
        where
          rule : (b : Bool) → HasDue jobs (if b then suppressed_plan row else Take row.number)
          rule true = step-due row.number step Checkpoint waits is same
          rule false = step-due row.number step Checkpoint waits is same
      by Cancel same = tt
      by (Finished rc) same = tt

  between-due : (row : RunRow) (number : ℕ) → HasDue jobs (between_plan layout (jobs_of jobs) row number)
  between-due row number = some-due (step_of_run row number) _ _ (λ none. tt) (λ owned. either-due (allocation_of layout row owned number (jobs_of jobs).tables) _ _ (λ refusal. tt) (λ items. tt))

  placed-due : (row : RunRow) (place : Place) → waiting_code (jobs_of jobs) row.number ≡ None → HasDue jobs (placed_plan layout (jobs_of jobs) row place)
  placed-due row (Before number) waits = between-due row number
  placed-due row (Opened number) waits = between-due row number
  placed-due row (Within number writes) waits = any-due (running_in (jobs_of jobs) row.number) (running_plan row number) _ tt (λ step is. running-due row number step waits is)

  coded-due : (row : RunRow) (initiator : ℕ) (lodged : Bool) (code : Code) → HasDue jobs (code_plan layout jobs.tables.desk row initiator lodged code (reached_by (jobs_of jobs) row))
  coded-due row initiator lodged code = by-verdict (HasDue jobs) layout jobs.tables.desk row initiator lodged code (reached_by (jobs_of jobs) row) (λ rule ends. tt) (λ judged. tt) (λ entry judged there. tt)

  fail-due : (row : RunRow) (fail : Option Code) → waiting_code (jobs_of jobs) row.number ≡ None → HasDue jobs (fail_plan layout (jobs_of jobs) row fail)
  unfolding jobs_of
  fail-due row None waits = placed-due row (place_of row) waits
  fail-due row (Some code) waits = if-due (is_within (place_of row)) _ _ (coded-due row (initiator_of row) true code) tt

  unmarked-due : (row : RunRow) (fail waits : Option Code) → waiting_code (jobs_of jobs) row.number ≡ waits → HasDue jobs (unmarked_plan layout (jobs_of jobs) row fail waits)
  unfolding jobs_of
  unmarked-due row fail None waits = fail-due row fail waits
  unmarked-due row None (Some code) waits = coded-due row (initiator_of row) true code
  unmarked-due row (Some given) (Some code) waits = tt

  run-due : (fail : Option Code) (row : RunRow) → HasDue jobs (run_plan layout (jobs_of jobs) fail row)
  unfolding jobs_of
  run-due fail row = if-due (is_failed (jobs_of jobs) row.number) _ _ (coded-due row (initiator_of row) true system_failure) (unmarked-due row fail (waiting_code (jobs_of jobs) row.number) refl)

  chosen-due : (initiator : ℕ) (row : RunRow) → HasDue jobs (chosen_plan layout (jobs_of jobs) initiator row)
  unfolding jobs_of
  chosen-due initiator row =
      some-due row.code _ _ (λ none. by-queued (HasDue jobs) layout jobs.tables.desk initiator row tt (λ reply rule name. tt) (λ reply earlier step id. tt) row.deck.restart)
      (λ code. coded-due row initiator false code)

  free-due : (initiator : ℕ) (fail : Option Code) → HasDue jobs (free_plan layout (jobs_of jobs) initiator fail)
  free-due initiator (Some code) = tt
  free-due initiator None = any-due (next_run (jobs_of jobs).tables) (chosen_plan layout (jobs_of jobs) initiator) _ tt (λ row is. chosen-due initiator row)

  pub plan-due : (turn : Turn) → HasDue jobs (plan_of layout (jobs_of jobs) turn)
  unfolding plan_of
  plan-due turn = any-due (run_on_initiator (jobs_of jobs).tables turn.initiator) (run_plan layout (jobs_of jobs) turn.fail) _ (free-due turn.initiator turn.fail) (λ row is. run-due turn.fail row)

-- so it is where the running steps are the same
pub due-alike : (old new : JobsView) (plan : Plan) → new.running ≡ old.running → HasDue old plan → HasDue new plan
due-alike old new (Rest reply) same due = tt
due-alike old new (Tell reply event) same due = tt
due-alike old new (Work job) same due = (due.0, ap (find (is_of_run job)) same ∙ due.1, due.2, due.3)
due-alike old new (Pass job reply) same due = (due.0, ap (find (is_of_run job)) same ∙ due.1, due.2, due.3)
due-alike old new (Take job) same due = (due.0, ap (find (is_of_run job)) same ∙ due.1, due.2, due.3)
due-alike old new (Ask inquiry) same due = tt
due-alike old new (Wait job code) same due = tt

-- a run within a step of which a unit is due comes to that unit, where it didn't fail and waits with no code, and none is given
pub comes-to-unit : (layout : Layout) (jobs : JobsView) (row : RunRow) (job : ℕ) (on : RunningStepView) → row.number ≡ job → is_failed (jobs_of jobs) row.number ≡ false → waiting_code (jobs_of jobs) row.number ≡ None → is_within (place_of row) ≡ true
    → Some on ≡ find (λ (step : RunningStepView). step.run == job) jobs.running → due_of on.step.parm on.step.state ≡ OneUnit → run_plan layout (jobs_of jobs) None row ≡ Work job
comes-to-unit layout jobs row job on number unmarked waits within found due =
    run-other layout (jobs_of jobs) row None unmarked waits ∙ by (place_of row) within
  where
    uncoded : on.code ≡ None
    uncoded = uncoded-on jobs job (ap (waiting_code (jobs_of jobs)) (sym number) ∙ waits) on found

    by : (place : Place) → is_within place ≡ true → placed_plan layout (jobs_of jobs) row place ≡ Work job
    by (Before other) is = absurd (false≢true is)
    by (Opened other) is = absurd (false≢true is)
    by (Within other writes) is =
        ap (λ run. option_map_or (running_plan row other) (running_in (jobs_of jobs) run) (Rest Idle)) number
        ∙ ap (λ step. option_map_or (running_plan row other) step (Rest Idle)) (running-found jobs job (Some on) found)
        ∙ ap (running_plan row other) (working-is jobs.tables.desk on uncoded)
        ∙ ap (due_plan row other (working_of jobs.tables.desk on)) due
        ∙ ap Work number
