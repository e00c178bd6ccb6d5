-- What a turn tells, but for a unit or a checkpoint of a running step, rewrites no record, submits no deck and takes no checkpoint.
use Rattle.std.proofs.Common.{◌≡◌, ℕ, Bool, true, false, cond, List, refl, Option, Some, None, Result, Ok, Err}
use Rattle.std.specs.Option.{option_map_or}
use Rattle.ckr_desk_refines.specs.Memory.Refusal.{Refusal}
use Rattle.ckr_base.specs.declared.code.Code.{Code}
use Rattle.ckr_console.specs.declared.question.Answer.{Answer}
use Rattle.ckr_base.specs.declared.programs.NextDue.{NextDue}
use Rattle.ckr_base.specs.declared.programs.NextDue.TheVariants.{Unit as OneUnit, Checkpoint, Cancel, Finished}
use Rattle.ckr_events.specs.declared.event.Event.{Event}
use Rattle.ckr_events.specs.declared.event.Event.TheVariants.{Checkpointed, Submitted, Rewritten}
use Rattle.ckr_events.specs.declared.event.Made.{Made}
use Rattle.ckr_jcl.specs.declared.deck.Restart.{Restart}
use Rattle.ckr_meaning.specs.EffectiveJob.{OwnedStep}
use Rattle.ckr_meaning.specs.declared.place.Place.{Place}
use Rattle.ckr_meaning.specs.declared.place.Place.TheVariants.{Before, Opened, Within}
use Rattle.ckr_points.specs.Restart.{place_of}
use Rattle.ckr_points.specs.RuleCases.{rd_in_effect}
use Rattle.ckr_points.specs.Rows.{RunRow, TablesModel, step_of_run}
use Rattle.ckr_points.specs.RuleCases.{Wanted, wanted_of}
use Rattle.ckr_rules.specs.RuleTables.{suppresses}
use Rattle.ckr_rules.specs.declared.cases.Verdict.{Verdict}
use Rattle.ckr_rules.specs.declared.cases.Verdict.TheVariants as Verdicts
use Rattle.ckr_desk_turn.proofs.Codes.{by-verdict}
use Rattle.ckr_desk_turn.specs.Codes.{CodePlaceModel, code_plan, initiator_of, reached_by}
use Rattle.ckr_desk_turn.specs.declared.plan.Plan.{Plan}
use Rattle.ckr_desk_turn.specs.declared.plan.Plan.TheVariants.{Rest, Tell, Work, Pass, Take, Ask, Wait}
use Rattle.ckr_desk_turn.specs.declared.reply.Turn.{Turn}
use Rattle.ckr_desk_turn.proofs.Mounts.{plan_by-cases}
use Rattle.ckr_desk_turn.specs.Turns.{MountedTurn, plan_for}
use Rattle.ckr_desk_turn.specs.Allocation.{allocation_of}
use Rattle.ckr_desk_turn.specs.Select.{next_run, run_on_initiator}
use Rattle.ckr_desk_turn.specs.Deferred.{continued_at_entry, continued_by, deferred_verdict, queued_plan}
use Rattle.ckr_desk_turn.specs.Inquiries.{decide}
use Rattle.ckr_desk_turn.specs.Jobs.{TurnJobs, TurnStep, is_failed, running_in, waiting_code}
use Rattle.ckr_desk_turn.specs.Plans.{between_plan, chosen_plan, due_plan, fail_plan, free_plan, is_within, placed_plan, plan_of, run_plan, running_plan, start_plan, suppressed_plan, system_failure, unmarked_plan, waiting_plan}
use Rattle.ckr_volumes.specs.declared.layout.Layout.{Layout}
use Rattle.ckr_desk.proofs.Turns.Decided.{by-answer, by-decide}

-- an event rewrites nothing, submits nothing and takes no checkpoint
abbrev pub is_quiet : Event → Bool
is_quiet (Rewritten job taken writes lengths place image) = false
is_quiet (Submitted job cards) = false
is_quiet (Checkpointed job id taken writes lengths place bytes) = false
is_quiet _ = true

abbrev pub IsQuietPlan : Plan → Type 0
IsQuietPlan (Rest reply) = Unit {0}
IsQuietPlan (Tell reply event) = is_quiet event ≡ true
IsQuietPlan (Work job) = Unit {0}
IsQuietPlan (Pass job reply) = Unit {0}
IsQuietPlan (Take job) = Unit {0}
IsQuietPlan (Ask inquiry) = Unit {0}
IsQuietPlan (Wait job code) = Unit {0}

either-quiet : (r : Result (List Made) Refusal) (f : Refusal → Plan) (g : List Made → Plan) → ((x : Refusal) → IsQuietPlan (f x)) → ((x : List Made) → IsQuietPlan (g x))
    → IsQuietPlan (elim r as (λ _. Plan) [ Err refusal ↦ f refusal | Ok items ↦ g items ])
either-quiet (Err refusal) f g first second = first refusal
either-quiet (Ok items) f g first second = second items

any-quiet : {X : Type 0} (o : Option X) (f : X → Plan) (none : Plan) → IsQuietPlan none → ((x : X) → IsQuietPlan (f x)) → IsQuietPlan (option_map_or f o none)
any-quiet None f none first second = first
any-quiet (Some x) f none first second = second x

some-quiet : {X : Type 0} (o : Option X) (none : Plan) (f : X → Plan) → IsQuietPlan none → ((x : X) → IsQuietPlan (f x)) → IsQuietPlan (elim o as (λ _. Plan) [ None ↦ none | Some x ↦ f x ])
some-quiet None none f first second = first
some-quiet (Some x) none f first second = second x

if-quiet : (b : Bool) (one two : Plan) → IsQuietPlan one → IsQuietPlan two → IsQuietPlan (elim b as (λ _. Plan) [ true ↦ one | false ↦ two ])
if-quiet true one two first second = first
if-quiet false one two first second = second

cond-quiet : (b : Bool) (one two : Plan) → IsQuietPlan one → IsQuietPlan two → IsQuietPlan (cond b one two)
cond-quiet true one two first second = first
cond-quiet false one two first second = second

-- a run with a code ends, or the operator is asked
code-quiet : (layout : Layout) (tables : TablesModel) (row : RunRow) (initiator : ℕ) (lodged : Bool) (code : Code) (reached : CodePlaceModel) → IsQuietPlan (code_plan layout tables row initiator lodged code reached)
code-quiet layout tables row initiator lodged code reached = by-verdict IsQuietPlan layout tables row initiator lodged code reached (λ rule ends. refl) (λ judged. tt) (λ entry judged found. tt)

module _ (layout : Layout) (jobs : TurnJobs) where
  start-quiet : (row : RunRow) (owned : OwnedStep) (number : ℕ) → IsQuietPlan (start_plan layout jobs row owned number)
  start-quiet row owned number = either-quiet (allocation_of layout row owned number jobs.tables) _ _ (λ refusal. refl) (λ items. refl)

  between-quiet : (row : RunRow) (number : ℕ) → IsQuietPlan (between_plan layout jobs row number)
  between-quiet row number = some-quiet (step_of_run row number) _ _ refl (λ owned. start-quiet row owned number)

  due-quiet : (row : RunRow) (number : ℕ) (step : TurnStep) (due : NextDue) → IsQuietPlan (due_plan row number step due)
  due-quiet row number step OneUnit = tt
  due-quiet row number step Checkpoint = cond-quiet (suppresses (rd_in_effect row number)) (suppressed_plan row) (Take row.number) tt tt
  due-quiet row number step Cancel = refl
  due-quiet row number step (Finished rc) = refl

  running-quiet : (row : RunRow) (number : ℕ) (step : TurnStep) → IsQuietPlan (running_plan row number step)
  running-quiet row number step = due-quiet row number step step.due

  placed-quiet : (row : RunRow) (place : Place) → IsQuietPlan (placed_plan layout jobs row place)
  placed-quiet row (Before number) = between-quiet row number
  placed-quiet row (Opened number) = between-quiet row number
  placed-quiet row (Within number writes) = any-quiet (running_in jobs row.number) (running_plan row number) _ tt (running-quiet row number)

  fail-quiet : (row : RunRow) (fail : Option Code) → IsQuietPlan (fail_plan layout jobs row fail)
  fail-quiet row None = placed-quiet row (place_of row)
  fail-quiet row (Some code) = if-quiet (is_within (place_of row)) _ _ (code-quiet layout jobs.tables row (initiator_of row) true code (reached_by jobs row)) tt

  waiting-quiet : (row : RunRow) (code : Code) (fail : Option Code) → IsQuietPlan (waiting_plan layout jobs row code fail)
  waiting-quiet row code None = code-quiet layout jobs.tables row (initiator_of row) true code (reached_by jobs row)
  waiting-quiet row code (Some given) = tt

  unmarked-quiet : (row : RunRow) (fail waits : Option Code) → IsQuietPlan (unmarked_plan layout jobs row fail waits)
  unmarked-quiet row fail None = fail-quiet row fail
  unmarked-quiet row fail (Some code) = waiting-quiet row code fail

  run-quiet : (fail : Option Code) (row : RunRow) → IsQuietPlan (run_plan layout jobs fail row)
  run-quiet fail row =
      if-quiet (is_failed jobs row.number) _ _ (code-quiet layout jobs.tables row (initiator_of row) true system_failure (reached_by jobs row)) (unmarked-quiet row fail (waiting_code jobs row.number))

  -- a run without RESTART is selected; with it, its restart is denied, or it goes on from an earlier run
  continued-quiet : (initiator : ℕ) (row : RunRow) (wanted : Wanted) (verdict : Verdict) → IsQuietPlan (continued_by verdict jobs.tables initiator row wanted)
  continued-quiet initiator row wanted (Verdicts.Denied rule) = refl
  continued-quiet initiator row wanted Verdicts.Step = refl
  continued-quiet initiator row wanted Verdicts.Checkpoint = any-quiet wanted.entry (continued_at_entry initiator row wanted) _ tt (λ entry. refl)

  queued-quiet : (initiator : ℕ) (row : RunRow) (restart : Option Restart) → IsQuietPlan (queued_plan layout jobs.tables initiator row restart)
  queued-quiet initiator row None = refl
  queued-quiet initiator row (Some restart) =
      let wanted : Wanted = wanted_of row jobs.tables restart in continued-quiet initiator row wanted (deferred_verdict layout jobs.tables row wanted)

  chosen-quiet : (initiator : ℕ) (row : RunRow) → IsQuietPlan (chosen_plan layout jobs initiator row)
  chosen-quiet initiator row = some-quiet row.code _ _ (queued-quiet initiator row row.deck.restart) (λ code. code-quiet layout jobs.tables row initiator false code (reached_by jobs row))

  free-quiet : (initiator : ℕ) (fail : Option Code) → IsQuietPlan (free_plan layout jobs initiator fail)
  free-quiet initiator (Some code) = tt
  free-quiet initiator None = any-quiet (next_run jobs.tables) (chosen_plan layout jobs initiator) _ tt (chosen-quiet initiator)

  turn-quiet : (turn : Turn) → IsQuietPlan (plan_of layout jobs turn)
  unfolding plan_of
  turn-quiet turn = any-quiet (run_on_initiator jobs.tables turn.initiator) (run_plan layout jobs turn.fail) _ (free-quiet turn.initiator turn.fail) (run-quiet turn.fail)

  -- where its step doesn't have its volumes it rests, or its run ends
  pub plan-quiet : (one : MountedTurn) → IsQuietPlan (plan_for layout jobs one)
  plan-quiet one =
      plan_by-cases IsQuietPlan layout jobs.tables (plan_of layout jobs one.turn) (turn-quiet one.turn) (λ step dd cause its. refl) one.taking (λ need free. tt) (λ awaited. tt)

-- ---- what the operator's answer comes to

-- it tells no other events than those of its run
pub decided-quiet : (answer : Answer) (plan : Plan) → IsQuietPlan plan → IsQuietPlan (decide answer plan)
decided-quiet answer plan quiet = by-decide IsQuietPlan answer plan (λ inquiry is. by-answer IsQuietPlan answer inquiry refl refl refl tt tt) (λ other. quiet)
