-- What a turn comes to, by its cases: between the steps of a run, where a step ends, and where a run has a code.
use Rattle.std.proofs.Common.{◌≡◌, ℕ, Bool, true, false, List, refl, Option, Some, None, Result, Ok, Err}
use Rattle.std.specs.Prelude.{if◌then◌else◌}
use Rattle.std.specs.Option.{option_map_or}
use Rattle.ckr_base.specs.declared.code.Code.{Code}
use Rattle.ckr_base.specs.declared.programs.NextDue.{NextDue}
use Rattle.ckr_base.specs.declared.programs.NextDue.TheVariants.{Unit as OneUnit, Checkpoint, Cancel, Finished}
use Rattle.ckr_events.specs.declared.event.Event.{Event}
use Rattle.ckr_events.specs.declared.event.Made.{Made}
use Rattle.ckr_meaning.specs.declared.place.Place.{Place}
use Rattle.ckr_meaning.specs.declared.place.Place.TheVariants.{Before, Opened, Within}
use Rattle.ckr_points.specs.Restart.{place_of}
use Rattle.ckr_points.specs.Rows.{RunRow, step_of_run}
use Rattle.ckr_points.specs.RuleCases.{rd_in_effect}
use Rattle.ckr_rules.specs.RuleTables.{suppresses}
use Rattle.ckr_desk_plans.specs.Model.Refusal.{Refusal}
use Rattle.ckr_desk_turn.specs.declared.plan.Plan.{Plan}
use Rattle.ckr_desk_turn.specs.declared.plan.Plan.TheVariants.{Rest, Tell, Work, Pass, Take}
use Rattle.ckr_points.specs.declared.reply.Reply.{Reply}
use Rattle.ckr_desk_turn.specs.declared.reply.Turn.{Turn}
use Rattle.ckr_desk_turn.specs.Allocation.{allocation_of}
use Rattle.ckr_desk_turn.specs.Codes.{code_plan, initiator_of, reached_by}
use Rattle.ckr_desk_turn.proofs.Deferred.Plans.{by-queued}
use Rattle.ckr_desk_turn.specs.Jobs.{TurnJobs, TurnStep, is_failed, running_in, waiting_code}
use Rattle.ckr_desk_turn.specs.Plans.{between_plan, checkpoint_plan, chosen_plan, due_plan, fail_plan, finished_plan, free_plan, is_within, placed_plan, plan_of, run_plan, running_plan, suppressed_plan, system_failure, unmarked_plan}
use Rattle.ckr_desk_turn.specs.Select.{next_run, run_on_initiator}
use Rattle.ckr_volumes.specs.declared.layout.Layout.{Layout}
use Rattle.ckr_desk_memory.proofs.TurnEvents.{is_of_step}

-- ---- a plan by a choice

module _ (Q : Plan → Type 0) where
  by-result : (r : Result (List Made) Refusal) (f : Refusal → Plan) (g : List Made → Plan) → ((x : Refusal) → Q (f x)) → ((x : List Made) → Q (g x)) → Q (elim r as (λ _. Plan) [ Err refusal ↦ f refusal | Ok items ↦ g items ])
  by-result (Err refusal) f g first second = first refusal
  by-result (Ok items) f g first second = second items

  by-found : {X : Type 0} (o : Option X) (f : X → Plan) (none : Plan) → (o ≡ None → Q none) → ((x : X) → o ≡ Some x → Q (f x)) → Q (option_map_or f o none)
  by-found None f none first second = first refl
  by-found (Some x) f none first second = second x refl

  by-option : {X : Type 0} (o : Option X) (none : Plan) (f : X → Plan) → (o ≡ None → Q none) → ((x : X) → o ≡ Some x → Q (f x)) → Q (elim o as (λ _. Plan) [ None ↦ none | Some x ↦ f x ])
  by-option None none f first second = first refl
  by-option (Some x) none f first second = second x refl

  by-test : (b : Bool) (one two : Plan) → (b ≡ true → Q one) → (b ≡ false → Q two) → Q (elim b as (λ _. Plan) [ true ↦ one | false ↦ two ])
  by-test true one two first second = first refl
  by-test false one two first second = second refl

  -- a checkpoint that is due
  by-rule : (row : RunRow) (number : ℕ) → Q (suppressed_plan row) → Q (Take row.number) → Q (checkpoint_plan row number)
  by-rule row number pass take = by (suppresses (rd_in_effect row number))
    where
      by : (b : Bool) → Q (if b then suppressed_plan row else Take row.number)
      by true = pass
      by false = take

-- ---- the cases

-- what a turn comes to: an event between steps, the end of a step, what becomes of a run with a code, which failed, waits with it, is given it, or was
-- released with it, and what tells no event
pub record PlanCases (layout : Layout) (seen : TurnJobs) (initiator : ℕ) (Q : Plan → Type 0) : Type 0 where
  pub rest : (reply : Reply) → Q (Rest reply)
  pub work : (job : ℕ) → Q (Work job)
  pub pass : (job : ℕ) (reply : Reply) → Q (Pass job reply)
  pub take : (job : ℕ) → Q (Take job)
  pub between : (reply : Reply) (event : Event) → is_of_step event ≡ false → Q (Tell reply event)
  pub ended : (row : RunRow) → run_on_initiator seen.tables initiator ≡ Some row → is_failed seen row.number ≡ false → waiting_code seen row.number ≡ None → (number writes : ℕ) → place_of row ≡ Within number writes
      → (step : TurnStep) → running_in seen row.number ≡ Some step → (rc : ℕ) → Q (finished_plan row number step rc)
  pub failed : (row : RunRow) → run_on_initiator seen.tables initiator ≡ Some row → is_failed seen row.number ≡ true → Q (code_plan layout seen.tables row (initiator_of row) true system_failure (reached_by seen row))
  pub waits : (row : RunRow) → run_on_initiator seen.tables initiator ≡ Some row → (code : Code) → waiting_code seen row.number ≡ Some code → Q (code_plan layout seen.tables row (initiator_of row) true code (reached_by seen row))
  pub given : (row : RunRow) → run_on_initiator seen.tables initiator ≡ Some row → is_within (place_of row) ≡ true → (code : Code) → Q (code_plan layout seen.tables row (initiator_of row) true code (reached_by seen row))
  pub chosen : (row : RunRow) → run_on_initiator seen.tables initiator ≡ None → next_run seen.tables ≡ Some row → (code : Code) → row.code ≡ Some code → Q (code_plan layout seen.tables row initiator false code (reached_by seen row))

module _ (layout : Layout) (seen : TurnJobs) (initiator : ℕ) (Q : Plan → Type 0) (cases : PlanCases layout seen initiator Q) where
  between_case : (row : RunRow) (number : ℕ) → Q (between_plan layout seen row number)
  between_case row number =
      by-option Q (step_of_run row number) _ _ (λ none. cases.between _ _ refl)
      (λ owned there. by-result Q (allocation_of layout row owned number seen.tables) _ _ (λ refusal. cases.between _ _ refl) (λ items. cases.between _ _ refl))

  module _ (row : RunRow) (found : run_on_initiator seen.tables initiator ≡ Some row) where
    module _ (sound : is_failed seen row.number ≡ false) (idle : waiting_code seen row.number ≡ None) where
      due_case : (number writes : ℕ) → place_of row ≡ Within number writes → (step : TurnStep) → running_in seen row.number ≡ Some step → (due : NextDue) → Q (due_plan row number step due)
      due_case number writes is step there OneUnit = cases.work row.number
      due_case number writes is step there Checkpoint = by-rule Q row number (cases.pass row.number _) (cases.take row.number)
      due_case number writes is step there Cancel = cases.between _ _ refl
      due_case number writes is step there (Finished rc) = cases.ended row found sound idle number writes is step there rc

      placed_case : (place : Place) → place_of row ≡ place → Q (placed_plan layout seen row place)
      placed_case (Before number) is = between_case row number
      placed_case (Opened number) is = between_case row number
      placed_case (Within number writes) is =
          by-found Q (running_in seen row.number) (running_plan row number) _ (λ none. cases.rest _) (λ step there. due_case number writes is step there step.due)

      fail_case : (fail : Option Code) → Q (fail_plan layout seen row fail)
      fail_case None = placed_case (place_of row) refl
      fail_case (Some code) = by-test Q (is_within (place_of row)) _ _ (λ within. cases.given row found within code) (λ out. cases.rest _)

    unmarked_case : is_failed seen row.number ≡ false → (fail waits : Option Code) → waiting_code seen row.number ≡ waits → Q (unmarked_plan layout seen row fail waits)
    unmarked_case sound fail None is = fail_case sound is fail
    unmarked_case sound None (Some code) is = cases.waits row found code is
    unmarked_case sound (Some given) (Some code) is = cases.rest _

    run_case : (fail : Option Code) → Q (run_plan layout seen fail row)
    run_case fail = by-test Q (is_failed seen row.number) _ _ (cases.failed row found) (λ sound. unmarked_case sound fail (waiting_code seen row.number) refl)

  module _ (free : run_on_initiator seen.tables initiator ≡ None) where
    chosen_case : (row : RunRow) → next_run seen.tables ≡ Some row → Q (chosen_plan layout seen initiator row)
    chosen_case row next =
        by-option Q row.code _ _
        (λ none. by-queued Q layout seen.tables initiator row (cases.rest _) (λ reply rule name. cases.between reply _ refl) (λ reply earlier step id. cases.between reply _ refl) row.deck.restart)
        (cases.chosen row free next)

    free_case : (fail : Option Code) → Q (free_plan layout seen initiator fail)
    free_case (Some code) = cases.rest _
    free_case None = by-found Q (next_run seen.tables) (chosen_plan layout seen initiator) _ (λ none. cases.rest _) chosen_case

pub plan-cases : (layout : Layout) (seen : TurnJobs) (turn : Turn) (Q : Plan → Type 0) → PlanCases layout seen turn.initiator Q → Q (plan_of layout seen turn)
unfolding plan_of
plan-cases layout seen turn Q cases =
    by-found Q (run_on_initiator seen.tables turn.initiator) (run_plan layout seen turn.fail) _ (λ free. free_case layout seen turn.initiator Q cases free turn.fail)
    (λ row found. run_case layout seen turn.initiator Q cases row found turn.fail)
