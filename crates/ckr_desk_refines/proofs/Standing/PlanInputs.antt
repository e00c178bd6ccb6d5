-- What a turn comes to hangs on the running steps run by run.
use Rattle.std.proofs.Common.{◌≡◌, ℕ, Bool, true, false, List, find, refl, ap, ◌∙◌, Option, Some, None}
use Rattle.std.specs.Prelude.{◌==◌, if◌then◌else◌}
use Rattle.std.specs.Option.{option_map_or}
use Rattle.ckr_base.specs.declared.code.Code.{Code}
use Rattle.ckr_meaning.specs.declared.place.Place.{Place}
use Rattle.ckr_meaning.specs.declared.place.Place.TheVariants.{Before, Opened, Within}
use Rattle.ckr_points.specs.Restart.{place_of}
use Rattle.ckr_points.specs.Rows.{RunRow, TablesModel}
use Rattle.ckr_desk_turn.specs.Select.{next_run, run_on_initiator}
use Rattle.ckr_desk_turn.specs.Codes.{code_plan, initiator_of, kept_reached, reached_by, running_reached}
use Rattle.ckr_desk_turn.specs.Jobs.{TurnJobs, TurnStep, is_asked, is_failed, waiting_code}
use Rattle.ckr_desk_turn.specs.Mounts.{plan_by}
use Rattle.ckr_desk_turn.specs.Turns.{MountedTurn, plan_for}
use Rattle.ckr_desk_turn.specs.Plans.{chosen_plan, fail_plan, free_plan, is_within, placed_plan, plan_of, run_plan, running_plan, system_failure, unmarked_plan, waiting_plan}
use Rattle.ckr_desk_turn.specs.declared.failed_run.FailedRun.{FailedRun}
use Rattle.ckr_desk_turn.specs.declared.plan.Plan.{Plan}
use Rattle.ckr_desk_turn.specs.declared.plan.Plan.TheVariants.{Rest}
use Rattle.ckr_points.specs.declared.reply.Reply.TheVariants.{Idle, NothingToFail}
use Rattle.ckr_desk_turn.specs.declared.reply.Turn.{Turn}
use Rattle.ckr_volumes.specs.declared.layout.Layout.{Layout}

abbrev of_run : ℕ → List TurnStep → Option TurnStep
of_run run running = find (λ (step : TurnStep). step.run == run) running

module _ (layout : Layout) (tables : TablesModel) (failed : List FailedRun) (one two : List TurnStep) (same : (run : ℕ) → of_run run one ≡ of_run run two) where
  abbrev first : TurnJobs
  first = record { tables = tables; running = one; failed = failed }

  abbrev second : TurnJobs
  second = record { tables = tables; running = two; failed = failed }

  same-reached : (row : RunRow) → reached_by first row ≡ reached_by second row
  same-reached row = ap (λ (o : Option TurnStep). option_map_or running_reached o (kept_reached first row)) (same row.number)

  same-coded : (row : RunRow) (initiator : ℕ) (lodged : Bool) (code : Code) → code_plan layout tables row initiator lodged code (reached_by first row) ≡ code_plan layout tables row initiator lodged code (reached_by second row)
  same-coded row initiator lodged code = ap (code_plan layout tables row initiator lodged code) (same-reached row)

  -- so does the code with which a run waits
  same-code : (run : ℕ) → waiting_code first run ≡ waiting_code second run
  same-code run = ap (λ (o : Option TurnStep). if is_asked first run then Some system_failure else option_map_or (λ (step : TurnStep). step.code) o None) (same run)

  same-placed : (row : RunRow) (place : Place) → placed_plan layout first row place ≡ placed_plan layout second row place
  same-placed row (Before number) = refl
  same-placed row (Opened number) = refl
  same-placed row (Within number writes) = ap (λ (o : Option TurnStep). option_map_or (running_plan row number) o (Rest Idle)) (same row.number)

  same-failing : (row : RunRow) (fail : Option Code) → fail_plan layout first row fail ≡ fail_plan layout second row fail
  same-failing row None = same-placed row (place_of row)
  same-failing row (Some code) =
      ap (λ (plan : Plan). elim (is_within (place_of row)) as (λ _. Plan) [ true ↦ plan | false ↦ Rest NothingToFail ]) (same-coded row (initiator_of row) true code)

  same-waiting : (row : RunRow) (code : Code) (fail : Option Code) → waiting_plan layout first row code fail ≡ waiting_plan layout second row code fail
  same-waiting row code None = same-coded row (initiator_of row) true code
  same-waiting row code (Some given) = refl

  same-unmarked : (row : RunRow) (fail code : Option Code) → unmarked_plan layout first row fail code ≡ unmarked_plan layout second row fail code
  same-unmarked row fail None = same-failing row fail
  same-unmarked row fail (Some code) = same-waiting row code fail

  same-run : (fail : Option Code) (row : RunRow) → run_plan layout first fail row ≡ run_plan layout second fail row
  same-run fail row =
      by (is_failed first row.number)
    where
      by : (b : Bool) → (elim b as (λ _. Plan) [ true ↦ code_plan layout tables row (initiator_of row) true system_failure (reached_by first row) | false ↦ unmarked_plan layout first row fail (waiting_code first row.number) ])
          ≡ (elim b as (λ _. Plan) [ true ↦ code_plan layout tables row (initiator_of row) true system_failure (reached_by second row) | false ↦ unmarked_plan layout second row fail (waiting_code second row.number) ])
      by true = same-coded row (initiator_of row) true system_failure
      by false = same-unmarked row fail (waiting_code first row.number) ∙ ap (unmarked_plan layout second row fail) (same-code row.number)

  same-chosen : (initiator : ℕ) (row : RunRow) → chosen_plan layout first initiator row ≡ chosen_plan layout second initiator row
  same-chosen initiator row = by row.code
    where
      by : (code : Option Code) → chosen_plan layout first initiator (record row { code = code }) ≡ chosen_plan layout second initiator (record row { code = code })
      by None = refl
      by (Some code) = same-coded (record row { code = Some code }) initiator false code

  same-free : (initiator : ℕ) (fail : Option Code) → free_plan layout first initiator fail ≡ free_plan layout second initiator fail
  same-free initiator (Some code) = refl
  same-free initiator None = by (next_run tables)
    where
      by : (o : Option RunRow) → option_map_or (chosen_plan layout first initiator) o (Rest Idle) ≡ option_map_or (chosen_plan layout second initiator) o (Rest Idle)
      by None = refl
      by (Some row) = same-chosen initiator row

  same-planned : (turn : Turn) → plan_of layout first turn ≡ plan_of layout second turn
  unfolding plan_of
  same-planned turn = by (run_on_initiator tables turn.initiator)
    where
      by : (o : Option RunRow) → option_map_or (run_plan layout first turn.fail) o (free_plan layout first turn.initiator turn.fail) ≡ option_map_or (run_plan layout second turn.fail) o (free_plan layout second turn.initiator turn.fail)
      by None = same-free turn.initiator turn.fail
      by (Some row) = same-run turn.fail row

  -- and what its step wants is read of the tables alone
  pub same-plan : (turn : MountedTurn) → plan_for layout first turn ≡ plan_for layout second turn
  same-plan turn = ap (plan_by layout tables turn.taking) (same-planned turn.turn)
