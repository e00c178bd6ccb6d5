-- A turn that works, or passes a checkpoint, is that of a run within a step, of whose running step that is due.
use Rattle.std.proofs.Common.{◌≡◌, ℕ, Bool, true, false, cond, List, refl, ap, sym, ◌∙◌, subst, Option, Some, None, Result, Ok, Err}
use Rattle.std.specs.Option.{option_map_or}
use Rattle.std.proofs.lemmas.Bool.{false≢true}
use Rattle.std.proofs.lemmas.Option.{same_Some}
use Rattle.ckr_points_library.specs.declared.cause.Refusal.{Refusal}
use Rattle.ckr_base.specs.declared.code.Code.{Code}
use Rattle.ckr_base.specs.declared.programs.NextDue.{NextDue}
use Rattle.ckr_base.specs.declared.programs.NextDue.TheVariants.{Unit as OneUnit, Checkpoint, Cancel, Finished}
use Rattle.ckr_base.proofs.Bools.{bool-cases}
use Rattle.ckr_base.proofs.Options.{option-cases, some-not-none}
use Rattle.ckr_events.specs.declared.event.Event.TheVariants.{Started as StartedEvent, Ended as EndedEvent}
use Rattle.ckr_events.specs.declared.event.Ending.TheVariants.{Completed as CompletedEnding}
use Rattle.ckr_events.specs.declared.event.Made.{Made}
use Rattle.ckr_desk_turn.proofs.Codes.{by-verdict}
use Rattle.ckr_desk_turn.proofs.Deferred.Plans.{by-queued}
use Rattle.ckr_desk_turn.proofs.Mounts.{plan_by-cases}
use Rattle.ckr_desk_turn.proofs.NextEvents.BetweenSteps.{row_of_found}
use Rattle.ckr_desk_turn.specs.Invariant.{IsDesk}
use Rattle.ckr_meaning.specs.declared.place.Place.{Place}
use Rattle.ckr_meaning.specs.declared.place.Place.TheVariants.{Before, Opened, Within}
use Rattle.ckr_meaning.specs.EffectiveJob.{OwnedStep}
use Rattle.ckr_points.specs.Restart.{place_of}
use Rattle.ckr_points.specs.RuleCases.{rd_in_effect}
use Rattle.ckr_points.specs.Rows.{RunRow, run_of, step_of_run}
use Rattle.ckr_rules.specs.RuleTables.{suppresses}
use Rattle.ckr_desk_turn.specs.Allocation.{allocation_of}
use Rattle.ckr_desk_turn.specs.Select.{is_on, next_run, run_on_initiator}
use Rattle.ckr_desk_turn.specs.Codes.{CodePlaceModel, code_plan, initiator_of, reached_by}
use Rattle.ckr_desk_turn.specs.declared.plan.Plan.{Plan}
use Rattle.ckr_desk_turn.specs.declared.plan.Plan.TheVariants.{Rest, Tell, Work, Pass, Take}
use Rattle.ckr_points.specs.declared.reply.How.TheVariants.{Completed}
use Rattle.ckr_points.specs.declared.reply.Reply.TheVariants.{Idle, JobEnded, NothingToFail, Started}
use Rattle.ckr_desk_turn.specs.Turns.{MountedTurn, plan_for}
use Rattle.ckr_desk_turn.specs.Desk.{DeskModel, jobs_of}
use Rattle.ckr_desk_turn.specs.Jobs.{TurnJobs, TurnStep, is_asked, is_failed, running_in, waiting_code}
use Rattle.ckr_desk_turn.specs.Plans.{allocation_ended, between_plan, cancelled_plan, chosen_plan, due_plan, fail_plan, finished_plan, free_plan, is_within, placed_plan, plan_of, run_plan, running_plan, start_plan, suppressed_plan, system_failure, unmarked_plan, waiting_plan}
use Rattle.ckr_volumes.specs.declared.layout.Layout.{Layout}

-- the run whose running step does what is due of it, and that, where the turn tells no event
abbrev pub asked_in : Plan → Option (ℕ × NextDue)
asked_in (Work run) = Some (run, OneUnit)
asked_in (Pass run reply) = Some (run, Checkpoint)
asked_in (Take run) = Some (run, Checkpoint)
asked_in _ = None

-- whether the turn takes a checkpoint
abbrev pub takes_in : Plan → Bool
takes_in (Take run) = true
takes_in _ = false

-- the running step of the run, of which this is due
pub record Works (jobs : TurnJobs) (row : RunRow) (run : ℕ) (due : NextDue) (takes : Bool) : Type 0 where
  pub numbered : row.number ≡ run
  pub number : ℕ
  pub writes : ℕ
  pub place : place_of row ≡ Within number writes
  pub step : TurnStep
  pub step_at : running_in jobs row.number ≡ Some step
  pub is_due : step.due ≡ due
  -- its run doesn't wait with a code
  pub uncoded : step.code ≡ None
  -- RD suppresses no checkpoint that is taken
  pub unless : takes ≡ true → suppresses (rd_in_effect row number) ≡ false

-- the running step of a run that waits with no code has none
pub step-uncoded : (jobs : TurnJobs) (number : ℕ) (step : TurnStep) → running_in jobs number ≡ Some step → waiting_code jobs number ≡ None → step.code ≡ None
step-uncoded jobs number step there none =
    bool-cases (is_asked jobs number)
    (λ was. absurd (some-not-none system_failure (sym (ap (λ b. cond b (Some system_failure) its) was) ∙ none)))
    (λ wasnt.
    sym (ap (λ (o : Option TurnStep). option_map_or (λ (step : TurnStep). step.code) o None) there)
    ∙ sym (ap (λ b. cond b (Some system_failure) its) wasnt) ∙ none)
  where
    its : Option Code
    its = option_map_or (λ (step : TurnStep). step.code) (running_in jobs number) None

module _ (layout : Layout) (jobs : TurnJobs) (run : ℕ) (due : NextDue) (takes : Bool) where
  abbrev Asks : Plan → Type 0
  Asks plan = (asked_in plan ≡ Some (run, due)) × (takes_in plan ≡ takes)

  never : {A : Type 0} (plan : Plan) → asked_in plan ≡ None → Asks plan → A
  never plan isnt e = absurd (some-not-none _ (sym e.0 ∙ isnt))

  -- of a code the event is told, or the operator is asked
  code-none : (row : RunRow) (initiator : ℕ) (lodged : Bool) (code : Code) (reached : CodePlaceModel) → asked_in (code_plan layout jobs.tables row initiator lodged code reached) ≡ None
  code-none row initiator lodged code reached =
      by-verdict (λ plan. asked_in plan ≡ None) layout jobs.tables row initiator lodged code reached (λ rule ends. refl) (λ judged. refl) (λ entry judged there. refl)

  chosen-none : (initiator : ℕ) (row : RunRow) → asked_in (chosen_plan layout jobs initiator row) ≡ None
  chosen-none initiator row = by row.code
    where
      by : (code : Option Code) → asked_in (chosen_plan layout jobs initiator (record row { code = code })) ≡ None
      by None = by-queued (λ plan. asked_in plan ≡ None) layout jobs.tables initiator (record row { code = None }) refl (λ reply rule name. refl) (λ reply earlier step id. refl) row.deck.restart
      by (Some code) = code-none (record row { code = Some code }) initiator false code (reached_by jobs (record row { code = Some code }))

  free-none : (initiator : ℕ) (fail : Option Code) → asked_in (free_plan layout jobs initiator fail) ≡ None
  free-none initiator (Some code) = refl
  free-none initiator None = by (next_run jobs.tables)
    where
      by : (o : Option RunRow) → asked_in (option_map_or (chosen_plan layout jobs initiator) o (Rest Idle)) ≡ None
      by None = refl
      by (Some row) = chosen-none initiator row

  module _ (row : RunRow) where
    start-none : (owned : OwnedStep) (number : ℕ) → asked_in (start_plan layout jobs row owned number) ≡ None
    start-none owned number = by (allocation_of layout row owned number jobs.tables)
      where
        by : (given : Result (List Made) Refusal) → asked_in (elim given as (λ _. Plan) [
          | Err refusal ↦ allocation_ended row owned refusal.dd refusal.cause
          | Ok items ↦ Tell (Started row.number owned.step.name) (StartedEvent row.number number (record { items = items }))
        ]) ≡ None
        by (Ok items) = refl
        by (Err refusal) = refl

    between-none : (number : ℕ) → asked_in (between_plan layout jobs row number) ≡ None
    between-none number = by (step_of_run row number)
      where
        by : (o : Option OwnedStep) → asked_in (elim o as (λ _. Plan) [
          | None ↦ Tell (JobEnded row.number Completed) (EndedEvent row.number CompletedEnding)
          | Some owned ↦ start_plan layout jobs row owned number
        ]) ≡ None
        by None = refl
        by (Some owned) = start-none owned number

    placed-works : waiting_code jobs row.number ≡ None → (place : Place) → place_of row ≡ place → Asks (placed_plan layout jobs row place) → Works jobs row run due takes
    placed-works none_waits (Before number) at e = never (between_plan layout jobs row number) (between-none number) e
    placed-works none_waits (Opened number) at e = never (between_plan layout jobs row number) (between-none number) e
    placed-works none_waits (Within number writes) at e =
        option-cases (running_in jobs row.number)
        (λ none. never (Rest Idle) refl (subst (λ (o : Option TurnStep). Asks (option_map_or (running_plan row number) o (Rest Idle))) none e))
        (λ step there. by step there (subst (λ (o : Option TurnStep). Asks (option_map_or (running_plan row number) o (Rest Idle))) there e))
      where
        works : (step : TurnStep) (what : NextDue) → step.due ≡ what → running_in jobs row.number ≡ Some step → ◌≡◌ {A = ℕ × NextDue} (row.number, what) (run, due) → (takes ≡ true → suppresses (rd_in_effect row number) ≡ false) → Works jobs row run due takes
        works step what is there same rd = record {
          numbered = ap (λ (pair : ℕ × NextDue). pair.0) same;
          number = number;
          writes = writes;
          place = at;
          step = step;
          step_at = there;
          is_due = is ∙ ap (λ (pair : ℕ × NextDue). pair.1) same;
          uncoded = step-uncoded jobs row.number step there none_waits;
          unless = rd;
        }

        by_due : (step : TurnStep) (what : NextDue) → step.due ≡ what → running_in jobs row.number ≡ Some step → Asks (due_plan row number step what) → Works jobs row run due takes
        by_due step OneUnit is there e = works step OneUnit is there (same_Some _ _ e.0) (λ so. absurd (false≢true (e.1 ∙ so)))
        by_due step Checkpoint is there e =
            bool-cases (suppresses (rd_in_effect row number))
            (λ does.
            let passes : Asks (suppressed_plan row) = subst (λ b. Asks (cond b (suppressed_plan row) (Take row.number))) does e in
            works step Checkpoint is there (same_Some _ _ passes.0) (λ so. absurd (false≢true (passes.1 ∙ so))))
            (λ isnt.
            let took : Asks (Take row.number) = subst (λ b. Asks (cond b (suppressed_plan row) (Take row.number))) isnt e in
            works step Checkpoint is there (same_Some _ _ took.0) (λ so. isnt))
        by_due step Cancel is there e = never (cancelled_plan row) refl e
        by_due step (Finished rc) is there e = never (finished_plan row number step rc) refl e

        by : (step : TurnStep) → running_in jobs row.number ≡ Some step → Asks (running_plan row number step) → Works jobs row run due takes
        by step there e = by_due step step.due refl there e

    fail-works : waiting_code jobs row.number ≡ None → (fail : Option Code) → Asks (fail_plan layout jobs row fail) → Works jobs row run due takes
    fail-works none_waits None e = placed-works none_waits (place_of row) refl e
    fail-works none_waits (Some code) e = never (fail_plan layout jobs row (Some code)) (by (is_within (place_of row))) e
      where
        by : (b : Bool) → asked_in (elim b as (λ _. Plan) [ true ↦ code_plan layout jobs.tables row (initiator_of row) true code (reached_by jobs row) | false ↦ Rest NothingToFail ]) ≡ None
        by true = code-none row (initiator_of row) true code (reached_by jobs row)
        by false = refl

    waiting-none : (code : Code) (fail : Option Code) → asked_in (waiting_plan layout jobs row code fail) ≡ None
    waiting-none code None = code-none row (initiator_of row) true code (reached_by jobs row)
    waiting-none code (Some given) = refl

    unmarked-works : (fail code : Option Code) → waiting_code jobs row.number ≡ code → Asks (unmarked_plan layout jobs row fail code) → Works jobs row run due takes
    unmarked-works fail None waits e = fail-works waits fail e
    unmarked-works fail (Some code) waits e = never (waiting_plan layout jobs row code fail) (waiting-none code fail) e

    run-works : (fail : Option Code) → Asks (run_plan layout jobs fail row) → Works jobs row run due takes
    run-works fail e = by (is_failed jobs row.number) e
      where
        by : (b : Bool) → Asks (elim b as (λ _. Plan) [ true ↦ code_plan layout jobs.tables row (initiator_of row) true system_failure (reached_by jobs row) | false ↦ unmarked_plan layout jobs row fail (waiting_code jobs row.number) ]) → Works jobs row run due takes
        by true e =
            never (code_plan layout jobs.tables row (initiator_of row) true system_failure (reached_by jobs row)) (code-none row (initiator_of row) true system_failure (reached_by jobs row)) e
        by false e = unmarked-works fail (waiting_code jobs row.number) refl e

-- the run of a turn that works
pub record WorksAt (desk : DeskModel) (run : ℕ) (due : NextDue) (takes : Bool) : Type 0 where
  pub row : RunRow
  pub row_at : run_of desk.office.tables run ≡ Some row
  pub works : Works (jobs_of desk) row run due takes

module _ (desk : DeskModel) (turn : MountedTurn) (run : ℕ) (due : NextDue) (takes : Bool) (is : IsDesk desk) where
  abbrev AsksSo : Plan → Type 0
  AsksSo plan = (asked_in plan ≡ Some (run, due)) × (takes_in plan ≡ takes)

  planned-works : AsksSo (plan_of desk.layout (jobs_of desk) turn.turn) → WorksAt desk run due takes
  unfolding plan_of
  planned-works asks =
      option-cases (run_on_initiator desk.office.tables turn.turn.initiator)
      (λ free.
      never desk.layout (jobs_of desk) run due takes (free_plan desk.layout (jobs_of desk) turn.turn.initiator turn.turn.fail) (free-none desk.layout (jobs_of desk) run due takes turn.turn.initiator turn.turn.fail)
      (subst (λ (o : Option RunRow). AsksSo (option_map_or (run_plan desk.layout (jobs_of desk) turn.turn.fail) o (free_plan desk.layout (jobs_of desk) turn.turn.initiator turn.turn.fail))) free asks))
      (λ row found.
      let works : Works (jobs_of desk) row run due takes =
      run-works desk.layout (jobs_of desk) run due takes row turn.turn.fail
      (subst (λ (o : Option RunRow). AsksSo (option_map_or (run_plan desk.layout (jobs_of desk) turn.turn.fail) o (free_plan desk.layout (jobs_of desk) turn.turn.initiator turn.turn.fail))) found asks) in
      record {
        row = row;
        row_at = ap (run_of desk.office.tables) (sym works.numbered) ∙ row_of_found desk.layout desk.office (λ other. is_on turn.turn.initiator other.initiator) row is.kept found;
        works = works;
      })

  -- a turn whose step hasn't its volumes doesn't work
  asked-works : AsksSo (plan_for desk.layout (jobs_of desk) turn) → WorksAt desk run due takes
  asked-works =
      plan_by-cases (λ plan. AsksSo plan → WorksAt desk run due takes) desk.layout desk.office.tables (plan_of desk.layout (jobs_of desk) turn.turn) planned-works
      (λ step dd cause its asks. absurd (some-not-none _ (sym asks.0)))
      turn.taking
      (λ need free asks. absurd (some-not-none _ (sym asks.0))) (λ awaited asks. absurd (some-not-none _ (sym asks.0)))

pub works-at : (desk : DeskModel) (turn : MountedTurn) (run : ℕ) (due : NextDue) (takes : Bool) → IsDesk desk → asked_in (plan_for desk.layout (jobs_of desk) turn) ≡ Some (run, due) → takes_in (plan_for desk.layout (jobs_of desk) turn) ≡ takes → WorksAt desk run due takes
works-at desk turn run due takes is planned taken = asked-works desk turn run due takes is (planned, taken)
