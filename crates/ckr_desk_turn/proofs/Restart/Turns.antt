-- The turn of a run that has a code within a step: it comes to what the rules say.
use Rattle.std.proofs.Common.{◌≡◌, ℕ, Bool, true, false, if◌then◌else◌, ap, sym, ◌∙◌, Option, Some, None}
use Rattle.std.specs.Option.{option_map_or}
use Rattle.std.proofs.lemmas.Bool.{false≢true}
use Rattle.std.proofs.lemmas.Option.{same_Some}
use Rattle.ckr_base.specs.declared.code.Code.{Code}
use Rattle.ckr_base.proofs.Numbers.{equal-true}
use Rattle.ckr_base.proofs.Sequences.{find-passes}
use Rattle.ckr_console.specs.declared.question.Answer.{Answer}
use Rattle.ckr_points.specs.Restart.{place_of}
use Rattle.ckr_points.specs.Rows.{KeptEntry, RunRow}
use Rattle.ckr_rules.specs.declared.cases.Rule.{Rule}
use Rattle.ckr_rules.specs.declared.cases.Rule.TheVariants.{A6}
use Rattle.ckr_rules.specs.declared.cases.Verdict.{Verdict}
use Rattle.ckr_rules.specs.declared.cases.Verdict.TheVariants.{Checkpoint, Denied, Step}
use Rattle.ckr_desk_turn.specs.declared.plan.Plan.{Plan}
use Rattle.ckr_desk_turn.specs.declared.plan.Plan.TheVariants.{Rest}
use Rattle.ckr_points.specs.declared.reply.Reply.TheVariants.{NothingToFail}
use Rattle.ckr_desk_turn.specs.Codes.{CodePlaceModel, asked_at_entry, asked_at_start, code_plan, ended_by, initiator_of, judged_plan, reached_by, running_reached, verdict_for}
use Rattle.ckr_desk_turn.specs.Desk.{DeskModel, TurnDone, answered, done_by, jobs_of, seen, unit_done, with_progress}
use Rattle.ckr_desk_turn.specs.Jobs.{effect_entry, is_failed, waiting_code}
use Rattle.ckr_desk_turn.specs.Mounts.{plan_by}
use Rattle.ckr_desk_turn.specs.Plans.{fail_plan, free_plan, plan_of, run_plan, system_failure, unmarked_plan}
use Rattle.ckr_desk_turn.specs.Restarts.{HasCode, code_among}
use Rattle.ckr_desk_turn.specs.Select.{is_on}
use Rattle.ckr_desk_turn.specs.Turns.{MountedTurn, carried_out, plan_for, turn_of}
use Rattle.ckr_desk_turn.specs.Units.{StepProgress, abended}
use Rattle.ckr_desk_turn.proofs.Mounts.{idle-stays, judged-wants}
use Rattle.ckr_desk_turn.proofs.Start.Invariant.{planned-within}

-- a run that an initiator has is on it
on-it : (initiator : ℕ) (o : Option ℕ) → is_on initiator o ≡ true → option_map_or (λ (n : ℕ). n) o 0 ≡ initiator
on-it initiator None is = absurd (false≢true is)
on-it initiator (Some other) is = sym (equal-true initiator other is)

-- of a run with an entry the operator is asked for its restart there
at-entry : (desk : DeskModel) (row : RunRow) (initiator : ℕ) (lodged : Bool) (code : Code) (reached : CodePlaceModel) (entry : KeptEntry) → effect_entry desk.office.tables row ≡ Some entry
    → judged_plan desk.office.tables row initiator lodged code reached Checkpoint ≡ asked_at_entry row initiator lodged code reached entry
at-entry desk row initiator lodged code reached entry there =
    ap (λ (o : Option KeptEntry). option_map_or (asked_at_entry row initiator lodged code reached) o (ended_by row code A6 reached)) there

-- ---- the turn

module _ (desk : DeskModel) (one : MountedTurn) (row : RunRow) (code : Code) (its : HasCode desk one.turn row code) where
  its-initiator : initiator_of row ≡ one.turn.initiator
  its-initiator = on-it one.turn.initiator row.initiator (find-passes (λ (row : RunRow). is_on one.turn.initiator row.initiator) desk.office.tables.runs row its.on)

  abbrev reached : CodePlaceModel
  reached = reached_by (jobs_of desk) row

  abbrev coded : Code → Plan
  coded given = code_plan desk.layout desk.office.tables row (initiator_of row) true given reached

  fail-planned : (fail : Option Code) → fail ≡ Some code → fail_plan desk.layout (jobs_of desk) row fail ≡ coded code
  fail-planned None same = cc
  fail-planned (Some given) same =
      ap (λ b. elim b as (λ _. Plan) [ true ↦ coded given | false ↦ Rest NothingToFail ]) (planned-within (place_of row) ∙ its.within) ∙ ap coded (same_Some given code same)

  unmarked-planned : (waits fail : Option Code) → code_among waits fail ≡ Some code → unmarked_plan desk.layout (jobs_of desk) row fail waits ≡ coded code
  unmarked-planned None fail same = fail-planned fail same
  unmarked-planned (Some own) None same = ap coded (same_Some own code same)
  unmarked-planned (Some own) (Some given) same = cc

  run-planned : run_plan desk.layout (jobs_of desk) one.turn.fail row ≡ coded code
  run-planned =
      by (is_failed (jobs_of desk) row.number) its.coded
    where
      by : (failed : Bool) → (if failed then Some system_failure else code_among (waiting_code (jobs_of desk) row.number) one.turn.fail) ≡ Some code
          → (elim failed as (λ _. Plan) [ true ↦ coded system_failure | false ↦ unmarked_plan desk.layout (jobs_of desk) row one.turn.fail (waiting_code (jobs_of desk) row.number) ]) ≡ coded code
      by true same = ap coded (same_Some system_failure code same)
      by false same = unmarked-planned (waiting_code (jobs_of desk) row.number) one.turn.fail same

  turn-coded : plan_of desk.layout (jobs_of desk) one.turn ≡ code_plan desk.layout desk.office.tables row one.turn.initiator true code reached
  unfolding plan_of
  turn-coded =
      ap (λ (o : Option RunRow). option_map_or (run_plan desk.layout (jobs_of desk) one.turn.fail) o (free_plan desk.layout (jobs_of desk) one.turn.initiator one.turn.fail)) its.on
      ∙ run-planned
      ∙ ap (λ initiator. code_plan desk.layout desk.office.tables row initiator true code reached) its-initiator

  -- it wants no volumes
  turn-planned : (verdict : Verdict) → verdict_for desk.layout row code ≡ verdict → plan_for desk.layout (jobs_of desk) one ≡ judged_plan desk.office.tables row one.turn.initiator true code reached verdict
  turn-planned verdict judged =
      let planned : plan_of desk.layout (jobs_of desk) one.turn ≡ judged_plan desk.office.tables row one.turn.initiator true code reached verdict =
      turn-coded ∙ ap (judged_plan desk.office.tables row one.turn.initiator true code reached) judged in
      ap (plan_by desk.layout desk.office.tables one.taking) planned
      ∙ idle-stays desk.layout desk.office.tables one.taking _ (judged-wants desk.office.tables row one.turn.initiator true code reached verdict)

  module _ (answer : Answer) where
    -- by the verdict
    turn-judged : (verdict : Verdict) → verdict_for desk.layout row code ≡ verdict → turn_of desk one answer ≡ carried_out answer (judged_plan desk.office.tables row one.turn.initiator true code reached verdict) desk
    unfolding turn_of
    turn-judged verdict judged = ap (λ plan. carried_out answer plan desk) (turn-planned verdict judged)

    pub turn-asks : verdict_for desk.layout row code ≡ Step → turn_of desk one answer ≡ answered answer (asked_at_start row one.turn.initiator true code reached) desk
    turn-asks judged = turn-judged Step judged

    pub turn-asks_at : (entry : KeptEntry) → verdict_for desk.layout row code ≡ Checkpoint → effect_entry desk.office.tables row ≡ Some entry → turn_of desk one answer ≡ answered answer (asked_at_entry row one.turn.initiator true code reached entry) desk
    turn-asks_at entry judged there =
        turn-judged Checkpoint judged
        ∙ ap (λ plan. carried_out answer plan desk) (at-entry desk row one.turn.initiator true code reached entry there)

    pub turn-ends : (rule : Rule) → verdict_for desk.layout row code ≡ Denied rule → turn_of desk one answer ≡ done_by (ended_by row code rule reached) desk
    turn-ends rule judged = turn-judged (Denied rule) judged

-- ---- a unit

-- a unit that comes to a code, however far the step had come
module _ (desk : DeskModel) (row : RunRow) (progress : StepProgress) (code : Code) (answer : Answer) where
  abbrev moved : DeskModel
  moved = with_progress row.number progress desk

  abbrev come : CodePlaceModel
  come = running_reached (seen desk.office row.number progress)

  abbrev its_unit : TurnDone
  its_unit = unit_done answer row (record { unit = abended code; progress = progress }) desk

  unit-judged : (verdict : Verdict) → verdict_for desk.layout row code ≡ verdict → its_unit ≡ answered answer (judged_plan desk.office.tables row (initiator_of row) true code come verdict) moved
  unit-judged verdict judged = ap (λ verdict. answered answer (judged_plan desk.office.tables row (initiator_of row) true code come verdict) moved) judged

  pub unit-asks : verdict_for desk.layout row code ≡ Step → its_unit ≡ answered answer (asked_at_start row (initiator_of row) true code come) moved
  unit-asks judged = unit-judged Step judged

  pub unit-asks_at : (entry : KeptEntry) → verdict_for desk.layout row code ≡ Checkpoint → effect_entry desk.office.tables row ≡ Some entry → its_unit ≡ answered answer (asked_at_entry row (initiator_of row) true code come entry) moved
  unit-asks_at entry judged there =
      unit-judged Checkpoint judged
      ∙ ap (λ plan. answered answer plan moved) (at-entry desk row (initiator_of row) true code come entry there)
