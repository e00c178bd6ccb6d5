-- A unit of a running step: the desk behind it, where the step goes on and where it ends with a code.
use Rattle.std.proofs.Common.{◌≡◌, ◌≤◌, ℕ, true, false, cond, not, List, ◌∷◌, length, ap, sym, ◌∙◌, subst, Option, Some, None}
use Rattle.std.specs.Prelude.{◌==◌}
use Rattle.std.specs.Option.{option_map_or}
use Rattle.std.proofs.lemmas.Option.{same_Some}
use Rattle.arrayvec.specs.ArrayVec.{ArrayVec}
use Rattle.ckr_base.specs.declared.code.Code.{Code}
use Rattle.ckr_base.proofs.Numbers.{equal-itself}
use Rattle.ckr_base.proofs.Sequences.{filter-twice}
use Rattle.ckr_console.specs.declared.question.Answer.{Answer}
use Rattle.ckr_events.specs.declared.event.Event.{Event}
use Rattle.ckr_events.specs.declared.event.Event.TheVariants.{Ended as EndedEvent, Held as HeldEvent}
use Rattle.ckr_events.specs.declared.event.Ending.TheVariants.{Coded as CodedEnding}
use Rattle.ckr_meaning.specs.StepRun.{StepStart, work_at}
use Rattle.ckr_meaning.specs.declared.place.Place.{Place}
use Rattle.ckr_meaning.specs.declared.place.Place.TheVariants.{Before, Within}
use Rattle.ckr_points.specs.Payload.{lengths_at, rewrites_nothing}
use Rattle.ckr_points.specs.Rows.{RunRow, TablesModel, run_of}
use Rattle.ckr_rules.specs.RuleTables.{rule_number}
use Rattle.ckr_desk_turn.specs.declared.plan.Plan.TheVariants.{Tell}
use Rattle.ckr_points.specs.declared.reply.Reply.{Reply}
use Rattle.ckr_desk_turn.specs.Codes.{CodePlaceModel, code_plan, initiator_of, running_reached}
use Rattle.ckr_desk_turn.specs.Desk.{DeskModel, DeskStep, answered, at_entry, behind as desk_behind, done_by, running_again, running_behind, unit_done, with_progress, without_run}
use Rattle.ckr_desk_turn.specs.Units.{StepProgress, went, abended}
use Rattle.ckr_desk_turn.specs.NextEvents.{Comes, IsWithinStep}
use Rattle.ckr_desk_turn.specs.Invariant.{IsDesk, IsGoing, Keeps}
use Rattle.ckr_desk_turn.specs.Jobs.{effect_entry}
use Rattle.ckr_desk_turn.specs.Restarts.{GoesOnBy, restart_of}
use Rattle.ckr_desk_turn.proofs.Inquiries.{answered-keeps}
use Rattle.ckr_desk_turn.proofs.Moves.{moved-kept}
use Rattle.ckr_desk_turn.proofs.NextEvents.Holders.{HoldsStep, coded-comes, held-comes, may_go, on-holder}
use Rattle.ckr_desk_turn.proofs.Restart.Desks.{check-goes_on, may-so, step-goes_on}
use Rattle.ckr_desk_turn.proofs.Restart.Events.{MayGoOn, goes-then}
use Rattle.ckr_desk_turn.proofs.RunningSteps.{going-within, seen-so}
use Rattle.ckr_desk_turn.proofs.StepEnd.{code-kept, held-kept}
use Rattle.ckr_desk_turn.proofs.Waits.{moved-waits, stopped}

-- a unit by which the step goes on, with no rewrite
pub went-keeps : (answer : Answer) (desk : DeskModel) → IsDesk desk → (row : RunRow) (progress : StepProgress) → IsGoing desk.office (record { run = row.number; progress = progress; code = None }) → Keeps desk (unit_done answer row (record { unit = went None; progress = progress }) desk)
went-keeps answer desk is row progress going = record { comes = tt; kept = moved-kept desk is row.number progress going }

-- without the step of a run, however far it had come
pub without-moved : (run : ℕ) (progress : StepProgress) (running : List DeskStep) → without_run run (record { run = run; progress = progress; code = None } ∷ without_run run running) ≡ without_run run running
without-moved run progress running =
    ap (λ b. cond (not b) (record { run = run; progress = progress; code = None } ∷ without_run run (without_run run running)) (without_run run (without_run run running))) (equal-itself run)
    ∙ filter-twice (λ (step : DeskStep). not (step.run == run)) running

-- the running steps where a run is restarted at its checkpoint, however far its step had come
again-moved : (tables : TablesModel) (run : ℕ) (progress : StepProgress) (running : List DeskStep) → running_again tables run (record { run = run; progress = progress; code = None } ∷ without_run run running) ≡ running_again tables run running
again-moved tables run progress running =
    ap (λ (rest : List DeskStep). option_map_or (λ entry. at_entry run entry.point ∷ rest) (option_map_or (effect_entry tables) (run_of tables run) None) rest) (without-moved run progress running)

-- behind an event behind which the running steps are the same, however far this one had come
told_moved-keeps : (desk : DeskModel) (run : ℕ) (progress : StepProgress) (reply : Reply) (event : Event) → running_behind desk.office.tables event (with_progress run progress desk).running ≡ running_behind desk.office.tables event desk.running → GoesOnBy desk event → Keeps desk (done_by (Tell reply event) (with_progress run progress desk))
told_moved-keeps desk run progress reply event same goes = record {
  comes = goes.comes;
  kept = subst (λ running. IsDesk (record (desk_behind event None desk) { running = running })) (sym same) goes.kept;
}

-- a run within a step stands there
within-place : (place : Option Place) (number committed : ℕ) → option_map_or (λ place. place) place (Before 1) ≡ Within number committed → place ≡ Some (Within number committed)
within-place None number committed is = cc
within-place (Some place) number committed is = ap Some is

-- a unit by which the step ends with a code, behind writes that rewrite nothing: the run ends by the rule that denies its restart, or the operator is
-- asked, and by his answer it is restarted, at the start of its step or at its checkpoint, ends, is held, or waits with the code
pub ended-keeps : (answer : Answer) (desk : DeskModel) → IsDesk desk → (row : RunRow) (number committed : ℕ) (start : StepStart) → IsWithinStep desk.office row.number row number committed start → (progress : StepProgress) (code : Code) → committed ≤ progress.writes → progress.writes ≤ length (work_at start).writes → rewrites_nothing start committed progress.writes ≡ true → Keeps desk (unit_done answer row (record { unit = abended code; progress = progress }) desk)
ended-keeps answer desk is row number committed start within progress code behind fit plain =
    subst (λ (s : CodePlaceModel). Keeps desk (answered answer (code_plan desk.layout desk.office.tables row (initiator_of row) true code s) moved))
    (sym (ap running_reached (seen-so desk.office row.number progress row start within.row_at within.start_at)))
    (answered-keeps desk moved row (initiator_of row) true code reached
    (λ rule first.
    let comes : Comes desk (EndedEvent row.number (CodedEnding code (rule_number rule) progress.writes lengths)) = coded-comes desk is row.number row number committed start held progress.writes behind fit plain goes code rule first in
    told_moved-keeps desk row.number progress _ (EndedEvent row.number (CodedEnding code (rule_number rule) progress.writes lengths)) (without-moved row.number progress desk.running)
    (record { comes = comes; kept = code-kept desk is row.number row number committed start held code (rule_number rule) progress.writes lengths comes }))
    (let comes : Comes desk (HeldEvent row.number code progress.writes lengths) = held-comes desk is row.number row number committed start held progress.writes behind fit plain goes code in
    told_moved-keeps desk row.number progress _ (HeldEvent row.number code progress.writes lengths) (without-moved row.number progress desk.running)
    (record { comes = comes; kept = held-kept desk is row.number row number committed start held code progress.writes lengths comes }))
    (λ judged.
    told_moved-keeps desk row.number progress _ (restart_of row (initiator_of row) code false) (without-moved row.number progress desk.running)
    (step-goes_on desk is row (initiator_of row) code (record { on = on; judged = judged })))
    (λ judged.
    told_moved-keeps desk row.number progress _ (restart_of row (initiator_of row) code true) (again-moved desk.office.tables row.number progress desk.running)
    (check-goes_on desk is row (initiator_of row) code (record { on = on; judged = judged })))
    (record { comes = tt; kept = moved-waits desk is row.number progress code stops })
    answer)
  where
    moved : DeskModel
    moved = with_progress row.number progress desk

    lengths : ArrayVec ℕ
    lengths = record { items = lengths_at start desk.office.tables.sets progress.writes }

    reached : CodePlaceModel
    reached = record { writes = progress.writes; lengths = lengths.items }

    held : HoldsStep desk.office row.number row number committed start
    held = on-holder desk.office row.number row number committed start within

    on : MayGoOn desk.layout desk.office row (initiator_of row)
    on = may-so desk is row number committed start within

    goes : may_go row ≡ true
    goes = goes-then desk.layout desk.office row (initiator_of row) on

    stops : IsGoing desk.office (stopped (record { run = row.number; progress = progress; code = None }) code)
    stops = record {
      row = row;
      row_at = within.row_at;
      on = within.on;
      number = number;
      committed = committed;
      place = within-place row.place number committed within.place;
      start = start;
      start_at = within.start_at;
      fit = fit;
      behind = behind;
      plain = plain;
      come = tt;
    }

pub abended-keeps : (answer : Answer) (desk : DeskModel) → IsDesk desk → (row : RunRow) (progress : StepProgress) (code : Code) → run_of desk.office.tables row.number ≡ Some row → IsGoing desk.office (record { run = row.number; progress = progress; code = None }) → Keeps desk (unit_done answer row (record { unit = abended code; progress = progress }) desk)
abended-keeps answer desk is row progress code at going =
    let mine : going.row ≡ row = same_Some _ _ (sym going.row_at ∙ at) in
    ended-keeps answer desk is row going.number going.committed going.start
    (subst (λ r. IsWithinStep desk.office row.number r going.number going.committed going.start) mine (going-within desk.office (record { run = row.number; progress = progress; code = None }) going))
    progress code going.behind going.fit going.plain
