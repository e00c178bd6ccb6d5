-- The desk behind turns, one after the other.
use Rattle.std.proofs.Common.{◌≡◌, ℕ, List, [], ◌∷◌, refl, sym, ◌∙◌, subst, Option, Some, None}
use Rattle.std.specs.List.{AllByRecursion}
use Rattle.std.specs.Option.{option_map_or}
use Rattle.ckr_console.specs.declared.question.Answer.{Answer}
use Rattle.ckr_events.specs.declared.event.Event.{Event}
use Rattle.ckr_meaning.specs.StepRun.{StepStart}
use Rattle.ckr_points.specs.Rows.{RunRow, run_of}
use Rattle.ckr_points_invariant.specs.Invariant.{IsKept}
use Rattle.ckr_desk_turn.specs.declared.plan.Plan.{Plan}
use Rattle.ckr_desk_turn.specs.declared.plan.Plan.TheVariants.{Rest, Tell, Work, Pass, Take, Ask, Wait}
use Rattle.ckr_points.specs.declared.reply.Reply.TheVariants.{Idle}
use Rattle.ckr_desk_turn.specs.Checkpoints.{checkpoint_turn}
use Rattle.ckr_desk_turn.specs.Desk.{DeskModel, done_by, jobs_of, progress_of, unit_done, with_progress, work_of}
use Rattle.ckr_desk_turn.specs.Inquiries.{decided}
use Rattle.ckr_desk_turn.specs.Taken.{behind_entry, served_by, taken_of}
use Rattle.ckr_desk_turn.specs.Turns.{AnsweredTurn, IsAnsweredTurnOf, IsMountedTurnOf, MountedTurn, carried_out, desk_after, plan_for, turn_of}
use Rattle.ckr_desk_turn.specs.Units.{StepProgress, UnitEnd, unit_end}
use Rattle.ckr_desk_turn.specs.Invariant.{IsDesk, Keeps}
use Rattle.ckr_desk_turn.proofs.Turns.Initiator.{turn-keeps}
use Rattle.ckr_points.specs.Payload.{start_in_office}

-- ---- the layout stays

done-layout : (plan : Plan) (desk : DeskModel) → (done_by plan desk).desk.layout ≡ desk.layout
done-layout (Tell reply event) desk = refl
done-layout _ desk = refl

unit-layout : (answer : Answer) (row : RunRow) (end : UnitEnd) (desk : DeskModel) → (unit_done answer row end desk).desk.layout ≡ desk.layout
unit-layout answer row end desk = done-layout _ (with_progress row.number end.progress desk)

work-layout : (answer : Answer) (run : ℕ) (desk : DeskModel) → (work_of answer run desk).desk.layout ≡ desk.layout
work-layout answer run desk = by-row (run_of desk.office.tables run)
  where
    by-progress : (row : RunRow) (start : StepStart) (progress : Option StepProgress) → (option_map_or (λ progress. unit_done answer row (unit_end start progress) desk) progress (done_by (Rest Idle) desk)).desk.layout ≡ desk.layout
    by-progress row start None = refl
    by-progress row start (Some progress) = unit-layout answer row (unit_end start progress) desk

    by-start : (row : RunRow) (start : Option StepStart) → (option_map_or (λ start. option_map_or (λ progress. unit_done answer row (unit_end start progress) desk) (progress_of desk run) (done_by (Rest Idle) desk)) start (done_by (Rest Idle) desk)).desk.layout ≡ desk.layout
    by-start row None = refl
    by-start row (Some start) = by-progress row start (progress_of desk run)

    by-row : (row : Option RunRow) → (option_map_or (λ row. option_map_or (λ start. option_map_or (λ progress. unit_done answer row (unit_end start progress) desk) (progress_of desk run) (done_by (Rest Idle) desk)) (start_in_office desk.office row) (done_by (Rest Idle) desk)) row (done_by (Rest Idle) desk)).desk.layout ≡ desk.layout
    by-row None = refl
    by-row (Some row) = by-start row (start_in_office desk.office row)

entry-layout : (event : Option Event) (desk : DeskModel) → (behind_entry event desk).layout ≡ desk.layout
entry-layout None desk = refl
entry-layout (Some event) desk = refl

taken-layout : (run : ℕ) (desk : DeskModel) → (taken_of run desk).desk.layout ≡ desk.layout
taken-layout run desk = by-row (run_of desk.office.tables run)
  where
    by-progress : (row : RunRow) (start : StepStart) (progress : Option StepProgress) → (option_map_or (λ progress. served_by row (checkpoint_turn desk.office.tables row start progress) desk) progress (done_by (Rest Idle) desk)).desk.layout ≡ desk.layout
    by-progress row start None = refl
    by-progress row start (Some progress) = entry-layout (checkpoint_turn desk.office.tables row start progress).event desk

    by-start : (row : RunRow) (start : Option StepStart) → (option_map_or (λ start. option_map_or (λ progress. served_by row (checkpoint_turn desk.office.tables row start progress) desk) (progress_of desk run) (done_by (Rest Idle) desk)) start (done_by (Rest Idle) desk)).desk.layout ≡ desk.layout
    by-start row None = refl
    by-start row (Some start) = by-progress row start (progress_of desk run)

    by-row : (row : Option RunRow) → (option_map_or (λ row. option_map_or (λ start. option_map_or (λ progress. served_by row (checkpoint_turn desk.office.tables row start progress) desk) (progress_of desk run) (done_by (Rest Idle) desk)) (start_in_office desk.office row) (done_by (Rest Idle) desk)) row (done_by (Rest Idle) desk)).desk.layout ≡ desk.layout
    by-row None = refl
    by-row (Some row) = by-start row (start_in_office desk.office row)

plan-layout : (answer : Answer) (plan : Plan) (desk : DeskModel) → (carried_out answer plan desk).desk.layout ≡ desk.layout
plan-layout answer (Rest reply) desk = refl
plan-layout answer (Tell reply event) desk = refl
plan-layout answer (Work job) desk = work-layout answer job desk
plan-layout answer (Pass job reply) desk = refl
plan-layout answer (Take job) desk = taken-layout job desk
plan-layout answer (Ask inquiry) desk = done-layout (decided answer inquiry) desk
plan-layout answer (Wait job code) desk = refl

pub turn-layout : (desk : DeskModel) (one : MountedTurn) (answer : Answer) → (turn_of desk one answer).desk.layout ≡ desk.layout
unfolding turn_of
turn-layout desk one answer = plan-layout answer (plan_for desk.layout (jobs_of desk) one) desk

pub after-layout : (turns : List AnsweredTurn) (desk : DeskModel) → (desk_after turns desk).layout ≡ desk.layout
after-layout [] desk = refl
after-layout (one ∷ rest) desk = after-layout rest (turn_of desk one.turn one.answer).desk ∙ turn-layout desk one.turn one.answer

-- ---- turns, one after the other

pub turns-keep : (turns : List AnsweredTurn) (desk : DeskModel) → IsDesk desk → AllByRecursion (IsAnsweredTurnOf desk.layout) turns → IsDesk (desk_after turns desk)
turns-keep [] desk is each = is
turns-keep (one ∷ rest) desk is each =
    turns-keep rest (turn_of desk one.turn one.answer).desk (turn-keeps desk one.turn one.answer is each.0.above each.0.below).kept
    (subst (λ layout. AllByRecursion (IsAnsweredTurnOf layout) rest) (sym (turn-layout desk one.turn one.answer)) each.1)

-- the events behind them are kept, in the layout that the desk began with
pub turns-kept : (turns : List AnsweredTurn) (desk : DeskModel) → IsDesk desk → AllByRecursion (IsAnsweredTurnOf desk.layout) turns → IsKept desk.layout (desk_after turns desk).office
turns-kept turns desk is each = subst (λ layout. IsKept layout (desk_after turns desk).office) (after-layout turns desk) (turns-keep turns desk is each).kept

-- so does the next turn
pub next-keeps : (turns : List AnsweredTurn) (one : MountedTurn) (answer : Answer) (desk : DeskModel) → IsDesk desk → AllByRecursion (IsAnsweredTurnOf desk.layout) turns → IsMountedTurnOf desk.layout one → Keeps (desk_after turns desk) (turn_of (desk_after turns desk) one answer)
next-keeps turns one answer desk is each next =
    let there : IsMountedTurnOf (desk_after turns desk).layout one = subst (λ layout. IsMountedTurnOf layout one) (sym (after-layout turns desk)) next in
    turn-keeps (desk_after turns desk) one answer (turns-keep turns desk is each) there.above there.below
