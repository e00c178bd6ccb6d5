-- Whatever the operator answers of a run that has a code, the desk goes on by it.
use Rattle.std.proofs.Common.{◌≡◌, ℕ, Bool, true, false, [], refl, Some, None}
use Rattle.ckr_base.specs.declared.code.Code.{Code}
use Rattle.ckr_console.specs.declared.question.Answer.{Answer}
use Rattle.ckr_console.specs.declared.question.Answer.TheVariants.{Yes, No, Hold, Silent}
use Rattle.ckr_points.specs.Rows.{KeptEntry, RunRow}
use Rattle.ckr_rules.specs.declared.cases.Rule.{Rule}
use Rattle.ckr_rules.specs.declared.cases.Rule.TheVariants.{A6}
use Rattle.ckr_rules.specs.declared.cases.Verdict.TheVariants.{Checkpoint, Step}
use Rattle.ckr_desk_turn.specs.declared.inquiry.Inquiry.{Inquiry}
use Rattle.ckr_desk_turn.specs.declared.plan.Plan.TheVariants.{Ask}
use Rattle.ckr_desk_turn.specs.Codes.{CodePlaceModel, code_plan, ended_by, inquiry_of, reached_by, verdict_for}
use Rattle.ckr_desk_turn.specs.Desk.{DeskModel, answered, done_by, jobs_of}
use Rattle.ckr_desk_turn.specs.Inquiries.{awaits, holds_it, refuses, restarts}
use Rattle.ckr_desk_turn.specs.Invariant.{IsDesk, Keeps}
use Rattle.ckr_desk_turn.specs.Turns.{carried_out}
use Rattle.ckr_desk_turn.proofs.Codes.{by-verdict, may_end}
use Rattle.ckr_desk_turn.proofs.Restart.Desks.{check-goes_on, end-goes_on, hold-goes_on, step-goes_on, told-keeps}
use Rattle.ckr_desk_turn.proofs.Restart.Events.{MayGoOn, goes-then}
use Rattle.ckr_desk_turn.proofs.NextEvents.Holders.{may_go}
use Rattle.ckr_desk_turn.proofs.Waits.{waiting-kept}

-- what his answer comes to keeps the desk, where each does
answers-keep : (desk moved : DeskModel) (inquiry : Inquiry) → Keeps desk (done_by (restarts inquiry) moved) → Keeps desk (done_by (refuses inquiry) moved) → Keeps desk (done_by (holds_it inquiry) moved) → Keeps desk (done_by (awaits inquiry) moved)
    → (answer : Answer) → Keeps desk (answered answer (Ask inquiry) moved)
answers-keep desk moved inquiry goes_on ends held waits Yes = record { comes = goes_on.comes; kept = goes_on.kept }
answers-keep desk moved inquiry goes_on ends held waits No = record { comes = ends.comes; kept = ends.kept }
answers-keep desk moved inquiry goes_on ends held waits Hold = record { comes = held.comes; kept = held.kept }
answers-keep desk moved inquiry goes_on ends held waits Silent = record { comes = waits.comes; kept = waits.kept }

-- a run with a code, at a desk whose running steps may have moved on: it may end by the rules, be held, be restarted where they restart it, and wait
module _ (desk moved : DeskModel) (row : RunRow) (initiator : ℕ) (lodged : Bool) (code : Code) (reached : CodePlaceModel)
    (ends : (rule : Rule) → may_end rule (verdict_for desk.layout row code) ≡ true → Keeps desk (done_by (ended_by row code rule reached) moved))
    (holds : Keeps desk (done_by (holds_it (inquiry_of row initiator lodged code reached None 0)) moved))
    (starts : verdict_for desk.layout row code ≡ Step → Keeps desk (done_by (restarts (inquiry_of row initiator lodged code reached None 0)) moved))
    (goes_back : verdict_for desk.layout row code ≡ Checkpoint → Keeps desk (done_by (restarts (inquiry_of row initiator lodged code reached (Some []) 0)) moved))
    (waits : Keeps desk (done_by (awaits (inquiry_of row initiator lodged code reached None 0)) moved)) (answer : Answer) where
  at-start : verdict_for desk.layout row code ≡ Step → Keeps desk (answered answer (Ask (inquiry_of row initiator lodged code reached None 0)) moved)
  at-start judged = answers-keep desk moved (inquiry_of row initiator lodged code reached None 0) (starts judged) (ends A6 refl) holds waits answer

  at-entry : (entry : KeptEntry) → verdict_for desk.layout row code ≡ Checkpoint → Keeps desk (answered answer (Ask (inquiry_of row initiator lodged code reached (Some entry.kept.id) entry.point.taken)) moved)
  at-entry entry judged =
      let back = goes_back judged in
      answers-keep desk moved (inquiry_of row initiator lodged code reached (Some entry.kept.id) entry.point.taken) (record { comes = back.comes; kept = back.kept }) (ends A6 refl)
      (record { comes = holds.comes; kept = holds.kept }) (waits-so lodged waits) answer
    where
      waits-so : (on : Bool) → Keeps desk (done_by (awaits (inquiry_of row initiator on code reached None 0)) moved) → Keeps desk (done_by (awaits (inquiry_of row initiator on code reached (Some entry.kept.id) entry.point.taken)) moved)
      waits-so true its = record { comes = its.comes; kept = its.kept }
      waits-so false its = record { comes = its.comes; kept = its.kept }

  -- so the plan keeps the desk, of a unit and of a turn
  pub answered-keeps : Keeps desk (answered answer (code_plan desk.layout desk.office.tables row initiator lodged code reached) moved)
  answered-keeps =
      by-verdict (λ plan. Keeps desk (answered answer plan moved)) desk.layout desk.office.tables row initiator lodged code reached
      (λ rule first. let its = ends rule first in record { comes = its.comes; kept = its.kept }) at-start (λ entry judged there. at-entry entry judged)

  pub carried-keeps : Keeps desk (carried_out answer (code_plan desk.layout desk.office.tables row initiator lodged code reached) moved)
  carried-keeps =
      by-verdict (λ plan. Keeps desk (carried_out answer plan moved)) desk.layout desk.office.tables row initiator lodged code reached
      ends at-start (λ entry judged there. at-entry entry judged)

-- a run that is on an initiator, or was released and comes to it
pub coded-keeps : (desk : DeskModel) → IsDesk desk → (row : RunRow) (initiator : ℕ) → MayGoOn desk.layout desk.office row initiator → (lodged : Bool) (code : Code) (answer : Answer)
    → Keeps desk (carried_out answer (code_plan desk.layout desk.office.tables row initiator lodged code (reached_by (jobs_of desk) row)) desk)
coded-keeps desk is row initiator on lodged code answer =
    carried-keeps desk desk row initiator lodged code (reached_by (jobs_of desk) row)
    (λ rule first. told-keeps desk _ _ (end-goes_on desk is row code on.number on.committed on.start on.held goes rule first))
    (told-keeps desk _ _ (hold-goes_on desk is row code on.number on.committed on.start on.held goes))
    (λ judged. told-keeps desk _ _ (step-goes_on desk is row initiator code (record { on = on; judged = judged })))
    (λ judged. told-keeps desk _ _ (check-goes_on desk is row initiator code (record { on = on; judged = judged })))
    (waits lodged) answer
  where
    goes : may_go row ≡ true
    goes = goes-then desk.layout desk.office row initiator on

    waits : (on : Bool) → Keeps desk (done_by (awaits (inquiry_of row initiator on code (reached_by (jobs_of desk) row) None 0)) desk)
    waits true = record { comes = tt; kept = waiting-kept desk is row.number code }
    waits false = record { comes = tt; kept = is }
