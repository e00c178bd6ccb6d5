use Rattle.std.proofs.Common.{IfErr, sym, subst}
use Rattle.ckr_console.specs.Answering.{restart_answer}
use Rattle.ckr_desk_refines.specs.Memory.View.{JobsView}
use Rattle.ckr_desk_turn.specs.declared.plan.Plan.{Plan}
use Rattle.ckr_desk_turn.specs.Inquiries.{decide}
use Rattle.ckr_desk_refines.specs.Moves.{event_in}
use Rattle.ckr_desk.proofs.Turns.Mounts.{prepared-decided, unfit-before}
use Rattle.ckr_desk.proofs.Units.Preparation.{err-is}
use Rattle.ckr_desk.specs.Preparation.{IsPreparedPlan, IsPreparedToSettle, NotFit}
use Rattle.ckr_desk.proofs.desk.Desk.settle_with.Goals as goal

pub ready_with-requires-clause-prepared : goal.ready_with-requires-clause-prepared
ready_with-requires-clause-prepared g c κs within =
    let now = c.args.self.now in
    let jobs = c.answered-plan.new.self.jobs in
    subst (λ (plan : Plan). IsPreparedPlan jobs plan c.args.prepared) (sym c.answered-plan.ensures.decided)
    (prepared-decided jobs (restart_answer now.machine_room.operator) c.args.plan c.args.prepared
    (subst (λ (j : JobsView). IsPreparedToSettle j c.args.plan c.args.prepared) (sym c.answered-plan.ensures.jobs) c.requires.prepared))

pub returns-in_err-ready-clause-cause : goal.returns-in_err-ready-clause-cause
returns-in_err-ready-clause-cause g c =
    let now = c.args.self.now in
    let mid = c.answered-plan.new.self in
    let new = c.ready_with.new.self in
    let error = c.in_err-ready.field-0.0 in
    let event = event_in (decide (restart_answer now.machine_room.operator) c.args.plan) in
    subst (λ r. IfErr r (NotFit event now new)) (sym (err-is c.from_residual.result error c.from_residual.ensures.1))
    (unfit-before event now mid new c.answered-plan.ensures.jobs c.answered-plan.ensures.store error
    (subst (λ (plan : Plan). NotFit (event_in plan) mid new error) c.answered-plan.ensures.decided c.in_err-ready.ensures.cause))
