use Rattle.std.proofs.Common.{IfErr, sym, ◌∙◌, subst}
use Rattle.std.proofs.lemmas.Result.{IfOk-weaker}
use Rattle.ckr_desk_turn.specs.declared.plan.Plan.{Plan}
use Rattle.ckr_desk_memory.specs.Plans.{NeedsRoom}
use Rattle.ckr_desk_memory.specs.View.{jobs_of}
use Rattle.ckr_desk_memory.proofs.Plans.{run-between}
use Rattle.ckr_desk_memory.proofs.jobs.Jobs.run_plan.Goals as goal

pub returns-in-Some-clause-plan : goal.returns-in-Some-clause-plan
returns-in-Some-clause-plan c = λ row at on.
    IfOk-weaker c.between.result _ _
    (λ plan is. is ∙ sym (run-between c.args.layout.now (jobs_of c.args.self.now) row c.args.fail c.in-Some.number (sym (c.in-Some.ensures row at))))
    (c.between.ensures.plan row at)

pub returns-in-Some-clause-takes : goal.returns-in-Some-clause-takes
returns-in-Some-clause-takes c = λ row at.
    subst (λ (plan : Plan). IfErr c.between.result (λ _. NeedsRoom plan)) (sym (run-between c.args.layout.now (jobs_of c.args.self.now) row c.args.fail c.in-Some.number (sym (c.in-Some.ensures row at))))
    (c.between.ensures.takes row)

pub settled-requires-clause-next : goal.settled-requires-clause-next
settled-requires-clause-next c = λ row at. sym (c.in-None.ensures row at)
