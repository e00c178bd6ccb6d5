use Rattle.std.proofs.Common.{List, sym, subst}
use Rattle.std.proofs.lemmas.Result.{IfOk-weaker}
use Rattle.ckr_points.specs.Rows.{TablesModel}
use Rattle.ckr_desk_turn.specs.declared.failed_run.FailedRun.{FailedRun}
use Rattle.ckr_desk_memory.specs.OwnSteps.{PlanCommits, PlanFollows, PlanLeaves}
use Rattle.ckr_desk_memory.specs.Plans.{HasDue}
use Rattle.ckr_desk_memory.proofs.Holders.OwnPlans.{plan-commits, plan-leaves, plan-own}
use Rattle.ckr_desk_memory.proofs.DuePlans.{due-alike, plan-due}
use Rattle.ckr_desk_memory.proofs.jobs.Jobs.plan.Goals as goal

pub returns-clause-due : goal.returns-clause-due
returns-clause-due c =
    IfOk-weaker c.planned.result _ _
    (λ plan is.
    due-alike c.args.self.now c.planned.new.self plan c.planned.ensures.running (subst (HasDue c.args.self.now) (sym is) (plan-due c.args.layout.now c.args.self.now c.args.turn)))
    c.planned.ensures.plan

pub returns-clause-own : goal.returns-clause-own
returns-clause-own c =
    IfOk-weaker c.planned.result _ _
    (λ plan is.
    subst (λ (tables : TablesModel). PlanFollows c.args.layout.now tables plan) (sym c.planned.ensures.tables)
    (subst (PlanFollows c.args.layout.now c.args.self.now.tables.desk) (sym is)
    (plan-own c.args.layout.now c.args.self.now c.args.turn c.planned.ensures.numbered c.requires.jobs c.requires.turn c.requires.own c.requires.left)))
    c.planned.ensures.plan

pub returns-clause-commits : goal.returns-clause-commits
returns-clause-commits c =
    IfOk-weaker c.planned.result _ _
    (λ plan is.
    subst (λ (tables : TablesModel). PlanCommits tables c.planned.new.self.running plan) (sym c.planned.ensures.tables)
    (subst (PlanCommits c.args.self.now.tables.desk c.planned.new.self.running) (sym is)
    (plan-commits c.args.layout.now c.args.self.now c.args.turn c.planned.new.self.running)))
    c.planned.ensures.plan

pub returns-clause-left : goal.returns-clause-left
returns-clause-left c =
    IfOk-weaker c.planned.result _ _
    (λ plan is.
    subst (λ (failed : List FailedRun). PlanLeaves failed plan) (sym c.planned.ensures.failed)
    (subst (PlanLeaves c.args.self.now.failed) (sym is) (plan-leaves c.args.layout.now c.args.self.now c.args.turn)))
    c.planned.ensures.plan
