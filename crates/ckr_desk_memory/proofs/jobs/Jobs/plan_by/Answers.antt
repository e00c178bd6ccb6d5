use Rattle.std.proofs.Common.{ap, sym, subst}
use Rattle.ckr_desk_memory.specs.OwnSteps.{PlanCommits, PlanFollows, PlanLeaves}
use Rattle.ckr_desk_memory.specs.Plans.{HasDue}
use Rattle.ckr_desk_memory.proofs.FoundRuns.{AreRunRows}
use Rattle.ckr_desk_memory.proofs.Takings.{by-taken, ended-follows}
use Rattle.ckr_desk_memory.proofs.jobs.Jobs.plan_by.Goals as goal

pub returns-clause-own : goal.returns-clause-own
returns-clause-own c = λ follow due own.
    let tables = c.args.self.now.tables.desk in
    let rows = subst AreRunRows (ap (λ v. v.tables.desk) c.self.view_is) c.runs-lines.ensures.rows in
    subst (PlanFollows c.args.layout.now tables) (sym c.by_taking.ensures.plan)
    (by-taken (PlanFollows c.args.layout.now tables) c.args.layout.now tables c.args.taking c.args.plan follow (λ reply. tt)
    (λ step cause sought dd found there. ended-follows c.args.layout.now c.args.self.now c.args.plan step cause sought dd rows found there follow due own))

pub returns-clause-commits : goal.returns-clause-commits
returns-clause-commits c = λ running commits.
    let tables = c.args.self.now.tables.desk in
    subst (PlanCommits tables running) (sym c.by_taking.ensures.plan)
    (by-taken (PlanCommits tables running) c.args.layout.now tables c.args.taking c.args.plan commits (λ reply. tt) (λ step cause sought dd found there. tt))

pub returns-clause-left : goal.returns-clause-left
returns-clause-left c = λ failed left.
    subst (PlanLeaves failed) (sym c.by_taking.ensures.plan)
    (by-taken (PlanLeaves failed) c.args.layout.now c.args.self.now.tables.desk c.args.taking c.args.plan left (λ reply. tt) (λ step cause sought dd found there. tt))

pub returns-clause-due : goal.returns-clause-due
returns-clause-due c = λ due.
    subst (HasDue c.args.self.now) (sym c.by_taking.ensures.plan)
    (by-taken (HasDue c.args.self.now) c.args.layout.now c.args.self.now.tables.desk c.args.taking c.args.plan due (λ reply. tt) (λ step cause sought dd found there. tt))
