use Rattle.std.proofs.Common.{◌≡◌, ap, ◌∙◌, subst}
use Rattle.std.specs.Option.{option_map_or}
use Rattle.ckr_points_tables.specs.View.{run_on}
use Rattle.ckr_desk_turn.specs.declared.plan.Plan.TheVariants.{Work}
use Rattle.ckr_desk_turn.specs.Plans.{free_plan, plan_of, run_plan}
use Rattle.ckr_desk_turn.specs.Queue.{AreNumbered}
use Rattle.ckr_volumes.specs.declared.layout.Layout.{Layout}
use Rattle.ckr_desk_memory.specs.Plans.{HasDue}
use Rattle.ckr_desk_memory.specs.View.{jobs_of}
use Rattle.ckr_desk_memory.proofs.DuePlans.{plan-due}
use Rattle.ckr_desk_memory.proofs.Plans.{on-run}
use Rattle.ckr_desk_memory.proofs.jobs.Jobs.unit_due.Goals as goal

planned-so : (c : goal.Then-works_on) → (layout : Layout) → plan_of layout (jobs_of c.args.self.now) c.args.turn ≡ Work c.in_ok-job.job
unfolding plan_of jobs_of
planned-so c layout =
    let jobs = jobs_of c.args.self.now in
    let desk = ap (λ v. v.tables.desk) c.self.view_is in
    let numbered = subst (λ tables. AreNumbered 1 tables.runs) desk c.self.invariant.queued.numbered in
    let one = on-run c.args.self.now.tables.desk numbered c.args.turn.initiator c.in_ok-job.job (c.in_ok-job.ensures ∙ ap (run_on c.args.turn.initiator) desk) in
    ap (λ found. option_map_or (run_plan layout jobs c.args.turn.fail) found (free_plan layout jobs c.args.turn.initiator c.args.turn.fail)) one.1
    ∙ c.works_on.ensures c.if-works_on.true layout one.0 one.2

pub returns-then-works_on-clause-plan : goal.returns-then-works_on-clause-plan
returns-then-works_on-clause-plan c = planned-so c

pub returns-then-works_on-clause-due : goal.returns-then-works_on-clause-due
returns-then-works_on-clause-due c = λ layout. subst (HasDue c.args.self.now) (planned-so c layout) (plan-due layout c.args.self.now c.args.turn)
