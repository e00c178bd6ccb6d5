use Rattle.std.proofs.Common.{ap, sym, ◌∙◌, subst}
use Rattle.ckr_desk_turn.specs.Queue.{AreNumbered, queue_of}
use Rattle.ckr_points.specs.Rows.{run_of}
use Rattle.ckr_desk_turn.specs.Plans.{chosen_plan}
use Rattle.ckr_desk_memory.specs.View.{JobsView, jobs_of}
use Rattle.ckr_desk_memory.proofs.Plans.{free-chosen, free-idle, next-none, next-one}
use Rattle.ckr_desk_memory.proofs.jobs.Jobs.free_plan.Goals as goal

pub returns-in-Idle-clause-plan : goal.returns-in-Idle-clause-plan
unfolding jobs_of
returns-in-Idle-clause-plan c =
    let desk = ap (λ v. v.tables.desk) c.self.view_is in
    sym (free-idle c.args.layout.now (jobs_of c.args.self.now) c.args.initiator c.args.fail (sym c.if-is_some.ensures)
    (next-none c.args.self.now.tables.desk c.self.inside.queue.entries (c.self.invariant.queued.same ∙ ap queue_of desk) c.in-Idle.ensures.selection))

pub returns-in-Job-clause-plan : goal.returns-in-Job-clause-plan
unfolding jobs_of
returns-in-Job-clause-plan c =
    let desk = ap (λ v. v.tables.desk) c.self.view_is in
    let numbered = subst (λ tables. AreNumbered 1 tables.runs) desk c.self.invariant.queued.numbered in
    let one = next-one c.args.self.now.tables.desk c.self.inside.queue.entries (c.self.invariant.queued.same ∙ ap queue_of desk) numbered c.in-Job.job c.in-Job.ensures.selection in
    c.chosen.ensures.plan one.0 (ap (λ tables. run_of tables c.in-Job.job) desk ∙ one.2)
    ∙ ap (λ (v : JobsView). chosen_plan c.args.layout.now (jobs_of v) c.args.initiator one.0) c.self.view_is
    ∙ sym (free-chosen c.args.layout.now (jobs_of c.args.self.now) c.args.initiator c.args.fail (sym c.if-is_some.ensures) one.0 one.1)
