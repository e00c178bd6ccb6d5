use Rattle.std.proofs.Common.{◌==◌, sym, ◌∙◌}
use Rattle.ckr_base.proofs.Numbers.{equal-true}
use Rattle.ckr_base.specs.declared.programs.NextDue.TheVariants.{Unit as OneUnit, Checkpoint, Cancel}
use Rattle.ckr_points.specs.Restart.{place_of, step_in}
use Rattle.ckr_desk_memory.specs.Parts.{step_seen}
use Rattle.ckr_desk_memory.specs.Plans.{row_for, HasCounts}
use Rattle.ckr_desk_memory.specs.View.{RunningStepView}
use Rattle.ckr_desk_memory.proofs.FoundRuns.{find-is}
use Rattle.ckr_desk_memory.proofs.Plans.{within-due, within-ends, within-none}
use Rattle.ckr_desk_memory.proofs.WaitingRuns.{uncoded-on}
use Rattle.ckr_desk_memory.proofs.jobs.Jobs.within.Goals as goal

pub returns-in_default-clause-plan : goal.returns-in_default-clause-plan
returns-in_default-clause-plan c =
    within-none c.args.self.now c.args.job c.args.table.now c.requires.known (step_in (place_of (row_for c.args.job c.args.table.now))) c.in_default.ensures

pub step_ended-requires-clause-counted : goal.step_ended-requires-clause-counted
step_ended-requires-clause-counted c =
    (find-is HasCounts (λ (on : RunningStepView). on.run == c.args.job) c.args.self.now.running (step_seen c.in-Some.on.now) c.requires.counted (sym c.in-Some.ensures)).holds

pub returns-in-Finished-clause-plan : goal.returns-in-Finished-clause-plan
returns-in-Finished-clause-plan c =
    let on = step_seen c.in-Some.on.now in
    let is = find-is HasCounts (λ (step : RunningStepView). step.run == c.args.job) c.args.self.now.running on c.requires.counted (sym c.in-Some.ensures) in
    c.step_ended.ensures.plan
    ∙ within-ends c.args.self.now c.args.job c.args.table.now c.requires.known (step_in (place_of (row_for c.args.job c.args.table.now))) on (equal-true on.run c.args.job is.passes) c.in-Some.ensures
    (uncoded-on c.args.self.now c.args.job c.requires.waits on c.in-Some.ensures) c.in-Finished.rc (sym c.in-Finished.is ∙ c.due.ensures.due)

pub returns-in-Unit-clause-plan : goal.returns-in-Unit-clause-plan
returns-in-Unit-clause-plan c =
    within-due c.args.self.now c.args.job c.args.table.now c.requires.known (step_in (place_of (row_for c.args.job c.args.table.now))) (step_seen c.in-Some.on.now) OneUnit c.in-Some.ensures (uncoded-on c.args.self.now c.args.job c.requires.waits (step_seen c.in-Some.on.now) c.in-Some.ensures) (sym c.in-Unit.is ∙ c.due.ensures.due)

pub returns-in-Checkpoint-clause-plan : goal.returns-in-Checkpoint-clause-plan
returns-in-Checkpoint-clause-plan c =
    c.checkpoint_due.ensures.plan
    ∙ within-due c.args.self.now c.args.job c.args.table.now c.requires.known (step_in (place_of (row_for c.args.job c.args.table.now))) (step_seen c.in-Some.on.now) Checkpoint c.in-Some.ensures
    (uncoded-on c.args.self.now c.args.job c.requires.waits (step_seen c.in-Some.on.now) c.in-Some.ensures) (sym c.in-Checkpoint.is ∙ c.due.ensures.due)

pub returns-in-Cancel-clause-plan : goal.returns-in-Cancel-clause-plan
returns-in-Cancel-clause-plan c =
    c.cancelled.ensures.plan
    ∙ within-due c.args.self.now c.args.job c.args.table.now c.requires.known (step_in (place_of (row_for c.args.job c.args.table.now))) (step_seen c.in-Some.on.now) Cancel c.in-Some.ensures
    (uncoded-on c.args.self.now c.args.job c.requires.waits (step_seen c.in-Some.on.now) c.in-Some.ensures) (sym c.in-Cancel.is ∙ c.due.ensures.due)
