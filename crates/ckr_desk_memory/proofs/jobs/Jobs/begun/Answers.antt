use Rattle.std.proofs.Common.{arith}
use Rattle.ckr_desk_memory.proofs.Starts.Steps.{begun-parm, has-step, no-run, no-step}
use Rattle.ckr_desk_memory.proofs.jobs.Jobs.begun.Goals as goal

pub returns-in_default-clause-step : goal.returns-in_default-clause-step
returns-in_default-clause-step c = no-run c.args.self.now.tables.desk c.args.job c.args.step c.in_default.ensures.none

pub begin_step-requires-clause-root : goal.begin_step-requires-clause-root
begin_step-requires-clause-root c = omega (arith, c.root.ensures, c.in-Some.ensures.some.fits.root)

pub begin_step-requires-clause-owner : goal.begin_step-requires-clause-owner
begin_step-requires-clause-owner c = (c.in-Some-step_at.ensures.fitting c.in-Some.ensures.some.fits).owner

pub begin_step-requires-clause-parm : goal.begin_step-requires-clause-parm
begin_step-requires-clause-parm c =
    begun-parm c.args.self.now.tables.desk c.args.job c.in-Some.table.now c.in-Some.ensures.some c.args.step c.in-Some-step_at.own c.requires c.in-Some-step_at.ensures.step

pub returns-in_ok-begin_step-in-Some-step_at-clause-step : goal.returns-in_ok-begin_step-in-Some-step_at-clause-step
returns-in_ok-begin_step-in-Some-step_at-clause-step c =
    has-step c.args.self.now.tables.desk c.args.job c.in-Some.table.now c.in-Some.ensures.some c.root.result c.args.step c.in-Some-step_at.own c.in_ok-begin_step-in-Some-step_at.field-0
    c.root.ensures c.in-Some-step_at.ensures.step c.in_ok-begin_step-in-Some-step_at.ensures

pub returns-in-None-clause-step : goal.returns-in-None-clause-step
returns-in-None-clause-step c = no-step c.args.self.now.tables.desk c.args.job c.in-Some.table.now c.in-Some.ensures.some c.args.step c.in-None.ensures.step
