use Rattle.std.specs.Option.{option_copied}
use Rattle.ckr_desk_memory.proofs.Holders.OwnSteps.{step-own}
use Rattle.ckr_desk_memory.proofs.RunningSteps.First.{step-runnable}
use Rattle.ckr_desk_memory.proofs.jobs.Jobs.running_step.Goals as goal

pub returns-clause-runnable : goal.returns-clause-runnable
returns-clause-runnable c = λ layout are. step-runnable layout c.args.run c.args.self.now (option_copied c.running_in.result) are c.running_in.ensures

pub returns-clause-own : goal.returns-clause-own
returns-clause-own c = λ own. step-own c.args.run c.args.self.now (option_copied c.running_in.result) own c.running_in.ensures
