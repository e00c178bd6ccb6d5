use Rattle.ckr_desk_turn.specs.Mounts.{wanting}
use Rattle.ckr_desk_memory.proofs.WantingSteps.{ended-some}
use Rattle.ckr_desk_memory.proofs.jobs.Jobs.ended.Goals as goal

pub returns-in-Some-clause-plan : goal.returns-in-Some-clause-plan
returns-in-Some-clause-plan c = ended-some (wanting c.args.self.now.tables.desk c.args.plan) c.args.plan c.in-Some.end c.args.sought c.args.cause c.in-Some.ensures.plan
