use Rattle.ckr_desk_turn.specs.declared.taking.Taking.TheVariants.{Awaited, Exceeds, Lacks, Refused, Taken}
use Rattle.ckr_desk_turn.specs.Mounts.{wanting}
use Rattle.ckr_desk_memory.proofs.Takings.{same-either, taken-by}
use Rattle.ckr_desk_memory.proofs.jobs.Jobs.by_taking.Goals as goal

pub returns-in-Taken-clause-plan : goal.returns-in-Taken-clause-plan
returns-in-Taken-clause-plan c = taken-by c.args.layout.now c.args.self.now.tables.desk c.args.taking Taken c.args.plan c.args.plan c.in-Taken.is (same-either (wanting c.args.self.now.tables.desk c.args.plan) c.args.plan)

pub returns-in-Exceeds-clause-plan : goal.returns-in-Exceeds-clause-plan
returns-in-Exceeds-clause-plan c = taken-by c.args.layout.now c.args.self.now.tables.desk c.args.taking (Exceeds c.in-Exceeds.need) c.args.plan c.ended.result c.in-Exceeds.is c.ended.ensures.plan

pub returns-in-Lacks-clause-plan : goal.returns-in-Lacks-clause-plan
returns-in-Lacks-clause-plan c = taken-by c.args.layout.now c.args.self.now.tables.desk c.args.taking (Lacks c.in-Lacks.need c.in-Lacks.free) c.args.plan c.rested.result c.in-Lacks.is c.rested.ensures.plan

pub returns-in-Refused-clause-plan : goal.returns-in-Refused-clause-plan
returns-in-Refused-clause-plan c =
    taken-by c.args.layout.now c.args.self.now.tables.desk c.args.taking (Refused c.in-Refused.volume) c.args.plan c.ended-in-Refused.result c.in-Refused.is c.ended-in-Refused.ensures.plan

pub returns-in-Awaited-clause-plan : goal.returns-in-Awaited-clause-plan
returns-in-Awaited-clause-plan c = taken-by c.args.layout.now c.args.self.now.tables.desk c.args.taking Awaited c.args.plan c.rested-in-Awaited.result c.in-Awaited.is c.rested-in-Awaited.ensures.plan
