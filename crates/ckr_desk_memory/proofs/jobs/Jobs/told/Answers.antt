use Rattle.ckr_desk_memory.specs.Parts.{step_seen}
use Rattle.ckr_desk_memory.proofs.Holders.OwnUnits.{told-commits, told-leaves, told-of, told-own}
use Rattle.ckr_desk_memory.proofs.jobs.Jobs.told.Goals as goal

pub returns-clause-own : goal.returns-clause-own
returns-clause-own c = λ heads placed is fits there unit.
    told-own c.args.layout.now c.args.self.now.tables.desk (step_seen c.args.on.now) c.args.ahead.now c.answered.result c.answered.ensures.numbered c.requires.rows is c.answered.ensures.plan heads placed fits there unit

pub returns-clause-commits : goal.returns-clause-commits
returns-clause-commits c = λ is.
    told-commits c.args.layout.now c.args.self.now.tables.desk (step_seen c.args.on.now) c.args.ahead.now c.answered.result c.answered.ensures.numbered c.requires.rows is c.answered.ensures.plan

pub returns-clause-of_run : goal.returns-clause-of_run
returns-clause-of_run c = λ is.
    told-of c.args.layout.now c.args.self.now.tables.desk (step_seen c.args.on.now) c.args.ahead.now c.answered.result c.answered.ensures.numbered c.requires.rows is c.answered.ensures.plan

pub returns-clause-left : goal.returns-clause-left
returns-clause-left c = told-leaves c.args.self.now.failed c.answered.result c.answered.ensures.unit
