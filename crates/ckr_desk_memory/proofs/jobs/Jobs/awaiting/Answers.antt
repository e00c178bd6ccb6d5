use Rattle.std.proofs.Common.{ap, sym, ◌∙◌}
use Rattle.ckr_desk_turn.specs.Plans.{waiting_plan}
use Rattle.ckr_desk_memory.specs.View.{jobs_of}
use Rattle.ckr_desk_memory.proofs.Plans.{code-known}
use Rattle.ckr_desk_memory.proofs.jobs.Jobs.awaiting.Goals as goal

pub returns-in-None-clause-plan : goal.returns-in-None-clause-plan
unfolding jobs_of
returns-in-None-clause-plan c = λ row at on.
    let jobs = c.args.self.now in
    c.coded.ensures.plan
    ∙ code-known c.args.layout.now jobs c.args.job c.args.table.now c.requires.known c.args.seat.initiator c.args.seat.lodged c.args.code row at on c.requires.lodged
    ∙ ap (waiting_plan c.args.layout.now (jobs_of jobs) row c.args.code) (sym c.in-None.is)
