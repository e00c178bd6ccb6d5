use Rattle.std.proofs.Common.{arith, subst, sym}
use Rattle.ckr_points_tables.specs.Invariant.{HasRoom}
use Rattle.ckr_desk_memory.specs.Preparation.{HasQueueRoom}
use Rattle.ckr_desk_memory.specs.View.{JobsView}
use Rattle.ckr_desk_memory.proofs.Starts.Steps.{prepared-start}
use Rattle.ckr_desk_memory.proofs.jobs.Jobs.prepare.Goals as goal

pub returns-in_ok-step-in-Started-clause-ok : goal.returns-in_ok-step-in-Started-clause-ok
returns-in_ok-step-in-Started-clause-ok c =
    let tables = subst (λ (j : JobsView). HasRoom j.tables c.args.event.now) (sym c.self.view_is) c.in_ok-uses.ensures.tables in
    let queue = subst (λ (j : JobsView). HasQueueRoom c.args.event.now j.queue_room) (sym c.self.view_is) c.in_ok-uses.ensures.queue in
    prepared-start _ c.args.event.now _ c.in-Started.job c.in-Started.step c.in-Started.made c.in_ok-uses.uses c.in_ok-step-in-Started.step c.in-Started.is
    tables queue c.in_ok-uses.ensures.uses (omega (arith, c.in_ok-reserve-in-Started.ensures.ok)) c.in_ok-step-in-Started.ensures.empty c.in_ok-step-in-Started.ensures.step
