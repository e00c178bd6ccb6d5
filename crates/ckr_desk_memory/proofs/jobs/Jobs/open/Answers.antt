use Rattle.std.proofs.Common.{ap, subst, ◌∙◌}
use Rattle.ckr_desk_memory.specs.EventChanges.{failed_in}
use Rattle.ckr_desk_memory.specs.View.{JobsView}
use Rattle.ckr_desk_turn.specs.Queue.{AreNumbered}
use Rattle.ckr_desk_memory.proofs.Holders.LeftRuns.{left-opened}
use Rattle.ckr_desk_memory.proofs.jobs.Jobs.open.Goals as goal

pub returns-clause-left : goal.returns-clause-left
returns-clause-left c = λ layout are.
    left-opened layout c.args.self.now _ _ (subst (λ (j : JobsView). AreNumbered 1 j.tables.desk.runs) c.self.view_is c.self.invariant.queued.numbered) are
    (ap (λ (j : JobsView). j.tables.desk) c.self.view_is)
    (c.in_ok-failed.ensures ∙ ap (λ (j : JobsView). failed_in j.tables.desk) c.self.view_is)
