use Rattle.std.proofs.Common.{ap, ◌∙◌}
use Rattle.ckr_desk_memory.specs.EventChanges.{served_in}
use Rattle.ckr_desk_memory.specs.View.{JobsView}
use Rattle.ckr_desk_memory.proofs.Holders.OwnSteps.{own-served}
use Rattle.ckr_desk_memory.proofs.RunningSteps.Served.{jobs-served}
use Rattle.ckr_desk_memory.proofs.jobs.Jobs.pass.Goals as goal

pub returns-clause-jobs : goal.returns-clause-jobs
returns-clause-jobs c = λ layout are.
    jobs-served layout c.args.run c.args.self.now _ (ap (λ (j : JobsView). j.tables) c.self.view_is)
    (c.serve.ensures ∙ ap (λ (j : JobsView). served_in c.args.run j.running) c.self.view_is) are

pub returns-clause-own : goal.returns-clause-own
returns-clause-own c =
    own-served c.args.self.now _ (ap (λ (j : JobsView). j.tables) c.self.view_is) (ap (λ (j : JobsView). j.points) c.self.view_is) c.args.run
    (c.serve.ensures ∙ ap (λ (j : JobsView). served_in c.args.run j.running) c.self.view_is)
