use Rattle.std.proofs.Common.{List, ◌∷◌, map, ap, ◌∙◌}
use Rattle.ckr_desk_memory.specs.Parts.{step_seen}
use Rattle.ckr_desk_memory.specs.View.{JobsView, RunningStepView}
use Rattle.ckr_desk_memory.proofs.Holders.OwnSteps.{own-put}
use Rattle.ckr_desk_memory.proofs.jobs.Jobs.put_step.Goals as goal

pub returns-clause-own : goal.returns-clause-own
returns-clause-own c =
    own-put c.args.self.now _ (ap (λ (j : JobsView). j.tables) c.self.view_is) (ap (λ (j : JobsView). j.points) c.self.view_is) (step_seen c.args.step)
    (ap (map step_seen) c.put_first.ensures.items ∙ ap (λ (others : List RunningStepView). step_seen c.args.step ∷ others) (ap (λ (j : JobsView). j.running) c.self.view_is))
