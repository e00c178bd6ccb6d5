use Rattle.std.proofs.Common.{ap, find, subst, sym, ◌∙◌}
use Rattle.std.specs.List.{AllByRecursion}
use Rattle.ckr_desk_memory.specs.EventChanges.{is_of_run, without_first}
use Rattle.ckr_desk_memory.specs.OwnSteps.{IsOfOther}
use Rattle.ckr_desk_memory.specs.View.{JobsView}
use Rattle.ckr_desk_memory.proofs.Holders.OwnSteps.{others-first, own-without, step-own}
use Rattle.ckr_desk_memory.proofs.RunningSteps.First.{jobs-without, step-runnable}
use Rattle.ckr_desk_memory.proofs.jobs.Jobs.take_step.Goals as goal

pub returns-clause-jobs : goal.returns-clause-jobs
returns-clause-jobs c = λ layout are.
    jobs-without layout c.args.run c.args.self.now _ (ap (λ (j : JobsView). j.tables) c.self.view_is)
    (c.take_first.ensures.others ∙ ap (λ (j : JobsView). without_first c.args.run j.running) c.self.view_is) are

pub returns-clause-runnable : goal.returns-clause-runnable
returns-clause-runnable c = λ layout are.
    step-runnable layout c.args.run c.args.self.now c.take_first.result are
    (c.take_first.ensures.step ∙ ap (λ (j : JobsView). find (is_of_run c.args.run) j.running) c.self.view_is)

pub returns-clause-own : goal.returns-clause-own
returns-clause-own c =
    own-without c.args.self.now _ (ap (λ (j : JobsView). j.tables) c.self.view_is) (ap (λ (j : JobsView). j.points) c.self.view_is) c.args.run
    (c.take_first.ensures.others ∙ ap (λ (j : JobsView). without_first c.args.run j.running) c.self.view_is)

pub returns-clause-own_step : goal.returns-clause-own_step
returns-clause-own_step c = λ own.
    step-own c.args.run c.args.self.now c.take_first.result own
    (c.take_first.ensures.step ∙ ap (λ (j : JobsView). find (is_of_run c.args.run) j.running) c.self.view_is)

pub returns-clause-others : goal.returns-clause-others
returns-clause-others c = λ own.
    subst (AllByRecursion (IsOfOther c.args.run))
    (sym (c.take_first.ensures.others ∙ ap (λ (j : JobsView). without_first c.args.run j.running) c.self.view_is))
    (others-first c.args.run c.args.self.now.running own.single)
