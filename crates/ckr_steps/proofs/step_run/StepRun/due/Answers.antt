use Rattle.std.proofs.Common.{sym, subst}
use Rattle.ckr_steps.specs.Places.{DueAt}
use Rattle.ckr_steps.proofs.Start.{due_at}
use Rattle.ckr_steps.proofs.step_run.StepRun.due.Goals as goal

pub returns-clause-at : goal.returns-clause-at
returns-clause-at c start taken closed library stands =
    subst (DueAt start closed) (sym c.due.ensures) (due_at start taken closed c.args.self.now library stands)
