use Rattle.std.proofs.Common.{refl, ap, sym, ◌∙◌, drop}
use Rattle.ckr_points.proofs.NeededNames.{needed-spliced}
use Rattle.ckr_points_tables.specs.RunJobs.{own_of}
use Rattle.ckr_points_deferred.specs.Runs.{row_now}
use Rattle.ckr_points_deferred.proofs.staleness.needed_at.Goals as goal

pub returns-clause-needed : goal.returns-clause-needed
returns-clause-needed c =
    needed-spliced _ (row_now c.args.earlier.now).job c.args.number (row_now c.args.run.now).deck (own_of c.args.own.now) c.requires.step (sym c.root.ensures) refl refl
    (sym (c.steps_behind.ensures ∙ ap (λ deck. drop c.args.number deck.steps) c.deck.ensures))
