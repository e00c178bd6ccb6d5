use Rattle.std.proofs.Common.{ap, None}
use Rattle.ckr_desk_turn.specs.declared.plan.Plan.TheVariants.{Pass}
use Rattle.ckr_points.specs.declared.reply.Chkpt.TheVariants.{Suppressed}
use Rattle.ckr_points.specs.declared.reply.Reply.TheVariants.{Checkpointed}
use Rattle.ckr_desk_plans.proofs.due.suppressed.Goals as goal

pub returns-clause-plan : goal.returns-clause-plan
returns-clause-plan c = ap (λ name. Pass c.args.run (Checkpointed c.args.run name Suppressed None)) c.name_within.ensures
