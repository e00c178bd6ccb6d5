use Rattle.std.proofs.Common.{ap, sym, ◌∙◌}
use Rattle.std.specs.Option.{option_map, option_map_or}
use Rattle.ckr_points_follows.specs.Model.Wanted.{wanted_in}
use Rattle.ckr_points_tables.specs.Entries.{entry_in}
use Rattle.ckr_desk_turn.specs.declared.plan.Plan.TheVariants.{Rest}
use Rattle.ckr_points.specs.declared.reply.Reply.TheVariants.{Idle}
use Rattle.ckr_desk_turn.specs.Deferred.{continued_at_entry}
use Rattle.ckr_desk_plans.proofs.deferred.at_checkpoint.Goals as goal

pub returns-in-Some-clause-plan : goal.returns-in-Some-clause-plan
returns-in-Some-clause-plan c row same =
    c.at_entry.ensures.plan row same
    ∙ ap (λ found. option_map_or (continued_at_entry c.args.initiator row (wanted_in c.args.wanted.now)) (option_map entry_in found) (Rest Idle)) (sym c.in-Some.is)

pub returns-in-None-clause-plan : goal.returns-in-None-clause-plan
returns-in-None-clause-plan c row same =
    ap (λ found. option_map_or (continued_at_entry c.args.initiator row (wanted_in c.args.wanted.now)) (option_map entry_in found) (Rest Idle)) (sym c.in-None.is)
