use Rattle.std.proofs.Common.{ap, sym, ◌∙◌, false}
use Rattle.std.specs.List.{list_any}
use Rattle.std.specs.Option.{is_some, option_map_or}
use Rattle.ckr_base.proofs.Sequences.{any-filter_map}
use Rattle.ckr_uses.specs.Uses.{collides, own_qualifier, use_in}
use Rattle.ckr_points_follows.proofs.deck_conflicts.collides_in_step.Goals as goal

pub returns : goal.returns
returns c =
    let use_of = use_in (is_some c.args.job.now.restart) (own_qualifier c.args.run c.args.job.now) c.args.step.now.name in
    c.collides_with_dds.ensures
    ∙ ap (list_any (λ dd. option_map_or (collides c.args.used.now) (use_of dd) false)) c.as_slice.ensures
    ∙ sym (any-filter_map use_of (collides c.args.used.now) c.args.step.now.dds)
