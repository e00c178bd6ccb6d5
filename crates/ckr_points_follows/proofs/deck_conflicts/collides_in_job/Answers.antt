use Rattle.std.proofs.Common.{ap, ◌∙◌, false}
use Rattle.std.specs.List.{list_any}
use Rattle.std.specs.Option.{is_some, option_map_or}
use Rattle.ckr_uses.specs.Uses.{collides, own_qualifier, uses_in_step}
use Rattle.ckr_points_follows.proofs.Selects.Conflicts.{found-in_steps, found-in_syschk}
use Rattle.ckr_points_follows.proofs.deck_conflicts.collides_in_job.Goals as goal

pub returns-then-collides_in_steps : goal.returns-then-collides_in_steps
returns-then-collides_in_steps c =
    let test = collides c.args.used.now in
    c.if-collides_in_steps.true
    ∙ found-in_steps c.args.run c.args.job.now test c.collides_in_steps.result
    (c.collides_in_steps.ensures ∙ ap (list_any (λ step. list_any test (uses_in_step (is_some c.args.job.now.restart) (own_qualifier c.args.run c.args.job.now) step))) c.as_slice.ensures)
    c.if-collides_in_steps.true

pub returns-else-collides_in_steps : goal.returns-else-collides_in_steps
returns-else-collides_in_steps c =
    let test = collides c.args.used.now in
    found-in_syschk c.args.run c.args.job.now test c.collides_in_steps.result c.collides_with.result
    (c.collides_in_steps.ensures ∙ ap (list_any (λ step. list_any test (uses_in_step (is_some c.args.job.now.restart) (own_qualifier c.args.run c.args.job.now) step))) c.as_slice.ensures)
    c.if-collides_in_steps.false
    (c.collides_with.ensures ∙ ap (λ last. option_map_or test last false) c.use_of_syschk.ensures)
