use Rattle.std.proofs.Common.{ap, sym, ◌∙◌, false}
use Rattle.std.specs.List.{list_any}
use Rattle.std.specs.Option.{is_some, option_map_or}
use Rattle.ckr_uses.specs.Uses.{collides, own_qualifier, uses_in_step, uses_of_dds}
use Rattle.ckr_library.specs.declared.uses.Use.{Use}
use Rattle.ckr_points_follows.proofs.Selects.Conflicts.{found-in_steps, found-in_syschk, holds-dds}
use Rattle.ckr_points_follows.proofs.deck_conflicts.hold_against.Goals as goal

pub returns-then-steps_collide : goal.returns-then-steps_collide
returns-then-steps_collide c =
    c.if-steps_collide.true
    ∙ found-in_steps c.args.run c.args.job.now (λ (one : Use). list_any (collides one) (uses_of_dds c.args.other c.args.other_job.now)) c.steps_collide.result
    (c.steps_collide.ensures ∙ ap (list_any (λ step. list_any (λ (one : Use). list_any (collides one) (uses_of_dds c.args.other c.args.other_job.now)) (uses_in_step (is_some c.args.job.now.restart) (own_qualifier c.args.run c.args.job.now) step))) c.as_slice.ensures)
    c.if-steps_collide.true
    ∙ sym (holds-dds c.args.run c.args.other c.args.job.now c.args.other_job.now)

pub returns-else-steps_collide : goal.returns-else-steps_collide
returns-else-steps_collide c =
    found-in_syschk c.args.run c.args.job.now (λ (one : Use). list_any (collides one) (uses_of_dds c.args.other c.args.other_job.now)) c.steps_collide.result c.any_collides.result
    (c.steps_collide.ensures ∙ ap (list_any (λ step. list_any (λ (one : Use). list_any (collides one) (uses_of_dds c.args.other c.args.other_job.now)) (uses_in_step (is_some c.args.job.now.restart) (own_qualifier c.args.run c.args.job.now) step))) c.as_slice.ensures)
    c.if-steps_collide.false
    (c.any_collides.ensures ∙ ap (λ last. option_map_or (λ (one : Use). list_any (collides one) (uses_of_dds c.args.other c.args.other_job.now)) last false) c.use_of_syschk.ensures)
    ∙ sym (holds-dds c.args.run c.args.other c.args.job.now c.args.other_job.now)
