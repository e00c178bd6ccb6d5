use Rattle.std.proofs.Common.{◌==◌, ◌&&◌, not, ap, sym, ◌∙◌}
use Rattle.ckr_base.proofs.Numbers.{equal-from}
use Rattle.ckr_points_follows.proofs.Checkpoints.{free-none, free-there}
use Rattle.ckr_points_follows.proofs.checkpoint.is_free_at.Goals as goal

pub returns-then-place-set : goal.returns-then-place-set
returns-then-place-set c =
    let set = c.in-Some.set.now in
    sym (ap (λ b. b && not c.has_id.result) (equal-from c.args.place set.length c.if-place-set.true))
    ∙ ap (λ b. c.args.place == set.length && not b) c.has_id.ensures
    ∙ free-there c.args.tables.now.desk.sets c.args.name.now c.args.id.now c.args.place set c.in-Some.ensures c.library.result.now c.library.ensures.sets c.entries.result.now c.entries.ensures

pub returns-in-None : goal.returns-in-None
returns-in-None c = free-none c.args.tables.now.desk.sets c.args.name.now c.args.id.now c.args.place c.in-None.ensures
