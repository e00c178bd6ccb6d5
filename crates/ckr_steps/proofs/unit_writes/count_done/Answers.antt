use Rattle.ckr_steps.proofs.UnitWrites.{done_count}
use Rattle.ckr_steps.proofs.unit_writes.count_done.Goals as goal

pub returns : goal.returns
returns c =
    done_count c.args.library.now c.args.files.now c.args.writes.now c.args.rewrites c.requires.rewrites c.if-rewrites.false c.count_fitting.result c.room_at.result c.room_at-2.result
    c.room_at.ensures c.room_at-2.ensures c.count_fitting.ensures.count
