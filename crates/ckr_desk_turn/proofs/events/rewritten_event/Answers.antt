use Rattle.ckr_desk_turn.proofs.Spelling.{rewritten_spelled}
use Rattle.ckr_desk_turn.proofs.events.rewritten_event.Goals as goal

pub returns-clause-spelled : goal.returns-clause-spelled
returns-clause-spelled c =
    rewritten_spelled c.args.job c.args.taken c.args.writes c.args.place c.args.lengths c.args.image c.ranges.job.fits c.ranges.taken.fits c.ranges.writes.fits
    c.ranges.place.fits c.requires.lengths c.requires.image
