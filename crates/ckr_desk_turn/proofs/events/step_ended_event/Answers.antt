use Rattle.ckr_desk_turn.proofs.Spelling.{step_ended_spelled}
use Rattle.ckr_desk_turn.proofs.events.step_ended_event.Goals as goal

pub returns-clause-spelled : goal.returns-clause-spelled
returns-clause-spelled c =
    step_ended_spelled c.args.job c.args.step c.args.rc c.args.writes c.args.lengths c.ranges.job.fits c.requires.step c.ranges.step.fits c.ranges.rc.fits
    c.ranges.writes.fits c.requires.lengths
