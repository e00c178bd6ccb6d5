use Rattle.ckr_desk_turn.proofs.Spelling.{started_spelled}
use Rattle.ckr_desk_turn.proofs.events.started_event.Goals as goal

pub returns-clause-spelled : goal.returns-clause-spelled
returns-clause-spelled c = started_spelled c.args.job c.args.step c.args.made c.ranges.job.fits c.requires.step c.ranges.step.fits c.requires.made
