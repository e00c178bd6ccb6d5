use Rattle.ckr_desk_turn.proofs.Spelling.{checkpointed_spelled}
use Rattle.ckr_desk_turn.proofs.events.checkpointed_event.Goals as goal

pub returns-clause-spelled : goal.returns-clause-spelled
returns-clause-spelled c =
    checkpointed_spelled c.args.job c.args.taken c.args.writes c.args.place c.args.bytes c.args.id c.args.lengths c.ranges.job.fits c.ranges.taken.fits
    c.ranges.writes.fits c.ranges.place.fits c.ranges.bytes.fits c.text-grammar.ensures.grammar c.requires.lengths
