-- What it makes of a run that its hold ends.
use Rattle.ckr_points.specs.declared.run.Run.{Run}
use Rattle.ckr_points.specs.declared.run.RunState.TheVariants.{Released as ReleasedRun}

-- the line of a run that waits for an initiator to go on
abbrev pub released_line : Run → Run
released_line line = record line { state = ReleasedRun }
