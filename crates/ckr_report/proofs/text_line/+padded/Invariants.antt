use Rattle.std.proofs.Common.{◌+◌}
use Rattle.ckr_report.proofs.text_line.+padded.Given as goal

abbrev pub decreases-padded : goal.decreases-padded
decreases-padded l = l.number + l.width
