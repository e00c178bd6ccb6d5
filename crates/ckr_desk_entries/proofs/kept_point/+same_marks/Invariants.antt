use Rattle.std.proofs.Common.{length}
use Rattle.ckr_desk_entries.proofs.kept_point.+same_marks.Given as goal

abbrev pub decreases-same_marks : goal.decreases-same_marks
decreases-same_marks l = length l.some.now
