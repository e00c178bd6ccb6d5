use Rattle.std.proofs.Common.{length}
use Rattle.ckr_desk_entries.proofs.kept_point.+same_passed.Given as goal

abbrev pub decreases-same_passed : goal.decreases-same_passed
decreases-same_passed l = length l.some.now
