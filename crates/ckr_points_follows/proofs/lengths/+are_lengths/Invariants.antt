use Rattle.std.proofs.Common.{length}
use Rattle.ckr_points_follows.proofs.lengths.+are_lengths.Given as goal

abbrev pub decreases-are_lengths : goal.decreases-are_lengths
decreases-are_lengths l = length l.dds.now
