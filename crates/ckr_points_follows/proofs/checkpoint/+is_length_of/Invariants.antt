use Rattle.std.proofs.Common.{length}
use Rattle.ckr_points_follows.proofs.checkpoint.+is_length_of.Given as goal

abbrev pub decreases-is_length_of : goal.decreases-is_length_of
decreases-is_length_of l = length l.dds.now
