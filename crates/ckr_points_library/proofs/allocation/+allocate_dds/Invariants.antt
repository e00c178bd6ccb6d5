use Rattle.std.proofs.Common.{length}
use Rattle.ckr_points_library.proofs.allocation.+allocate_dds.Given as goal

abbrev pub decreases-allocate_dds : goal.decreases-allocate_dds
decreases-allocate_dds l = length l.dds.now
