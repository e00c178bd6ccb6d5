use Rattle.std.proofs.Common.{length}
use Rattle.ckr_points_clearance.proofs.items.+are_named.Given as goal

abbrev pub decreases-are_named : goal.decreases-are_named
decreases-are_named l = length l.placed.now
