use Rattle.std.proofs.Common.{length}
use Rattle.ckr_points_library.proofs.volume_room.+are_on_volumes.Given as goal

abbrev pub decreases-are_on_volumes : goal.decreases-are_on_volumes
decreases-are_on_volumes l = length l.serials.now
