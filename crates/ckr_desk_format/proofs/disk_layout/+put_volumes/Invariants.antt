use Rattle.std.proofs.Common.{length}
use Rattle.ckr_desk_format.proofs.disk_layout.+put_volumes.Given as goal

abbrev pub decreases-put_volumes : goal.decreases-put_volumes
decreases-put_volumes l = length l.volumes.now
