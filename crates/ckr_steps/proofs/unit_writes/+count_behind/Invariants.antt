use Rattle.std.proofs.Common.{length}
use Rattle.ckr_steps.proofs.unit_writes.+count_behind.Given as goal

abbrev pub decreases-count_behind : goal.decreases-count_behind
decreases-count_behind l = length l.writes.now
