use Rattle.std.proofs.Common.{length}
use Rattle.ckr_steps.proofs.unit_ahead.+gained.Given as goal

abbrev pub decreases-gained : goal.decreases-gained
decreases-gained l = length l.writes.now
