use Rattle.std.proofs.Common.{length}
use Rattle.ckr_steps.proofs.unit_writes.+count_fitting.Given as goal

abbrev pub decreases-count_fitting : goal.decreases-count_fitting
decreases-count_fitting l = length l.writes.now
