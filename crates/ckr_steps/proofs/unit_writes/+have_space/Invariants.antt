use Rattle.std.proofs.Common.{length}
use Rattle.ckr_steps.proofs.unit_writes.+have_space.Given as goal

abbrev pub decreases-have_space : goal.decreases-have_space
decreases-have_space l = length l.writes.now
