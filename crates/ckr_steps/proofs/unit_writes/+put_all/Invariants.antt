use Rattle.std.proofs.Common.{length}
use Rattle.ckr_steps.proofs.unit_writes.+put_all.Given as goal

abbrev pub decreases-put_all : goal.decreases-put_all
decreases-put_all g l = length l.writes.now
