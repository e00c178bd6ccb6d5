use Rattle.std.proofs.Common.{length}
use Rattle.ckr_words.proofs.summary.+summed.Given as goal

abbrev pub decreases-summed : goal.decreases-summed
decreases-summed l = length l.words.now
