use Rattle.std.proofs.Common.{length}
use Rattle.ckr_words.proofs.summary.+positional_words.Given as goal

abbrev pub decreases-positional_words : goal.decreases-positional_words
decreases-positional_words l = length l.words.now
