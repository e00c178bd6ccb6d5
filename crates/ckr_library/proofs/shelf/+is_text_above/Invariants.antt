use Rattle.std.proofs.Common.{length}
use Rattle.ckr_library.proofs.shelf.+is_text_above.Given as goal

abbrev pub decreases-is_text_above : goal.decreases-is_text_above
decreases-is_text_above l = length l.one.now
