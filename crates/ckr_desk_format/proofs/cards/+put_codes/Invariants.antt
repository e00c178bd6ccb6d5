use Rattle.std.proofs.Common.{length}
use Rattle.ckr_desk_format.proofs.cards.+put_codes.Given as goal

abbrev pub decreases-put_codes : goal.decreases-put_codes
decreases-put_codes l = length l.text.now
