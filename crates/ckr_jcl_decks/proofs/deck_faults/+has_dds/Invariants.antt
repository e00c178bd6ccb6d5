use Rattle.std.proofs.Common.{length}
use Rattle.ckr_jcl_decks.proofs.deck_faults.+has_dds.Given as goal

abbrev pub decreases-has_dds : goal.decreases-has_dds
decreases-has_dds l = length l.table.now
