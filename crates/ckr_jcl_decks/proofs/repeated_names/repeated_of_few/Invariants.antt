use Rattle.std.proofs.Common.{◌≡◌, [], take, drop}
use Rattle.ckr_jcl_decks.specs.DeckFaults.{repeated_dd}
use Rattle.ckr_jcl_decks.proofs.repeated_names.repeated_of_few.Given as goal

abbrev pub invariant-loop-dd : goal.invariant-loop-dd
invariant-loop-dd l = (l.count ≡ l.dd-index) × (repeated_dd [] l.dds ≡ repeated_dd (take l.dd-index l.dds) (drop l.dd-index l.dds))
