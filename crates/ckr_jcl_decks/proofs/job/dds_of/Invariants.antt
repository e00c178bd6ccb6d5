use Rattle.std.proofs.Common.{◌≡◌, take, map}
use Rattle.ckr_jcl_decks.specs.Deck.{dd_of}
use Rattle.ckr_jcl_decks.proofs.job.dds_of.Given as goal

abbrev pub invariant-loop-dd : goal.invariant-loop-dd
invariant-loop-dd l = l.made ≡ map dd_of (take l.dd-index l.dds)
