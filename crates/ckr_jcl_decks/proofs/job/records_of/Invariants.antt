use Rattle.std.proofs.Common.{◌≡◌, take, map}
use Rattle.ckr_jcl_decks.specs.Deck.{bytes_of}
use Rattle.ckr_jcl_decks.proofs.job.records_of.Given as goal

abbrev pub invariant-loop-card : goal.invariant-loop-card
invariant-loop-card l = l.records ≡ map bytes_of (take l.card-index l.cards)
