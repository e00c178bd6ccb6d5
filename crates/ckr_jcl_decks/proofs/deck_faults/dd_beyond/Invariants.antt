use Rattle.std.proofs.Common.{◌≡◌, drop}
use Rattle.ckr_jcl_decks.specs.DeckFaults.{dd_beyond}
use Rattle.ckr_jcl_decks.proofs.deck_faults.dd_beyond.Given as goal

abbrev pub invariant-loop-step : goal.invariant-loop-step
invariant-loop-step l = dd_beyond l.steps ≡ dd_beyond (drop l.step-index l.steps)
