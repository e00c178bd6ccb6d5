use Rattle.std.proofs.Common.{◌≡◌, take, filter_map}
use Rattle.ckr_jcl_decks.specs.Deck.{step_of}
use Rattle.ckr_jcl_decks.proofs.job.steps_of.Given as goal

abbrev pub invariant-loop-step : goal.invariant-loop-step
invariant-loop-step l = l.made ≡ filter_map step_of (take l.step-index l.steps)
