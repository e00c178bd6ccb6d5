use Rattle.std.proofs.Common.{◌≡◌, [], take, drop}
use Rattle.ckr_jcl_decks.specs.DeckFaults.{repeated_in}
use Rattle.ckr_jcl_decks.proofs.repeated_names.repeated_in_few.Given as goal

abbrev pub invariant-loop-step : goal.invariant-loop-step
invariant-loop-step l = (l.count ≡ l.step-index) × (repeated_in [] l.steps ≡ repeated_in (take l.step-index l.steps) (drop l.step-index l.steps))
