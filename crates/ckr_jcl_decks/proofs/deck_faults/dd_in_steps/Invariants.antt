use Rattle.std.proofs.Common.{◌≡◌, drop}
use Rattle.ckr_jcl_faults.specs.DdFaults.{breaks}
use Rattle.ckr_jcl_decks.specs.DeckFaults.{dd_in_steps}
use Rattle.ckr_jcl_decks.proofs.deck_faults.dd_in_steps.Given as goal

abbrev pub invariant-loop-step : goal.invariant-loop-step
invariant-loop-step l = dd_in_steps (breaks l.rule) l.steps ≡ dd_in_steps (breaks l.rule) (drop l.step-index l.steps)
