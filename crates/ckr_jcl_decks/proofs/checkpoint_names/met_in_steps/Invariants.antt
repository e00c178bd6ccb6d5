use Rattle.std.proofs.Common.{◌≡◌, drop}
use Rattle.ckr_jcl_decks.specs.DeckFaults.{dd_in_steps}
use Rattle.ckr_jcl_decks.specs.MetNames.{is_met_dd}
use Rattle.ckr_jcl_decks.proofs.checkpoint_names.met_in_steps.Given as goal

abbrev pub invariant-loop-step : goal.invariant-loop-step
invariant-loop-step l = dd_in_steps (is_met_dd l.permanent l.passing) l.steps ≡ dd_in_steps (is_met_dd l.permanent l.passing) (drop l.step-index l.steps)
