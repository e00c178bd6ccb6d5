use Rattle.std.proofs.Common.{◌≡◌, ℕ, List, [], take, drop}
use Rattle.std.specs.List.{list_any}
use Rattle.ckr_jcl_decks.specs.DeckFaults.{has_step_name, repeated_in}
use Rattle.ckr_jcl_decks.specs.MetNames.{was_met}
use Rattle.ckr_jcl_decks.proofs.repeated_names.repeated_in_many.Given as goal

abbrev pub invariant-loop-step : goal.invariant-loop-step
invariant-loop-step l = record {
  names : (name : List ℕ) → was_met l.names name ≡ list_any (has_step_name name) (take l.step-index l.steps);
  rest : repeated_in [] l.steps ≡ repeated_in (take l.step-index l.steps) (drop l.step-index l.steps);
}
