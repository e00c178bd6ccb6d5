use Rattle.std.proofs.Common.{◌≡◌, ◌++◌, take, flat_map}
use Rattle.ckr_uses.specs.Uses.{uses_in_step}
use Rattle.ckr_uses.proofs.uses.put_uses_in_steps.Given as goal

abbrev pub invariant-loop-step : goal.invariant-loop-step
invariant-loop-step l = l.uses ≡ l.initial.uses ++ flat_map (uses_in_step l.restart l.own) (take l.step-index l.steps)
