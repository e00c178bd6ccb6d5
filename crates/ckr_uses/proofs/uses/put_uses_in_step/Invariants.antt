use Rattle.std.proofs.Common.{◌≡◌, ◌++◌, take}
use Rattle.std.specs.List.{filter_map}
use Rattle.ckr_uses.specs.Uses.{use_in}
use Rattle.ckr_uses.proofs.uses.put_uses_in_step.Given as goal

abbrev pub invariant-loop-dd : goal.invariant-loop-dd
invariant-loop-dd l = l.uses ≡ l.initial.uses ++ filter_map (use_in l.restart l.own l.step.name) (take l.dd-index l.dd-items)
