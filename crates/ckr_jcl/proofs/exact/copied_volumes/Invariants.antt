use Rattle.std.proofs.Common.{◌≡◌, take}
use Rattle.ckr_jcl.proofs.exact.copied_volumes.Given as goal

abbrev pub invariant-loop-volume : goal.invariant-loop-volume
invariant-loop-volume l = l.copy.items ≡ take l.volume-index l.volume-items
