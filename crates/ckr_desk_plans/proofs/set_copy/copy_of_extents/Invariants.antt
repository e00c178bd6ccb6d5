use Rattle.std.proofs.Common.{◌≡◌, take}
use Rattle.ckr_desk_plans.proofs.set_copy.copy_of_extents.Given as goal

abbrev pub invariant-loop-extent : goal.invariant-loop-extent
invariant-loop-extent l = l.copy.items ≡ take l.extent-index l.extents
