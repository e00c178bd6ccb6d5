use Rattle.std.proofs.Common.{◌≡◌, drop, true}
use Rattle.ckr_queue.specs.Units.{are_below_255, is_volume_list, with_more_uses}
use Rattle.ckr_queue.proofs.units.with_more.Given as goal

abbrev pub invariant-loop-volume : goal.invariant-loop-volume
invariant-loop-volume l = record {
  same : with_more_uses (drop l.volume-index l.volumes) l.uses ≡ with_more_uses l.volumes l.fn.uses;
  list : is_volume_list (drop l.volume-index l.volumes) ≡ true;
  room : are_below_255 l.uses (drop l.volume-index l.volumes) ≡ true;
}
