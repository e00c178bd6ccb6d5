use Rattle.std.proofs.Common.{◌≡◌, drop, true}
use Rattle.ckr_queue.specs.Units.{are_used, is_volume_list, with_fewer_uses}
use Rattle.ckr_queue.proofs.units.with_fewer.Given as goal

abbrev pub invariant-loop-volume : goal.invariant-loop-volume
invariant-loop-volume l = record {
  same : with_fewer_uses (drop l.volume-index l.volumes) l.uses ≡ with_fewer_uses l.volumes l.fn.uses;
  list : is_volume_list (drop l.volume-index l.volumes) ≡ true;
  used : are_used l.uses (drop l.volume-index l.volumes) ≡ true;
}
