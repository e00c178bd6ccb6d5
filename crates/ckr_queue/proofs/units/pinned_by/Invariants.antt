use Rattle.std.proofs.Common.{◌≡◌, drop, fold, true}
use Rattle.std.specs.List.{slice_set}
use Rattle.ckr_queue.specs.Units.{is_volume_list, pinned_by}
use Rattle.ckr_queue.proofs.units.pinned_by.Given as goal

abbrev pub invariant-loop-volume : goal.invariant-loop-volume
invariant-loop-volume l = record {
  same : fold (λ pinned volume. slice_set pinned volume true) l.pinned (drop l.volume-index l.volumes) ≡ pinned_by l.volumes;
  list : is_volume_list (drop l.volume-index l.volumes) ≡ true;
}
