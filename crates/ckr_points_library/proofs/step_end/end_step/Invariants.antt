use Rattle.std.proofs.Common.{◌≡◌, ◌≤◌, ◌+◌, [], drop, length}
use Rattle.std.specs.List.{filter_map}
use Rattle.ckr_meaning.specs.Dispositions.{disposed_all}
use Rattle.ckr_meaning.specs.EffectiveJob.{name_of}
use Rattle.ckr_points_library.specs.Disposals.{disposals_by, with_names}
use Rattle.ckr_points_library.specs.Holdings.{holding_ways, owned, standing}
use Rattle.ckr_points_library.proofs.step_end.end_step.Given as goal

abbrev pub invariant-loop-dd : goal.invariant-loop-dd
invariant-loop-dd l = record {
  both :
      disposed_all holding_ways (disposals_by l.abnormal (with_names l.root (owned l.step l.owner []) (drop l.dd-index l.dd-items)) (drop l.place l.made) (drop l.place l.earlier)) (standing l.library.sets l.passed.items)
      ≡ disposed_all holding_ways (disposals_by l.abnormal (with_names l.root (owned l.step l.owner []) l.dd-items) l.made l.earlier) (standing l.initial.library.sets l.initial.passed.items);
  made : l.place + length (filter_map (name_of l.root (owned l.step l.owner [])) (drop l.dd-index l.dd-items)) ≡ length l.made;
  earlier : length l.earlier ≡ length l.made;
  spare : length (filter_map (name_of l.root (owned l.step l.owner [])) (drop l.dd-index l.dd-items)) ≤ l.passed.room;
  room : l.initial.library.room ≤ l.library.room;
}
