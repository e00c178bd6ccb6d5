use Rattle.std.proofs.Common.{◌≡◌, ◌+◌, ◌≤◌, ◌++◌, length, map, drop}
use Rattle.std.specs.List.{filter_map}
use Rattle.ckr_meaning.specs.EffectiveJob.{name_of}
use Rattle.ckr_points_runs.specs.RunJobs.{own_of}
use Rattle.ckr_points_runs.specs.MadeNames.{made_at}
use Rattle.ckr_points_runs.specs.View.{point_of}
use Rattle.ckr_points_runs.proofs.made_names.made_flags.Given as goal

abbrev pub invariant-loop-dd : goal.invariant-loop-dd
invariant-loop-dd l = record {
  flags :
      l.made.items ++ map (made_at (map point_of l.points) l.step) (filter_map (name_of l.root (own_of l.own)) (drop l.dd-index l.dd-items))
      ≡ map (made_at (map point_of l.points) l.step) (filter_map (name_of l.root (own_of l.own)) l.dd-items);
  few : length l.made.items + length (drop l.dd-index l.dd-items) ≤ 16;
}
