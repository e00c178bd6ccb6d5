use Rattle.std.proofs.Common.{◌≡◌, ◌+◌, ◌≤◌, ◌++◌, length, map, drop, pred, take}
use Rattle.std.specs.List.{filter_map}
use Rattle.ckr_meaning.specs.EffectiveJob.{name_of}
use Rattle.ckr_points_runs.specs.RunJobs.{effective, own_of}
use Rattle.ckr_points_runs.specs.MadeNames.{made_in, points_in}
use Rattle.ckr_points_runs.proofs.made_names.earlier_flags.Given as goal

abbrev pub invariant-loop-dd : goal.invariant-loop-dd
invariant-loop-dd l = record {
  flags :
      l.made.items ++ map (made_in (points_in l.tables) l.job.root 1 (take (pred l.step) (effective l.run l.job).steps)) (filter_map (name_of l.job.root (own_of l.own)) (drop l.dd-index l.dd-items))
      ≡ map (made_in (points_in l.tables) l.job.root 1 (take (pred l.step) (effective l.run l.job).steps)) (filter_map (name_of l.job.root (own_of l.own)) l.dd-items);
  few : length l.made.items + length (drop l.dd-index l.dd-items) ≤ 16;
}
