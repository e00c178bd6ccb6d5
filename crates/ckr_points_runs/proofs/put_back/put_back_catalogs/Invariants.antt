use Rattle.std.proofs.Common.{◌≡◌, drop}
use Rattle.std.specs.List.{filter_map}
use Rattle.ckr_meaning.specs.EffectiveJob.{name_of}
use Rattle.ckr_points_runs.specs.RunJobs.{own_of}
use Rattle.ckr_points_runs.specs.PutBack.{catalogs_back}
use Rattle.ckr_points_runs.proofs.put_back.put_back_catalogs.Given as goal

abbrev pub invariant-loop-dd : goal.invariant-loop-dd
invariant-loop-dd l =
    catalogs_back l.marks (filter_map (name_of l.root (own_of l.own)) (drop l.dd-index l.dd-items)) l.library.sets
    ≡ catalogs_back l.marks (filter_map (name_of l.root (own_of l.own)) l.dd-items) l.initial.library.sets
