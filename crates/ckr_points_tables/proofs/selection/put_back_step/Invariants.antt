use Rattle.std.proofs.Common.{◌≡◌, drop}
use Rattle.std.specs.List.{filter_map}
use Rattle.std.specs.Option.{option_copied, option_map}
use Rattle.ckr_meaning.specs.EffectiveJob.{name_of}
use Rattle.ckr_points.specs.Restart.{without_names}
use Rattle.ckr_points_runs.specs.RunJobs.{own_of}
use Rattle.ckr_points_runs.specs.PutBack.{catalogs_back}
use Rattle.ckr_points_tables.specs.Selection.{printed_names}
use Rattle.ckr_points_tables.proofs.selection.put_back_step.Given as goal

abbrev pub invariant-loop-dd : goal.invariant-loop-dd
invariant-loop-dd l =
    catalogs_back l.marks (without_names (printed_names l.root (option_map own_of (option_copied l.printing))) (filter_map (name_of l.root (own_of l.own)) (drop l.dd-index l.dd-items))) l.library.sets
    ≡ catalogs_back l.marks (without_names (printed_names l.root (option_map own_of (option_copied l.printing))) (filter_map (name_of l.root (own_of l.own)) l.dd-items)) l.initial.library.sets
