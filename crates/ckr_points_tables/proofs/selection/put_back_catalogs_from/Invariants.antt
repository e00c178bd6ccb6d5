use Rattle.std.proofs.Common.{◌≡◌, drop}
use Rattle.std.specs.Option.{option_copied, option_map}
use Rattle.ckr_meaning.specs.EffectiveJob.{names_of_steps}
use Rattle.ckr_points.specs.Restart.{without_names}
use Rattle.ckr_points_runs.specs.RunJobs.{effective, own_of}
use Rattle.ckr_points_runs.specs.PutBack.{catalogs_back}
use Rattle.ckr_points_runs.specs.RunMarks.{names_from}
use Rattle.ckr_points_tables.specs.Selection.{printed_names}
use Rattle.ckr_points_tables.proofs.selection.put_back_catalogs_from.Given as goal

abbrev pub invariant-loop-place : goal.invariant-loop-place
invariant-loop-place l =
    catalogs_back l.marks (without_names (printed_names l.job.root (option_map own_of (option_copied l.printing))) (names_of_steps l.job.root (drop l.place (effective l.run l.job).steps))) l.library.sets
    ≡ catalogs_back l.marks (without_names (printed_names l.job.root (option_map own_of (option_copied l.printing))) (names_from l.first l.run l.job)) l.initial.library.sets
