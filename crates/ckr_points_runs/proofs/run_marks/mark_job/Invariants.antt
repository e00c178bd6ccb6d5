use Rattle.std.proofs.Common.{◌≡◌, ◌+◌, ◌≤◌, [], length, drop}
use Rattle.ckr_meaning.specs.EffectiveJob.{names_of_steps}
use Rattle.ckr_points_runs.specs.MarkOrder.{marked, marked_onto}
use Rattle.ckr_points_runs.specs.RunJobs.{effective}
use Rattle.ckr_points_runs.specs.RunMarks.{marking_mark}
use Rattle.ckr_points_runs.proofs.run_marks.mark_job.Given as goal

abbrev pub invariant-loop-left : goal.invariant-loop-left
invariant-loop-left l = record {
  within : l.left ≤ length (effective l.marking.run l.marking.job.now).steps;
  items :
      marked l.marks.items
      ≡ marked_onto (marking_mark l.marking) (names_of_steps l.marking.job.now.root (drop l.left (effective l.marking.run l.marking.job.now).steps)) [];
  room : l.initial.marks.room ≤ l.marks.room + length (names_of_steps l.marking.job.now.root (drop l.left (effective l.marking.run l.marking.job.now).steps));
}

abbrev pub decreases-loop-left : goal.decreases-loop-left
decreases-loop-left l = l.left
