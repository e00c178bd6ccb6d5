use Rattle.std.proofs.Common.{◌≡◌, ◌+◌, ◌≤◌, length, drop}
use Rattle.std.specs.List.{filter_map}
use Rattle.ckr_meaning.specs.EffectiveJob.{name_of}
use Rattle.ckr_points_runs.specs.RunJobs.{own_of}
use Rattle.ckr_points_runs.specs.RunMarks.{marking_mark}
use Rattle.ckr_points_runs.specs.MarkOrder.{marked, marked_onto}
use Rattle.ckr_points_runs.proofs.run_marks.mark_step.Given as goal

abbrev pub invariant-loop-left : goal.invariant-loop-left
invariant-loop-left l = record {
  within : l.left ≤ length l.dds;
  items :
      marked l.marks.items
      ≡ marked_onto (marking_mark l.marking) (filter_map (name_of l.marking.job.now.root (own_of l.step)) (drop l.left l.dds)) (marked l.initial.marks.items);
  room : l.initial.marks.room ≤ l.marks.room + length (filter_map (name_of l.marking.job.now.root (own_of l.step)) (drop l.left l.dds));
}

abbrev pub decreases-loop-left : goal.decreases-loop-left
decreases-loop-left l = l.left
