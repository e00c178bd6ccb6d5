use Rattle.std.proofs.Common.{◌≡◌, ◌≤◌, [], IsTrue, drop}
use Rattle.ckr_meaning.specs.EffectiveJob.{names_of_steps}
use Rattle.ckr_points_tables.specs.MarkOrder.{are_in_order, marked, marked_onto}
use Rattle.ckr_points_tables.specs.RunJobs.{effective}
use Rattle.ckr_desk_plans.specs.EntryMarks.{mark_behind}
use Rattle.ckr_desk_plans.proofs.entry_marks.mark_job.Given as goal

abbrev pub invariant-loop-left : goal.invariant-loop-left
invariant-loop-left l = record {
  within : l.left ≤ 64;
  items :
      marked l.items.items
      ≡ marked_onto (mark_behind l.behind) (names_of_steps l.behind.table.now.job.root (drop l.left (effective l.behind.on.now.run l.behind.table.now.job).steps)) [];
  order : IsTrue (are_in_order l.items.items);
}

abbrev pub decreases-loop-left : goal.decreases-loop-left
decreases-loop-left l = l.left
