use Rattle.std.proofs.Common.{◌≡◌, ◌≤◌, IsTrue, length, drop}
use Rattle.std.specs.List.{filter_map}
use Rattle.ckr_points_tables.specs.RunJobs.{own_of}
use Rattle.ckr_meaning.specs.EffectiveJob.{name_of}
use Rattle.ckr_points_tables.specs.MarkOrder.{are_in_order, marked, marked_onto}
use Rattle.ckr_desk_plans.specs.EntryMarks.{mark_behind}
use Rattle.ckr_desk_plans.proofs.entry_marks.mark_step.Given as goal

abbrev pub invariant-loop-left : goal.invariant-loop-left
invariant-loop-left l = record {
  within : l.left ≤ length l.dds;
  items :
      marked l.items.items
      ≡ marked_onto (mark_behind l.behind) (filter_map (name_of l.root (own_of l.own)) (drop l.left l.dds)) (marked l.initial.items.items);
  order : IsTrue (are_in_order l.items.items);
}

abbrev pub decreases-loop-left : goal.decreases-loop-left
decreases-loop-left l = l.left
