use Rattle.std.proofs.Common.{◌≡◌, ◌<◌, ◌-◌, drop}
use Rattle.ckr_meaning.specs.EffectiveJob.{is_among, names_of_steps}
use Rattle.ckr_points_tables.specs.RunJobs.{effective}
use Rattle.ckr_desk_plans.specs.EntryMarks.{own_names_behind}
use Rattle.ckr_desk_plans.proofs.entry_marks.is_own_name.Given as goal

abbrev pub invariant-loop-step : goal.invariant-loop-step
invariant-loop-step l = record {
  first : 0 < l.step;
  same :
      is_among (names_of_steps l.behind.table.now.job.root (drop (l.step - 1) (effective l.behind.on.now.run l.behind.table.now.job).steps)) l.name
      ≡ is_among (own_names_behind l.behind) l.name;
}
