use Rattle.std.proofs.Common.{◌≡◌, ◌≤◌, length, drop}
use Rattle.ckr_points_tables.specs.RunJobs.{own_of}
use Rattle.ckr_meaning.specs.EffectiveJob.{name_of}
use Rattle.ckr_desk_memory.specs.Start.{with_all_taken}
use Rattle.ckr_desk_memory.proofs.start.take_sets.Given as goal

abbrev pub invariant-loop-dd : goal.invariant-loop-dd
invariant-loop-dd l = record {
  sets :
      with_all_taken (name_of l.root (own_of l.own)) l.from.sets (drop l.dd-index l.dd-items) l.sets.sets
      ≡ with_all_taken (name_of l.root (own_of l.own)) l.from.sets l.dd-items l.initial.sets.sets;
  room : length (drop l.dd-index l.dd-items) ≤ l.sets.room;
}
