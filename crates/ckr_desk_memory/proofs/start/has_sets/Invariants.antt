use Rattle.std.proofs.Common.{◌≡◌, drop}
use Rattle.ckr_points_tables.specs.RunJobs.{own_of}
use Rattle.ckr_meaning.specs.EffectiveJob.{name_of}
use Rattle.ckr_desk_memory.specs.Start.{has_all}
use Rattle.ckr_desk_memory.proofs.start.has_sets.Given as goal

abbrev pub invariant-loop-dd : goal.invariant-loop-dd
invariant-loop-dd l = has_all (name_of l.root (own_of l.own)) l.from.sets (drop l.dd-index l.dd-items) ≡ has_all (name_of l.root (own_of l.own)) l.from.sets l.dd-items
