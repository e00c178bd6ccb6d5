use Rattle.std.proofs.Common.{◌≡◌, ◌+◌, ◌≤◌, length, drop}
use Rattle.ckr_library.specs.Catalog.{fresh_holding}
use Rattle.ckr_meaning.specs.EffectiveJob.{name_of}
use Rattle.ckr_points_runs.specs.RunJobs.{own_of}
use Rattle.ckr_points_runs.specs.NewSets.{made_from, MayMakeAll}
use Rattle.ckr_points_runs.proofs.new_sets.make_sets.Given as goal

abbrev pub invariant-loop-dd : goal.invariant-loop-dd
invariant-loop-dd l = record {
  number : l.number ≡ l.dd-index;
  sets :
      made_from fresh_holding l.stamp l.items (name_of l.root (own_of l.own)) (l.number + 1) (drop l.dd-index l.dd-items) l.library.sets
      ≡ made_from fresh_holding l.stamp l.items (name_of l.root (own_of l.own)) 1 l.dd-items l.initial.library.sets;
  may : MayMakeAll fresh_holding l.stamp l.items (name_of l.root (own_of l.own)) (l.number + 1) (drop l.dd-index l.dd-items) l.library.sets;
  room : length (drop l.dd-index l.dd-items) ≤ l.library.room;
}
