use Rattle.std.proofs.Common.{◌≡◌, drop}
use Rattle.ckr_library.specs.NameMaps.{EachEntry}
use Rattle.ckr_points_library.proofs.DdPlaces.{outputs_in}
use Rattle.ckr_points_runs.specs.RunJobs.{own_of}
use Rattle.ckr_points_runs.specs.PutBack.{IsFilled}
use Rattle.ckr_points_runs.specs.PutBack.{lengths_back}
use Rattle.ckr_points_runs.proofs.put_back.put_back_lengths.Given as goal

abbrev pub invariant-loop-dd : goal.invariant-loop-dd
invariant-loop-dd l = record {
  sets :
      lengths_back l.marks (outputs_in l.root (own_of l.own) (drop l.dd-index l.dd-items)) l.library.sets
      ≡ lengths_back l.marks (outputs_in l.root (own_of l.own) l.dd-items) l.initial.library.sets;
  filled : EachEntry IsFilled l.library.sets;
}
