use Rattle.std.proofs.Common.{◌≡◌, drop}
use Rattle.ckr_meaning.specs.EffectiveJob.{is_among}
use Rattle.ckr_points_library.proofs.DdPlaces.{outputs_in}
use Rattle.ckr_points_tables.specs.RunJobs.{own_of}
use Rattle.ckr_desk_plans.proofs.entry_marks.is_output.Given as goal

abbrev pub invariant-loop-dd : goal.invariant-loop-dd
invariant-loop-dd l =
    is_among (outputs_in l.root (own_of l.behind.own.now) (drop l.dd-index l.dd-items)) l.name
    ≡ is_among (outputs_in l.root (own_of l.behind.own.now) l.dd-items) l.name
