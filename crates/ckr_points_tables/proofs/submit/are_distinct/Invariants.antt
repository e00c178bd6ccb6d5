use Rattle.std.proofs.Common.{◌≡◌, [], drop}
use Rattle.std.specs.List.{filter_map}
use Rattle.ckr_points_library.specs.Holdings.{owned}
use Rattle.ckr_uses.specs.Uses.{are_distinct}
use Rattle.ckr_meaning.specs.EffectiveJob.{name_of}
use Rattle.ckr_points_tables.proofs.submit.are_distinct.Given as goal

abbrev pub invariant-loop-place : goal.invariant-loop-place
invariant-loop-place l =
    are_distinct (filter_map (name_of l.number (owned l.step l.number [])) (drop l.place l.dds)) ≡ are_distinct (filter_map (name_of l.number (owned l.step l.number [])) l.dds)
