use Rattle.std.proofs.Common.{◌≡◌, [], drop}
use Rattle.ckr_meaning.specs.EffectiveJob.{name_of}
use Rattle.ckr_points_library.specs.Holdings.{owned}
use Rattle.ckr_points_library.proofs.Openings.{opened_in_turn}
use Rattle.ckr_points_library.proofs.outputs.open_outputs.Given as goal

abbrev pub invariant-loop-dd : goal.invariant-loop-dd
invariant-loop-dd l = record {
  sets : opened_in_turn l.passed l.stamp (name_of l.root (owned l.step l.owner [])) (drop l.dd-index l.dd-items) l.library.sets ≡ opened_in_turn l.passed l.stamp (name_of l.root (owned l.step l.owner [])) l.dd-items l.initial.library.sets;
  room : l.library.room ≡ l.initial.library.room;
}
