use Rattle.std.proofs.Common.{sym, ◌∙◌}
use Rattle.ckr_desk_refines.proofs.Checkpoints.Turn.{found-fits}
use Rattle.ckr_desk_refines.proofs.Checkpoints.Turns.{stand}
use Rattle.ckr_desk_refines.proofs.Checkpoints.Unwritten.{unwritten-stands}
use Rattle.ckr_desk_refines.proofs.checkpoint_laws.desks_behind_checkpoints_stand.Goals as goal

pub returns : goal.returns
returns c = record {
  unwritten = λ layout old new image desk turn run on to row start progress of known unfit passed.
      unwritten-stands layout old new image desk turn run on to (sym (found-fits layout old image desk turn run on to row start progress of known) ∙ unfit) passed;
  written = λ layout old new before written after desk turn run count on to event told behind moved same. stand layout old before desk turn run on to event told new written after count moved behind same;
}
