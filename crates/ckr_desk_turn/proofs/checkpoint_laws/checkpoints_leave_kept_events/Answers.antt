use Rattle.std.proofs.Common.{None, refl}
use Rattle.ckr_events.specs.declared.event.Event.TheVariants.{Cancelled as CancelledEvent}
use Rattle.ckr_points_invariant.proofs.Points.Lists.{pointed-next}
use Rattle.ckr_points_invariant.proofs.SoundEvents.{kept-next}
use Rattle.ckr_desk_turn.proofs.Checkpoints.Events.{cancel-comes, kept-behind, pointed-behind}
use Rattle.ckr_desk_turn.proofs.checkpoint_laws.checkpoints_leave_kept_events.Goals as goal

pub returns : goal.returns
returns c = record {
  checkpointed = kept-behind;
  cancelled = λ layout office row number committed start within kept. kept-next layout office (CancelledEvent row.number) None refl kept (cancel-comes layout office row.number row number committed start within);
  points = pointed-behind;
  points_left = λ layout office row number committed start within kept pointed.
      pointed-next layout office (CancelledEvent row.number) None refl kept.events pointed (cancel-comes layout office row.number row number committed start within);
}
