use Rattle.std.proofs.Common.{None}
use Rattle.ckr_events.specs.declared.event.Event.TheVariants.{Checkpointed}
use Rattle.ckr_points.specs.Office.{office_after}
use Rattle.ckr_points_invariant.proofs.KeptEvents.{next-kept}
use Rattle.ckr_desk_turn.proofs.Checkpoints.Events.{committed-so}
use Rattle.ckr_desk_turn.proofs.Checkpoints.Invariant.{taken-keeps}
use Rattle.ckr_desk_turn.proofs.Checkpoints.Plans.{done-behind}
use Rattle.ckr_desk_turn.proofs.Runs.Lists.{runs-next}
use Rattle.ckr_desk_turn.proofs.Runs.Rows.{rows-of, runs-kept, runs-of}
use Rattle.ckr_desk_turn.proofs.checkpoint_laws.checkpoints_keep_the_desk.Goals as goal
use Rattle.ckr_points_invariant.specs.KeptEvents.{AreKept}

pub returns : goal.returns
returns c = record {
  taken = taken-keeps;
  done = done-behind;
  runs = λ layout office job taken writes place bytes id lengths kept has next.
      let on : AreKept layout (office_after (Checkpointed job id taken writes lengths place bytes, None) office) =
      next-kept layout office (runs-kept layout office kept has) (Checkpointed job id taken writes lengths place bytes) None next in
      runs-of (office_after (Checkpointed job id taken writes lengths place bytes, None) office)
      (runs-next layout office (runs-kept layout office kept has) (rows-of office has) (Checkpointed job id taken writes lengths place bytes) None tt next) layout on;
  committed = committed-so;
}
