use Rattle.ckr_desk_refines.proofs.Entries.RunningStep.{checkpoint-checks, checkpoint-names, others-checkpointed}
use Rattle.ckr_desk_refines.proofs.entry_laws.checkpoints_leave_others.Goals as goal

pub returns : goal.returns
returns c = record {
  names = λ layout now job taken writes place bytes id lengths deck kept may. checkpoint-names layout now kept.events job taken writes place bytes id lengths deck may;
  checks = λ layout now job taken writes place bytes id lengths deck kept may its. checkpoint-checks layout now kept.events job taken writes place bytes id lengths deck may its;
  others = λ layout now job taken writes place bytes id lengths deck kept may. others-checkpointed layout now kept.events job taken writes place bytes id lengths deck may;
}
