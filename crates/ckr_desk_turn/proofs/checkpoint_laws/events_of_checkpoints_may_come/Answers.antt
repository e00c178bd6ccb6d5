use Rattle.ckr_desk_turn.proofs.Checkpoints.Events.{cancel-comes, may-come}
use Rattle.ckr_desk_turn.proofs.Checkpoints.Turns.{turn-comes}
use Rattle.ckr_desk_turn.proofs.checkpoint_laws.events_of_checkpoints_may_come.Goals as goal

pub returns : goal.returns
returns c = record {
  turn = turn-comes;
  checkpointed = may-come;
  cancelled = λ layout office row number committed start within. cancel-comes layout office row.number row number committed start within;
}
